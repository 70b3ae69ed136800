-- The printed text of a production is cut into the tokens that spell its tree.
use Rattle.std.specs.Prelude.{codes, flat_map, map, IsUtf8}
use Rattle.std.proofs.Common.{◌≡◌, refl, sym, ◌∙◌, ap, subst, [], ◌∷◌, ◌++◌, List, ℕ, zero, suc, Option, Some, None, append_assoc, append-nil}
use Rattle.soar_sym.specs.Words.{Texts, text_of}
use Rattle.soar_sym.specs.declared.symbol.Sym.{Sym}
use Rattle.soar_sym.specs.declared.symbol.Sym.TheVariants.{Ident, Word, Int}
use Rattle.soar_rule.specs.declared.production.Kind.{Kind}
use Rattle.soar_rule.specs.declared.production.Kind.TheVariants as kind
use Rattle.soar_rule.specs.declared.production.Support.{Support}
use Rattle.soar_rule.specs.declared.production.Support.TheVariants as support
use Rattle.soar_rule.specs.Conditions.{Conditions, no_more, condition_and}
use Rattle.soar_rule.specs.Productions.{ActionOf, ProductionOf}
use Rattle.defs_text.specs.Symbols.{stands_bare, symbol_text}
use Rattle.defs_text.specs.Quotes.{escaped}
use Rattle.defs_text.specs.Lexing.{Saying, mark, arrow, word_of, documentation, Lexed, lexed, lexed_from}
use Rattle.defs_read.specs.Printing.{action_text, doc_lines, kind_lines, support_lines, indented, inner_lines, production_text, lines_text}
use Rattle.defs_read.specs.PrintingConditions.{Naming, name_at, bare_text, condition_text, condition_lines}
use Rattle.defs_read.specs.Spelling.{Tokens, bare_word, spelled_option, spelled_part, spelled_parts, spelled_action, flag_text, spelling}
use Rattle.reading_laws.specs.Lawful.{AllOf, IfThere}
use Rattle.reading_laws.specs.Printable.{IsWord, IsName, IsNaming, IsSome, AreConditions, IsPrintedAction, IsPrintable}
use Rattle.reading_laws.specs.TreeBack.{part_back, parts_back, first_back, others_back, action_back, kind_back, support_back, tree_back}
use Rattle.reading_laws.specs.WayBack.{printed, tokens_in}
use Rattle.reading_laws.proofs.TextLaws.{Cut, cut_nothing, cut_then, cut_blank, cut_newline, cut_mark, Ends, IsRun, cut_run}
use Rattle.reading_laws.proofs.QuoteLaws.{cut_quoted}
use Rattle.reading_laws.proofs.RunLaws.{cut_word}
use Rattle.reading_laws.proofs.CutConditions.{AreNames, same_cut, cut_condition}
use Rattle.reading_laws.proofs.CutActions.{cut_action}

-- ---- lines

-- a line is cut, before the end of it
abbrev LineIs : List ℕ → Tokens → Type 0
LineIs line u = (rest : List ℕ) → Cut (10 ∷ rest) line u

-- the lines are cut, whatever comes behind them
abbrev LinesAre : List (List ℕ) → Tokens → Type 0
LinesAre lines u = (rest : List ℕ) → Cut rest (lines_text (map indented lines)) u

no_lines : LinesAre [] []
no_lines rest = cut_nothing rest

line_and : (line : List ℕ) (lines : List (List ℕ)) (u v : Tokens) → LineIs line u → LinesAre lines v → LinesAre (line ∷ lines) (u ++ v)
line_and line lines u v first more rest =
    cut_then rest (indented line) (10 ∷ lines_text (map indented lines)) u v (blanks (10 ∷ (lines_text (map indented lines) ++ rest)) (first (lines_text (map indented lines) ++ rest))) (cut_newline rest (lines_text (map indented lines)) v (more rest))
  where
    blanks : (behind : List ℕ) → Cut behind line u → Cut behind (indented line) u
    blanks behind c = cut_blank behind (32 ∷ 32 ∷ 32 ∷ line) u (cut_blank behind (32 ∷ 32 ∷ line) u (cut_blank behind (32 ∷ line) u (cut_blank behind line u c)))

joined_text : (a b : List (List ℕ)) → lines_text (a ++ b) ≡ lines_text a ++ lines_text b
joined_text [] b = refl
joined_text (line ∷ a) b = ap (λ l. line ++ (10 ∷ l)) (joined_text a b) ∙ sym (append_assoc line (10 ∷ lines_text a) (lines_text b))

indented_joined : (a b : List (List ℕ)) → map indented (a ++ b) ≡ map indented a ++ map indented b
indented_joined [] b = refl
indented_joined (line ∷ a) b = ap (λ l. indented line ∷ l) (indented_joined a b)

same_text : (rest a b : List ℕ) (u : Tokens) → a ≡ b → Cut rest b u → Cut rest a u
same_text rest a b u e c = rw e c

lines_then : (a b : List (List ℕ)) (u v : Tokens) → LinesAre a u → LinesAre b v → LinesAre (a ++ b) (u ++ v)
lines_then a b u v first second rest =
    same_text rest (lines_text (map indented (a ++ b))) (lines_text (map indented a) ++ lines_text (map indented b)) (u ++ v) (ap lines_text (indented_joined a b) ∙ joined_text (map indented a) (map indented b))
    (cut_then rest (lines_text (map indented a)) (lines_text (map indented b)) u v (first (lines_text (map indented b) ++ rest)) (second rest))

-- one line of a single token
one_line : (line : List ℕ) (t : Saying) → LineIs line (t ∷ []) → LinesAre (line ∷ []) (t ∷ [])
one_line line t first = line_and line [] (t ∷ []) [] first no_lines

run_line : (line : List ℕ) (t : Saying) → IsRun line t → LineIs line (t ∷ [])
run_line line t run rest = cut_run (10 ∷ rest) line t run (record { no_run = refl; no_fraction = refl })

-- ---- the parts of a production

doc_is : (doc : Option (List ℕ)) → IfThere IsUtf8 doc → LinesAre (doc_lines doc) (spelled_option (λ text. documentation text ∷ []) doc)
doc_is None h = no_lines
doc_is (Some text) h = one_line (34 ∷ (escaped 34 text ++ (34 ∷ []))) (documentation text) (λ rest. cut_quoted (10 ∷ rest) text h)

flag_run : (text : List ℕ) → IsRun (58 ∷ text) (bare_word (58 ∷ text)) → LinesAre ((58 ∷ text) ∷ []) (bare_word (58 ∷ text) ∷ [])
flag_run text run = one_line (58 ∷ text) (bare_word (58 ∷ text)) (run_line (58 ∷ text) (bare_word (58 ∷ text)) run)

kind_is : (k : Kind) → (k ≡ kind.Justification → ⊥) → LinesAre (kind_lines k) (flat_map (λ f. bare_word (flag_text f) ∷ []) (kind_back k))
kind_is kind.User h = no_lines
kind_is kind.Default h = flag_run (codes "default") (record { first = 58; others = codes "default"; bytes = refl; run_bytes = refl; reads = λ place after f. refl })
kind_is kind.Chunk h = flag_run (codes "chunk") (record { first = 58; others = codes "chunk"; bytes = refl; run_bytes = refl; reads = λ place after f. refl })
kind_is kind.Justification h = absurd (h refl)

support_is : (s : Support) → LinesAre (support_lines s) (flat_map (λ f. bare_word (flag_text f) ∷ []) (support_back s))
support_is support.Unset = no_lines
support_is support.Operator = flag_run (codes "o-support") (record { first = 58; others = codes "o-support"; bytes = refl; run_bytes = refl; reads = λ place after f. refl })
support_is support.Instance = flag_run (codes "i-support") (record { first = 58; others = codes "i-support"; bytes = refl; run_bytes = refl; reads = λ place after f. refl })

conditions_are : (cs : Conditions) (n : Naming) → AreNames n → AreConditions cs n.words → LinesAre (condition_lines cs n) (spelled_parts (parts_back cs n))
conditions_are no_more n names h = no_lines
conditions_are (condition_and c cs) n names h =
    line_and (condition_text c n) (condition_lines cs n) (spelled_part (part_back c n)) (spelled_parts (parts_back cs n)) (λ rest. cut_condition c n (10 ∷ rest) names h.0) (conditions_are cs n names h.1)

actions_are : (actions : List ActionOf) (n : Naming) → AreNames n → AllOf (IsPrintedAction n.words) actions → LinesAre (map (action_text n) actions) (flat_map spelled_action (map (action_back n) actions))
actions_are [] n names h = no_lines
actions_are (a ∷ actions) n names h =
    line_and (action_text n a) (map (action_text n) actions) (spelled_action (action_back n a)) (flat_map spelled_action (map (action_back n) actions)) (λ rest. cut_action a n (10 ∷ rest) names h.0) (actions_are actions n names h.1)

arrow_run : IsRun (codes "-->") arrow
arrow_run = record { first = 45; others = codes "->"; bytes = refl; run_bytes = refl; reads = λ place after f. refl }

inner_are : (n : Naming) (p : ProductionOf) → AreNames n → IfThere IsUtf8 p.doc → (p.kind ≡ kind.Justification → ⊥) → AreConditions p.conditions n.words → AllOf (IsPrintedAction n.words) p.actions
    → LinesAre (inner_lines n p) (spelled_option (λ text. documentation text ∷ []) p.doc ++ (flat_map (λ f. bare_word (flag_text f) ∷ []) (kind_back p.kind) ++ (flat_map (λ f. bare_word (flag_text f) ∷ []) (support_back p.support)
    ++ (spelled_parts (parts_back p.conditions n) ++ (arrow ∷ flat_map spelled_action (map (action_back n) p.actions))))))
inner_are n p names doc kind conditions actions =
    lines_then (doc_lines p.doc) _ (spelled_option (λ text. documentation text ∷ []) p.doc) _ (doc_is p.doc doc)
    (lines_then (kind_lines p.kind) _ (flat_map (λ f. bare_word (flag_text f) ∷ []) (kind_back p.kind)) _ (kind_is p.kind kind)
    (lines_then (support_lines p.support) _ (flat_map (λ f. bare_word (flag_text f) ∷ []) (support_back p.support)) _ (support_is p.support)
    (lines_then (condition_lines p.conditions n) _ (spelled_parts (parts_back p.conditions n)) _ (conditions_are p.conditions n names conditions)
    (line_and (codes "-->") (map (action_text n) p.actions) (arrow ∷ []) (flat_map spelled_action (map (action_back n) p.actions)) (run_line (codes "-->") arrow arrow_run) (actions_are p.actions n names actions)))))

-- ---- names

name_is : (words : Texts) (vars : List Sym) (v : ℕ) → text_of words 0 ≡ codes "state" → AllOf (IsNaming words) vars → IsName (bare_text words (name_at vars v))
name_is words [] v state h = subst IsName (sym state) (refl, refl)
name_is words (s ∷ vars) zero state h = h.0.1
name_is words (s ∷ vars) (suc v) state h = name_is words vars v state h.1

-- ---- the whole

sp_run : IsRun (codes "sp") (bare_word (codes "sp"))
sp_run = record { first = 115; others = codes "p"; bytes = refl; run_bytes = refl; reads = λ place after f. refl }

cut_name : (rest : List ℕ) (words : Texts) (s : Sym) → IsWord words s → Ends rest → Cut rest (symbol_text words s) (word_of (bare_text words s) (stands_bare (bare_text words s)) ∷ [])
cut_name rest words (Word word) h ends = cut_word rest (text_of words word) h.1 ends
cut_name rest words (Ident letter count) h ends = let e = h.0 in absurd (cc)
cut_name rest words (Int value) h ends = let e = h.0 in absurd (cc)

tree_tokens : (doc k s p a end flags first others : Tokens) → flags ≡ k ++ s → p ≡ first ++ others
    → (doc ++ (k ++ (s ++ (p ++ (arrow ∷ a))))) ++ end ≡ doc ++ (flags ++ (first ++ (others ++ (arrow ∷ (a ++ end)))))
tree_tokens doc k s p a end flags first others e f = rw (e, f) (simp (append_assoc) refl)

flags_joined : (k : Kind) (s : Support) → flat_map (λ f. bare_word (flag_text f) ∷ []) (kind_back k ++ support_back s) ≡ flat_map (λ f. bare_word (flag_text f) ∷ []) (kind_back k) ++ flat_map (λ f. bare_word (flag_text f) ∷ []) (support_back s)
flags_joined kind.User s = refl
flags_joined kind.Default s = refl
flags_joined kind.Chunk s = refl
flags_joined kind.Justification s = refl

parts_joined : (cs : Conditions) (n : Naming) → IsSome cs → spelled_parts (parts_back cs n) ≡ spelled_part (first_back cs n) ++ spelled_parts (others_back cs n)
parts_joined no_more n some = absurd some
parts_joined (condition_and c cs) n some = refl

cut_whole : (words : Texts) (p : ProductionOf) → IsPrintable words p → Cut [] (printed words p) (spelling (tree_back words p))
unfolding production_text
cut_whole words p h =
    same_cut [] (printed words p) (bare_word (codes "sp") ∷ (mark 123 ∷ (name ∷ (inner ++ (mark 125 ∷ []))))) (spelling (tree_back words p))
    (ap (λ l. bare_word (codes "sp") ∷ (mark 123 ∷ (name ∷ l))) (tree_tokens _ _ _ _ _ (mark 125 ∷ []) _ _ _ (flags_joined p.kind p.support) (parts_joined p.conditions n h.some)))
    (cut_then [] (codes "sp") (32 ∷ (123 ∷ behind)) (bare_word (codes "sp") ∷ []) (mark 123 ∷ (name ∷ (inner ++ (mark 125 ∷ []))))
    (cut_run ((32 ∷ (123 ∷ behind)) ++ []) (codes "sp") (bare_word (codes "sp")) sp_run (record { no_run = refl; no_fraction = refl }))
    (cut_blank [] (123 ∷ behind) (mark 123 ∷ (name ∷ (inner ++ (mark 125 ∷ [])))) (cut_mark [] 123 behind (name ∷ (inner ++ (mark 125 ∷ []))) refl
    (cut_then [] (symbol_text words p.name) (10 ∷ lines) (name ∷ []) (inner ++ (mark 125 ∷ [])) (cut_name ((10 ∷ lines) ++ []) words p.name h.name (record { no_run = refl; no_fraction = refl }))
    (cut_newline [] lines (inner ++ (mark 125 ∷ []))
    (same_text [] lines (lines_text (map indented (inner_lines n p)) ++ codes "}\n") (inner ++ (mark 125 ∷ [])) (joined_text (map indented (inner_lines n p)) (codes "}" ∷ []))
    (cut_then [] (lines_text (map indented (inner_lines n p))) (codes "}\n") inner (mark 125 ∷ [])
    (inner_are n p (λ v. name_is words p.vars v h.state h.names) h.doc h.kind h.conditions h.actions (codes "}\n"))
    (cut_mark [] 125 (10 ∷ []) [] refl (cut_newline [] [] [] (cut_nothing []))))))))))
  where
    n : Naming
    n = record { words = words; vars = p.vars }

    name : Saying
    name = word_of (bare_text words p.name) (stands_bare (bare_text words p.name))

    inner : Tokens
    inner = spelled_option (λ text. documentation text ∷ []) p.doc ++ (flat_map (λ f. bare_word (flag_text f) ∷ []) (kind_back p.kind) ++ (flat_map (λ f. bare_word (flag_text f) ∷ []) (support_back p.support)
        ++ (spelled_parts (parts_back p.conditions n) ++ (arrow ∷ flat_map spelled_action (map (action_back n) p.actions)))))

    lines : List ℕ
    lines = lines_text (map indented (inner_lines n p) ++ (codes "}" ∷ []))

    behind : List ℕ
    behind = symbol_text words p.name ++ (10 ∷ lines)

-- cut into these tokens, without a fault
pub record IsCutSo (tokens : Tokens) (l : Lexed) : Type 0 where
  pub says : tokens_in l ≡ tokens
  pub whole : l.fault ≡ None

pub cut_production : (words : Texts) (p : ProductionOf) → IsPrintable words p → IsCutSo (spelling (tree_back words p)) (lexed (printed words p))
unfolding lexed
cut_production words p h =
    let c = cut_whole words p h 0 in
    record {
      says = ap (λ t. tokens_in (lexed_from 0 0 t)) (sym (append-nil (printed words p))) ∙ c.1.0 ∙ append-nil (spelling (tree_back words p));
      whole = ap (λ t. (lexed_from 0 0 t).fault) (sym (append-nil (printed words p))) ∙ c.1.1;
    }
