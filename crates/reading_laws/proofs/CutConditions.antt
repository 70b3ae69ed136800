-- The text of conditions is cut into the tokens that spell them.
use Rattle.std.specs.Prelude.{if◌then◌else◌, codes, flat_map, map, IsUtf8}
use Rattle.std.proofs.Common.{◌≡◌, refl, sym, ◌∙◌, ap, subst, true, false, [], ◌∷◌, ◌++◌, List, ℕ, Bool, arith, append_assoc, append-nil}
use Rattle.std.proofs.lemmas.Str.{IsUtf8-nil}
use Rattle.soar_sym.specs.declared.symbol.Sym.{Sym}
use Rattle.soar_rule.specs.declared.cond.Atom.{Atom}
use Rattle.soar_rule.specs.declared.cond.Atom.TheVariants.{Const, Var}
use Rattle.soar_rule.specs.declared.cond.Relation.{Relation}
use Rattle.soar_rule.specs.declared.cond.Relation.TheVariants.{Differ, Less, Greater, AtMost, AtLeast, SameKind}
use Rattle.soar_rule.specs.declared.cond.Test.{Test}
use Rattle.soar_rule.specs.declared.cond.Test.TheVariants.{Plain, Rel, OneOf}
use Rattle.soar_rule.specs.declared.cond.Field.{Field}
use Rattle.soar_rule.specs.declared.cond.Pattern.{Pattern}
use Rattle.soar_rule.specs.Conditions.{Condition, positive, negated, conjunctive, Conditions, no_more, condition_and}
use Rattle.defs_text.specs.Symbols.{barred, symbol_text}
use Rattle.defs_text.specs.Lexing.{mark, sign, open_set, close_set, variable_named, word_of}
use Rattle.defs_read.specs.Grammar.{Simple}
use Rattle.defs_read.specs.PrintingConditions.{Naming, atom_text, relation_text, spaced, test_text, tests_text, field_text, is_state_test, id_test_text, id_text, pattern_text, condition_text, inside_text}
use Rattle.defs_read.specs.Spelling.{Tokens, spelled_flag, spelled_constant, spelled_single, spelled_simple, spelled_field, spelled_group, spelled_part, spelled_parts, bare_word}
use Rattle.reading_laws.specs.Lawful.{AllOf}
use Rattle.reading_laws.specs.Printable.{IsConstant, IsName, IsAtom, IsAny, IsTest, IsPrintedField, IsPattern, IsSome, IsCondition, AreConditions}
use Rattle.reading_laws.specs.TreeBack.{constant_back, name_back, single_back, sign_back, test_back, state_barred, id_test_back, tests_back, field_back, id_back, group_back, part_back, inside_back, parts_back}
use Rattle.reading_laws.proofs.TextLaws.{Cut, cut_nothing, cut_then, cut_blank, cut_mark, Ends, IsRun, cut_run}
use Rattle.reading_laws.proofs.QuoteLaws.{ascii_then, cut_barred}
use Rattle.reading_laws.proofs.RunLaws.{variable_run, cut_constant}

-- each number of a variable has a name
abbrev pub AreNames : Naming → Type 0
AreNames n = (v : ℕ) → IsName (name_back n v)

-- the same tokens, in another form
pub same_cut : (rest text : List ℕ) (u v : Tokens) → u ≡ v → Cut rest text u → Cut rest text v
same_cut rest text u v e c = subst (Cut rest text) e c

pub flat_mapped : {A B C : Type 0} (f : B → List C) (g : A → B) (xs : List A) → flat_map (λ x. f (g x)) xs ≡ flat_map f (map g xs)
flat_mapped f g [] = refl
flat_mapped f g (x ∷ xs) = ap (λ l. f (g x) ++ l) (flat_mapped f g xs)

-- ---- fields

pub cut_atom : (rest : List ℕ) (n : Naming) (a : Atom) → AreNames n → IsAtom n.words a → Ends rest → Cut rest (atom_text n a) (spelled_single (single_back n a) ∷ [])
cut_atom rest n (Const s) names h ends = cut_constant rest n.words s h ends
cut_atom rest n (Var v) names h ends = cut_run rest (60 ∷ (name_back n v ++ (62 ∷ []))) (variable_named (name_back n v)) (variable_run (name_back n v) (names v)) ends

relation_run : (r : Relation) → IsRun (relation_text r) (sign (sign_back r))
relation_run Differ = record { first = 60; others = 62 ∷ []; bytes = refl; run_bytes = refl; reads = λ place after f. refl }
relation_run Less = record { first = 60; others = []; bytes = refl; run_bytes = refl; reads = λ place after f. refl }
relation_run Greater = record { first = 62; others = []; bytes = refl; run_bytes = refl; reads = λ place after f. refl }
relation_run AtMost = record { first = 60; others = 61 ∷ []; bytes = refl; run_bytes = refl; reads = λ place after f. refl }
relation_run AtLeast = record { first = 62; others = 61 ∷ []; bytes = refl; run_bytes = refl; reads = λ place after f. refl }
relation_run SameKind = record { first = 60; others = 61 ∷ 62 ∷ []; bytes = refl; run_bytes = refl; reads = λ place after f. refl }

-- each behind a blank
cut_spaced : {A : Type 0} (rest : List ℕ) (text : A → List ℕ) (spell : A → Tokens) (ok : A → Type 0) → ((behind : List ℕ) (a : A) → ok a → Ends behind → Cut behind (text a) (spell a))
    → (xs : List A) → AllOf ok xs → Ends rest → Cut rest (spaced (map text xs)) (flat_map spell xs)
cut_spaced rest text spell ok each [] all ends = cut_nothing rest
cut_spaced {A} rest text spell ok each (x ∷ xs) all ends =
    cut_blank rest (text x ++ spaced (map text xs)) (spell x ++ flat_map spell xs)
    (cut_then rest (text x) (spaced (map text xs)) (spell x) (flat_map spell xs) (each (spaced (map text xs) ++ rest) x all.0 (apart xs)) (cut_spaced rest text spell ok each xs all.1 ends))
  where
    apart : (ys : List A) → Ends (spaced (map text ys) ++ rest)
    apart [] = ends
    apart (y ∷ ys) = record { no_run = refl; no_fraction = refl }

open_run : IsRun (codes "<<") open_set
open_run = record { first = 60; others = 60 ∷ []; bytes = refl; run_bytes = refl; reads = λ place after f. refl }

close_run : IsRun (codes ">>") close_set
close_run = record { first = 62; others = 62 ∷ []; bytes = refl; run_bytes = refl; reads = λ place after f. refl }

cut_symbols : (rest : List ℕ) (n : Naming) (symbols : List Sym) → IsAny symbols → AllOf (IsConstant n.words) symbols → Ends rest
    → Cut rest (test_text n (OneOf symbols)) (spelled_simple (test_back n (OneOf symbols)))
cut_symbols rest n [] any all ends = absurd any
cut_symbols rest n (s ∷ symbols) any all ends =
    same_cut rest (test_text n (OneOf (s ∷ symbols))) (open_set ∷ (flat_map one (s ∷ symbols) ++ (close_set ∷ []))) (spelled_simple (test_back n (OneOf (s ∷ symbols))))
    (ap (λ l. open_set ∷ (spelled_constant (constant_back n.words s) ∷ (l ++ (close_set ∷ [])))) (flat_mapped (λ c. spelled_constant c ∷ []) (constant_back n.words) symbols))
    (cut_then rest (codes "<<") (spaced (map (symbol_text n.words) (s ∷ symbols)) ++ codes " >>") (open_set ∷ []) (flat_map one (s ∷ symbols) ++ (close_set ∷ []))
    (cut_run ((spaced (map (symbol_text n.words) (s ∷ symbols)) ++ codes " >>") ++ rest) (codes "<<") open_set open_run (record { no_run = refl; no_fraction = refl }))
    (cut_then rest (spaced (map (symbol_text n.words) (s ∷ symbols))) (codes " >>") (flat_map one (s ∷ symbols)) (close_set ∷ [])
    (cut_spaced (codes " >>" ++ rest) (symbol_text n.words) one (IsConstant n.words) (λ behind c h e. cut_constant behind n.words c h e) (s ∷ symbols) all (record { no_run = refl; no_fraction = refl }))
    (cut_blank rest (codes ">>") (close_set ∷ []) (cut_run rest (codes ">>") close_set close_run ends))))
  where
    one : Sym → Tokens
    one c = spelled_constant (constant_back n.words c) ∷ []

cut_test : (rest : List ℕ) (n : Naming) (t : Test) → AreNames n → IsTest n.words t → Ends rest → Cut rest (test_text n t) (spelled_simple (test_back n t))
cut_test rest n (Plain a) names h ends = cut_atom rest n a names h ends
cut_test rest n (Rel r a) names h ends =
    cut_then rest (relation_text r) (32 ∷ atom_text n a) (sign (sign_back r) ∷ []) (spelled_single (single_back n a) ∷ [])
    (cut_run ((32 ∷ atom_text n a) ++ rest) (relation_text r) (sign (sign_back r)) (relation_run r) (record { no_run = refl; no_fraction = refl }))
    (cut_blank rest (atom_text n a) (spelled_single (single_back n a) ∷ []) (cut_atom rest n a names h ends))
cut_test rest n (OneOf symbols) names h ends = cut_symbols rest n symbols h.0 h.1 ends

state_is_utf8 : IsUtf8 (codes "state")
state_is_utf8 = ascii_then 115 (codes "tate") (omega arith) (ascii_then 116 (codes "ate") (omega arith) (ascii_then 97 (codes "te") (omega arith) (ascii_then 116 (codes "e") (omega arith) (ascii_then 101 [] (omega arith) IsUtf8-nil))))

cut_id_test : (rest : List ℕ) (n : Naming) (t : Test) → AreNames n → IsTest n.words t → Ends rest → Cut rest (id_test_text n t) (spelled_simple (id_test_back n t))
cut_id_test rest n t names h ends = go (is_state_test t)
  where
    go : (b : Bool) → Cut rest (if b then barred (codes "state") else test_text n t) (spelled_simple (if b then state_barred else test_back n t))
    go true = cut_barred rest (codes "state") state_is_utf8
    go false = cut_test rest n t names h ends

cut_tests : (rest : List ℕ) (text : Test → List ℕ) (back : Test → Simple) (ok : Test → Type 0) → ((behind : List ℕ) (t : Test) → ok t → Ends behind → Cut behind (text t) (spelled_simple (back t)))
    → (ts : List Test) → IsAny ts → AllOf ok ts → Ends rest → Cut rest (tests_text (map text ts)) (spelled_field (tests_back (map back ts)))
cut_tests rest text back ok each [] any all ends = absurd any
cut_tests rest text back ok each (t ∷ []) any all ends = each rest t all.0 ends
cut_tests rest text back ok each (t ∷ u ∷ ts) any all ends =
    same_cut rest (tests_text (map text (t ∷ u ∷ ts))) (mark 123 ∷ (flat_map spell (t ∷ u ∷ ts) ++ (mark 125 ∷ []))) (spelled_field (tests_back (map back (t ∷ u ∷ ts))))
    (ap (λ l. mark 123 ∷ l) (append_assoc (spell t) (flat_map spell (u ∷ ts)) (mark 125 ∷ []) ∙ ap (λ l. spell t ++ (l ++ (mark 125 ∷ []))) (flat_mapped spelled_simple back (u ∷ ts))))
    (cut_mark rest 123 (spaced (map text (t ∷ u ∷ ts)) ++ codes " }") (flat_map spell (t ∷ u ∷ ts) ++ (mark 125 ∷ [])) refl
    (cut_then rest (spaced (map text (t ∷ u ∷ ts))) (codes " }") (flat_map spell (t ∷ u ∷ ts)) (mark 125 ∷ [])
    (cut_spaced (codes " }" ++ rest) text spell ok each (t ∷ u ∷ ts) all (record { no_run = refl; no_fraction = refl }))
    (cut_blank rest (125 ∷ []) (mark 125 ∷ []) (cut_mark rest 125 [] [] refl (cut_nothing rest)))))
  where
    spell : Test → Tokens
    spell x = spelled_simple (back x)

cut_field : (rest : List ℕ) (n : Naming) (f : Field) → AreNames n → IsPrintedField n.words f → Ends rest → Cut rest (field_text n f) (spelled_field (field_back n f))
cut_field rest n f names h ends = cut_tests rest (test_text n) (test_back n) (IsTest n.words) (λ behind t k e. cut_test behind n t names k e) f.tests h.0 h.1 ends

cut_id : (rest : List ℕ) (n : Naming) (f : Field) → AreNames n → IsPrintedField n.words f → Ends rest → Cut rest (id_text n f) (spelled_field (id_back n f))
cut_id rest n f names h ends = cut_tests rest (id_test_text n) (id_test_back n) (IsTest n.words) (λ behind t k e. cut_id_test behind n t names k e) f.tests h.0 h.1 ends

-- ---- conditions

state_run : IsRun (codes "state") (word_of (codes "state") true)
state_run = record { first = 115; others = codes "tate"; bytes = refl; run_bytes = refl; reads = λ place after f. refl }

pub plus_run : IsRun (codes "+") (sign 7)
plus_run = record { first = 43; others = []; bytes = refl; run_bytes = refl; reads = λ place after f. refl }

pub minus_run : IsRun (codes "-") (sign 8)
minus_run = record { first = 45; others = []; bytes = refl; run_bytes = refl; reads = λ place after f. refl }

cut_mark_state : (rest : List ℕ) (b : Bool) → Cut rest (if b then codes "state " else []) (spelled_flag (bare_word (codes "state")) b)
cut_mark_state rest true =
    cut_then rest (codes "state") (32 ∷ []) (bare_word (codes "state") ∷ []) [] (cut_run (32 ∷ rest) (codes "state") (bare_word (codes "state")) state_run (record { no_run = refl; no_fraction = refl }))
    (cut_blank rest [] [] (cut_nothing rest))
cut_mark_state rest false = cut_nothing rest

cut_end : (rest : List ℕ) (b : Bool) → Cut rest (if b then codes " +)" else codes ")") (spelled_flag (sign 7) b ++ (mark 41 ∷ []))
cut_end rest true =
    cut_blank rest (codes "+)") (sign 7 ∷ (mark 41 ∷ []))
    (cut_then rest (codes "+") (codes ")") (sign 7 ∷ []) (mark 41 ∷ []) (cut_run (codes ")" ++ rest) (codes "+") (sign 7) plus_run (record { no_run = refl; no_fraction = refl }))
    (cut_mark rest 41 [] [] refl (cut_nothing rest)))
cut_end rest false = cut_mark rest 41 [] [] refl (cut_nothing rest)

test_tokens : (a v m end : Tokens) → a ++ (v ++ (m ++ end)) ≡ ((a ++ ((v ++ m) ++ [])) ++ []) ++ end
test_tokens a v m end =
    sym (ap (λ l. l ++ end) (append-nil (a ++ ((v ++ m) ++ []))) ∙ append_assoc a ((v ++ m) ++ []) end
    ∙ ap (λ l. a ++ (l ++ end)) (append-nil (v ++ m)) ∙ ap (λ l. a ++ l) (append_assoc v m end))

cut_pattern : (rest : List ℕ) (n : Naming) (p : Pattern) → AreNames n → IsPattern n.words p → Cut rest (pattern_text n p) (spelled_group (group_back n p))
cut_pattern rest n p names h =
    same_cut rest (pattern_text n p) (mark 40 ∷ (flag ++ (f_id ++ (mark 94 ∷ (f_attr ++ (f_value ++ (accept ++ (mark 41 ∷ [])))))))) (spelled_group (group_back n p))
    (ap (λ l. mark 40 ∷ (flag ++ (f_id ++ (mark 94 ∷ l)))) (test_tokens f_attr f_value accept (mark 41 ∷ [])))
    (cut_mark rest 40 (state ++ behind_state) (flag ++ (f_id ++ (mark 94 ∷ (f_attr ++ (f_value ++ (accept ++ (mark 41 ∷ []))))))) refl
    (cut_then rest state behind_state flag (f_id ++ (mark 94 ∷ (f_attr ++ (f_value ++ (accept ++ (mark 41 ∷ [])))))) (cut_mark_state (behind_state ++ rest) p.state)
    (cut_then rest (id_text n p.id) (32 ∷ (94 ∷ behind_id)) f_id (mark 94 ∷ (f_attr ++ (f_value ++ (accept ++ (mark 41 ∷ [])))))
    (cut_id ((32 ∷ (94 ∷ behind_id)) ++ rest) n p.id names h.0 (record { no_run = refl; no_fraction = refl }))
    (cut_blank rest (94 ∷ behind_id) (mark 94 ∷ (f_attr ++ (f_value ++ (accept ++ (mark 41 ∷ []))))) (cut_mark rest 94 behind_id (f_attr ++ (f_value ++ (accept ++ (mark 41 ∷ [])))) refl
    (cut_then rest (field_text n p.attr) (32 ∷ behind_attr) f_attr (f_value ++ (accept ++ (mark 41 ∷ []))) (cut_field ((32 ∷ behind_attr) ++ rest) n p.attr names h.1 (record { no_run = refl; no_fraction = refl }))
    (cut_blank rest behind_attr (f_value ++ (accept ++ (mark 41 ∷ [])))
    (cut_then rest (field_text n p.value) end f_value (accept ++ (mark 41 ∷ [])) (cut_field (end ++ rest) n p.value names h.2 (ends p.accept)) (cut_end rest p.accept)))))))))
  where
    flag : Tokens
    flag = spelled_flag (bare_word (codes "state")) p.state

    f_id : Tokens
    f_id = spelled_field (id_back n p.id)

    f_attr : Tokens
    f_attr = spelled_field (field_back n p.attr)

    f_value : Tokens
    f_value = spelled_field (field_back n p.value)

    accept : Tokens
    accept = spelled_flag (sign 7) p.accept

    state : List ℕ
    state = if p.state then codes "state " else []

    end : List ℕ
    end = if p.accept then codes " +)" else codes ")"

    behind_attr : List ℕ
    behind_attr = field_text n p.value ++ end

    behind_id : List ℕ
    behind_id = field_text n p.attr ++ (32 ∷ behind_attr)

    behind_state : List ℕ
    behind_state = id_text n p.id ++ (32 ∷ (94 ∷ behind_id))

    ends : (b : Bool) → Ends ((if b then codes " +)" else codes ")") ++ rest)
    ends true = record { no_run = refl; no_fraction = refl }
    ends false = record { no_run = refl; no_fraction = refl }

-- a negation of conditions in braces, of which the text inside is cut
cut_joined : (inside : Conditions) (n : Naming) (rest : List ℕ) → IsSome inside → ((behind : List ℕ) → Cut behind (inside_text inside n) (spelled_parts (parts_back inside n)))
    → Cut rest (condition_text (conjunctive inside) n) (spelled_part (inside_back inside n))
cut_joined no_more n rest some cut = absurd some
cut_joined (condition_and c cs) n rest some cut =
    same_cut rest (condition_text (conjunctive (condition_and c cs)) n) (sign 8 ∷ (mark 123 ∷ (spelled_parts (parts_back (condition_and c cs) n) ++ (mark 125 ∷ [])))) (spelled_part (inside_back (condition_and c cs) n))
    (ap (λ l. sign 8 ∷ (mark 123 ∷ l)) (append_assoc (spelled_part (part_back c n)) (spelled_parts (parts_back cs n)) (mark 125 ∷ [])))
    (cut_then rest (codes "-") (123 ∷ (text ++ codes "}")) (sign 8 ∷ []) (mark 123 ∷ (spelled_parts (parts_back (condition_and c cs) n) ++ (mark 125 ∷ [])))
    (cut_run ((123 ∷ (text ++ codes "}")) ++ rest) (codes "-") (sign 8) minus_run (record { no_run = refl; no_fraction = refl }))
    (cut_mark rest 123 (text ++ codes "}") (spelled_parts (parts_back (condition_and c cs) n) ++ (mark 125 ∷ [])) refl
    (cut_then rest text (codes "}") (spelled_parts (parts_back (condition_and c cs) n)) (mark 125 ∷ []) (cut (codes "}" ++ rest)) (cut_mark rest 125 [] [] refl (cut_nothing rest)))))
  where
    text : List ℕ
    text = inside_text (condition_and c cs) n

mutual
  pub cut_condition : (c : Condition) (n : Naming) (rest : List ℕ) → AreNames n → IsCondition c n.words → Cut rest (condition_text c n) (spelled_part (part_back c n))
  cut_condition (positive p) n rest names h = cut_pattern rest n p names h
  cut_condition (negated p) n rest names h =
      cut_then rest (codes "-") (pattern_text n p) (sign 8 ∷ []) (spelled_group (group_back n p)) (cut_run (pattern_text n p ++ rest) (codes "-") (sign 8) minus_run (record { no_run = refl; no_fraction = refl }))
      (cut_pattern rest n p names h)
  cut_condition (conjunctive inside) n rest names h = cut_joined inside n rest h.0 (λ behind. cut_inside inside n behind names h.0 h.1)

  -- with one blank between
  cut_inside : (cs : Conditions) (n : Naming) (rest : List ℕ) → AreNames n → IsSome cs → AreConditions cs n.words → Cut rest (inside_text cs n) (spelled_parts (parts_back cs n))
  cut_inside no_more n rest names some h = absurd some
  cut_inside (condition_and c no_more) n rest names some h =
      same_cut rest (condition_text c n) (spelled_part (part_back c n)) (spelled_part (part_back c n) ++ []) (sym (append-nil (spelled_part (part_back c n)))) (cut_condition c n rest names h.0)
  cut_inside (condition_and c (condition_and d cs)) n rest names some h =
      cut_then rest (condition_text c n) (32 ∷ inside_text (condition_and d cs) n) (spelled_part (part_back c n)) (spelled_parts (parts_back (condition_and d cs) n))
      (cut_condition c n ((32 ∷ inside_text (condition_and d cs) n) ++ rest) names h.0)
      (cut_blank rest (inside_text (condition_and d cs) n) (spelled_parts (parts_back (condition_and d cs) n)) (cut_inside (condition_and d cs) n rest names tt h.1))
