-- The text of actions is cut into the tokens that spell them.
use Rattle.std.specs.Prelude.{codes}
use Rattle.std.proofs.Common.{◌≡◌, refl, sym, ◌∙◌, ap, [], ◌∷◌, ◌++◌, List, ℕ, append_assoc, append-nil}
use Rattle.soar_rule.specs.declared.cond.Atom.TheVariants.{Const, Var}
use Rattle.soar_rule.specs.declared.action.Func.{Func}
use Rattle.soar_rule.specs.declared.action.Func.TheVariants as func
use Rattle.soar_rule.specs.Productions.{ValueOf, atom_value, call_value, ValuesOf, no_values, value_and, values_of, PreferenceOf, accepts, rejects, requires_it, prohibits, is_best, is_worst, is_indifferent, is_better_than, is_worse_than, is_indifferent_to, ActionOf, makes, writes, halts}
use Rattle.defs_text.specs.Lexing.{mark, sign, variable_named}
use Rattle.defs_read.specs.Printing.{function_text, value_text, values_text, preference_text, action_text}
use Rattle.defs_read.specs.PrintingConditions.{Naming, atom_text}
use Rattle.defs_read.specs.Spelling.{Tokens, bare_word, spelled_function, spelled_term, spelled_terms, spelled_wish, spelled_action}
use Rattle.reading_laws.specs.Lawful.{AllOf}
use Rattle.reading_laws.specs.Printable.{IsValue, AreValues, IsPreference, IsPrintedAction}
use Rattle.reading_laws.specs.TreeBack.{name_back, term_back, terms_back, wish_back, action_back}
use Rattle.reading_laws.proofs.TextLaws.{Cut, cut_nothing, cut_then, cut_blank, cut_mark, Ends, IsRun, cut_run}
use Rattle.reading_laws.proofs.CutConditions.{AreNames, same_cut, cut_atom, plus_run, minus_run}

-- ---- values

function_run : (f : Func) → IsRun (function_text f) (spelled_function f)
function_run func.Plus = record { first = 43; others = []; bytes = refl; run_bytes = refl; reads = λ place after f. refl }
function_run func.Times = record { first = 42; others = []; bytes = refl; run_bytes = refl; reads = λ place after f. refl }
function_run func.Minus = record { first = 45; others = []; bytes = refl; run_bytes = refl; reads = λ place after f. refl }
function_run func.Div = record { first = 100; others = codes "iv"; bytes = refl; run_bytes = refl; reads = λ place after f. refl }
function_run func.Mod = record { first = 109; others = codes "od"; bytes = refl; run_bytes = refl; reads = λ place after f. refl }
function_run func.Abs = record { first = 97; others = codes "bs"; bytes = refl; run_bytes = refl; reads = λ place after f. refl }
function_run func.Min = record { first = 109; others = codes "in"; bytes = refl; run_bytes = refl; reads = λ place after f. refl }
function_run func.Max = record { first = 109; others = codes "ax"; bytes = refl; run_bytes = refl; reads = λ place after f. refl }
function_run func.Concat = record { first = 99; others = codes "oncat"; bytes = refl; run_bytes = refl; reads = λ place after f. refl }
function_run func.IfEq = record { first = 105; others = codes "feq"; bytes = refl; run_bytes = refl; reads = λ place after f. refl }
function_run func.StrLen = record { first = 115; others = codes "trlen"; bytes = refl; run_bytes = refl; reads = λ place after f. refl }
function_run func.Crlf = record { first = 99; others = codes "rlf"; bytes = refl; run_bytes = refl; reads = λ place after f. refl }

ends_values : (vs : ValuesOf) (n : Naming) (rest : List ℕ) → Ends rest → Ends (values_text vs n ++ rest)
ends_values no_values n rest ends = ends
ends_values (value_and v others) n rest ends = record { no_run = refl; no_fraction = refl }

mutual
  cut_value : (v : ValueOf) (n : Naming) (rest : List ℕ) → AreNames n → IsValue v n.words → Ends rest → Cut rest (value_text v n) (spelled_term (term_back v n))
  cut_value (atom_value a) n rest names h ends = cut_atom rest n a names h ends
  cut_value (call_value f values) n rest names h ends =
      cut_mark rest 40 (function_text f ++ (values_text values n ++ codes ")")) (spelled_function f ∷ (spelled_terms (terms_back values n) ++ (mark 41 ∷ []))) refl
      (cut_then rest (function_text f) (values_text values n ++ codes ")") (spelled_function f ∷ []) (spelled_terms (terms_back values n) ++ (mark 41 ∷ []))
      (cut_run ((values_text values n ++ codes ")") ++ rest) (function_text f) (spelled_function f) (function_run f) (apart values))
      (cut_then rest (values_text values n) (codes ")") (spelled_terms (terms_back values n)) (mark 41 ∷ [])
      (cut_values values n (codes ")" ++ rest) names h.1 (record { no_run = refl; no_fraction = refl })) (cut_mark rest 41 [] [] refl (cut_nothing rest))))
    where
      apart : (vs : ValuesOf) → Ends ((values_text vs n ++ codes ")") ++ rest)
      apart no_values = record { no_run = refl; no_fraction = refl }
      apart (value_and v vs) = record { no_run = refl; no_fraction = refl }

  -- each behind a blank
  cut_values : (vs : ValuesOf) (n : Naming) (rest : List ℕ) → AreNames n → AreValues vs n.words → Ends rest → Cut rest (values_text vs n) (spelled_terms (terms_back vs n))
  cut_values no_values n rest names h ends = cut_nothing rest
  cut_values (value_and v values) n rest names h ends =
      cut_blank rest (value_text v n ++ values_text values n) (spelled_term (term_back v n) ++ spelled_terms (terms_back values n))
      (cut_then rest (value_text v n) (values_text values n) (spelled_term (term_back v n)) (spelled_terms (terms_back values n))
      (cut_value v n (values_text values n ++ rest) names h.0 (ends_values values n rest ends)) (cut_values values n rest names h.1 ends))

-- ---- preferences

less_run : IsRun (codes "<") (sign 0)
less_run = record { first = 60; others = []; bytes = refl; run_bytes = refl; reads = λ place after f. refl }

greater_run : IsRun (codes ">") (sign 1)
greater_run = record { first = 62; others = []; bytes = refl; run_bytes = refl; reads = λ place after f. refl }

equal_run : IsRun (codes "=") (sign 6)
equal_run = record { first = 61; others = []; bytes = refl; run_bytes = refl; reads = λ place after f. refl }

-- a sign, a blank and a value
cut_referring : (text : List ℕ) (k : ℕ) → IsRun text (sign k) → (v : ValueOf) (n : Naming) (rest : List ℕ) → AreNames n → IsValue v n.words → Ends rest
    → Cut rest (text ++ (32 ∷ value_text v n)) (sign k ∷ spelled_term (term_back v n))
cut_referring text k run v n rest names h ends =
    cut_then rest text (32 ∷ value_text v n) (sign k ∷ []) (spelled_term (term_back v n)) (cut_run ((32 ∷ value_text v n) ++ rest) text (sign k) run (record { no_run = refl; no_fraction = refl }))
    (cut_blank rest (value_text v n) (spelled_term (term_back v n)) (cut_value v n rest names h ends))

cut_preference : (p : PreferenceOf) (n : Naming) (rest : List ℕ) → AreNames n → IsPreference n.words p → Ends rest → Cut rest (preference_text n p) (spelled_wish (wish_back n p))
cut_preference accepts n rest names h ends = cut_run rest (codes "+") (sign 7) plus_run ends
cut_preference rejects n rest names h ends = cut_run rest (codes "-") (sign 8) minus_run ends
cut_preference requires_it n rest names h ends = cut_mark rest 33 [] [] refl (cut_nothing rest)
cut_preference prohibits n rest names h ends = cut_mark rest 126 [] [] refl (cut_nothing rest)
cut_preference is_best n rest names h ends = cut_run rest (codes ">") (sign 1) greater_run ends
cut_preference is_worst n rest names h ends = cut_run rest (codes "<") (sign 0) less_run ends
cut_preference is_indifferent n rest names h ends = cut_run rest (codes "=") (sign 6) equal_run ends
cut_preference (is_better_than v) n rest names h ends = cut_referring (codes ">") 1 greater_run v n rest names h ends
cut_preference (is_worse_than v) n rest names h ends = cut_referring (codes "<") 0 less_run v n rest names h ends
cut_preference (is_indifferent_to v) n rest names h ends = cut_referring (codes "=") 6 equal_run v n rest names h ends

-- ---- actions

make_tokens : (a v w end : Tokens) → a ++ (v ++ (w ++ end)) ≡ (a ++ ((v ++ (w ++ [])) ++ [])) ++ end
make_tokens a v w end =
    sym (append_assoc a ((v ++ (w ++ [])) ++ []) end ∙ ap (λ l. a ++ (l ++ end)) (append-nil (v ++ (w ++ [])) ∙ ap (λ l. v ++ l) (append-nil w)) ∙ ap (λ l. a ++ l) (append_assoc v w end))

cut_makes : (v : ℕ) (attr value : ValueOf) (p : PreferenceOf) (n : Naming) (rest : List ℕ) → AreNames n → IsValue attr n.words → IsValue value n.words → IsPreference n.words p
    → Cut rest (action_text n (makes (Var v) attr value p)) (spelled_action (action_back n (makes (Var v) attr value p)))
cut_makes v attr value p n rest names h_attr h_value h_p =
    same_cut rest (action_text n (makes (Var v) attr value p)) (mark 40 ∷ (variable_named (name_back n v) ∷ (mark 94 ∷ (t_attr ++ (t_value ++ (t_p ++ (mark 41 ∷ []))))))) (spelled_action (action_back n (makes (Var v) attr value p)))
    (ap (λ l. mark 40 ∷ (variable_named (name_back n v) ∷ (mark 94 ∷ l))) (make_tokens t_attr t_value t_p (mark 41 ∷ [])))
    (cut_mark rest 40 (atom_text n (Var v) ++ (32 ∷ (94 ∷ behind_id))) (variable_named (name_back n v) ∷ (mark 94 ∷ (t_attr ++ (t_value ++ (t_p ++ (mark 41 ∷ [])))))) refl
    (cut_then rest (atom_text n (Var v)) (32 ∷ (94 ∷ behind_id)) (variable_named (name_back n v) ∷ []) (mark 94 ∷ (t_attr ++ (t_value ++ (t_p ++ (mark 41 ∷ [])))))
    (cut_atom ((32 ∷ (94 ∷ behind_id)) ++ rest) n (Var v) names tt (record { no_run = refl; no_fraction = refl }))
    (cut_blank rest (94 ∷ behind_id) (mark 94 ∷ (t_attr ++ (t_value ++ (t_p ++ (mark 41 ∷ []))))) (cut_mark rest 94 behind_id (t_attr ++ (t_value ++ (t_p ++ (mark 41 ∷ [])))) refl
    (cut_then rest (value_text attr n) (32 ∷ behind_attr) t_attr (t_value ++ (t_p ++ (mark 41 ∷ []))) (cut_value attr n ((32 ∷ behind_attr) ++ rest) names h_attr (record { no_run = refl; no_fraction = refl }))
    (cut_blank rest behind_attr (t_value ++ (t_p ++ (mark 41 ∷ [])))
    (cut_then rest (value_text value n) (32 ∷ (preference_text n p ++ codes ")")) t_value (t_p ++ (mark 41 ∷ []))
    (cut_value value n ((32 ∷ (preference_text n p ++ codes ")")) ++ rest) names h_value (record { no_run = refl; no_fraction = refl }))
    (cut_blank rest (preference_text n p ++ codes ")") (t_p ++ (mark 41 ∷ []))
    (cut_then rest (preference_text n p) (codes ")") t_p (mark 41 ∷ []) (cut_preference p n (codes ")" ++ rest) names h_p (record { no_run = refl; no_fraction = refl }))
    (cut_mark rest 41 [] [] refl (cut_nothing rest)))))))))))
  where
    t_attr : Tokens
    t_attr = spelled_term (term_back attr n)

    t_value : Tokens
    t_value = spelled_term (term_back value n)

    t_p : Tokens
    t_p = spelled_wish (wish_back n p)

    behind_attr : List ℕ
    behind_attr = value_text value n ++ (32 ∷ (preference_text n p ++ codes ")"))

    behind_id : List ℕ
    behind_id = value_text attr n ++ (32 ∷ behind_attr)

each_value : (n : Naming) (values : List ValueOf) → AllOf (λ v. IsValue v n.words) values → AreValues (values_of values) n.words
each_value n [] h = tt
each_value n (v ∷ values) h = (h.0, each_value n values h.1)

write_run : IsRun (codes "write") (bare_word (codes "write"))
write_run = record { first = 119; others = codes "rite"; bytes = refl; run_bytes = refl; reads = λ place after f. refl }

halt_run : IsRun (codes "halt") (bare_word (codes "halt"))
halt_run = record { first = 104; others = codes "alt"; bytes = refl; run_bytes = refl; reads = λ place after f. refl }

pub cut_action : (a : ActionOf) (n : Naming) (rest : List ℕ) → AreNames n → IsPrintedAction n.words a → Cut rest (action_text n a) (spelled_action (action_back n a))
cut_action (makes (Var v) attr value p) n rest names h = cut_makes v attr value p n rest names h.1 h.2 h.3
cut_action (makes (Const s) attr value p) n rest names h = absurd h.0
cut_action (writes values) n rest names h =
    cut_mark rest 40 (codes "write" ++ (text ++ codes ")")) (bare_word (codes "write") ∷ (terms ++ (mark 41 ∷ []))) refl
    (cut_then rest (codes "write") (text ++ codes ")") (bare_word (codes "write") ∷ []) (terms ++ (mark 41 ∷ [])) (cut_run ((text ++ codes ")") ++ rest) (codes "write") (bare_word (codes "write")) write_run (apart (values_of values)))
    (cut_then rest text (codes ")") terms (mark 41 ∷ []) (cut_values (values_of values) n (codes ")" ++ rest) names (each_value n values h) (record { no_run = refl; no_fraction = refl }))
    (cut_mark rest 41 [] [] refl (cut_nothing rest))))
  where
    text : List ℕ
    text = values_text (values_of values) n

    terms : Tokens
    terms = spelled_terms (terms_back (values_of values) n)

    apart : (vs : ValuesOf) → Ends ((values_text vs n ++ codes ")") ++ rest)
    apart no_values = record { no_run = refl; no_fraction = refl }
    apart (value_and v vs) = record { no_run = refl; no_fraction = refl }
cut_action halts n rest names h =
    cut_mark rest 40 (codes "halt)") (bare_word (codes "halt") ∷ (mark 41 ∷ [])) refl
    (cut_then rest (codes "halt") (codes ")") (bare_word (codes "halt") ∷ []) (mark 41 ∷ []) (cut_run (codes ")" ++ rest) (codes "halt") (bare_word (codes "halt")) halt_run (record { no_run = refl; no_fraction = refl }))
    (cut_mark rest 41 [] [] refl (cut_nothing rest)))
