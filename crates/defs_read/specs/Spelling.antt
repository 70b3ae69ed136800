-- The tokens that spell a production (Soar manual, chapter 3, production syntax; the profile is this engine's).
use Rattle.std.specs.Prelude.{ℕ, Bool, true, List, [], ◌∷◌, ◌++◌, Option, Some, None, if◌then◌else◌, flat_map, codes}
use Rattle.soar_rule.specs.declared.action.Func.{Func}
use Rattle.soar_rule.specs.declared.action.Func.TheVariants as func
use Rattle.defs_text.specs.Lexing.{Saying, mark, arrow, open_set, close_set, sign, variable_named, integer, word_of, documentation}
use Rattle.defs_read.specs.Grammar.{Constant, named, number, Single, a_variable, a_constant, Simple, one_of, tested, FieldTree, braced, single, ValueTest, AttributeTest, Group, Part, grouped, joined, Parts, no_parts, part_and, Term, simple, called, Terms, no_terms, term_and, WishTree, accepting, rejecting, requiring, prohibiting, comparing, ItemTree, AttributeMake, ActionTree, making, writing, halting, Flag, operator_support, instance_support, is_default, is_chunk, Tree}
use Rattle.defs_read.specs.Printing.{function_text}

abbrev pub Tokens : Type 0
Tokens = List Saying

abbrev pub spelled_flag : Saying → Bool → Tokens
spelled_flag t stands = if stands then t ∷ [] else []

abbrev pub spelled_option : {A : Type 0} → (A → Tokens) → Option A → Tokens
spelled_option spell None = []
spelled_option spell (Some a) = spell a

abbrev pub spelled_constant : Constant → Saying
spelled_constant (named text bare) = word_of text bare
spelled_constant (number z) = integer z

abbrev pub spelled_single : Single → Saying
spelled_single (a_variable name) = variable_named name
spelled_single (a_constant c) = spelled_constant c

abbrev pub spelled_simple : Simple → Tokens
spelled_simple (one_of a) = open_set ∷ (spelled_constant a.first ∷ (flat_map (λ c. spelled_constant c ∷ []) a.others ++ (close_set ∷ [])))
spelled_simple (tested t) = spelled_option (λ k. sign k ∷ []) t.relation ++ (spelled_single t.single ∷ [])

abbrev pub spelled_field : FieldTree → Tokens
spelled_field (braced b) = mark 123 ∷ (spelled_simple b.first ++ (flat_map spelled_simple b.others ++ (mark 125 ∷ [])))
spelled_field (single s) = spelled_simple s

abbrev pub spelled_value : ValueTest → Tokens
spelled_value v = spelled_field v.value ++ spelled_flag (sign 7) v.accept

abbrev pub spelled_step : FieldTree → Tokens
spelled_step f = mark 46 ∷ spelled_field f

abbrev pub spelled_test : AttributeTest → Tokens
spelled_test t =
    spelled_flag (sign 8) t.negative ++ (mark 94 ∷ (spelled_field t.attribute ++ (flat_map spelled_step t.path ++ flat_map spelled_value t.values)))

abbrev pub bare_word : List ℕ → Saying
bare_word text = word_of text true

abbrev pub spelled_group : Group → Tokens
spelled_group g =
    mark 40 ∷ (spelled_flag (bare_word (codes "state")) g.state ++ (spelled_option spelled_field g.field ++ (flat_map spelled_test g.tests ++ (mark 41 ∷ []))))

abbrev mutual
  pub spelled_part : Part → Tokens
  spelled_part (grouped negative g) = spelled_flag (sign 8) negative ++ spelled_group g
  spelled_part (joined negative p ps) = spelled_flag (sign 8) negative ++ (mark 123 ∷ (spelled_part p ++ (spelled_parts ps ++ (mark 125 ∷ []))))

  pub spelled_parts : Parts → Tokens
  spelled_parts no_parts = []
  spelled_parts (part_and p ps) = spelled_part p ++ spelled_parts ps

-- `+` and `-` are signs
abbrev pub spelled_function : Func → Saying
spelled_function func.Plus = sign 7
spelled_function func.Minus = sign 8
spelled_function f = bare_word (function_text f)

abbrev mutual
  pub spelled_term : Term → Tokens
  spelled_term (simple s) = spelled_single s ∷ []
  spelled_term (called f ts) = mark 40 ∷ (spelled_function f ∷ (spelled_terms ts ++ (mark 41 ∷ [])))

  pub spelled_terms : Terms → Tokens
  spelled_terms no_terms = []
  spelled_terms (term_and t ts) = spelled_term t ++ spelled_terms ts

abbrev pub spelled_wish : WishTree → Tokens
spelled_wish accepting = sign 7 ∷ []
spelled_wish rejecting = sign 8 ∷ []
spelled_wish requiring = mark 33 ∷ []
spelled_wish prohibiting = mark 126 ∷ []
spelled_wish (comparing c) = sign c.sign ∷ spelled_option spelled_term c.referent

abbrev pub spelled_item : ItemTree → Tokens
spelled_item i = spelled_term i.value ++ flat_map spelled_wish i.wishes

abbrev pub spelled_term_step : Term → Tokens
spelled_term_step t = mark 46 ∷ spelled_term t

abbrev pub spelled_make : AttributeMake → Tokens
spelled_make m = mark 94 ∷ (spelled_term m.attribute ++ (flat_map spelled_term_step m.path ++ (spelled_item m.item ++ flat_map spelled_item m.items)))

abbrev pub spelled_action : ActionTree → Tokens
spelled_action (making m) = mark 40 ∷ (variable_named m.variable ∷ (spelled_make m.make ++ (flat_map spelled_make m.makes ++ (mark 41 ∷ []))))
spelled_action (writing ts) = mark 40 ∷ (bare_word (codes "write") ∷ (spelled_terms ts ++ (mark 41 ∷ [])))
spelled_action halting = mark 40 ∷ (bare_word (codes "halt") ∷ (mark 41 ∷ []))

abbrev pub flag_text : Flag → List ℕ
flag_text operator_support = codes ":o-support"
flag_text instance_support = codes ":i-support"
flag_text is_default = codes ":default"
flag_text is_chunk = codes ":chunk"

abbrev pub spelling : Tree → Tokens
spelling t =
    bare_word (codes "sp") ∷ (mark 123 ∷ (word_of t.name t.bare ∷ (spelled_option (λ doc. documentation doc ∷ []) t.doc ++ (flat_map (λ f. bare_word (flag_text f) ∷ []) t.flags
    ++ (spelled_part t.part ++ (spelled_parts t.parts ++ (arrow ∷ (flat_map spelled_action t.actions ++ (mark 125 ∷ [])))))))))
