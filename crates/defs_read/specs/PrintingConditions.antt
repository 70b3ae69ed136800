-- Conditions as text, which is read back to them (the form is this engine's).
use Rattle.std.specs.Prelude.{ℕ, zero, suc, Bool, false, List, [], ◌∷◌, ◌++◌, map, if◌then◌else◌, codes}
use Rattle.soar_sym.specs.Equality.{symbol_eq}
use Rattle.soar_sym.specs.Words.{Texts, text_of}
use Rattle.soar_sym.specs.declared.symbol.Sym.{Sym}
use Rattle.soar_sym.specs.declared.symbol.Sym.TheVariants.{Word}
use Rattle.soar_rule.specs.declared.cond.Atom.{Atom}
use Rattle.soar_rule.specs.declared.cond.Atom.TheVariants.{Const, Var}
use Rattle.soar_rule.specs.declared.cond.Relation.{Relation}
use Rattle.soar_rule.specs.declared.cond.Relation.TheVariants.{Differ, Less, Greater, AtMost, AtLeast, SameKind}
use Rattle.soar_rule.specs.declared.cond.Test.{Test}
use Rattle.soar_rule.specs.declared.cond.Test.TheVariants.{Plain, Rel, OneOf}
use Rattle.soar_rule.specs.declared.cond.Field.{Field}
use Rattle.soar_rule.specs.declared.cond.Pattern.{Pattern}
use Rattle.soar_rule.specs.Conditions.{Condition, positive, negated, conjunctive, Conditions, no_more, condition_and}
use Rattle.defs_text.specs.Symbols.{barred, symbol_text}

-- the table, and the names of the variables
pub record Naming : Type 0 where
  pub words : Texts
  pub vars : List Sym

-- ---- fields

abbrev pub name_at : List Sym → ℕ → Sym
name_at [] v = Word 0
name_at (name ∷ names) zero = name
name_at (name ∷ names) (suc v) = name_at names v

-- the text of a variable's name, without brackets
abbrev pub bare_text : Texts → Sym → List ℕ
bare_text words (Word word) = text_of words word
bare_text words other = symbol_text words other

abbrev pub atom_text : Naming → Atom → List ℕ
atom_text n (Const s) = symbol_text n.words s
atom_text n (Var v) = 60 ∷ (bare_text n.words (name_at n.vars v) ++ (62 ∷ []))

abbrev pub relation_text : Relation → List ℕ
relation_text Differ = codes "<>"
relation_text Less = codes "<"
relation_text Greater = codes ">"
relation_text AtMost = codes "<="
relation_text AtLeast = codes ">="
relation_text SameKind = codes "<=>"

-- each behind a blank
abbrev pub spaced : List (List ℕ) → List ℕ
spaced [] = []
spaced (text ∷ texts) = 32 ∷ (text ++ spaced texts)

abbrev pub test_text : Naming → Test → List ℕ
test_text n (Plain a) = atom_text n a
test_text n (Rel r a) = relation_text r ++ (32 ∷ atom_text n a)
test_text n (OneOf symbols) = codes "<<" ++ (spaced (map (symbol_text n.words) symbols) ++ codes " >>")

abbrev pub tests_text : List (List ℕ) → List ℕ
tests_text (text ∷ []) = text
tests_text texts = codes "{" ++ (spaced texts ++ codes " }")

abbrev pub field_text : Naming → Field → List ℕ
field_text n field = tests_text (map (test_text n) field.tests)

-- the word `state` would be the mark at the front of a group
abbrev pub is_state_test : Test → Bool
is_state_test (Plain (Const s)) = symbol_eq s (Word 0)
is_state_test (Plain (Var v)) = false
is_state_test (Rel r a) = false
is_state_test (OneOf symbols) = false

abbrev pub id_test_text : Naming → Test → List ℕ
id_test_text n t = if is_state_test t then barred (codes "state") else test_text n t

abbrev pub id_text : Naming → Field → List ℕ
id_text n field = tests_text (map (id_test_text n) field.tests)

-- ---- conditions

abbrev pub pattern_text : Naming → Pattern → List ℕ
pattern_text n p =
    codes "(" ++ ((if p.state then codes "state " else []) ++ (id_text n p.id ++ (codes " ^" ++ (field_text n p.attr ++ (32 ∷ (field_text n p.value ++ (if p.accept then codes " +)" else codes ")")))))))

abbrev mutual
  pub condition_text : Condition → Naming → List ℕ
  condition_text (positive p) n = pattern_text n p
  condition_text (negated p) n = 45 ∷ pattern_text n p
  condition_text (conjunctive inside) n = codes "-{" ++ (inside_text inside n ++ codes "}")

  -- with one blank between
  pub inside_text : Conditions → Naming → List ℕ
  inside_text no_more n = []
  inside_text (condition_and c no_more) n = condition_text c n
  inside_text (condition_and c (condition_and d cs)) n = condition_text c n ++ (32 ∷ inside_text (condition_and d cs) n)

abbrev pub condition_lines : Conditions → Naming → List (List ℕ)
condition_lines no_more n = []
condition_lines (condition_and c cs) n = condition_text c n ∷ condition_lines cs n
