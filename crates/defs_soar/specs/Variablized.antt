-- What is variablized in a learned rule, and the names of these variables (Soar manual, chapter 4, variablization; the names are this engine's).
--
-- An identifier has one variable wherever it stands, named by its letter and a number. A negation's own variables are named by x.
use Rattle.std.specs.Prelude.{ℕ, suc, ◌+◌, Bool, false, ◌&&◌, ◌==◌, List, [], ◌∷◌, ◌++◌, flat_map, Option, Some, None, if◌then◌else◌}
use Rattle.std.specs.Fmt.{decimal}
use Rattle.std.specs.List.{list_any}
use Rattle.soar_sym.specs.Equality.{symbol_eq}
use Rattle.soar_sym.specs.declared.symbol.Sym.{Sym}
use Rattle.soar_sym.specs.declared.symbol.Sym.TheVariants.{Ident}
use Rattle.soar_rule.specs.declared.cond.Atom.{Atom}
use Rattle.soar_rule.specs.declared.cond.Atom.TheVariants.{Const, Var}
use Rattle.soar_rule.specs.declared.cond.Field.{Field}
use Rattle.soar_rule.specs.declared.cond.Test.{Test}
use Rattle.soar_rule.specs.declared.cond.Test.TheVariants.{Plain, Rel, OneOf}
use Rattle.soar_rule.specs.Conditions.{Condition, positive, negated, conjunctive, Conditions, no_more, condition_and}
use Rattle.defs_soar.specs.declared.preference.Wish.{Wish}
use Rattle.defs_soar.specs.Values.{is_identifier}

-- ---- variables

-- what has a variable: an identifier, or a negation's own variable
pub data Variablized : Type 0 where
  of_identifier : Sym → Variablized
  of_own : ℕ → Variablized

abbrev pub variablized_eq : Variablized → Variablized → Bool
variablized_eq (of_identifier s) (of_identifier t) = symbol_eq s t
variablized_eq (of_own n) (of_own m) = n == m
variablized_eq a b = false

-- what an atom has a variable for, where identifiers have variables or where they stay
abbrev pub variablized_in_atom : Bool → Atom → List Variablized
variablized_in_atom general (Const s) = if general && is_identifier s then of_identifier s ∷ [] else []
variablized_in_atom general (Var n) = of_own n ∷ []

abbrev pub variablized_in_test : Bool → Test → List Variablized
variablized_in_test general (Plain a) = variablized_in_atom general a
variablized_in_test general (Rel r a) = variablized_in_atom general a
variablized_in_test general (OneOf symbols) = []

abbrev pub variablized_in_field : Bool → Field → List Variablized
variablized_in_field general field = flat_map (variablized_in_test general) field.tests

abbrev mutual
  pub variablized_in_condition : Bool → Condition → List Variablized
  variablized_in_condition general (positive p) = variablized_in_field general p.id ++ (variablized_in_field general p.attr ++ variablized_in_field general p.value)
  variablized_in_condition general (negated p) = variablized_in_field general p.id ++ (variablized_in_field general p.attr ++ variablized_in_field general p.value)
  variablized_in_condition general (conjunctive inside) = variablized_in_conditions general inside

  pub variablized_in_conditions : Bool → Conditions → List Variablized
  variablized_in_conditions general no_more = []
  variablized_in_conditions general (condition_and c cs) = variablized_in_condition general c ++ variablized_in_conditions general cs

abbrev pub variablized_in_symbol : Bool → Sym → List Variablized
variablized_in_symbol general s = variablized_in_atom general (Const s)

abbrev pub variablized_in_referent : Bool → Option Sym → List Variablized
variablized_in_referent general None = []
variablized_in_referent general (Some s) = variablized_in_symbol general s

abbrev pub variablized_in_wish : Bool → Wish → List Variablized
variablized_in_wish general w = variablized_in_symbol general w.id ++ (variablized_in_symbol general w.attr ++ (variablized_in_symbol general w.value ++ variablized_in_referent general w.referent))

abbrev pub each_variablized_once : List Variablized → List Variablized → List Variablized
each_variablized_once seen [] = seen
each_variablized_once seen (s ∷ variablized) = each_variablized_once (if list_any (variablized_eq s) seen then seen else seen ++ s ∷ []) variablized

-- ---- names: a small letter and a number, from 1 for each letter

-- an identifier's own letter, and x for a negation's own variable
abbrev pub letter_of : Variablized → ℕ
letter_of (of_identifier (Ident letter number)) = letter + 32
letter_of (of_identifier other) = 120
letter_of (of_own n) = 120

abbrev pub count_with : ℕ → List Variablized → ℕ
count_with letter [] = 0
count_with letter (s ∷ variablized) = if letter_of s == letter then suc (count_with letter variablized) else count_with letter variablized

abbrev pub names_from : List Variablized → List Variablized → List (List ℕ)
names_from before [] = []
names_from before (s ∷ variablized) = (letter_of s ∷ decimal (suc (count_with (letter_of s) before))) ∷ names_from (before ++ s ∷ []) variablized
