-- The tests between identifiers that a learned rule takes over (Soar manual, chapter 4, chunking; the places are this engine's).
--
-- A `<>` or `<=>` of a step's positive condition is taken over where a side is an identifier and neither side is the chain's own affair.
-- It stands at the field in which the later of its two sides first occurs, so that both are bound there.
use Rattle.std.specs.Prelude.{ℕ, ◌+◌, Bool, true, false, ◌&&◌, ◌||◌, ◌==◌, not, nat_lt, List, [], ◌∷◌, ◌++◌, map, flat_map, filter, Option, Some, None, if◌then◌else◌}
use Rattle.std.specs.List.{list_any}
use Rattle.soar_sym.specs.Equality.{symbol_eq}
use Rattle.soar_sym.specs.declared.symbol.Sym.{Sym}
use Rattle.soar_rule.specs.declared.cond.Atom.TheVariants.{Const}
use Rattle.soar_rule.specs.declared.cond.Relation.{Relation}
use Rattle.soar_rule.specs.declared.cond.Relation.TheVariants.{Differ, SameKind}
use Rattle.soar_rule.specs.declared.cond.Test.{Test}
use Rattle.soar_rule.specs.declared.cond.Test.TheVariants.{Plain, Rel, OneOf}
use Rattle.soar_rule.specs.declared.cond.Pattern.{Pattern}
use Rattle.soar_rule.specs.Conditions.{positive, negated, conjunctive, Conditions, no_more, condition_and}
use Rattle.soar_rule.specs.Equality.{relation_eq}
use Rattle.defs_match.specs.Element.{Element}
use Rattle.defs_match.specs.Testing.{Bindings, symbol_at}
use Rattle.defs_soar.specs.ChainIdentifiers.{firings_of, is_in_ground, is_made_by, is_goal_of_depth}
use Rattle.defs_soar.specs.History.{FiringOf, ChainOf}
use Rattle.defs_soar.specs.Negations.{bindings_in}
use Rattle.defs_soar.specs.Uses.{elements_matched}
use Rattle.defs_soar.specs.Values.{is_identifier}

-- a relation that a step tested, with the symbols of its field and of its referent
pub record Carried : Type 0 where
  pub relation : Relation
  pub field : Sym
  pub referent : Sym

-- ---- which tests are carried

abbrev pub is_of_symbols : Relation → Bool
is_of_symbols Differ = true
is_of_symbols SameKind = true
is_of_symbols other = false

-- made by the chain, or a local goal that no ground holds
abbrev pub is_inner : ChainOf → ℕ → Sym → Bool
is_inner c depth s = is_made_by c s || (is_goal_of_depth c depth s && not (is_in_ground c s))

abbrev pub is_carried : ChainOf → ℕ → Carried → Bool
is_carried c depth t =
    (is_identifier t.field || is_identifier t.referent) && (not (is_inner c depth t.field) && not (is_inner c depth t.referent))

abbrev pub carried_by : Relation → Sym → Option Sym → List Carried
carried_by r s None = []
carried_by r s (Some t) = if is_of_symbols r then record { relation = r; field = s; referent = t } ∷ [] else []

abbrev pub tests_in : Bindings → Sym → List Test → List Carried
tests_in bindings s [] = []
tests_in bindings s (Rel r a ∷ tests) = carried_by r s (symbol_at a bindings) ++ tests_in bindings s tests
tests_in bindings s (Plain a ∷ tests) = tests_in bindings s tests
tests_in bindings s (OneOf symbols ∷ tests) = tests_in bindings s tests

abbrev pub tests_of_pattern : Bindings → Pattern → Element → List Carried
tests_of_pattern bindings p e = tests_in bindings e.id p.id.tests ++ (tests_in bindings e.attr p.attr.tests ++ tests_in bindings e.value p.value.tests)

-- positive conditions outside negations, each with its element
abbrev pub tests_of_conditions : Bindings → Conditions → List Element → List Carried
tests_of_conditions bindings no_more elements = []
tests_of_conditions bindings (condition_and (positive p) cs) [] = []
tests_of_conditions bindings (condition_and (positive p) cs) (e ∷ elements) = tests_of_pattern bindings p e ++ tests_of_conditions bindings cs elements
tests_of_conditions bindings (condition_and (negated p) cs) elements = tests_of_conditions bindings cs elements
tests_of_conditions bindings (condition_and (conjunctive inside) cs) elements = tests_of_conditions bindings cs elements

abbrev pub tests_of_firing : FiringOf → List Carried
tests_of_firing f = tests_of_conditions (bindings_in f) f.rule.production.conditions (elements_matched (map (λ u. u.element) f.used) f.instance.tags)

-- in order of firing, condition, field and test
unfoldable pub carried_tests : ChainOf → ℕ → List Carried
carried_tests c depth = filter (is_carried c depth) (flat_map tests_of_firing (firings_of c))

-- ---- where they are put

abbrev pub or_place : Option ℕ → Option ℕ → Option ℕ
or_place (Some n) other = Some n
or_place None other = other

abbrev pub field_place : ℕ → Element → Sym → Option ℕ
field_place first e s =
    if symbol_eq e.id s then Some first else if symbol_eq e.attr s then Some (first + 1) else if symbol_eq e.value s then Some (first + 2) else None

-- the field, of three for each condition, in which an identifier first occurs
abbrev pub occurrence_from : ℕ → List Element → Sym → Option ℕ
occurrence_from first [] s = None
occurrence_from first (e ∷ elements) s = or_place (field_place first e s) (occurrence_from (first + 3) elements s)

-- a constant occurs nowhere
abbrev pub occurrence : List Element → Sym → Option ℕ
occurrence elements s = if is_identifier s then occurrence_from 0 elements s else None

-- a test at the field of its left side
pub record Placed : Type 0 where
  pub at : ℕ
  pub relation : Relation
  pub right : Sym

abbrev pub placed_at : ℕ → Relation → Sym → Placed
placed_at n r s = record { at = n; relation = r; right = s }

-- the side that occurs later is on the left; a side that occurs nowhere counts as the earlier one
abbrev pub placed_by : Carried → Option ℕ → Option ℕ → List Placed
placed_by t None None = []
placed_by t (Some n) None = placed_at n t.relation t.referent ∷ []
placed_by t None (Some m) = placed_at m t.relation t.field ∷ []
placed_by t (Some n) (Some m) = if nat_lt n m then placed_at m t.relation t.field ∷ [] else placed_at n t.relation t.referent ∷ []

abbrev pub placed_eq : Placed → Placed → Bool
placed_eq a b = (a.at == b.at) && (relation_eq a.relation b.relation && symbol_eq a.right b.right)

abbrev pub placed_once : List Placed → List Placed → List Placed
placed_once seen [] = seen
placed_once seen (p ∷ placed) = placed_once (if list_any (placed_eq p) seen then seen else seen ++ p ∷ []) placed

-- the tests with their fields, without repeats
abbrev pub placed_tests : List Element → List Carried → List Placed
placed_tests elements tests = placed_once [] (flat_map (λ t. placed_by t (occurrence elements t.field) (occurrence elements t.referent)) tests)

-- the tests at one field
abbrev pub tests_at : List Placed → ℕ → List Test
tests_at placed n = map (λ p. Rel p.relation (Const p.right)) (filter (λ p. p.at == n) placed)
