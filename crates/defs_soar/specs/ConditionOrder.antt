-- The order of a learned rule's positive conditions (the order is this engine's).
--
-- States have the first variables, the highest first. Then, again and again, the least ground comes whose identifier has a variable,
-- by that variable's place, then attribute, value and mark; its own identifiers get the next variables.
use Rattle.std.specs.Prelude.{ℕ, suc, Bool, true, false, ◌==◌, not, List, [], ◌∷◌, ◌++◌, length, filter, Option, Some, None, if◌then◌else◌}
use Rattle.std.specs.Ordering.{nat_cmp, bool_cmp, ordering_then, is_lt}
use Rattle.std.specs.declared.cmp.Ordering.{Ordering}
use Rattle.std.specs.declared.cmp.Ordering.TheVariants.{Less, Equal, Greater}
use Rattle.soar_sym.specs.Equality.{symbol_eq}
use Rattle.soar_sym.specs.Order.{symbol_cmp}
use Rattle.soar_sym.specs.Words.{Texts}
use Rattle.soar_sym.specs.declared.symbol.Sym.{Sym}
use Rattle.soar_rule.specs.Repeat.{repeated}
use Rattle.defs_match.specs.Element.{Element}
use Rattle.defs_soar.specs.Sorted.{has_symbol, with_symbol}
use Rattle.defs_soar.specs.Values.{is_identifier}

-- ---- how grounds are compared

abbrev pub place_from : ℕ → List Sym → Sym → Option ℕ
place_from n [] s = None
place_from n (t ∷ symbols) s = if symbol_eq s t then Some n else place_from (suc n) symbols s

-- the place of an identifier among those that have a variable
abbrev pub variable_place : List Sym → Sym → Option ℕ
variable_place places s = place_from 0 places s

abbrev pub option_cmp : Option ℕ → Option ℕ → Ordering
option_cmp (Some n) (Some m) = nat_cmp n m
option_cmp (Some n) None = Less
option_cmp None (Some m) = Greater
option_cmp None None = Equal

-- constants come before identifiers, and identifiers without a variable go by tag
abbrev pub unplaced_cmp : Texts → Element → Element → Bool → Bool → Ordering
unplaced_cmp words e f false false = symbol_cmp words e.value f.value
unplaced_cmp words e f false true = Less
unplaced_cmp words e f true false = Greater
unplaced_cmp words e f true true = nat_cmp e.tag f.tag

abbrev pub placed_cmp : Texts → Element → Element → Option ℕ → Option ℕ → Ordering
placed_cmp words e f None None = unplaced_cmp words e f (is_identifier e.value) (is_identifier f.value)
placed_cmp words e f n m = option_cmp n m

-- values: identifiers with a variable by its place, then constants, then other identifiers
abbrev pub value_cmp : Texts → List Sym → Element → Element → Ordering
value_cmp words places e f = placed_cmp words e f (variable_place places e.value) (variable_place places f.value)

-- by the place of the identifier's variable, then attribute, value and mark
abbrev pub ground_cmp : Texts → List Sym → Element → Element → Ordering
ground_cmp words places e f =
    ordering_then (option_cmp (variable_place places e.id) (variable_place places f.id))
    (ordering_then (symbol_cmp words e.attr f.attr) (ordering_then (value_cmp words places e f) (bool_cmp e.accept f.accept)))

-- ---- the order

-- the grounds in order so far, those left, by tag, and the identifiers that have a variable, in order of their variables
pub record Ordered : Type 0 where
  pub taken : List Element
  pub left : List Element
  pub places : List Sym

abbrev pub with_place : List Sym → Sym → List Sym
with_place places s = if is_identifier s then (if has_symbol places s then places else places ++ s ∷ []) else places

abbrev pub least_ground : Texts → List Sym → Element → List Element → Element
least_ground words places e [] = e
least_ground words places e (f ∷ grounds) = least_ground words places (if is_lt (ground_cmp words places f e) then f else e) grounds

abbrev pub with_ground : Ordered → Element → Ordered
with_ground o e = record {
  taken = o.taken ++ e ∷ [];
  left = filter (λ f. not (f.tag == e.tag)) o.left;
  places = with_place (with_place (with_place o.places e.id) e.attr) e.value;
}

-- the least ground whose identifier has a variable comes next
abbrev pub with_next : Texts → Ordered → List Element → Ordered
with_next words o [] = o
with_next words o (e ∷ reachable) = with_ground o (least_ground words o.places e reachable)

abbrev pub one_ground_more : Texts → Ordered → Ordered
one_ground_more words o = with_next words o (filter (λ e. has_symbol o.places e.id) o.left)

-- the states that are the identifier of a ground, from the highest, which is their symbol order
abbrev pub states_of : Texts → List Element → List Sym
states_of words [] = []
states_of words (e ∷ grounds) = if e.of_state then with_symbol words (states_of words grounds) e.id else states_of words grounds

-- states have the first variables; the order ends where no ground left has an identifier with a variable
unfoldable pub ordered_grounds : Texts → List Element → Ordered
ordered_grounds words grounds = repeated (length grounds) (one_ground_more words) (record { taken = []; left = grounds; places = states_of words grounds })
