-- Walks from the output link, identifier by identifier. No public clause cites this module.
use Rattle.std.specs.Prelude.{◌≡◌, ℕ, Bool, true, ◌&&◌, ◌||◌, not, List, [], ◌∷◌, map, filter, take, if◌then◌else◌}
use Rattle.std.specs.BTreeMap.{insert_entry}
use Rattle.std.specs.Ordering.{nat_cmp}
use Rattle.soar_sym.specs.Equality.{symbol_eq}
use Rattle.soar_sym.specs.declared.symbol.Sym.{Sym}
use Rattle.soar_sym.specs.declared.symbol.Triple.{Triple}
use Rattle.soar_wm.specs.declared.element.Element.{Element}
use Rattle.soar_wm.specs.WorkingMemory.{elements_of, triple_of, IsRising}
use Rattle.defs_soar.specs.Architecture.{output_identifier}
use Rattle.defs_soar.specs.Levels.{with_reached}
use Rattle.defs_soar.specs.Sorted.{has_symbol}
use Rattle.defs_soar.specs.Values.{is_identifier}
use Rattle.level_laws.specs.Labels.{has_edge, Walks}

-- a walk from the output link goes on through its own identifier, and through that of no goal
abbrev pub goes_on_at : (Sym → Bool) → Sym → Bool
goes_on_at is_goal id = symbol_eq id output_identifier || not (is_goal id)

-- a value is reached, where it is an identifier
abbrev pub with_value : List Sym → Sym → List Sym
with_value reached value = if is_identifier value then with_reached reached value else reached

abbrev pub with_values : List Sym → List Element → List Sym
with_values reached [] = reached
with_values reached (e ∷ elements) = with_values (with_value reached e.value) elements

-- what is reached once walks have gone on from an identifier
abbrev pub gone_on : (Sym → Bool) → List Element → List Sym → Sym → List Sym
gone_on is_goal elements reached id = if goes_on_at is_goal id then with_values reached (elements_of id elements) else reached

-- triples by tag
abbrev pub Tagged : Type 0
Tagged = List (ℕ × Triple)

abbrev pub tagged : List Element → Tagged
tagged elements = map (λ e. (e.tag, triple_of e)) elements

-- the triples of these elements more, each at its tag
abbrev pub with_elements : List Element → Tagged → Tagged
with_elements [] kept = kept
with_elements (e ∷ elements) kept = with_elements elements (insert_entry nat_cmp kept e.tag (triple_of e))

-- the triples of an identifier more, where it is no goal
abbrev pub kept_with : (Sym → Bool) → List Element → Tagged → Sym → Tagged
kept_with is_goal elements kept id = if is_goal id then kept else with_elements (elements_of id elements) kept

-- the elements of what is reached and no goal
abbrev pub shown : (Sym → Bool) → (Sym → Bool) → List Element → List Element
shown is_reached is_goal elements = filter (λ e. is_reached e.id && not (is_goal e.id)) elements

-- these symbols are the goals
abbrev pub Tells : (Sym → Bool) → List Sym → Type 0
Tells is_goal ids = (s : Sym) → is_goal s ≡ has_symbol ids s

-- Walks have gone on from so many of the identifiers that are reached, and the triples of these are kept.
pub record Walked (is_goal : Sym → Bool) (elements : List Element) (reached : List Sym) (count : ℕ) (kept : Tagged) : Type 0 where
  pub rising : IsRising elements
  pub own : has_symbol reached output_identifier ≡ true
  pub sound : (ids : List Sym) → Tells is_goal ids → (s : Sym) → has_symbol reached s ≡ true → Walks (has_edge (map triple_of elements)) ids output_identifier s
  pub closed : (x y : Sym) → has_symbol (take count reached) x ≡ true → goes_on_at is_goal x ≡ true → has_edge (map triple_of elements) x y ≡ true → has_symbol reached y ≡ true
  pub are_kept : kept ≡ tagged (shown (has_symbol (take count reached)) is_goal elements)
