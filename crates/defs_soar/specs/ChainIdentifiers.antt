-- What a chain tells of its identifiers: which are higher ones, and which its firings made (Soar manual, chapter 4, chunking; the reading is this engine's).
--
-- The chain is read by itself, without the agent. An identifier is higher where a ground holds it or a `^superstate` leads to it,
-- and it is no state of the chain's own depth. It is made by the chain where some firing made it new and no ground holds it.
use Rattle.std.specs.Prelude.{ℕ, Bool, true, false, ◌&&◌, ◌||◌, ◌==◌, not, List, [], ◌∷◌, flat_map}
use Rattle.std.specs.List.{list_any}
use Rattle.soar_sym.specs.Equality.{symbol_eq}
use Rattle.soar_sym.specs.declared.symbol.Sym.{Sym}
use Rattle.defs_soar.specs.declared.firing.How.{How}
use Rattle.defs_soar.specs.declared.firing.How.TheVariants as how
use Rattle.defs_soar.specs.declared.firing.Used.{Used}
use Rattle.defs_match.specs.Element.{Element}
use Rattle.defs_soar.specs.Architecture.{superstate_word}
use Rattle.defs_soar.specs.Dependencies.{is_new_in}
use Rattle.defs_soar.specs.History.{FiringOf, StepOf, architecture_step, item_step, select_step, fire_step, ChainOf}
use Rattle.defs_soar.specs.Values.{is_identifier}

abbrev pub firing_in : StepOf → List FiringOf
firing_in (fire_step f) = f ∷ []
firing_in (architecture_step e) = []
firing_in (item_step e tag) = []
firing_in (select_step e tag) = []

abbrev pub firings_of : ChainOf → List FiringOf
firings_of c = flat_map firing_in c.steps

abbrev pub occurs_in : Sym → Element → Bool
occurs_in s e = symbol_eq e.id s || (symbol_eq e.attr s || symbol_eq e.value s)

abbrev pub is_in_ground : ChainOf → Sym → Bool
is_in_ground c s = list_any (occurs_in s) c.grounds

abbrev pub names_superstate : Sym → StepOf → Bool
names_superstate s (architecture_step e) = symbol_eq e.attr superstate_word && symbol_eq e.value s
names_superstate s (item_step e tag) = false
names_superstate s (select_step e tag) = false
names_superstate s (fire_step f) = false

abbrev pub is_upper : How → Bool
is_upper how.Upper = true
is_upper other = false

abbrev pub is_state_use : Sym → Used → Bool
is_state_use s u = not (is_upper u.how) && (u.element.of_state && symbol_eq u.element.id s)

-- a state that a firing of this depth used otherwise than as a higher one
abbrev pub is_goal_of_depth : ChainOf → ℕ → Sym → Bool
is_goal_of_depth c depth s = list_any (λ f. (f.depth == depth) && list_any (is_state_use s) f.used) (firings_of c)

-- an identifier of a higher level than the depth of the chain's last firing
abbrev pub is_higher : ChainOf → ℕ → Sym → Bool
is_higher c depth s = is_identifier s && ((is_in_ground c s || list_any (names_superstate s) c.steps) && not (is_goal_of_depth c depth s))

-- an identifier that some firing of the chain made new, and no ground holds
abbrev pub is_made_by : ChainOf → Sym → Bool
is_made_by c s = list_any (λ f. is_new_in f s) (firings_of c) && not (is_in_ground c s)
