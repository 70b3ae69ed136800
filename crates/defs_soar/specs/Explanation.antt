-- What explains firings, and the steps of an explanation (Soar manual, chapter 4, backtracing).
--
-- A firing is explained by the makers of the elements that it used, and by theirs, back to elements of higher goals: the grounds.
-- The steps are the architecture's own elements, then items, then firings, each in order, a selection just before the firing that first used it.
use Rattle.std.specs.Prelude.{ℕ, Bool, ◌&&◌, ◌||◌, ◌==◌, not, nat_lt, List, [], ◌∷◌, ◌++◌, map, flat_map, filter, length, if◌then◌else◌}
use Rattle.std.specs.List.{list_any}
use Rattle.soar_rule.specs.Repeat.{until_same}
use Rattle.defs_match.specs.Element.{Element}
use Rattle.defs_soar.specs.declared.firing.How.TheVariants as how
use Rattle.defs_soar.specs.declared.firing.Used.{Used}
use Rattle.defs_soar.specs.declared.preference.Wish.{Wish}
use Rattle.defs_soar.specs.History.{FiringOf, StepOf, architecture_step, item_step, select_step, fire_step, ChainOf}

-- ---- what explains a firing

abbrev pub maker_named : Used → List ℕ
maker_named u = elim (u.how) [ how.Made n ↦ n ∷ [] | how.Upper ↦ [] | how.Architecture ↦ [] | how.Item tag ↦ [] | how.Selected tag ↦ [] ]

abbrev pub firing_of : List FiringOf → ℕ → List FiringOf
firing_of firings number = filter (λ f. f.number == number) firings

-- one number more, at its place, where it is new
abbrev pub with_number : ℕ → List ℕ → List ℕ
with_number n [] = n ∷ []
with_number n (m ∷ ms) = if n == m then m ∷ ms else if nat_lt n m then n ∷ m ∷ ms else m ∷ with_number n ms

abbrev pub with_numbers : List ℕ → List ℕ → List ℕ
with_numbers [] ms = ms
with_numbers (n ∷ ns) ms = with_number n (with_numbers ns ms)

-- these firings, and the makers of what they used
abbrev pub with_makers : List FiringOf → List ℕ → List ℕ
with_makers firings numbers =
    with_numbers (flat_map (λ n. flat_map (λ f. flat_map maker_named f.used) (firing_of firings n)) numbers) numbers

-- the roots, and step by step the makers of what was used; a maker is older than its user, so as many rounds as there are firings are enough
abbrev pub explaining : List FiringOf → List ℕ → List ℕ
explaining firings roots = until_same (λ a b. length a == length b) (length firings) (with_makers firings) (with_numbers roots [])

-- ---- the steps of an explanation

-- one element more, at the place of its tag, where it is new
abbrev pub at_its_tag : Element → List Element → List Element
at_its_tag e [] = e ∷ []
at_its_tag e (f ∷ elements) = if e.tag == f.tag then f ∷ elements else if nat_lt e.tag f.tag then e ∷ f ∷ elements else f ∷ at_its_tag e elements

abbrev pub by_tag : List Element → List Element
by_tag [] = []
by_tag (e ∷ elements) = at_its_tag e (by_tag elements)

-- an element that names another, by its tag and then by the tag named
pub record TagNaming : Type 0 where
  pub element : Element
  pub named : ℕ

abbrev pub naming_eq : TagNaming → TagNaming → Bool
naming_eq a b = (a.element.tag == b.element.tag) && (a.named == b.named)

abbrev pub is_naming_before : TagNaming → TagNaming → Bool
is_naming_before a b = nat_lt a.element.tag b.element.tag || ((a.element.tag == b.element.tag) && nat_lt a.named b.named)

abbrev pub with_naming : TagNaming → List TagNaming → List TagNaming
with_naming a [] = a ∷ []
with_naming a (b ∷ namings) = if naming_eq a b then b ∷ namings else if is_naming_before a b then a ∷ b ∷ namings else b ∷ with_naming a namings

abbrev pub namings_in_order : List TagNaming → List TagNaming
namings_in_order [] = []
namings_in_order (a ∷ namings) = with_naming a (namings_in_order namings)

abbrev pub upper_of : Used → List Element
upper_of u = elim (u.how) [ how.Upper ↦ u.element ∷ [] | how.Architecture ↦ [] | how.Item tag ↦ [] | how.Selected tag ↦ [] | how.Made n ↦ [] ]

abbrev pub architecture_of : Used → List Element
architecture_of u = elim (u.how) [ how.Architecture ↦ u.element ∷ [] | how.Upper ↦ [] | how.Item tag ↦ [] | how.Selected tag ↦ [] | how.Made n ↦ [] ]

abbrev pub item_of : Used → List TagNaming
item_of u = elim (u.how) [ how.Item tag ↦ record { element = u.element; named = tag } ∷ [] | how.Upper ↦ [] | how.Architecture ↦ [] | how.Selected tag ↦ [] | how.Made n ↦ [] ]

abbrev pub selection_of : Used → List TagNaming
selection_of u = elim (u.how) [ how.Selected tag ↦ record { element = u.element; named = tag } ∷ [] | how.Upper ↦ [] | how.Architecture ↦ [] | how.Item tag ↦ [] | how.Made n ↦ [] ]

abbrev pub as_item_step : TagNaming → StepOf
as_item_step n = item_step n.element n.named

abbrev pub as_select_step : TagNaming → StepOf
as_select_step n = select_step n.element n.named

abbrev pub is_seen : List TagNaming → TagNaming → Bool
is_seen seen n = list_any (naming_eq n) seen

-- the firings by number; before each stand the selections that none before it used
abbrev pub firing_steps : List TagNaming → List FiringOf → List StepOf
firing_steps seen [] = []
firing_steps seen (f ∷ firings) =
    let new = filter (λ n. not (is_seen seen n)) (namings_in_order (flat_map selection_of f.used)) in
    map as_select_step new ++ (fire_step f ∷ firing_steps (seen ++ new) firings)

-- the explanation of these firings, with what came of it
abbrev pub chain_of : List FiringOf → List ℕ → List Wish → ChainOf
chain_of firings roots results =
    let explained = flat_map (firing_of firings) (explaining firings roots) in
    let uses = flat_map (λ f. f.used) explained in
    record {
      grounds = by_tag (flat_map upper_of uses);
      steps = map architecture_step (by_tag (flat_map architecture_of uses)) ++ (map as_item_step (namings_in_order (flat_map item_of uses)) ++ firing_steps [] explained);
      results = results;
    }
