-- Replay: whether an explanation goes through again in a working memory, step by step (after Soar's explanations; the test is this engine's).
use Rattle.std.specs.Prelude.{◌≡◌, ℕ, Bool, true, false, ◌&&◌, ◌||◌, List, [], ◌∷◌, ◌++◌, map, Option, Some, None, option_and_then, flat_map}
use Rattle.std.specs.List.{list_any, list_all}
use Rattle.soar_sym.specs.Equality.{symbol_eq, mark_eq}
use Rattle.soar_sym.specs.Words.{Texts}
use Rattle.soar_sym.specs.declared.symbol.Sym.{Sym}
use Rattle.soar_sym.specs.declared.symbol.Sym.TheVariants.{Ident}
use Rattle.soar_rule.specs.Conditions.{Condition, positive, negated, conjunctive, Conditions, no_more, condition_and}
use Rattle.soar_wm.specs.declared.element.Element.{Element}
use Rattle.soar_wm.specs.WorkingMemory.{triple_of, has_triple, has_tag}
use Rattle.defs_match.specs.Rows.{takes_marks, bindings_at, extend, rows_from}
use Rattle.defs_match.specs.Testing.{Bindings}
use Rattle.defs_soar.specs.declared.goal.Goal.{Goal}
use Rattle.defs_soar.specs.declared.goal.Impasse.TheVariants as impasse
use Rattle.defs_soar.specs.declared.preference.PrefKind.TheVariants as kind
use Rattle.defs_soar.specs.declared.preference.Wish.{Wish}
use Rattle.defs_soar.specs.Architecture.{operator_word}
use Rattle.defs_soar.specs.Dependencies.{is_new_in, symbols_of_wish}
use Rattle.defs_soar.specs.Firing.{made_by}
use Rattle.defs_soar.specs.Laws.{IsIn}
use Rattle.defs_soar.specs.History.{FiringOf, StepOf, architecture_step, item_step, select_step, fire_step, ChainOf}
use Rattle.defs_soar.specs.Negations.{bindings_in, negations_of}
use Rattle.defs_soar.specs.Sorted.{has_symbol}
use Rattle.defs_soar.specs.Uses.{elements_matched}
use Rattle.defs_soar.specs.Values.{is_kind}

-- ---- what is known

-- the operator of a goal: its element is marked where a preference alone holds it
abbrev pub is_operator_of_goal : Element → Bool
is_operator_of_goal e = symbol_eq e.attr operator_word && e.of_state

-- an acceptable or require wish of the element's triple; it has it marked exactly where it is for the operator of a goal
abbrev pub wish_makes : Element → Wish → Bool
wish_makes e w =
    (is_kind w.kind kind.Accept || is_kind w.kind kind.Require)
    && (symbol_eq w.id e.id && (symbol_eq w.attr e.attr && (symbol_eq w.value e.value && mark_eq e.accept (is_operator_of_goal e))))

-- the triple of an element is known by an element or by a wish
abbrev pub is_known : List Element → List Wish → Element → Bool
is_known rows made e = list_any (has_triple (triple_of e)) rows || list_any (wish_makes e) made

-- ---- firings

-- the elements of a firing's instance, in the order of its conditions
abbrev pub elements_of_firing : FiringOf → List Element
elements_of_firing f = elements_matched (map (λ u. u.element) f.used) f.instance.tags

abbrev pub if_taken : Bool → Option Bindings → Option Bindings
if_taken true bs = bs
if_taken false bs = None

-- the bindings, where the positive conditions outside negations pass on these elements, one each
abbrev pub passed_on : Conditions → List Element → Bindings → Option Bindings
passed_on no_more [] bs = Some bs
passed_on no_more (e ∷ elements) bs = None
passed_on (condition_and (positive p) cs) [] bs = None
passed_on (condition_and (positive p) cs) (e ∷ elements) bs = option_and_then (passed_on cs elements) (if_taken (takes_marks p e) (bindings_at p e bs))
passed_on (condition_and (negated p) cs) elements bs = passed_on cs elements bs
passed_on (condition_and (conjunctive inside) cs) elements bs = passed_on cs elements bs

abbrev pub is_there : {A : Type 0} → Option A → Bool
is_there (Some a) = true
is_there None = false

abbrev pub is_none_of : {A : Type 0} → List A → Bool
is_none_of [] = true
is_none_of (x ∷ xs) = false

-- no element of working memory blocks the negation from these bindings
abbrev pub is_unblocked : List Element → Bindings → Condition → Bool
is_unblocked w bs (positive p) = true
is_unblocked w bs (negated p) = is_none_of (extend p w (record { tags = []; bindings = bs }))
is_unblocked w bs (conjunctive inside) = is_none_of (rows_from inside w (record { tags = []; bindings = bs } ∷ []))

-- ---- steps

-- the test of a step's positive part, where these elements are known before it, and these wishes were made before it
abbrev pub replay_step : StepOf → List Element → List Wish → Bool
replay_step (architecture_step e) rows made = true
replay_step (item_step e tag) rows made = list_any (has_tag tag) rows
replay_step (select_step e tag) rows made = is_known rows made (record e { accept = true })
replay_step (fire_step f) rows made =
    is_there (passed_on f.rule.production.conditions (elements_of_firing f) []) && list_all (is_known rows made) (elements_of_firing f)

-- the elements and the wishes that a step makes known
abbrev pub shown_by : StepOf → List Element
shown_by (architecture_step e) = e ∷ []
shown_by (item_step e tag) = e ∷ []
shown_by (select_step e tag) = e ∷ []
shown_by (fire_step f) = []

abbrev pub wished_by : StepOf → List Wish
wished_by (architecture_step e) = []
wished_by (item_step e tag) = []
wished_by (select_step e tag) = []
wished_by (fire_step f) = f.made

-- ---- wishes up to the numbers of new identifiers

abbrev pub referent_with : (Sym → Sym) → Option Sym → Option Sym
referent_with to None = None
referent_with to (Some s) = Some (to s)

abbrev pub wish_with : (Sym → Sym) → Wish → Wish
wish_with to w = record { id = to w.id; attr = to w.attr; value = to w.value; kind = w.kind; referent = referent_with to w.referent }

-- an identifier of the same letter
abbrev pub HasLetterOf : Sym → Sym → Type 0
HasLetterOf (Ident letter number) t = (n : ℕ) × (t ≡ Ident letter n)
HasLetterOf s t = t ≡ s

abbrev pub Occurs : Sym → List Wish → Type 0
Occurs s wishes = has_symbol (flat_map symbols_of_wish wishes) s ≡ true

-- the second list is the first with other numbers for the identifiers that are free, different ones for different ones
pub record AreAlike (free : Sym → Bool) (wishes others : List Wish) : Type 0 where
  pub to : Sym → Sym
  pub stays : (s : Sym) → free s ≡ false → to s ≡ s
  pub letter : (s : Sym) → free s ≡ true → HasLetterOf s (to s)
  pub apart : (s t : Sym) → Occurs s wishes → Occurs t wishes → to s ≡ to t → s ≡ t
  pub same : others ≡ map (wish_with to) wishes

-- ---- a firing's wishes once more

-- the goals of these identifiers; nothing else of them matters to a firing
abbrev pub as_goal : Sym → Goal
as_goal s = record { id = s; impasse = impasse.Top; items = []; selected = None }

-- what the rule makes from the firing's bindings, with the goals that it records
abbrev pub made_again : Texts → List ℕ → FiringOf → List Wish
made_again words letters f =
    (made_by (map as_goal f.goals) f.rule.production.actions
    (record { bindings = bindings_in f; words = words; letters = letters; vars = f.rule.production.vars; totals = [] })).wishes

-- from this table and some numbers of letters, as they were at the firing
pub record MakesAgain (words : Texts) (f : FiringOf) : Type 0 where
  pub letters : List ℕ
  pub alike : AreAlike (is_new_in f) f.made (made_again words letters f)

-- ---- the whole

-- a firing's negations and wishes
pub record FiresAgain (words : Texts) (w : List Element) (f : FiringOf) : Type 0 where
  pub binds : passed_on f.rule.production.conditions (elements_of_firing f) [] ≡ Some (bindings_in f)
  pub unblocked : list_all (is_unblocked w (bindings_in f)) (negations_of f) ≡ true
  pub makes : MakesAgain words f

abbrev pub StepGoes : Texts → List Element → StepOf → Type 0
StepGoes words w (fire_step f) = FiresAgain words w f
StepGoes words w (architecture_step e) = Unit {0}
StepGoes words w (item_step e tag) = Unit {0}
StepGoes words w (select_step e tag) = Unit {0}

-- each step is good where these elements and wishes are known before the first
abbrev pub StepsGo : Texts → List Element → List Element → List Wish → List StepOf → Type 0
StepsGo words w rows made [] = Unit {0}
StepsGo words w rows made (s ∷ steps) =
    (replay_step s rows made ≡ true) × StepGoes words w s × StepsGo words w (rows ++ shown_by s) (made ++ wished_by s) steps

abbrev pub wishes_of_steps : List StepOf → List Wish
wishes_of_steps [] = []
wishes_of_steps (s ∷ steps) = wished_by s ++ wishes_of_steps steps

abbrev pub same_flag : Element → Element → Bool
same_flag e f = has_triple (triple_of e) f && mark_eq e.of_state f.of_state

-- The explanation goes through in this working memory: it has the grounds, each step is good, and the results are made.
pub record Replays (words : Texts) (c : ChainOf) (w : List Element) : Type 0 where
  pub grounds : list_all (λ e. list_any (same_flag e) w) c.grounds ≡ true
  pub steps : StepsGo words w c.grounds [] c.steps
  pub results : (x : Wish) → IsIn x c.results → IsIn x (wishes_of_steps c.steps)
