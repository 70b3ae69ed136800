-- What an engine holds of the state that it stands for, part by part, and of the state's history.
use Rattle.std.specs.Prelude.{◌≡◌, ℕ, suc, Bool, true, ◌==◌, List, [], ◌∷◌, ◌++◌, map, flat_map, Option, Some, None}
use Rattle.std.specs.List.{list_any, list_all}
use Rattle.soar_sym.specs.Words.{Texts}
use Rattle.soar_sym.specs.declared.symbol.Triple.{Triple}
use Rattle.defs_match.specs.Element.{Element}
use Rattle.defs_match.specs.Rules.{RuleOf}
use Rattle.defs_soar.specs.declared.goal.Goal.{Goal}
use Rattle.defs_soar.specs.declared.preference.Preference.{Preference}
use Rattle.defs_soar.specs.Agents.{LiveFiring, Queues, Learnt, Counts, Settings, Agent}
use Rattle.defs_soar.specs.Dependencies.{dependency_set}
use Rattle.defs_soar.specs.Explanation.{firing_of, explaining}
use Rattle.defs_soar.specs.History.{RecordedFiring, FiringOf}

-- ---- what an engine holds of the state, part by part
--
-- An engine stands for a state if it holds each part of the state but the history, and the dependency tags and firings that the history gives.

abbrev pub HoldsWords : Texts → Agent → Type 0
HoldsWords words a = words ≡ a.names.words

-- the last number of each letter
abbrev pub HoldsLetters : List ℕ → Agent → Type 0
HoldsLetters letters a = letters ≡ a.names.letters

abbrev pub HoldsElements : List Element → Agent → Type 0
HoldsElements elements a = elements ≡ a.holding.elements

abbrev pub HoldsLastTag : ℕ → Agent → Type 0
HoldsLastTag tag a = tag ≡ a.names.last_tag

abbrev pub HoldsGoals : List Goal → Agent → Type 0
HoldsGoals goals a = goals ≡ a.holding.goals

abbrev pub HoldsRows : List Preference → Agent → Type 0
HoldsRows rows a = rows ≡ a.holding.rows

abbrev pub HoldsInputs : List Triple → Agent → Type 0
HoldsInputs inputs a = inputs ≡ a.holding.inputs

abbrev pub HoldsLive : List LiveFiring → Agent → Type 0
HoldsLive live a = live ≡ a.holding.live

-- changes of the inputs, and random words, that wait
abbrev pub HoldsQueues : Queues → Agent → Type 0
HoldsQueues queues a = queues ≡ a.queues

abbrev pub HoldsRules : List RuleOf → Agent → Type 0
HoldsRules rules a = rules ≡ a.program.rules

abbrev pub HoldsLastRule : ℕ → Agent → Type 0
HoldsLastRule number a = number ≡ a.program.last_rule

-- the explanations of learned rules
abbrev pub HoldsChains : List Learnt → Agent → Type 0
HoldsChains chains a = chains ≡ a.program.chains

-- the last numbers of learned names
abbrev pub HoldsLearnedNumbers : ℕ → ℕ → Agent → Type 0
HoldsLearnedNumbers chunks justifications a = (chunks ≡ a.program.chunks) × (justifications ≡ a.program.justifications)

abbrev pub HoldsCounts : Counts → Agent → Type 0
HoldsCounts counts a = counts ≡ a.counts

abbrev pub HoldsSettings : Settings → Agent → Type 0
HoldsSettings settings a = settings ≡ a.settings

-- what the output link showed last
abbrev pub HoldsOutput : List Triple → Agent → Type 0
HoldsOutput output a = output ≡ a.output

abbrev pub HoldsHalt : Bool → Agent → Type 0
HoldsHalt halted a = halted ≡ a.halted

-- ---- dependency tags

-- the tags on which each goal depends, from one of a depth on
abbrev pub dependencies_from : List RecordedFiring → ℕ → List Goal → List (List ℕ)
dependencies_from history depth [] = []
dependencies_from history depth (goal ∷ goals) = dependency_set history goal.id depth ∷ dependencies_from history (suc depth) goals

-- ---- the record of firings

abbrev pub firings_of_history : Agent → List FiringOf
firings_of_history a = map (λ past. past.firing) a.history

abbrev pub makers_of_goal : Goal → List ℕ
makers_of_goal goal = elim (goal.selected) [ Some selection ↦ selection.maker ∷ [] | None ↦ [] ]

-- the live firings, those of rows, and those that a selection rests on
abbrev pub roots_of : Agent → List ℕ
roots_of a = map (λ l. l.number) a.holding.live ++ (map (λ row. row.firing) a.holding.rows ++ flat_map makers_of_goal a.holding.goals)

abbrev pub is_recorded : List FiringOf → ℕ → Bool
is_recorded kept number = list_any (λ f. f.number == number) kept

-- each is the firing of its number in the history
abbrev pub AreFrom : List FiringOf → List FiringOf → Type 0
AreFrom history [] = Unit {0}
AreFrom history (f ∷ kept) = (firing_of history f.number ≡ f ∷ []) × AreFrom history kept

-- firings of the history alone, among them all that the roots reach
pub record IsRecordOf (kept : List FiringOf) (a : Agent) : Type 0 where
  pub from_history : AreFrom (firings_of_history a) kept
  pub reaches_all : list_all (is_recorded kept) (explaining (firings_of_history a) (roots_of a)) ≡ true
