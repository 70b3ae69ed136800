-- What the parts of an agent keep, the states that they stand for, and a step.
use Rattle.std.specs.Prelude.{◌≡◌, ℕ, suc, ◌≤◌, Bool, List, [], ◌∷◌, map, length, Option, Some, None}
use Rattle.soar_sym.specs.Letters.{last_of}
use Rattle.soar_sym.specs.Words.{Texts, IsKnown}
use Rattle.soar_sym.specs.declared.symbol.Sym.{Sym}
use Rattle.defs_match.specs.Rules.{RuleOf, rule_seen}
use Rattle.defs_soar.specs.declared.goal.Goal.{Goal}
use Rattle.defs_soar.specs.declared.goal.Item.{Item}
use Rattle.defs_soar.specs.declared.goal.Selection.{Selection}
use Rattle.defs_soar.specs.Agents.{Agent, LiveFiring}
use Rattle.defs_soar.specs.Goals.{goal_ids}
use Rattle.defs_soar.specs.History.{RecordedFiring}
use Rattle.defs_soar.specs.Laws.{IsIn}
use Rattle.defs_soar.specs.Limits.{first_passed}
use Rattle.defs_soar.specs.Pending.{Work, pending_in}
use Rattle.defs_soar.specs.Phases.{halting}
use Rattle.defs_soar.specs.Resettling.{AgentStep}
use Rattle.learning_laws.specs.LawfulAgents.{IsNumbered}
use Rattle.agent_laws.specs.Dependence.{MakersAreEarlier}
use Rattle.program_laws.specs.Knowing.{AreChainsKnown, AreNamed}
use Rattle.soar_record.specs.Recorded.{recorded}
use Rattle.soar_choose.specs.Rows.{AreInRange}
use Rattle.soar_settle.specs.Known.{AreElementsKnown, AreRulesKnown, AreRowsKnown, AreTriplesKnown}
use Rattle.goal_trimming.specs.Doubted.{AreDoubted}
use Rattle.input_queue.specs.Seen.{triple_queued}
use Rattle.live_firings.specs.Living.{live_seen}
use Rattle.pending_work.specs.Firables.{AreNumbered}
use Rattle.wave_firings.specs.Numbered.{AreOfFirings, AreMakersOfFirings, AreRecordedUpTo}
use Rattle.wave_learning.specs.Hands.{learned_rule_seen}
use Rattle.wave_parts.specs.KeptUp.{IsKeptUp}
use Rattle.wave_parts.specs.Programs.{AreExplained}
use Rattle.wave_parts.specs.Settings.{settings_seen}
use Rattle.wave_parts.specs.Stands.{Stands, counts_of, queues_of}
use Rattle.wave_parts.specs.declared.parts.Parts.{Parts as PartsKept}

-- the state that has these parts and this history
abbrev pub agent_of : PartsKept → List RecordedFiring → Agent
agent_of a history = record {
  names = record { words = a.table; letters = a.letters; last_tag = a.memory.last };
  holding = record { elements = a.memory.elements; goals = a.goals; rows = a.prefs.rows; inputs = a.inputs; live = map live_seen a.live.list };
  queues = queues_of a;
  program = record { rules = map rule_seen a.rules; last_rule = a.last_rule; chains = map learned_rule_seen a.chains; chunks = a.chunks; justifications = a.justifications };
  counts = counts_of a;
  settings = settings_seen a.settings;
  history = history;
  output = a.output;
  halted = a.halted;
}

-- the work that is pending
abbrev pub pending_of : Bool → PartsKept → Work
pending_of proposing a = pending_in proposing (map rule_seen a.rules) a.memory.elements a.goals (map live_seen a.live.list)

-- ---- what the parts keep

-- the selected operator is a symbol of the table
abbrev pub IsSelectionKnown : Texts → Option Selection → Type 0
IsSelectionKnown words None = Unit {0}
IsSelectionKnown words (Some selection) = IsKnown words selection.operator

-- the letters gave the goal's identifier, and its items and its selected operator are symbols of the table
pub record IsGoalKnown (words : Texts) (letters : List ℕ) (g : Goal) : Type 0 where
  pub id_known : IsKnown words g.id
  pub id_numbered : IsNumbered letters g.id
  pub items_known : (item : Item) → IsIn item g.items → IsKnown words item.value
  pub selection_known : IsSelectionKnown words g.selected

abbrev pub AreGoalsKnown : Texts → List ℕ → List Goal → Type 0
AreGoalsKnown words letters goals = (g : Goal) → IsIn g goals → IsGoalKnown words letters g

-- the numbers of rules are at most the last that was given
abbrev pub AreUpTo : ℕ → List RuleOf → Type 0
AreUpTo last [] = Unit {0}
AreUpTo last (rule ∷ rules) = (rule.number ≤ last) × AreUpTo last rules

-- the name of each live firing is a symbol of the table
abbrev pub AreLiveKnown : Texts → List LiveFiring → Type 0
AreLiveKnown words [] = Unit {0}
AreLiveKnown words (l ∷ live) = IsKnown words l.name × AreLiveKnown words live

-- the number of the rule of each live firing was given, so that no rule that is learned later has it
abbrev pub AreLiveGiven : ℕ → List LiveFiring → Type 0
AreLiveGiven last live = (l : LiveFiring) → IsIn l live → l.instance.rule ≤ last

-- goals that the letters gave, their tables and which of their tags may be of elements that are gone, the limits, rules in order of number, rows as decisions ask them, firings numbered up to the last, each of which used what earlier ones
-- made, live firings of rules that were given, words that the table has, those of the architecture, of firings and of explanations among them, and what is kept of
-- the state that was settled last, which had the goals of these identifiers
pub record IsSoundFor (ids : List Sym) (a : PartsKept) : Type 0 where
  pub goals_some : 1 ≤ length a.goals
  pub goals_few : length a.goals ≤ 100
  pub goals_known : AreGoalsKnown a.table a.letters a.goals
  pub depends_fit : suc (length a.depends) ≡ length a.goals
  pub doubted : AreDoubted a.depends a.memory.elements a.kept.triples a.doubted
  pub element_limit : a.memory.limit ≡ 4000000
  pub row_limit : a.prefs.limit ≡ 1000000
  pub few_rows : length a.prefs.rows ≤ a.prefs.limit
  pub rows_in_range : AreInRange a.prefs.rows
  pub rows_of_firings : AreOfFirings a.firings a.prefs.rows
  pub makers_of_firings : AreMakersOfFirings a.firings a.goals
  pub recorded_up_to : AreRecordedUpTo a.firings (recorded a.past)
  pub makers_earlier : MakersAreEarlier (recorded a.past)
  pub first_words : 24 ≤ length a.table
  pub top_numbered : 1 ≤ last_of a.letters 83
  pub numbered : AreNumbered (map rule_seen a.rules)
  pub numbers_given : AreUpTo a.last_rule (map rule_seen a.rules)
  pub rules_known : AreRulesKnown a.table (map rule_seen a.rules)
  pub elements_known : AreElementsKnown a.table a.memory.elements
  pub rows_known : AreRowsKnown a.table a.prefs.rows
  pub inputs_known : AreTriplesKnown a.table a.inputs
  pub queue_known : AreTriplesKnown a.table (map triple_queued a.queue)
  pub output_known : AreTriplesKnown a.table a.output
  pub live_known : AreLiveKnown a.table (map live_seen a.live.list)
  pub live_given : AreLiveGiven a.last_rule (map live_seen a.live.list)
  pub past_named : AreNamed a.table (recorded a.past)
  pub chains_known : AreChainsKnown a.table (map learned_rule_seen a.chains)
  pub chains_kept : AreExplained (map rule_seen a.rules) (map learned_rule_seen a.chains)
  pub kept_up : IsKeptUp a.prefs a.inputs a.changed a.kept a.memory.elements
  pub kept_ids : a.kept.ids ≡ ids

-- where it had the goals that there are
abbrev pub IsSound : PartsKept → Type 0
IsSound a = IsSoundFor (goal_ids a.goals) a

-- where goals may have come and gone since
abbrev pub IsToSettle : PartsKept → Type 0
IsToSettle a = IsSoundFor a.kept.ids a

-- ---- a step

-- the parts stand for the state after a step, and none of what the step drew is beyond its limit
pub record Stepped (new : PartsKept) (s : AgentStep) : Type 0 where
  pub stands : Stands new (halting s)
  pub within : first_passed s.totals ≡ None
