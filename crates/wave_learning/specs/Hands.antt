-- A wave at hand in the code and in the definitions, and what learning makes of it.
use Rattle.std.specs.Prelude.{◌≡◌, ℕ, Bool, List, map, Some, None, Result, Ok, Err}
use Rattle.soar_sym.specs.Words.{Texts}
use Rattle.defs_match.specs.Rules.{rule_seen}
use Rattle.defs_soar.specs.Agents.{Agent, Learnt, Program as ProgramOf}
use Rattle.defs_soar.specs.History.{FiringOf, chain_seen}
use Rattle.defs_soar.specs.Learning.{with_learning}
use Rattle.defs_soar.specs.Limits.{first_passed}
use Rattle.defs_soar.specs.WaveAtHand.{Wave, all_fresh}
use Rattle.defs_soar.specs.WaveFirings.{before_wave}
use Rattle.firing_records.specs.Recorded.{Standing}
use Rattle.learning_laws.specs.LawfulAgents.{IsLawfulAgent, firings_of_agent}
use Rattle.learning_laws.specs.LawfulWaves.{IsLawfulWave}
use Rattle.soar_settle.specs.declared.stop.Stop.{Stop}
use Rattle.soar_settle.specs.declared.stop.Stop.TheVariants as stop
use Rattle.wave_entries.specs.Entries.{entry_seen}
use Rattle.wave_learning.specs.declared.hand.AtHand.{AtHand}
use Rattle.wave_learning.specs.declared.program.LearnedRule.{LearnedRule}
use Rattle.wave_learning.specs.declared.program.Program.{Program}

-- ---- rules

abbrev pub learned_rule_seen : LearnedRule → Learnt
learned_rule_seen l = record { rule = l.rule; chain = chain_seen l.chain }

abbrev pub program_seen : Program → ProgramOf
program_seen p = record { rules = map rule_seen p.rules; last_rule = p.last_rule; chains = map learned_rule_seen p.chains; chunks = p.chunks; justifications = p.justifications }

-- ---- the wave at hand

-- the state before the wave
pub record IsBefore (s : Standing) (past : List FiringOf) (on local_negations : Bool) (a : Agent) : Type 0 where
  pub goals_are : a.holding.goals ≡ s.goals
  pub rows_are : a.holding.rows ≡ s.rows
  pub elements_are : a.holding.elements ≡ s.elements
  pub past_is : firings_of_agent a ≡ past
  pub on_is : a.settings.learning ≡ on
  pub local_is : a.settings.local_negations ≡ local_negations

-- the wave as it came out so far, with nothing beyond a limit
pub record IsAtHand (words : Texts) (hand : AtHand) (w : Wave) : Type 0 where
  pub words_are : w.names.words ≡ words
  pub program_is : w.program ≡ program_seen hand.program
  pub last_is : w.last_firing ≡ hand.last
  pub learned_is : w.learned ≡ hand.learned
  pub entries_are : w.entries ≡ map entry_seen hand.entries
  pub within : first_passed w.totals ≡ None

-- learning begins with all firings of the wave
abbrev pub numbers_of_entries : Wave → List ℕ
numbers_of_entries w = map (λ x. x.firing.number) (all_fresh w.entries)

-- there is a lawful state, and a lawful wave in it, that this stands for
pub record IsToLearn (words : Texts) (s : Standing) (past : List FiringOf) (on local_negations : Bool) (hand : AtHand) : Type 0 where
  pub agent : Agent
  pub wave : Wave
  pub lawful : IsLawfulAgent agent
  pub lawful_wave : IsLawfulWave agent wave
  pub before : IsBefore s past on local_negations agent
  pub at_hand : IsAtHand words hand wave
  pub next : wave.next ≡ numbers_of_entries wave

-- each answer, exactly where it comes: what learning leaves, or the limit; only want of memory is free
abbrev pub LearnsFrom : Agent → Wave → Texts → Result AtHand Stop → Type 0
LearnsFrom a w words (Ok hand) = IsAtHand words hand (with_learning (before_wave a) w)
LearnsFrom a w words (Err (stop.Limit which)) = first_passed (with_learning (before_wave a) w).totals ≡ Some which
LearnsFrom a w words (Err stop.NoMemory) = Unit {0}

-- for each lawful state and wave that this stands for
abbrev pub LearnsAll : Texts → Standing → List FiringOf → Bool → Bool → AtHand → Texts → Result AtHand Stop → Type 0
LearnsAll words s past on local_negations hand new_words result =
    (a : Agent) (w : Wave) → IsLawfulAgent a → IsLawfulWave a w → IsBefore s past on local_negations a → IsAtHand words hand w → w.next ≡ numbers_of_entries w
    → LearnsFrom a w new_words result
