-- An agent stays sound when its table gains words. Crates above cite this file.
use Rattle.std.proofs.Common.{◌≤◌, List, length, length-append, map, refl, ap, subst, arith}
use Rattle.soar_sym.specs.Words.{Texts}
use Rattle.defs_match.specs.Rules.{rule_seen}
use Rattle.defs_soar.specs.Agents.{Agent, Learnt}
use Rattle.defs_soar.specs.History.{FiringOf}
use Rattle.chain_texts.specs.Shown.{shown_symbols}
use Rattle.input_queue.specs.Seen.{triple_queued}
use Rattle.learning_laws.specs.Lawful.{Grown}
use Rattle.learning_laws.specs.LawfulAgents.{EachOnce}
use Rattle.soar_record.specs.Recorded.{recorded}
use Rattle.live_firings.specs.Living.{live_seen}
use Rattle.cycle_phases.specs.Knowing.{AreChainsKnown, AreNamed}
use Rattle.session_laws.proofs.StepLaws.{words_keep}
use Rattle.cycle_phases.proofs.FiringKnown.{are_known_grown, are_rows_grown, are_rules_grown, known_grown}
use Rattle.cycle_phases.specs.Hands.{learned_rule_seen}
use Rattle.cycle_phases.specs.Lawful.{IsOfLawful}
use Rattle.cycle_phases.specs.Seen.{IsSound}
use Rattle.cycle_phases.specs.Stands.{Stands}
use Rattle.cycle_phases.specs.Parts.{Parts as PartsKept}
use Rattle.cycle_phases.proofs.GrownLemmas.{elements_grown, goals_grown, triples_grown}
use Rattle.cycle_phases.proofs.PartsNamedLemmas.{live_grown}
use Rattle.cycle_phases.proofs.StandsLemmas.{remembers_same}
use Rattle.soar_cycle.specs.Agents.{AgentSeen, IsSoundAgent, with_table}

-- ---- what is known stays known

named_grown : (old new : Texts) (firings : List FiringOf) → length old ≤ length new → AreNamed old firings → AreNamed new firings
named_grown old new firings more named f is = known_grown old new f.name more (named f is)

chains_grown : (old new : Texts) (chains : List Learnt) → length old ≤ length new → AreChainsKnown old chains → AreChainsKnown new chains
chains_grown old new chains more known l is = are_known_grown old new (shown_symbols l.chain) more (known l is)

abbrev with_words : PartsKept → Texts → PartsKept
with_words a words = record a { table = words }

pub sound_grown : (a : PartsKept) (words : Texts) → length a.table ≤ length words → IsSound a → IsSound (with_words a words)
sound_grown a words more sound = record {
  goals_some = sound.goals_some;
  goals_few = sound.goals_few;
  goals_known = goals_grown a.table words a.letters a.letters a.goals more (λ letter. omega arith) sound.goals_known;
  depends_fit = sound.depends_fit;
  doubted = sound.doubted;
  element_limit = sound.element_limit;
  row_limit = sound.row_limit;
  few_rows = sound.few_rows;
  rows_in_range = sound.rows_in_range;
  rows_of_firings = sound.rows_of_firings;
  makers_of_firings = sound.makers_of_firings;
  recorded_up_to = sound.recorded_up_to;
  makers_earlier = sound.makers_earlier;
  first_words = omega (arith, more, sound.first_words);
  top_numbered = sound.top_numbered;
  numbered = sound.numbered;
  numbers_given = sound.numbers_given;
  rules_known = are_rules_grown a.table words (map rule_seen a.rules) more sound.rules_known;
  elements_known = elements_grown a.table words a.memory.elements more sound.elements_known;
  rows_known = are_rows_grown a.table words a.prefs.rows more sound.rows_known;
  inputs_known = triples_grown a.table words a.inputs more sound.inputs_known;
  queue_known = triples_grown a.table words (map triple_queued a.queue) more sound.queue_known;
  output_known = triples_grown a.table words a.output more sound.output_known;
  live_known = live_grown a.table words (map live_seen a.live.list) more sound.live_known;
  live_given = sound.live_given;
  kept_up = sound.kept_up;
  kept_ids = sound.kept_ids;
  past_named = named_grown a.table words (recorded a.past) more sound.past_named;
  chains_known = chains_grown a.table words (map learned_rule_seen a.chains) more sound.chains_known;
  chains_kept = sound.chains_kept;
}

-- ---- the state with these words

abbrev agent_with_words : Agent → Texts → Agent
agent_with_words s words = record s { names = record s.names { words = words } }

pub stands_grown : (a : PartsKept) (words : Texts) (s : Agent) → Stands a s → Stands (with_words a words) (agent_with_words s words)
stands_grown a words s h = record {
  words = refl;
  letters = h.letters;
  elements = h.elements;
  last_tag = h.last_tag;
  goals = h.goals;
  rows = h.rows;
  inputs = h.inputs;
  live = h.live;
  queues = h.queues;
  rules = h.rules;
  last_rule = h.last_rule;
  chains = h.chains;
  learned_numbers = h.learned_numbers;
  counts = h.counts;
  settings = h.settings;
  output = h.output;
  halted = h.halted;
  remembers = remembers_same a (with_words a words) s.history refl refl refl refl refl refl refl h.remembers;
}

pub lawful_grown : (a : PartsKept) (words : Texts) → Grown a.table words → EachOnce words → IsOfLawful a → IsOfLawful (with_words a words)
lawful_grown a words grown once was = record {
  agent = agent_with_words was.agent words;
  stands = stands_grown a words was.agent was.stands;
  lawful = words_keep was.agent words was.lawful (subst (λ (first : Texts). Grown first words) was.stands.words grown) once;
}

-- ---- an agent

longer : (first later : Texts) → Grown first later → length first ≤ length later
longer first later grown = omega (arith, ap length grown.1, length-append first grown.0)

-- with words behind those that were there, each text once
pub sound_with_table : (a : AgentSeen) (words : Texts) → Grown a.parts.table words → EachOnce words → IsSoundAgent a → IsSoundAgent (with_table a words)
sound_with_table a words grown once sound = λ standing.
    (sound_grown a.parts words (longer a.parts.table words grown) (sound standing).0, lawful_grown a.parts words grown once (sound standing).1)
