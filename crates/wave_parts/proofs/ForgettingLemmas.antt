-- The parts stand for the same states, and are sound, with the recorded firings alone that explanations need.
use Rattle.std.proofs.Common.{◌≡◌, List, ℕ, Ok, subst, sym}
use Rattle.defs_soar.specs.declared.firing.Firing.{Firing}
use Rattle.defs_soar.specs.Agents.{Agent}
use Rattle.defs_soar.specs.Explanation.{explaining}
use Rattle.defs_soar.specs.History.{FiringOf}
use Rattle.defs_soar.specs.Laws.{IsIn}
use Rattle.defs_soar.specs.Learning.{with_learning}
use Rattle.defs_soar.specs.Phases.{halting}
use Rattle.defs_soar.specs.Waves.{wave_of}
use Rattle.learning_laws.proofs.Lists.{filter_within}
use Rattle.agent_laws.specs.Dependence.{firings_in}
use Rattle.agent_laws.specs.Records.{IsPartOf}
use Rattle.record_laws.specs.Closed.{HasMakers}
use Rattle.soar_record.specs.Recorded.{is_of, reached_by, recorded}
use Rattle.pending_work.specs.declared.work.Work.{Work}
use Rattle.wave_parts.specs.Carrying.{CarriesOut}
use Rattle.wave_parts.specs.Forgetting.{with_past}
use Rattle.wave_parts.specs.Lawful.{IsOfLawful}
use Rattle.wave_parts.specs.Remembers.{roots_in}
use Rattle.wave_parts.specs.Seen.{IsSound}
use Rattle.wave_parts.specs.Stands.{Stands}
use Rattle.wave_parts.specs.Teaching.{AreRetaught}
use Rattle.wave_parts.specs.declared.carrying.Done.{Done}
use Rattle.wave_parts.specs.declared.parts.Parts.{Parts as PartsKept}

pub stands_left : (a : PartsKept) (past : List Firing) (roots : List ℕ) → roots ≡ roots_in a
    → ((history : List FiringOf) → IsPartOf (recorded a.past) history roots → IsPartOf (recorded past) history roots)
    → (HasMakers (recorded a.past) → HasMakers (recorded past)) → (s : Agent) → Stands a s → Stands (with_past a past) s
stands_left a past roots are part makers s h = record {
  words = h.words;
  letters = h.letters;
  elements = h.elements;
  last_tag = h.last_tag;
  goals = h.goals;
  rows = h.rows;
  inputs = h.inputs;
  live = h.live;
  queues = h.queues;
  rules = h.rules;
  last_rule = h.last_rule;
  chains = h.chains;
  learned_numbers = h.learned_numbers;
  counts = h.counts;
  settings = h.settings;
  output = h.output;
  halted = h.halted;
  remembers = record {
    is_record = subst (IsPartOf (recorded past) firings) are (part firings (subst (IsPartOf (recorded a.past) firings) (sym are) h.remembers.is_record));
    makers_kept = makers h.remembers.makers_kept;
    numbers_given = h.remembers.numbers_given;
    makers_earlier = h.remembers.makers_earlier;
    depends_are = h.remembers.depends_are;
    goals_numbered = h.remembers.goals_numbered;
  };
}
  where
    firings : List FiringOf
    firings = firings_in s.history

-- what is left was there
was_there : (a : PartsKept) (past : List Firing) (roots : List ℕ) → recorded past ≡ reached_by roots (recorded a.past) → (f : FiringOf) → IsIn f (recorded past) → IsIn f (recorded a.past)
was_there a past roots left f is = (filter_within (is_of (explaining (recorded a.past) roots)) (recorded a.past) f (subst (IsIn f) left is)).0

pub sound_left : (a : PartsKept) (past : List Firing) (roots : List ℕ) → recorded past ≡ reached_by roots (recorded a.past) → IsSound a → IsSound (with_past a past)
sound_left a past roots left h = record {
  goals_some = h.goals_some;
  goals_few = h.goals_few;
  goals_known = h.goals_known;
  depends_fit = h.depends_fit;
  doubted = h.doubted;
  element_limit = h.element_limit;
  row_limit = h.row_limit;
  few_rows = h.few_rows;
  rows_in_range = h.rows_in_range;
  rows_of_firings = h.rows_of_firings;
  makers_of_firings = h.makers_of_firings;
  recorded_up_to = λ f is. h.recorded_up_to f (was_there a past roots left f is);
  makers_earlier = λ f is. h.makers_earlier f (was_there a past roots left f is);
  first_words = h.first_words;
  top_numbered = h.top_numbered;
  numbered = h.numbered;
  numbers_given = h.numbers_given;
  rules_known = h.rules_known;
  elements_known = h.elements_known;
  rows_known = h.rows_known;
  inputs_known = h.inputs_known;
  queue_known = h.queue_known;
  output_known = h.output_known;
  live_known = h.live_known;
  live_given = h.live_given;
  past_named = λ f is. h.past_named f (was_there a past roots left f is);
  chains_known = h.chains_known;
  chains_kept = h.chains_kept;
  kept_up = h.kept_up;
  kept_ids = h.kept_ids;
}

-- ---- a wave, and then a shorter record

pub carries_out_left : (old mid new : PartsKept) (work : Work) (done : Done) → ((s : Agent) → Stands mid s → Stands new s) → CarriesOut old mid work (Ok done) → CarriesOut old new work (Ok done)
carries_out_left old mid new work done stands h s st w pend =
    let c = h s st w pend in
    record {
      stepped = record { stands = stands (halting (wave_of with_learning s w)) c.stepped.stands; within = c.stepped.within };
      halted_is = c.halted_is;
      events_are = c.events_are;
    }

pub lawful_left : (mid new : PartsKept) → ((s : Agent) → Stands mid s → Stands new s) → IsOfLawful mid → IsOfLawful new
lawful_left mid new stands h = record { agent = h.agent; stands = stands h.agent h.stands; lawful = h.lawful }

pub retaught_left : (old mid new : PartsKept) (past : List Firing) (spent : List ℕ) → new ≡ with_past mid past → AreRetaught old mid spent → AreRetaught old new spent
retaught_left old mid new past spent same h = subst (λ (a : PartsKept). AreRetaught old a spent) (sym same) (record {
  spent_are = h.spent_are;
  taught = h.taught;
  rules_are = h.rules_are;
  numbers = h.numbers;
  matchable = h.matchable;
})
