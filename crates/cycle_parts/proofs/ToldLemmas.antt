-- Parts of which other live firings were told stand for the same states.
use Rattle.std.proofs.Common.{◌≡◌, ◌∙◌, List, Result, refl, sym, ap}
use Rattle.soar_wm.specs.declared.element.Element.{Element}
use Rattle.defs_match.specs.Conflict.{conflict}
use Rattle.defs_match.specs.Rules.{RuleOf}
use Rattle.defs_soar.specs.Agents.{Agent}
use Rattle.live_firings.specs.Living.{Firings}
use Rattle.live_firings.specs.declared.live.Live.{Live}
use Rattle.outstanding.specs.Outstanding.{unfired, unmatched}
use Rattle.outstanding.specs.declared.answer.Open.{Open}
use Rattle.pending_work.specs.Open.{IsOpen}
use Rattle.pending_work.specs.declared.work.Work.{Work}
use Rattle.soar_settle.specs.declared.stop.Stop.{Stop}
use Rattle.decision_parts.specs.Carrying.{CarriesOut}
use Rattle.decision_parts.specs.Lawful.{IsOfLawful}
use Rattle.decision_parts.specs.Seen.{IsSound}
use Rattle.decision_parts.specs.Stands.{Stands}
use Rattle.decision_parts.specs.Done.{Done}
use Rattle.decision_parts.specs.Parts.{Parts as PartsKept}
use Rattle.decision_parts.proofs.StandsLemmas.{remembers_same}
use Rattle.cycle_parts.specs.Waving.{with_told}

-- where the live firings are the same, only what was told is another
pub told_alone : (a : PartsKept) (live : Firings) → live.list ≡ a.live.list → record a { live = live } ≡ with_told a live.told
told_alone a live same = ap (λ (list : List Live). record a { live = record { list = list; told = live.told } }) same

pub told_stands : (a : PartsKept) (told : List Live) (s : Agent) → Stands a s → Stands (with_told a told) s
told_stands a told s h = record {
  words = h.words;
  letters = h.letters;
  elements = h.elements;
  last_tag = h.last_tag;
  goals = h.goals;
  rows = h.rows;
  inputs = h.inputs;
  live = h.live;
  queues = h.queues;
  rules = h.rules;
  last_rule = h.last_rule;
  chains = h.chains;
  learned_numbers = h.learned_numbers;
  counts = h.counts;
  settings = h.settings;
  output = h.output;
  halted = h.halted;
  remembers = remembers_same a (with_told a told) s.history refl refl refl refl refl refl refl h.remembers;
}

pub told_lawful : (a : PartsKept) (told : List Live) → IsOfLawful a → IsOfLawful (with_told a told)
told_lawful a told h = record { agent = h.agent; stands = told_stands a told h.agent h.stands; lawful = h.lawful }

pub told_sound : (a : PartsKept) (told : List Live) → IsSound a → IsSound (with_told a told)
told_sound a told sound = record {
  goals_some = sound.goals_some;
  goals_few = sound.goals_few;
  goals_known = sound.goals_known;
  depends_fit = sound.depends_fit;
  doubted = sound.doubted;
  element_limit = sound.element_limit;
  row_limit = sound.row_limit;
  few_rows = sound.few_rows;
  rows_in_range = sound.rows_in_range;
  rows_of_firings = sound.rows_of_firings;
  makers_of_firings = sound.makers_of_firings;
  recorded_up_to = sound.recorded_up_to;
  makers_earlier = sound.makers_earlier;
  first_words = sound.first_words;
  top_numbered = sound.top_numbered;
  numbered = sound.numbered;
  numbers_given = sound.numbers_given;
  rules_known = sound.rules_known;
  elements_known = sound.elements_known;
  rows_known = sound.rows_known;
  inputs_known = sound.inputs_known;
  queue_known = sound.queue_known;
  output_known = sound.output_known;
  live_known = sound.live_known;
  live_given = sound.live_given;
  past_named = sound.past_named;
  chains_known = sound.chains_known;
  chains_kept = sound.chains_kept;
  kept_up = sound.kept_up;
  kept_ids = sound.kept_ids;
}

-- what is carried out goes by the states alone
pub told_carries : (a : PartsKept) (told : List Live) (new : PartsKept) (work : Work) (result : Result Done Stop) → CarriesOut (with_told a told) new work result → CarriesOut a new work result
told_carries a told new work result carries = λ s stands w pend. carries s (told_stands a told s stands) w pend

-- ---- what is outstanding

-- by what the matcher holds it is so by what the parts hold
pub open_in : (rules held : List RuleOf) (elements there : List Element) (was live : List Live) (left : Open) → rules ≡ held → elements ≡ there → live ≡ was
    → left.unfired ≡ unfired (conflict rules elements) was → left.unmatched ≡ unmatched (conflict rules elements) was → IsOpen (conflict held there) live left
open_in rules held elements there was live left rules_are elements_are same unfired_are unmatched_are = record {
  unfired_are = unfired_are ∙ (λ k. unfired (conflict (rules_are k) (elements_are k)) (sym same k));
  unmatched_are = unmatched_are ∙ (λ k. unmatched (conflict (rules_are k) (elements_are k)) (sym same k));
}
