-- What carrying a wave out answers, where it stops and where it is done.
use Rattle.std.proofs.Common.{◌≡◌, ℕ, ◌+◌, ◌≤◌, ◌∙◌, List, map, length, Result, Err, Some, None, sym, ap, subst, arith}
use Rattle.std.proofs.lemmas.List.{length-map}
use Rattle.soar_wm.specs.declared.element.Element.{Element}
use Rattle.defs_match.specs.Rules.{RuleOf, rule_seen}
use Rattle.defs_soar.specs.declared.preference.Preference.{Preference}
use Rattle.defs_soar.specs.Agents.{Agent}
use Rattle.defs_soar.specs.History.{RecordedFiring}
use Rattle.defs_soar.specs.Learning.{with_learning}
use Rattle.defs_soar.specs.Limits.{first_passed}
use Rattle.defs_soar.specs.Pending.{Work as WorkOf}
use Rattle.defs_soar.specs.Preferences.{without_firings, with_rows}
use Rattle.defs_soar.specs.Resettling.{AgentStep}
use Rattle.defs_soar.specs.Trimming.{numbers_of}
use Rattle.defs_soar.specs.Waves.{wave_of}
use Rattle.live_firings.specs.Living.{live_seen}
use Rattle.soar_prefs.specs.Memory.{PreferenceMemory}
use Rattle.pending_work.specs.Firables.{IsPending}
use Rattle.pending_work.specs.declared.work.Work.{Work}
use Rattle.soar_settle.specs.Renewal.{Renews, RenewsRows}
use Rattle.soar_settle.specs.declared.stop.Stop.{Stop}
use Rattle.soar_settle.specs.declared.stop.Stop.TheVariants as stop
use Rattle.wave_parts.specs.Carrying.{Carries, CarriesOut}
use Rattle.wave_parts.specs.Changing.{StopsAs}
use Rattle.wave_parts.specs.Counting.{Counts}
use Rattle.wave_parts.specs.Remembers.{Remembers}
use Rattle.wave_parts.specs.Seen.{agent_of, IsSound}
use Rattle.wave_parts.specs.WaveParts.{ended_in, rows_made_in, rows_in_all}
use Rattle.wave_parts.specs.Working.{Works}
use Rattle.wave_parts.specs.declared.carrying.Done.{Done}
use Rattle.wave_parts.specs.declared.parts.Parts.{Parts as PartsKept}
use Rattle.wave_parts.proofs.CarryLemmas.{Counted, stops_at_waves, stops_at_retractions, stops_in_work, stops_at_rows}
use Rattle.wave_parts.proofs.StandsLemmas.{of_each_state}

-- ---- an answer that is no result

pub carries_not : (new : PartsKept) (s : AgentStep) (r : Result Done Stop) (why : Stop) → r ≡ Err why → StopsAs s why → Carries new s r
carries_not new s r why is stops = subst (Carries new s) (sym is) (by why stops)
  where
    by : (why : Stop) → StopsAs s why → Carries new s (Err why)
    by (stop.Limit limit) h = h
    by stop.NoMemory h = tt

-- what carrying out does with each history it does in each state that the agent stands for
pub of_each_wave : (old new : PartsKept) (work : Work) (r : Result Done Stop)
    → ((history : List RecordedFiring) → Remembers old history → (w : WorkOf) → IsPending (map rule_seen old.rules) old.memory.elements work w → Carries new (wave_of with_learning (agent_of old history) w) r)
    → CarriesOut old new work r
of_each_wave old new work r =
    of_each_state (λ (s : Agent). (w : WorkOf) → IsPending (map rule_seen old.rules) old.memory.elements work w → Carries new (wave_of with_learning s w) r) old

-- ---- counts

pub waves_stop : (old : PartsKept) (history : List RecordedFiring) (w : WorkOf) (why : Stop) → IsSound old → Counts (old.waves + 1) (Err why) → StopsAs (wave_of with_learning (agent_of old history) w) why
waves_stop old history w (stop.Limit limit) sound c = stops_at_waves (agent_of old history) w (omega (arith, c.1)) ∙ ap Some (sym c.0)
waves_stop old history w stop.NoMemory sound c = tt

pub retracted_length : (rules : List RuleOf) (elements : List Element) (work : Work) (w : WorkOf) → IsPending rules elements work w → length work.retracted ≡ length w.retracted
retracted_length rules elements work w pend = sym (length-map work.retracted live_seen) ∙ ap length pend.retracted_are

-- the numbers of the firings that are retracted
pub numbers_are : (rules : List RuleOf) (elements : List Element) (work : Work) (w : WorkOf) (gone : List ℕ) → IsPending rules elements work w → gone ≡ numbers_of (map live_seen work.retracted)
    → gone ≡ numbers_of w.retracted
numbers_are rules elements work w gone pend is = is ∙ ap numbers_of pend.retracted_are

pub retractions_stop : (old : PartsKept) (history : List RecordedFiring) (work : Work) (w : WorkOf) (n : ℕ) (why : Stop) → IsSound old → IsPending (map rule_seen old.rules) old.memory.elements work w
    → old.waves + 1 ≤ 18446744073709551615 → n ≡ length work.retracted → Counts (old.retractions + n) (Err why) → StopsAs (wave_of with_learning (agent_of old history) w) why
retractions_stop old history work w n (stop.Limit limit) sound pend few is c =
    stops_at_retractions (agent_of old history) w (omega (arith, few)) (omega (arith, is, c.1, retracted_length _ _ work w pend)) ∙ ap Some (sym c.0)
retractions_stop old history work w n stop.NoMemory sound pend few is c = tt

pub counted_now : (old : PartsKept) (history : List RecordedFiring) (work : Work) (w : WorkOf) (n : ℕ) → IsPending (map rule_seen old.rules) old.memory.elements work w
    → old.waves + 1 ≤ 18446744073709551615 → n ≡ length work.retracted → old.retractions + n ≤ 18446744073709551615 → Counted (agent_of old history) w
counted_now old history work w n pend few is few_retractions = record {
  waves = omega (arith, few);
  retractions = omega (arith, is, few_retractions, retracted_length _ _ work w pend);
}

-- ---- firings and learning

pub work_stops : (old new : PartsKept) (history : List RecordedFiring) (w : WorkOf) (why : Stop) → Counted (agent_of old history) w → Works old new (Err why) (ended_in (agent_of old history) w)
    → StopsAs (wave_of with_learning (agent_of old history) w) why
work_stops old new history w (stop.Limit limit) counted h = stops_in_work (agent_of old history) w limit counted h
work_stops old new history w stop.NoMemory counted h = tt

-- ---- rows

pub rows_all : (old : PartsKept) (history : List RecordedFiring) (w : WorkOf) (gone : List ℕ) (made : List Preference) → gone ≡ numbers_of w.retracted
    → made ≡ rows_made_in (ended_in (agent_of old history) w)
    → length (with_rows (without_firings old.prefs.rows gone) made) ≡ rows_in_all (agent_of old history) w.retracted (ended_in (agent_of old history) w)
rows_all old history w gone made gone_is same = λ k. length (with_rows (without_firings old.prefs.rows (gone_is k)) (same k))

pub rows_stop : (old : PartsKept) (history : List RecordedFiring) (w : WorkOf) (new : PreferenceMemory) (gone : List ℕ) (made : List Preference) (why : Stop) → IsSound old
    → gone ≡ numbers_of w.retracted → Counted (agent_of old history) w
    → made ≡ rows_made_in (ended_in (agent_of old history) w) → first_passed (ended_in (agent_of old history) w).totals ≡ None
    → Renews old.prefs new gone made (Err why) → StopsAs (wave_of with_learning (agent_of old history) w) why
rows_stop old history w new gone made (stop.Limit limit) sound gone_is counted same within over =
    stops_at_rows (agent_of old history) w counted within (omega (arith, sound.row_limit, over.1, rows_all old history w gone made gone_is same)) ∙ ap Some (sym over.0)
rows_stop old history w new gone made stop.NoMemory sound gone_is counted same within over = tt

pub rows_fit : (old : PartsKept) (history : List RecordedFiring) (w : WorkOf) (new : PreferenceMemory) (gone : List ℕ) (made : List Preference) → IsSound old
    → gone ≡ numbers_of w.retracted → made ≡ rows_made_in (ended_in (agent_of old history) w)
    → RenewsRows old.prefs new gone made → rows_in_all (agent_of old history) w.retracted (ended_in (agent_of old history) w) ≤ 1000000
rows_fit old history w new gone made sound gone_is same renews = omega (arith, renews.room, sound.row_limit, rows_all old history w gone made gone_is same)
