-- A wave that was carried out to its end, or that settling stopped.
use Rattle.std.proofs.Common.{◌≡◌, ℕ, ◌≤◌, ◌∙◌, Bool, ◌||◌, List, [], ◌∷◌, ◌++◌, map, flat_map, drop, length, Err, None, inl, inr, sym, ap, subst, arith}
use Rattle.soar_sym.specs.Words.{Texts}
use Rattle.soar_fire.specs.Growth.{LettersKeep}
use Rattle.soar_record.specs.Recorded.{recorded}
use Rattle.soar_settle.specs.declared.stop.Stop.{Stop}
use Rattle.soar_settle.specs.declared.stop.Stop.TheVariants as stop
use Rattle.defs_soar.specs.declared.firing.Firing.{Firing}
use Rattle.defs_soar.specs.declared.preference.Preference.{Preference}
use Rattle.defs_soar.specs.Agents.{Agent, LiveFiring}
use Rattle.defs_soar.specs.History.{FiringOf, RecordedFiring}
use Rattle.defs_soar.specs.Learning.{with_learning}
use Rattle.defs_soar.specs.Limits.{first_passed}
use Rattle.defs_soar.specs.Pending.{Work as WorkOf}
use Rattle.defs_soar.specs.Phases.{halting}
use Rattle.defs_soar.specs.Preferences.{without_firings}
use Rattle.defs_soar.specs.Resettling.{resettled}
use Rattle.defs_soar.specs.Standing.{AreFrom}
use Rattle.defs_soar.specs.Trimming.{numbers_of}
use Rattle.defs_soar.specs.WaveAtHand.{all_fresh}
use Rattle.defs_soar.specs.WaveFirings.{before_wave}
use Rattle.defs_soar.specs.Waves.{entry_events, recorded_firing, retract_event, rows_added, wave_of}
use Rattle.learning_laws.specs.LawfulAgents.{IsNumbered}
use Rattle.learning_laws.specs.LawfulWaves.{LearningKeeps, WavesKeep}
use Rattle.session_laws.specs.Steps.{HaltsKeep}
use Rattle.agent_laws.specs.Dependence.{GoalsDependOnMore, MakersAreEarlier, firings_in}
use Rattle.agent_laws.specs.Records.{AreApart, AreRisingFrom, IsPartOf}
use Rattle.dependency_tables.specs.Tables.{all_tags, each_with_tags}
use Rattle.dependency_tables.proofs.TableLemmas.{length_each}
use Rattle.goal_trimming.specs.Doubted.{AreDoubted}
use Rattle.goal_trimming.proofs.LostLemmas.{doubted_joined}
use Rattle.record_laws.specs.Closed.{AreRecorded, HasMakers}
use Rattle.record_laws.proofs.ClosedLaws.{recorded_roots_suffice}
use Rattle.record_laws.proofs.JoiningLaws.{later_join}
use Rattle.program_laws.specs.Knowing.{AreNamed}
use Rattle.firing_records.specs.Recorded.{fresh_seen, recorded_seen}
use Rattle.firing_records.specs.declared.outcome.Recorded.{Recorded}
use Rattle.goal_dependence.specs.Remembered.{firings_of, past_by, reach_over, tags_found_from}
use Rattle.live_firings.specs.Living.{live_seen}
use Rattle.live_firings.specs.declared.live.Live.{Live}
use Rattle.pending_work.specs.declared.work.Work.{Work}
use Rattle.step_report.specs.Reports.{report_events, settled_events}
use Rattle.step_report.specs.declared.report.Report.{Report}
use Rattle.step_report.specs.declared.settled.Settled.{Settled}
use Rattle.trace_laws.specs.Events.{AreEventsKnown}
use Rattle.wave_learning.specs.Entries.{told_events}
use Rattle.wave_learning.specs.Told.{Told}
use Rattle.wave_firings.specs.Numbered.{AreGoalsOf, AreMakersUpTo, AreRecordedUpTo}
use Rattle.wave_parts.specs.Carrying.{Carried, IsPendingIn}
use Rattle.wave_parts.specs.Changing.{StopsAs}
use Rattle.wave_parts.specs.Lawful.{IsOfLawful}
use Rattle.wave_parts.specs.Remembers.{Remembers, roots_in}
use Rattle.wave_parts.specs.Resettles.{IsResettledWith, ResettlesWith, resettled_now}
use Rattle.wave_parts.specs.Seen.{agent_of, AreLiveKnown, IsSound, pending_of}
use Rattle.wave_parts.specs.WaveParts.{ended_in, rows_in_all, rows_made_in, settled_after, unsettled}
use Rattle.wave_parts.specs.declared.parts.Parts.{Parts as PartsKept}
use Rattle.wave_parts.proofs.CarryLemmas.{Counted, history_after, halted_is, past_rows, stands_after, wave_is}
use Rattle.wave_parts.proofs.CarryingLemmas.{settles_same}
use Rattle.wave_parts.proofs.GrownLemmas.{numbered_later}
use Rattle.wave_parts.proofs.RecordedLemmas.{lawful_at}
use Rattle.wave_parts.proofs.RememberedLemmas.{are_later, at_goal, dependencies_joined, firings_append, firings_joined, goal_of_past, in_either, makers_joined, makers_of_new, number_recorded, pasts_are, recorded_within, tags_kept}
use Rattle.wave_parts.proofs.RemovedLemmas.{known_append}
use Rattle.wave_parts.proofs.StandsLemmas.{stands_for}

-- ---- what is told

wave_events : (a : Agent) (work : WorkOf)
    → (wave_of with_learning a work).events
    ≡ map retract_event work.retracted ++ (flat_map entry_events (ended_in a work).entries ++ (settled_after a work.retracted (ended_in a work)).events)
unfolding resettled
wave_events a work = ap (λ s. s.events) (wave_is a work)

-- the report tells what was retracted, what fired and was learned, and what settling did
reported : (a : Agent) (w : WorkOf) (report : Report) → map live_seen report.retracted ≡ w.retracted → flat_map told_events report.fired ≡ flat_map entry_events (ended_in a w).entries
    → settled_events report.settled ≡ (settled_after a w.retracted (ended_in a w)).events → report_events report ≡ (wave_of with_learning a w).events
reported a w report retracted_are told_are settled_are = (λ k. map retract_event (retracted_are k) ++ (told_are k ++ settled_are k)) ∙ sym (wave_events a w)

retractions_known : (words : Texts) (live : List LiveFiring) → AreLiveKnown words live → AreEventsKnown words (map retract_event live)
retractions_known words [] h = tt
retractions_known words (l ∷ live) h = (h.0, retractions_known words live h.1)

pub report_known : (words : Texts) (report : Report) → AreLiveKnown words (map live_seen report.retracted) → AreEventsKnown words (flat_map told_events report.fired)
    → AreEventsKnown words (settled_events report.settled) → AreEventsKnown words (report_events report)
report_known words report retracted fired settled =
    known_append words (map retract_event (map live_seen report.retracted)) _ (retractions_known words (map live_seen report.retracted) retracted)
    (known_append words (flat_map told_events report.fired) (settled_events report.settled) fired settled)

-- ---- where settling stops

pub settling_stop : (old mid new : PartsKept) (history : List RecordedFiring) (w : WorkOf) (why : Stop) → Counted (agent_of old history) w
    → first_passed (ended_in (agent_of old history) w).totals ≡ None → rows_in_all (agent_of old history) w.retracted (ended_in (agent_of old history) w) ≤ 1000000
    → agent_of mid history ≡ unsettled (agent_of old history) w.retracted (ended_in (agent_of old history) w)
    → ResettlesWith new history (resettled_now (agent_of mid history)) (Err why) → StopsAs (wave_of with_learning (agent_of old history) w) why
settling_stop old mid new history w (stop.Limit limit) counted within room stands passed =
    let a = agent_of old history in
    past_rows a w counted within room ∙ ap (λ s. first_passed s.totals) (sym (settles_same mid history a w.retracted (ended_in a w) stands)) ∙ passed
settling_stop old mid new history w stop.NoMemory counted within room stands passed = tt

-- ---- the end

-- what the wave leaves behind settling: the goals' tags, the firings, and whether one halted
abbrev pub with_wave : PartsKept → List (List ℕ) → List ℕ → List Firing → Bool → PartsKept
with_wave new depends doubted firings halted = record new { depends = depends; doubted = doubted; past = firings; halted = new.halted || halted }

pub done : (old mid new : PartsKept) (history : List RecordedFiring) (w : WorkOf) (retracted : List Live) (told : List Told) (halted : Bool) (settled : Settled) (depends : List (List ℕ)) (doubted : List ℕ) (firings : List Firing)
    → Counted (agent_of old history) w
    → first_passed (ended_in (agent_of old history) w).totals ≡ None
    → rows_in_all (agent_of old history) w.retracted (ended_in (agent_of old history) w) ≤ 1000000
    → agent_of mid history ≡ unsettled (agent_of old history) w.retracted (ended_in (agent_of old history) w)
    → IsResettledWith new settled history (resettled_now (agent_of mid history))
    → Remembers (with_wave new depends doubted firings halted) (history_after (agent_of old history) w)
    → map live_seen retracted ≡ w.retracted
    → flat_map told_events told ≡ flat_map entry_events (ended_in (agent_of old history) w).entries
    → halted ≡ (ended_in (agent_of old history) w).halted
    → Carried (with_wave new depends doubted firings halted) (record { retracted = retracted; fired = told; settled = settled }) halted (wave_of with_learning (agent_of old history) w)
done old mid new history w retracted told halted settled depends doubted firings counted within room stands settles remembers retracted_are told_are halts =
    let a = agent_of old history in
    let same = settles_same mid history a w.retracted (ended_in a w) stands in
    record {
      stepped = record {
        stands = stands_for (with_wave new depends doubted firings halted) (history_after a w) (halting (wave_of with_learning a w)) remembers
            (stands_after a (agent_of new history) w halted (settles.agent_is ∙ ap (λ s. s.agent) same) halts);
        within = past_rows a w counted within room ∙ ap (λ s. first_passed s.totals) (sym same) ∙ settles.within;
      };
      halted_is = halts ∙ sym (halted_is a w);
      events_are = reported a w (record { retracted = retracted; fired = told; settled = settled }) retracted_are told_are (settles.events_are ∙ ap (λ s. s.events) same);
    }

-- ---- what is remembered

-- the letters after settling
left_letters : (mid new : PartsKept) (history : List RecordedFiring) (told : Settled) → IsResettledWith new told history (resettled_now (agent_of mid history)) → new.letters ≡ mid.letters
unfolding resettled
left_letters mid new history told settled = ap (λ (s : Agent). s.names.letters) settled.agent_is

-- the history after the wave, by what is recorded
history_joins : (a : Agent) (w : WorkOf) (added : List Preference) (recorded_now : List Recorded)
    → added ≡ rows_added (without_firings a.holding.rows (numbers_of w.retracted)) (rows_made_in (ended_in a w))
    → map recorded_seen recorded_now ≡ map fresh_seen (all_fresh (ended_in a w).entries)
    → history_after a w ≡ a.history ++ map (past_by (reach_over a.holding.goals a.holding.elements) added) recorded_now
history_joins a w added recorded_now added_is recorded_are =
    ap (λ rows. a.history ++ map (recorded_firing (before_wave a) rows) (all_fresh (ended_in a w).entries)) (sym added_is)
    ∙ ap (λ l. a.history ++ l) (sym (pasts_are (reach_over a.holding.goals a.holding.elements) added recorded_now (all_fresh (ended_in a w).entries) recorded_are))

-- the record after the wave: its firings behind those that were there, each once, with their makers, and the roots
pub record IsRecordedAfter (old new : PartsKept) (recorded_now : List Recorded) (firings : List Firing) : Type 0 where
  pub firings_are : recorded firings ≡ recorded old.past ++ firings_of recorded_now
  pub more : old.firings ≤ new.firings
  pub numbers : AreRecordedUpTo new.firings (firings_of recorded_now)
  pub apart : AreApart (recorded firings)
  pub makers : HasMakers (recorded firings)
  pub roots : AreRecorded (recorded firings) (roots_in new)

-- the firings of the wave join the history, and goals depend on what they add
pub remembers_wave : GoalsDependOnMore → (old mid new : PartsKept) (history : List RecordedFiring) (w : WorkOf) (recorded_now : List Recorded) (halted : Bool) (told : Settled) (added : List Preference) (depends : List (List ℕ)) (doubted : List ℕ) (firings : List Firing)
    → IsSound old → Remembers old history → LettersKeep old.letters mid.letters
    → map recorded_seen recorded_now ≡ map fresh_seen (all_fresh (ended_in (agent_of old history) w).entries)
    → IsResettledWith new told history (resettled_now (agent_of mid history)) → IsRecordedAfter old new recorded_now firings
    → AreRisingFrom old.firings (firings_of recorded_now) → AreMakersUpTo old.firings (map recorded_seen recorded_now) → AreGoalsOf old.goals (map recorded_seen recorded_now)
    → added ≡ rows_added (without_firings old.prefs.rows (numbers_of w.retracted)) (rows_made_in (ended_in (agent_of old history) w))
    → depends ≡ each_with_tags new.depends (tags_found_from (recorded firings) (map (past_by (reach_over old.goals old.memory.elements) added) recorded_now) 2 (drop 1 new.goals))
    → Remembers (with_wave new depends doubted firings halted) (history_after (agent_of old history) w)
remembers_wave law old mid new history w recorded_now halted told added depends doubted firings sound remembers keep recorded_are settled after rising makers goals added_is depends_is =
    let a = agent_of old history in
    let reach = reach_over old.goals old.memory.elements in
    let now = settled.remembers in
    let pasts = map (past_by reach added) recorded_now in
    let history_is : history_after a w ≡ history ++ pasts = history_joins a w added recorded_now added_is recorded_are in
    let same : firings_of recorded_now ≡ firings_in pasts = firings_joined reach added recorded_now in
    let whole : List FiringOf = firings_in history ++ firings_of recorded_now in
    let both : whole ≡ firings_in (history ++ pasts) = ap (λ fs. firings_in history ++ fs) same ∙ sym (firings_append history pasts) in
    let from : AreFrom whole (recorded firings) =
    subst (AreFrom whole) (sym after.firings_are) (later_join old.firings (recorded old.past) (firings_in history) (firings_of recorded_now) remembers.is_record.from_history remembers.numbers_given rising) in
    let grown : LettersKeep old.letters new.letters = subst (LettersKeep old.letters) (sym (left_letters mid new history told settled)) keep in
    subst (Remembers (with_wave new depends doubted firings halted)) (sym history_is) (record {
      is_record =
          subst (λ fs. IsPartOf (recorded firings) fs (roots_in new)) both (recorded_roots_suffice (recorded firings) whole (roots_in new) after.apart from after.makers after.roots);
      makers_kept = after.makers;
      numbers_given =
          subst (AreRecordedUpTo new.firings) both
          (recorded_within new.firings (firings_in history) (firings_of recorded_now) (λ f is. omega (arith, after.more, remembers.numbers_given f is)) after.numbers);
      makers_earlier =
          subst MakersAreEarlier both
          (makers_joined (firings_in history) (firings_of recorded_now) remembers.makers_earlier (makers_of_new old.firings recorded_now rising makers));
      depends_are =
          depends_is
          ∙ ap (each_with_tags new.depends)
          (tags_kept (recorded firings) whole pasts
          (λ p is. recorded_roots_suffice (recorded firings) whole (p.firing.number ∷ []) after.apart from after.makers
          (number_recorded (recorded old.past) (firings_of recorded_now) (recorded firings) pasts after.firings_are same p is)) 2 (drop 1 new.goals))
          ∙ ap (λ fs. each_with_tags new.depends (tags_found_from (firings_in history ++ fs) pasts 2 (drop 1 new.goals))) same
          ∙ dependencies_joined law history pasts new.depends (drop 1 new.goals) now.depends_are remembers.makers_earlier (are_later old.firings history reach added recorded_now remembers.numbers_given rising);
      goals_numbered = λ p s is of_goal. elim (in_either p history pasts is) [
        | inl past ↦ now.goals_numbered p s past of_goal
        | inr here ↦ let at = goal_of_past reach added recorded_now p here in
            let g = at_goal old.goals s (goals at.0 s at.1 (at.2 ∙ of_goal)) in
            subst (IsNumbered new.letters) g.2 (numbered_later old.letters new.letters g.0.id grown (sound.goals_known g.0 g.1).id_numbered)
      ];
    })

-- ---- what is sound

pub wave_sound : (new : PartsKept) (last : ℕ) (recorded_now : List Recorded) (depends : List (List ℕ)) (doubted : List ℕ) (firings : List Firing) (halted : Bool) (tags : List (List ℕ)) → IsSound new
    → AreRisingFrom last (firings_of recorded_now) → AreMakersUpTo last (map recorded_seen recorded_now) → AreRecordedUpTo new.firings (firings_of recorded_now) → AreNamed new.table (firings_of recorded_now)
    → recorded firings ≡ recorded new.past ++ firings_of recorded_now → depends ≡ each_with_tags new.depends tags → doubted ≡ new.doubted ++ all_tags tags
    → IsSound (with_wave new depends doubted firings halted)
wave_sound new last recorded_now depends doubted firings halted tags s rising makers up_to named firings_is depends_is doubted_is = record {
  goals_some = s.goals_some;
  goals_few = s.goals_few;
  goals_known = s.goals_known;
  depends_fit = omega (arith, ap length depends_is, length_each new.depends tags, s.depends_fit);
  doubted = subst (λ (tables : List (List ℕ)). AreDoubted tables new.memory.elements new.kept.triples doubted) (sym depends_is)
      (subst (AreDoubted (each_with_tags new.depends tags) new.memory.elements new.kept.triples) (sym doubted_is) (doubted_joined new.depends tags new.memory.elements new.kept.triples new.doubted s.doubted));
  element_limit = s.element_limit;
  row_limit = s.row_limit;
  few_rows = s.few_rows;
  rows_in_range = s.rows_in_range;
  rows_of_firings = s.rows_of_firings;
  makers_of_firings = s.makers_of_firings;
  recorded_up_to = subst (AreRecordedUpTo new.firings) (sym firings_is) (recorded_within new.firings (recorded new.past) (firings_of recorded_now) s.recorded_up_to up_to);
  makers_earlier = subst MakersAreEarlier (sym firings_is) (makers_joined (recorded new.past) (firings_of recorded_now) s.makers_earlier (makers_of_new last recorded_now rising makers));
  first_words = s.first_words;
  top_numbered = s.top_numbered;
  numbered = s.numbered;
  numbers_given = s.numbers_given;
  rules_known = s.rules_known;
  elements_known = s.elements_known;
  rows_known = s.rows_known;
  inputs_known = s.inputs_known;
  queue_known = s.queue_known;
  output_known = s.output_known;
  live_known = s.live_known;
  live_given = s.live_given;
  kept_up = s.kept_up;
  kept_ids = s.kept_ids;
  past_named = subst (AreNamed new.table) (sym firings_is) (λ f is. elim (in_either f (recorded new.past) (firings_of recorded_now) is) [ inl old ↦ s.past_named f old | inr here ↦ named f here ]);
  chains_known = s.chains_known;
  chains_kept = s.chains_kept;
}

-- ---- what is lawful

pub record StepLaws : Type 0 where
  pub waves : WavesKeep
  pub learning : LearningKeeps
  pub halts : HaltsKeep

-- the state after the wave is lawful
pub lawful_end : StepLaws → (old new : PartsKept) (work : Work) (report : Report) (halted : Bool) → (lawful : IsOfLawful old) → (pending : IsPendingIn old work)
    → Carried new report halted (wave_of with_learning (agent_of old lawful.agent.history) (pending_of pending.0 old)) → IsOfLawful new
lawful_end laws old new work report halted lawful pending carried =
    let a = agent_of old lawful.agent.history in
    let s = wave_of with_learning a (pending_of pending.0 old) in
    record {
      agent = halting s;
      stands = carried.stepped.stands;
      lawful = laws.halts s.agent (s.agent.halted || s.halted) (laws.waves with_learning laws.learning a pending.0 (lawful_at old lawful));
    }
