-- What a wave changed, and what carrying it out comes to.
use Rattle.std.proofs.Common.{◌≡◌, ℕ, ◌+◌, ◌≤◌, ◌∙◌, List, ◌++◌, map, drop, take, length, Result, Ok, Err, refl, sym, ap, subst}
use Rattle.std.specs.Prelude.{flat_map}
use Rattle.soar_choose.specs.Rows.{AreInRange}
use Rattle.soar_fire.specs.Growth.{LettersKeep}
use Rattle.soar_fire.proofs.GrowthLemmas.{no_shorter}
use Rattle.soar_record.specs.Recorded.{recorded}
use Rattle.soar_settle.specs.Known.{AreRowsKnown}
use Rattle.soar_settle.specs.Renewal.{Renews}
use Rattle.soar_settle.specs.declared.stop.Stop.{Stop}
use Rattle.trace_laws.specs.Events.{AreEventsKnown}
use Rattle.defs_match.specs.Rules.{rule_seen}
use Rattle.defs_soar.specs.declared.firing.Firing.{Firing}
use Rattle.defs_soar.specs.History.{RecordedFiring}
use Rattle.defs_soar.specs.Learning.{with_learning}
use Rattle.defs_soar.specs.Pending.{Work as WorkOf}
use Rattle.defs_soar.specs.Preferences.{without_firings}
use Rattle.defs_soar.specs.Resettling.{AgentStep}
use Rattle.defs_soar.specs.Standing.{roots_of}
use Rattle.defs_soar.specs.Trimming.{numbers_of}
use Rattle.defs_soar.specs.WaveAtHand.{Entry as EntryOf, all_fresh}
use Rattle.defs_soar.specs.Waves.{live_of, rows_added, wave_of}
use Rattle.agent_laws.specs.Dependence.{GoalsDependOnMore, MakersAreEarlier}
use Rattle.agent_laws.specs.Records.{AreApart, AreRisingFrom}
use Rattle.agent_laws.proofs.OrderLaws.{learning_keeps_order}
use Rattle.dependency_tables.specs.Tables.{all_tags, each_with_tags}
use Rattle.learning_laws.specs.LawfulWaves.{LearningKeeps, fresh_firings}
use Rattle.record_laws.specs.Closed.{AreRecorded, HasMakers}
use Rattle.record_laws.specs.Joining.{IsRecordAfter}
use Rattle.record_laws.proofs.JoiningLaws.{waves_leave_record}
use Rattle.firing_records.specs.Recorded.{recorded_seen}
use Rattle.goal_dependence.specs.Remembered.{CanJoin, firings_of, past_by, reach_over, tags_found_from}
use Rattle.goal_dependence.proofs.DependenceSteps.{tags_of_left}
use Rattle.live_firings.specs.Living.{live_seen}
use Rattle.pending_work.specs.Firables.{IsPending}
use Rattle.pending_work.specs.declared.work.Work.{Work}
use Rattle.program_laws.specs.Knowing.{AreNamed}
use Rattle.step_report.specs.Reports.{report_events, settled_events}
use Rattle.step_report.specs.declared.settled.Settled.{Settled}
use Rattle.wave_learning.specs.Entries.{entry_seen, told_events}
use Rattle.wave_learning.specs.WaveMade.{WaveMade}
use Rattle.wave_firings.specs.Listed.{events_in, recorded_in, rows_in}
use Rattle.wave_firings.specs.Numbered.{AreGoalsOf, AreMakersUpTo, AreOfFirings, AreRecordedUpTo}
use Rattle.wave_parts.specs.Carrying.{Carried}
use Rattle.wave_parts.specs.Changing.{Changes, HasChanged, StopsAs}
use Rattle.wave_parts.specs.Counting.{Counts}
use Rattle.wave_parts.specs.Leaving.{IsMadeFit}
use Rattle.wave_parts.specs.Lawful.{IsOfLawful}
use Rattle.wave_parts.specs.Remembers.{Remembers, RemembersGoals, roots_in}
use Rattle.wave_parts.specs.Resettles.{IsLeft, ResettlesAll}
use Rattle.wave_parts.specs.Seen.{AreLiveGiven, AreLiveKnown, IsSound, agent_of, pending_of}
use Rattle.wave_parts.specs.Teaching.{AreRetaught}
use Rattle.wave_parts.specs.WaveParts.{ended_in, rows_in_all, rows_made_in, unsettled}
use Rattle.wave_parts.specs.Working.{HoldsWave, IsWorkedFrom, IsWorkedOut, WorksOut, firings_at}
use Rattle.wave_parts.specs.declared.changing.WaveChange.{WaveChange}
use Rattle.wave_parts.specs.declared.parts.Parts.{Parts as PartsKept}
use Rattle.wave_parts.specs.declared.working.WaveWorked.{WaveWorked}
use Rattle.wave_parts.proofs.CarriedLemmas.{counted_now, retracted_length, retractions_stop, rows_fit, rows_stop, waves_stop, work_stops}
use Rattle.wave_parts.proofs.CarryLemmas.{Counted, stands_after}
use Rattle.wave_parts.proofs.CarryingLemmas.{IsMidOf, mid_is, mid_remembers, mid_stands, renews_old, rows_old, settles_same, waves_more}
use Rattle.wave_parts.proofs.DoneLemmas.{IsRecordedAfter, done, remembers_wave, report_known, settling_stop, wave_sound, with_wave}
use Rattle.wave_parts.proofs.NamedLemmas.{live_grown}
use Rattle.wave_parts.proofs.RecordedLemmas.{lawful_at}
use Rattle.wave_parts.proofs.RememberedLemmas.{makers_joined, makers_of_new, recorded_firings}
use Rattle.wave_parts.proofs.RetaughtLemmas.{retaught, retracted_given}

-- nothing changes where nothing settles
pub left_itself : (a : PartsKept) → IsLeft a a
left_itself a = record { table = refl; letters = refl; rules = refl; last_rule = refl; past = refl; firings = refl; settings = refl }

-- ---- up to settling

-- the entries taken apart
pub record IsMadeOf (entries : List EntryOf) (made : WaveMade) : Type 0 where
  pub rows_are : made.rows ≡ rows_in entries
  pub live_are : map live_seen made.live ≡ map live_of (all_fresh entries)

pub made_fit : (old worked : PartsKept) (entries : List EntryOf) (made : WaveMade) → IsWorkedOut old worked entries → IsMadeOf entries made → IsMadeFit worked made.rows (map live_seen made.live)
made_fit old worked entries made out is = record {
  rows_known = subst (AreRowsKnown worked.table) (sym is.rows_are) out.fit.rows_known;
  rows_in_range = subst AreInRange (sym is.rows_are) out.fit.rows_in_range;
  rows_of_firings = subst (AreOfFirings worked.firings) (sym is.rows_are) out.fit.rows_of_firings;
  live_known = subst (AreLiveKnown worked.table) (sym is.live_are) out.fit.live_known;
  live_given = subst (AreLiveGiven worked.last_rule) (sym is.live_are) out.fit.live_given;
}

-- ---- where the code stops before it settles

change_not : (old mid : PartsKept) (work : Work) (r : Result WaveChange Stop) (why : Stop) → r ≡ Err why → Changes old mid work (Err why) → Changes old mid work r
change_not old mid work r why is = subst (Changes old mid work) (sym is)

pub waves_stop_change : (old mid : PartsKept) (work : Work) (r : Result WaveChange Stop) (why : Stop) → r ≡ Err why → IsSound old → Counts (old.waves + 1) (Err why) → Changes old mid work r
waves_stop_change old mid work r why is sound c = change_not old mid work r why is (λ history remembers w pend. waves_stop old history w why sound c)

pub retractions_stop_change : (old mid : PartsKept) (work : Work) (n : ℕ) (r : Result WaveChange Stop) (why : Stop) → r ≡ Err why → IsSound old → old.waves + 1 ≤ 18446744073709551615 → n ≡ length work.retracted
    → Counts (old.retractions + n) (Err why) → Changes old mid work r
retractions_stop_change old mid work n r why is sound few same c =
    change_not old mid work r why is (λ history remembers w pend. retractions_stop old history work w n why sound pend few same c)

-- the counts are within their limits
pub record AreFew (old : PartsKept) (work : Work) : Type 0 where
  pub waves : old.waves + 1 ≤ 18446744073709551615
  pub retractions : old.retractions + length work.retracted ≤ 18446744073709551615

pub work_stops_change : (old worked mid : PartsKept) (work : Work) (r : Result WaveChange Stop) (why : Stop) → r ≡ Err why → AreFew old work → WorksOut old worked work (Err why) → Changes old mid work r
work_stops_change old worked mid work r why is few answer =
    change_not old mid work r why is
    (λ history remembers w pend. work_stops old worked history w why (counted_now old history work w (length work.retracted) pend few.waves refl few.retractions) (answer history remembers w pend))

pub leave_stops_change : (old worked left mid : PartsKept) (work : Work) (came : WaveWorked) (made : WaveMade) (r : Result WaveChange Stop) (why : Stop) → r ≡ Err why → IsSound old → AreFew old work
    → WorksOut old worked work (Ok came) → IsWorkedFrom old worked → IsMadeOf (map entry_seen came.entries) made
    → Renews worked.prefs left.prefs (numbers_of (map live_seen work.retracted)) made.rows (Err why) → Changes old mid work r
leave_stops_change old worked left mid work came made r why is sound few answer from made_is renews =
    change_not old mid work r why is (λ history remembers w pend.
    let holds = answer history remembers w pend in
    rows_stop old history w left.prefs (numbers_of (map live_seen work.retracted)) made.rows why sound (ap numbers_of pend.retracted_are)
    (counted_now old history work w (length work.retracted) pend few.waves refl few.retractions) (made_is.rows_are ∙ ap rows_in holds.entries_are) holds.within
    (renews_old old worked left.prefs (numbers_of (map live_seen work.retracted)) made.rows (Err why) from renews))

-- ---- what it changed

module _ (old mid : PartsKept) (work : Work) (change : WaveChange) (sound : IsSound old) (x : HasChanged old mid work change) where
  is_mid : IsMidOf x.worked mid
  is_mid = record { same = x.same }

  firings_are : firings_of change.recorded ≡ firings_at (map entry_seen x.entries)
  firings_are = recorded_firings change.recorded (all_fresh (map entry_seen x.entries)) x.recorded_are

  rising : AreRisingFrom old.firings (firings_of change.recorded)
  rising = subst (AreRisingFrom old.firings) (sym firings_are) x.out.fit.rising

  makers : AreMakersUpTo old.firings (map recorded_seen change.recorded)
  makers = subst (AreMakersUpTo old.firings) (sym x.recorded_are) x.out.fit.makers

  pub memory_is : mid.memory ≡ old.memory
  memory_is = ap (λ (a : PartsKept). a.memory) (mid_is old x.worked mid x.from is_mid)

  -- ---- with one history

  module _ (history : List RecordedFiring) (remembers : Remembers old history) (w : WorkOf) (pend : IsPending (map rule_seen old.rules) old.memory.elements work w) where
    counted : Counted (agent_of old history) w
    counted = counted_now old history work w (length work.retracted) pend x.few_waves refl x.few_retractions

    holds : HoldsWave old x.worked x.entries change.halted (ended_in (agent_of old history) w)
    holds = x.answer history remembers w pend

    rows_are : x.rows ≡ rows_made_in (ended_in (agent_of old history) w)
    rows_are = x.rows_are ∙ ap rows_in holds.entries_are

    room : rows_in_all (agent_of old history) w.retracted (ended_in (agent_of old history) w) ≤ 1000000
    room =
        rows_fit old history w mid.prefs (numbers_of (map live_seen work.retracted)) x.rows sound (ap numbers_of pend.retracted_are) rows_are
        (rows_old old x.worked mid.prefs (numbers_of (map live_seen work.retracted)) x.rows x.from x.renews)

    stands : agent_of mid history ≡ unsettled (agent_of old history) w.retracted (ended_in (agent_of old history) w)
    stands =
        mid_stands old mid work change history w x pend.retracted_are holds (waves_more mid.waves old.waves x.waves_are)
        (x.retractions_are ∙ ap (λ n. old.retractions + n) (retracted_length (map rule_seen old.rules) old.memory.elements work w pend))

    goals_now : RemembersGoals mid history
    goals_now = mid_remembers old x.worked mid history x.from is_mid remembers

    pub settling_stops : (new : PartsKept) (why : Stop) → ResettlesAll mid new (Err why) → StopsAs (wave_of with_learning (agent_of old history) w) why
    settling_stops new why stops = settling_stop old mid new history w why counted holds.within room stands (stops history goals_now)

    pub is_carried : GoalsDependOnMore → (new : PartsKept) (settled : Settled) (depends : List (List ℕ)) (doubted : List ℕ) (firings : List Firing) → ResettlesAll mid new (Ok settled)
        → IsRecordedAfter old new change.recorded firings
        → depends ≡ each_with_tags new.depends (tags_found_from (recorded firings) (map (past_by (reach_over old.goals old.memory.elements) change.added) change.recorded) 2 (drop 1 new.goals))
        → Carried (with_wave new depends doubted firings change.halted) (record { retracted = work.retracted; fired = change.told; settled = settled }) change.halted (wave_of with_learning (agent_of old history) w)
    is_carried law new settled depends doubted firings settles after depends_is =
        let settles_here = settles history goals_now in
        done old mid new history w work.retracted change.told change.halted settled depends doubted firings counted holds.within room stands settles_here
        (remembers_wave law old mid new history w change.recorded change.halted settled change.added depends doubted firings sound remembers
        (subst (LettersKeep old.letters) (sym (ap (λ (a : PartsKept). a.letters) (mid_is old x.worked mid x.from is_mid))) x.from.letters)
        (x.recorded_are ∙ ap recorded_in holds.entries_are) settles_here after rising makers (subst (AreGoalsOf old.goals) (sym x.recorded_are) x.out.fit.goals)
        (x.added_is ∙ (λ k. rows_added (without_firings (x.from.same k).prefs.rows (numbers_of (pend.retracted_are k))) (rows_are k))) depends_is)
        pend.retracted_are (x.told_are ∙ ap events_in holds.entries_are) holds.halted_is

    -- the firings that are recorded are those of the wave
    fresh_are : firings_of change.recorded ≡ fresh_firings (ended_in (agent_of old history) w)
    fresh_are = firings_are ∙ ap firings_at holds.entries_are

    -- the roots are those of the agent after the wave
    roots_are : (new : PartsKept) (settled : Settled) → ResettlesAll mid new (Ok settled) → roots_in new ≡ roots_of (wave_of with_learning (agent_of old history) w).agent
    roots_are new settled settles =
        let a = agent_of old history in
        let s = settles history goals_now in
        ap roots_of (stands_after a (agent_of new history) w change.halted (s.agent_is ∙ ap (λ (t : AgentStep). t.agent) (settles_same mid history a w.retracted (ended_in a w) stands)) holds.halted_is)

  -- ---- behind settling

  module _ (new : PartsKept) (remains : IsLeft mid new) where
    -- the parts that are as the work left them
    table_is : new.table ≡ x.worked.table
    table_is = remains.table ∙ ap (λ (a : PartsKept). a.table) (mid_is old x.worked mid x.from is_mid)

    firings_is : new.firings ≡ x.worked.firings
    firings_is = remains.firings ∙ ap (λ (a : PartsKept). a.firings) (mid_is old x.worked mid x.from is_mid)

    pub past_is : new.past ≡ old.past
    past_is = remains.past ∙ ap (λ (a : PartsKept). a.past) (mid_is old x.worked mid x.from is_mid)

    pub can_join : CanJoin (recorded new.past) (firings_of change.recorded)
    can_join = record { last = old.firings; kept_up_to = subst (λ past. AreRecordedUpTo old.firings (recorded past)) (sym past_is) sound.recorded_up_to; rising = rising }

    pub are_earlier : MakersAreEarlier (recorded new.past ++ firings_of change.recorded)
    are_earlier =
        makers_joined (recorded new.past) (firings_of change.recorded) (subst (λ past. MakersAreEarlier (recorded past)) (sym past_is) sound.makers_earlier)
        (makers_of_new old.firings change.recorded rising makers)

    -- what the record has after the wave, as it is in a lawful state for which the parts stand
    pub record_after : LearningKeeps → IsOfLawful old → (settled : Settled) (firings : List Firing) → ResettlesAll mid new (Ok settled)
        → recorded firings ≡ recorded new.past ++ firings_of change.recorded → IsRecordedAfter old new change.recorded firings
    record_after keeps lawful settled firings settles firings_join =
        let history = lawful.agent.history in
        let remembers = lawful.stands.remembers in
        let w = pending_of x.pending.0 old in
        let a = agent_of old history in
        let after : IsRecordAfter (recorded old.past) (fresh_firings (ended_in a w)) (wave_of with_learning a w).agent =
        waves_leave_record with_learning keeps learning_keeps_order (recorded old.past) a x.pending.0 (lawful_at old lawful) remembers.is_record remembers.makers_kept in
        let all : recorded firings ≡ recorded old.past ++ firings_of change.recorded = firings_join ∙ ap (λ past. recorded past ++ firings_of change.recorded) past_is in
        let fresh : recorded old.past ++ fresh_firings (ended_in a w) ≡ recorded firings = ap (λ fs. recorded old.past ++ fs) (sym (fresh_are history remembers w x.pending.1)) ∙ sym all in
        record {
          firings_are = all;
          more = subst (λ n. old.firings ≤ n) (sym firings_is) x.out.counted;
          numbers = subst (λ n. AreRecordedUpTo n (firings_of change.recorded)) (sym firings_is) (subst (AreRecordedUpTo x.worked.firings) (sym firings_are) x.out.fit.recorded_up_to);
          apart = subst (λ kept. AreApart kept) fresh after.apart;
          makers = subst HasMakers fresh after.makers;
          roots =
              subst (AreRecorded (recorded firings)) (sym (roots_are history remembers w x.pending.1 new settled settles))
              (subst (λ kept. AreRecorded kept (roots_of (wave_of with_learning a w).agent)) fresh after.roots);
        }

    -- the tags that were found before all settled join the tables of the goals that are left
    pub depends_left : (depends tags : List (List ℕ)) (firings : List Firing) → IsSound new → new.goals ≡ take (length new.goals) mid.goals
        → recorded firings ≡ recorded new.past ++ firings_of change.recorded
        → tags ≡ tags_found_from (recorded mid.past ++ firings_of change.recorded) (map (past_by (reach_over mid.goals mid.memory.elements) change.added) change.recorded) 2 (drop 1 mid.goals)
        → depends ≡ each_with_tags new.depends tags
        → depends ≡ each_with_tags new.depends (tags_found_from (recorded firings) (map (past_by (reach_over old.goals old.memory.elements) change.added) change.recorded) 2 (drop 1 new.goals))
    depends_left depends tags firings s first firings_join tags_are is =
        let goals_are : mid.goals ≡ old.goals = ap (λ (a : PartsKept). a.goals) (mid_is old x.worked mid x.from is_mid) in
        let all : recorded mid.past ++ firings_of change.recorded ≡ recorded firings = ap (λ past. recorded past ++ firings_of change.recorded) (sym remains.past) ∙ sym firings_join in
        is
        ∙ ap (each_with_tags new.depends) tags_are
        ∙ tags_of_left (recorded mid.past ++ firings_of change.recorded) (map (past_by (reach_over mid.goals mid.memory.elements) change.added) change.recorded) 2 mid.goals new.goals new.depends first s.depends_fit
        ∙ (λ k. each_with_tags new.depends (tags_found_from (all k) (map (past_by (reach_over (goals_are k) (memory_is k).elements) change.added) change.recorded) 2 (drop 1 new.goals)))

    pub end_is_sound : (depends : List (List ℕ)) (doubted : List ℕ) (firings : List Firing) (tags : List (List ℕ)) → IsSound new
        → recorded firings ≡ recorded new.past ++ firings_of change.recorded → depends ≡ each_with_tags new.depends tags → doubted ≡ new.doubted ++ all_tags tags → IsSound (with_wave new depends doubted firings change.halted)
    end_is_sound depends doubted firings tags s firings_join depends_is doubted_is =
        wave_sound new old.firings change.recorded depends doubted firings change.halted tags s rising makers
        (subst (λ n. AreRecordedUpTo n (firings_of change.recorded)) (sym firings_is) (subst (AreRecordedUpTo x.worked.firings) (sym firings_are) x.out.fit.recorded_up_to))
        (subst (λ words. AreNamed words (firings_of change.recorded)) (sym table_is) (subst (AreNamed x.worked.table) (sym firings_are) x.out.fit.named))
        firings_join depends_is doubted_is

    pub is_retaught : (depends : List (List ℕ)) (doubted : List ℕ) (firings : List Firing) → AreRetaught old (with_wave new depends doubted firings change.halted) change.spent
    is_retaught depends doubted firings =
        retaught old x.worked (map live_seen work.retracted) sound x.out.joined (retracted_given old work sound x.pending) mid (with_wave new depends doubted firings change.halted) change.spent
        x.spent_is x.program_is remains.rules remains.last_rule

    pub is_known : (settled : Settled) → AreLiveKnown old.table (map live_seen work.retracted) → AreEventsKnown new.table (settled_events settled)
        → AreEventsKnown new.table (report_events (record { retracted = work.retracted; fired = change.told; settled = settled }))
    is_known settled names settled_known =
        report_known new.table (record { retracted = work.retracted; fired = change.told; settled = settled })
        (subst (λ words. AreLiveKnown words (map live_seen work.retracted)) (sym table_is)
        (live_grown old.table x.worked.table (map live_seen work.retracted) (no_shorter old.table x.worked.table (record { grown = x.from.words })) names))
        (subst (λ words. AreEventsKnown words (flat_map told_events change.told)) (sym table_is) (subst (AreEventsKnown x.worked.table) (sym x.told_are) x.out.fit.events_known))
        settled_known
