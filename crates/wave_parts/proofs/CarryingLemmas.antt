-- The parts of an agent between the work of a wave and settling.
use Rattle.std.proofs.Common.{◌≡◌, ℕ, suc, ◌+◌, ◌∙◌, ◌⊎◌, Bool, true, false, ◌||◌, ◌==◌, not, cond, List, [], ◌∷◌, ◌++◌, map, filter, length, Result, inl, inr, refl, sym, ap, subst, arith}
use Rattle.std.proofs.lemmas.List.{length-map}
use Rattle.std.proofs.lemmas.List.Elements.{filter_agree}
use Rattle.defs_match.specs.Rules.{rule_seen}
use Rattle.defs_soar.specs.declared.preference.Preference.{Preference}
use Rattle.defs_soar.specs.Agents.{Agent, LiveFiring}
use Rattle.defs_soar.specs.History.{RecordedFiring}
use Rattle.defs_soar.specs.Laws.{IsIn}
use Rattle.defs_soar.specs.Pending.{Work as WorkOf}
use Rattle.defs_soar.specs.Preferences.{rows_after, with_row, with_rows, without_firings, is_kept_already, is_of_gone, is_rejected_by}
use Rattle.defs_soar.specs.Trimming.{numbers_of}
use Rattle.defs_soar.specs.WaveAtHand.{Entry as EntryOf, Wave, all_fresh}
use Rattle.defs_soar.specs.Waves.{is_retracted, live_of, without_spent}
use Rattle.live_firings.specs.Living.{Firings, live_seen}
use Rattle.pending_work.specs.Firables.{IsPending}
use Rattle.pending_work.specs.declared.work.Work.{Work}
use Rattle.row_laws.specs.Kept.{WaveKeepsRange}
use Rattle.settling_laws.proofs.MemberLemmas.{filter_within, in_append}
use Rattle.soar_choose.specs.Rows.{AreInRange}
use Rattle.soar_prefs.specs.Memory.{PreferenceMemory}
use Rattle.soar_settle.specs.Known.{AreRowsKnown}
use Rattle.soar_settle.specs.Renewal.{Renews, RenewsRows}
use Rattle.soar_settle.specs.declared.stop.Stop.{Stop}
use Rattle.soar_settle.proofs.FilterLemmas.{filter_shorter}
use Rattle.wave_firings.specs.Listed.{rows_in}
use Rattle.wave_firings.specs.Numbered.{AreOfFirings}
use Rattle.wave_parts.specs.Changing.{HasChanged}
use Rattle.wave_parts.specs.Leaving.{IsMadeFit}
use Rattle.wave_parts.specs.Living.{has_left, still_live}
use Rattle.wave_parts.specs.Programs.{program_of}
use Rattle.wave_parts.specs.Remembers.{Remembers, RemembersGoals}
use Rattle.wave_parts.specs.Resettles.{resettled_now}
use Rattle.wave_parts.specs.Seen.{AreLiveKnown, IsSound, agent_of}
use Rattle.wave_parts.specs.WaveParts.{ended_in, live_after, rows_made_in, settled_after, unsettled}
use Rattle.wave_parts.specs.Working.{HoldsWave, IsWorkedFrom}
use Rattle.wave_parts.specs.declared.changing.WaveChange.{WaveChange}
use Rattle.wave_parts.specs.declared.parts.Parts.{Parts as PartsKept}
use Rattle.wave_parts.proofs.KeptUpLemmas.{kept_renewed}
use Rattle.wave_parts.proofs.GrownLemmas.{numbered_later, rows_after_known}
use Rattle.wave_parts.proofs.NamedLemmas.{live_append, live_filter}

-- ---- what the wave left

-- the parts before settling, from those with what the wave came to
pub record IsMidOf (worked mid : PartsKept) : Type 0 where
  pub same : mid ≡ record worked { rules = mid.rules; chains = mid.chains; prefs = mid.prefs; live = mid.live; waves = mid.waves; retractions = mid.retractions }

-- and from those before the wave
abbrev mid_of : PartsKept → PartsKept → PartsKept → PartsKept
mid_of old worked mid = record old {
  table = worked.table;
  letters = worked.letters;
  rules = mid.rules;
  last_rule = worked.last_rule;
  chains = mid.chains;
  chunks = worked.chunks;
  justifications = worked.justifications;
  firings = worked.firings;
  learned = worked.learned;
  prefs = mid.prefs;
  live = mid.live;
  waves = mid.waves;
  retractions = mid.retractions;
}

pub mid_is : (old worked mid : PartsKept) → IsWorkedFrom old worked → IsMidOf worked mid → mid ≡ mid_of old worked mid
mid_is old worked mid from is =
    is.same ∙ ap (λ (a : PartsKept). record a { rules = mid.rules; chains = mid.chains; prefs = mid.prefs; live = mid.live; waves = mid.waves; retractions = mid.retractions }) from.same

pub renews_old : (old worked : PartsKept) (prefs : PreferenceMemory) (gone : List ℕ) (made : List Preference) (r : Result (List Preference) Stop) → IsWorkedFrom old worked
    → Renews worked.prefs prefs gone made r → Renews old.prefs prefs gone made r
renews_old old worked prefs gone made r from = subst (λ (a : PartsKept). Renews a.prefs prefs gone made r) from.same

pub rows_old : (old worked : PartsKept) (prefs : PreferenceMemory) (gone : List ℕ) (made : List Preference) → IsWorkedFrom old worked → RenewsRows worked.prefs prefs gone made → RenewsRows old.prefs prefs gone made
rows_old old worked prefs gone made from = subst (λ (a : PartsKept). RenewsRows a.prefs prefs gone made) from.same

-- ---- live firings and counts

any_number : (gone : List LiveFiring) (l : LiveFiring) → has_left (numbers_of gone) l ≡ is_retracted gone l
any_number [] l = refl
any_number (g ∷ gone) l = ap (λ b. (g.number == l.number) || b) (any_number gone l)

live_is : (gone : List LiveFiring) (live : List LiveFiring) → still_live (numbers_of gone) live ≡ filter (λ l. not (is_retracted gone l)) live
live_is gone live = filter_agree (λ l. not (has_left (numbers_of gone) l)) (λ l. not (is_retracted gone l)) (λ l. ap not (any_number gone l)) live

pub waves_more : (n m : ℕ) → n ≡ m + 1 → n ≡ suc m
waves_more n m h = omega (arith, h)

pub retractions_more : (old : PartsKept) (work : Work) (w : WorkOf) (k n : ℕ) → IsPending (map rule_seen old.rules) old.memory.elements work w → k ≡ length work.retracted → n ≡ old.retractions + k
    → n ≡ old.retractions + length w.retracted
retractions_more old work w k n pend is h = omega (arith, is, h, ap length pend.retracted_are, length-map work.retracted live_seen)

-- ---- the agent

-- it is what the definition comes to
pub mid_stands : (old mid : PartsKept) (work : Work) (change : WaveChange) (history : List RecordedFiring) (w : WorkOf) → (x : HasChanged old mid work change) → map live_seen work.retracted ≡ w.retracted
    → HoldsWave old x.worked x.entries change.halted (ended_in (agent_of old history) w) → mid.waves ≡ suc old.waves → mid.retractions ≡ old.retractions + length w.retracted
    → agent_of mid history ≡ unsettled (agent_of old history) w.retracted (ended_in (agent_of old history) w)
mid_stands old mid work change history w x retracted_are holds waves_are retractions_are =
    let a : Agent = agent_of old history in
    let v : Wave = ended_in a w in
    let is : IsMidOf x.worked mid = record { same = x.same } in
    let gone = ap numbers_of retracted_are in
    let renews = rows_old old x.worked mid.prefs (numbers_of (map live_seen work.retracted)) x.rows x.from x.renews in
    let rows_are : mid.prefs.rows ≡ rows_after old.prefs.rows (numbers_of w.retracted) (rows_made_in v) =
    ap (λ p. p.rows) renews.rows ∙ (λ k. rows_after old.prefs.rows (gone k) ((x.rows_are ∙ ap rows_in holds.entries_are) k)) in
    let lives_are : map live_seen mid.live.list ≡ live_after a.holding.live w.retracted v =
    x.lives ∙ (λ k. still_live (gone k) (map live_seen (x.from.same k).live.list) ++ (x.live_are ∙ ap (λ (es : List EntryOf). map live_of (all_fresh es)) holds.entries_are) k)
    ∙ ap (λ ls. ls ++ map live_of (all_fresh v.entries)) (live_is w.retracted a.holding.live) in
    let program : program_of (mid_of old x.worked mid) ≡ without_spent w.retracted v.program =
    sym (ap program_of (mid_is old x.worked mid x.from is)) ∙ x.program_is ∙ (λ k. without_spent (retracted_are k) (holds.program_is k)) in
    ap (λ (m : PartsKept). agent_of m history) (mid_is old x.worked mid x.from is)
    ∙ (λ k. record a {
      names = record { words = holds.words_are k; letters = holds.letters_are k; last_tag = holds.last_tag_is k };
      program = program k;
      counts = record a.counts { waves = waves_are k; firings = holds.firings_are k; retractions = retractions_are k; learned = holds.learned_is k };
      holding = record a.holding { rows = rows_are k; live = lives_are k };
    })

-- settling it is settling what the definition holds then
pub settles_same : (new : PartsKept) (history : List RecordedFiring) (a : Agent) (gone : List LiveFiring) (v : Wave) → agent_of new history ≡ unsettled a gone v
    → resettled_now (agent_of new history) ≡ settled_after a gone v
settles_same new history a gone v stands = ap resettled_now stands

-- what settling goes by is remembered, as words, rules, rows and live firings change
pub mid_remembers : (old worked mid : PartsKept) (history : List RecordedFiring) → IsWorkedFrom old worked → IsMidOf worked mid → Remembers old history → RemembersGoals mid history
mid_remembers old worked mid history from is remembers =
    subst (λ (m : PartsKept). RemembersGoals m history) (sym (mid_is old worked mid from is)) (record {
      depends_are = remembers.depends_are;
      goals_numbered = λ p s at of_goal. numbered_later old.letters worked.letters s from.letters (remembers.goals_numbered p s at of_goal);
    })

-- ---- what it keeps

row_with_within : (rows : List Preference) (row x : Preference) → IsIn x (with_row rows row) → IsIn x rows ⊎ IsIn x (row ∷ [])
row_with_within rows row x = by (is_kept_already rows row)
  where
    by : (b : Bool) → IsIn x (cond b rows (rows ++ row ∷ [])) → IsIn x rows ⊎ IsIn x (row ∷ [])
    by true is = inl is
    by false is = in_append x rows (row ∷ []) is

rows_with_within : (rows made : List Preference) (x : Preference) → IsIn x (with_rows rows made) → IsIn x rows ⊎ IsIn x made
rows_with_within rows [] x is = inl is
rows_with_within rows (row ∷ made) x is = elim (rows_with_within (with_row rows row) made x is) [
  | inl before ↦ elim (row_with_within rows row x before) [ inl old ↦ inl old | inr here ↦ inr (front x row made here) ]
  | inr later ↦ inr (inr later)
]
  where
    front : (x row : Preference) (made : List Preference) → IsIn x (row ∷ []) → IsIn x (row ∷ made)
    front x row made (inl e) = inl e
    front x row made (inr none) = absurd none

rows_after_of : (last : ℕ) (rows made : List Preference) (gone : List ℕ) → AreOfFirings last rows → AreOfFirings last made → AreOfFirings last (rows_after rows gone made)
rows_after_of last rows made gone old new row is =
    elim (rows_with_within (without_firings rows gone) made row (filter_within (λ r. not (is_rejected_by made r)) (with_rows (without_firings rows gone) made) row is)) [
      | inl stays ↦ old row (filter_within (λ r. not (is_of_gone gone r)) rows row stays)
      | inr here ↦ new row here
    ]

pub renewed_sound : (a : PartsKept) (prefs : PreferenceMemory) (live : Firings) (gone : List ℕ) (made : List Preference) (new : List LiveFiring) → WaveKeepsRange → IsSound a
    → RenewsRows a.prefs prefs gone made → map live_seen live.list ≡ still_live gone (map live_seen a.live.list) ++ new → IsMadeFit a made new → IsSound (record a { prefs = prefs; live = live })
renewed_sound a prefs live gone made new keeps s renews lives fit =
    let rows = ap (λ (p : PreferenceMemory). p.rows) renews.rows in
    record {
      goals_some = s.goals_some;
      goals_few = s.goals_few;
      goals_known = s.goals_known;
      depends_fit = s.depends_fit;
      doubted = s.doubted;
      element_limit = s.element_limit;
      row_limit = ap (λ (p : PreferenceMemory). p.limit) renews.rows ∙ s.row_limit;
      few_rows = omega (
        arith,
        ap (λ (p : PreferenceMemory). p.limit) renews.rows,
        ap (λ (p : PreferenceMemory). length p.rows) renews.rows,
        renews.room,
        filter_shorter (λ row. not (is_rejected_by made row)) (with_rows (without_firings a.prefs.rows gone) made),
      );
      rows_in_range = subst AreInRange (sym rows) (keeps a.prefs.rows gone made s.rows_in_range fit.rows_in_range);
      rows_of_firings = subst (AreOfFirings a.firings) (sym rows) (rows_after_of a.firings a.prefs.rows made gone s.rows_of_firings fit.rows_of_firings);
      makers_of_firings = s.makers_of_firings;
      recorded_up_to = s.recorded_up_to;
      makers_earlier = s.makers_earlier;
      first_words = s.first_words;
      top_numbered = s.top_numbered;
      numbered = s.numbered;
      numbers_given = s.numbers_given;
      rules_known = s.rules_known;
      elements_known = s.elements_known;
      rows_known = subst (AreRowsKnown a.table) (sym rows) (rows_after_known a.table a.prefs.rows made gone s.rows_known fit.rows_known);
      inputs_known = s.inputs_known;
      queue_known = s.queue_known;
      output_known = s.output_known;
      live_known =
          subst (AreLiveKnown a.table) (sym lives)
          (live_append a.table (still_live gone (map live_seen a.live.list)) new (live_filter a.table (λ l. not (has_left gone l)) (map live_seen a.live.list) s.live_known) fit.live_known);
      live_given = λ l is. elim (in_append l (still_live gone (map live_seen a.live.list)) new (subst (IsIn l) lives is)) [
        | inl old ↦ s.live_given l (filter_within (λ k. not (has_left gone k)) (map live_seen a.live.list) l old)
        | inr here ↦ fit.live_given l here
      ];
      kept_up = kept_renewed a.prefs prefs a.inputs a.changed a.kept a.memory.elements (ap (λ (p : PreferenceMemory). p.settled) renews.rows) s.kept_up;
      kept_ids = s.kept_ids;
      past_named = s.past_named;
      chains_known = s.chains_known;
      chains_kept = s.chains_kept;
    }

-- counts are not part of it
pub counted_sound : (a : PartsKept) (waves retractions : ℕ) → IsSound a → IsSound (record a { waves = waves; retractions = retractions })
counted_sound a waves retractions s = record {
  goals_some = s.goals_some;
  goals_few = s.goals_few;
  goals_known = s.goals_known;
  depends_fit = s.depends_fit;
  doubted = s.doubted;
  element_limit = s.element_limit;
  row_limit = s.row_limit;
  few_rows = s.few_rows;
  rows_in_range = s.rows_in_range;
  rows_of_firings = s.rows_of_firings;
  makers_of_firings = s.makers_of_firings;
  recorded_up_to = s.recorded_up_to;
  makers_earlier = s.makers_earlier;
  first_words = s.first_words;
  top_numbered = s.top_numbered;
  numbered = s.numbered;
  numbers_given = s.numbers_given;
  rules_known = s.rules_known;
  elements_known = s.elements_known;
  rows_known = s.rows_known;
  inputs_known = s.inputs_known;
  queue_known = s.queue_known;
  output_known = s.output_known;
  live_known = s.live_known;
  live_given = s.live_given;
  kept_up = s.kept_up;
  kept_ids = s.kept_ids;
  past_named = s.past_named;
  chains_known = s.chains_known;
  chains_kept = s.chains_kept;
}
