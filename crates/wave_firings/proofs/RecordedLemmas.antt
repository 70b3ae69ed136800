-- The firings of a wave are recorded in turn, each with what it used.
use Rattle.std.proofs.Common.{◌≡◌, ℕ, zero, suc, ◌+◌, Bool, true, false, inl, inr, List, [], ◌∷◌, ◌++◌, length, map, flat_map, Option, Some, None, refl, sym, ap, subst, ◌∙◌, append_assoc, append-nil}
use Rattle.std.proofs.lemmas.List.{map-append}
use Rattle.std.specs.Prelude.{nat_lt, if◌then◌else◌}
use Rattle.soar_sym.specs.Words.{Texts}
use Rattle.soar_sym.specs.declared.symbol.Sym.{Sym}
use Rattle.defs_match.specs.Rules.{RuleOf}
use Rattle.defs_match.specs.declared.instance.Instance.{Instance}
use Rattle.defs_soar.specs.declared.goal.Goal.{Goal}
use Rattle.defs_soar.specs.declared.limit.Which.{Which}
use Rattle.defs_soar.specs.declared.limit.Which.TheVariants as which
use Rattle.defs_soar.specs.Explanation.{maker_named}
use Rattle.defs_soar.specs.Goals.{goal_ids}
use Rattle.defs_soar.specs.Laws.{IsIn}
use Rattle.defs_soar.specs.Limits.{first_passed}
use Rattle.defs_soar.specs.Pending.{Firable}
use Rattle.defs_soar.specs.Support.{goal_at_depth}
use Rattle.defs_soar.specs.Uses.{all_uses, elements_matched}
use Rattle.defs_soar.specs.WaveAtHand.{Entry, Fresh, all_fresh, fired}
use Rattle.firing_records.specs.Recorded.{RecordedAs, Standing, fresh_seen}
use Rattle.pending_work.specs.Firables.{firables_for}
use Rattle.wave_entries.specs.Entries.{entry_seen}
use Rattle.wave_firings.specs.FiringOutcome.{Gathered, gathered, nothing_fired, Outcome, reached, stopped, then_on, within_limits, made_for, goals_named, with_made, firings_outcome, instances_outcome}
use Rattle.wave_firings.specs.Numbered.{AreGoalsOf, AreMakersOfFirings, AreMakersUpTo, AreNumberedAfter, AreOfFirings}
use Rattle.wave_firings.specs.Held.{Against, against, fresh_made}
use Rattle.wave_firings.specs.Listed.{recorded_in}
use Rattle.wave_firings.specs.declared.firing.Fired.{Fired}
use Rattle.firing_records.proofs.MakersUpTo.{makers_up_to}
use Rattle.wave_firings.proofs.FiringAgreement.{fresh_push}

-- the firing after this number, with its match goal and what it used
record IsRecorded (a : Against) (last : ℕ) (r : RecordedAs) : Type 0 where
  number_is : r.firing.number ≡ suc last
  goal_is : r.goal ≡ goal_at_depth r.firing.depth a.reach.goals
  used_are : r.firing.used ≡ all_uses a.reach a.rows r.firing.depth (elements_matched a.elements r.firing.instance.tags)

abbrev AreRecorded : Against → ℕ → List RecordedAs → Type 0
AreRecorded a last [] = Unit {0}
AreRecorded a last (r ∷ recorded) = IsRecorded a last r × AreRecorded a (suc last) recorded

-- what was recorded between the two
record RecordsMore (a : Against) (g after : Gathered) : Type 0 where
  more : List RecordedAs
  recorded_are : recorded_in after.entries ≡ recorded_in g.entries ++ more
  are_recorded : AreRecorded a g.last more

-- one firing more is recorded behind the earlier ones
recorded_push : (entries : List Entry) (x : Fresh) → recorded_in (entries ++ fired x ∷ []) ≡ recorded_in entries ++ fresh_seen x ∷ []
recorded_push entries x = ap (map fresh_seen) (fresh_push entries x) ∙ map-append fresh_seen (all_fresh entries) (x ∷ [])

abbrev reached_or : Gathered → Outcome → Gathered
reached_or g (reached h) = h
reached_or g (stopped limit) = g

records_more : (a : Against) (firables : List Firable) (g after : Gathered) → firings_outcome a firables g ≡ reached after → RecordsMore a g after
records_more a [] g after is = record { more = []; recorded_are = ap (λ o. recorded_in (reached_or g o).entries) (sym is) ∙ sym (append-nil (recorded_in g.entries)); are_recorded = tt }
records_more a (f ∷ firables) g after is =
    by (nat_lt 18446744073709551615 (suc g.last)) (first_passed (made_for a.reach.goals f g.words g.letters).naming.totals) is (records_more a firables next after)
  where
    next : Gathered
    next = with_made a f (suc g.last) (made_for a.reach.goals f g.words g.letters) g

    by : (over : Bool) (passed : Option Which) → then_on (if over then stopped which.Counts else within_limits passed next) (firings_outcome a firables) ≡ reached after
        → (firings_outcome a firables next ≡ reached after → RecordsMore a next after) → RecordsMore a g after
    by true passed e later = absurd (cc)
    by false (Some limit) e later = absurd (cc)
    by false None e later =
        let l = later e in
        let made = made_for a.reach.goals f g.words g.letters in
        let x = fresh_made a f (suc g.last) (goals_named a.reach.goals f g.words) made.wishes made.dropped made.text in
        let r = fresh_seen x in
        record {
          more = r ∷ l.more;
          recorded_are = l.recorded_are ∙ ap (λ recorded. recorded ++ l.more) (recorded_push g.entries x) ∙ append_assoc (recorded_in g.entries) (r ∷ []) l.more;
          are_recorded = (record { number_is = refl; goal_is = refl; used_are = refl }, l.are_recorded);
        }

-- ---- what holds of firings so recorded

are_numbered : (a : Against) (last : ℕ) (recorded : List RecordedAs) → AreRecorded a last recorded → AreNumberedAfter last recorded
are_numbered a last [] h = tt
are_numbered a last (r ∷ recorded) h = (h.0.number_is, are_numbered a (suc last) recorded h.1)

goal_there : (depth : ℕ) (goals : List Goal) (s : Sym) → goal_at_depth depth goals ≡ Some s → IsIn s (goal_ids goals)
goal_there zero [] s h = absurd (cc)
goal_there zero (g ∷ goals) s h = absurd (cc)
goal_there (suc zero) [] s h = absurd (cc)
goal_there (suc zero) (g ∷ goals) s h = inl cc
goal_there (suc (suc depth)) [] s h = absurd (cc)
goal_there (suc (suc depth)) (g ∷ goals) s h = inr (goal_there (suc depth) goals s h)

are_goals : (a : Against) (last : ℕ) (recorded : List RecordedAs) → AreRecorded a last recorded → AreGoalsOf a.reach.goals recorded
are_goals a last [] h r s i is = absurd i
are_goals a last (x ∷ recorded) h r s (inl e) is = goal_there x.firing.depth a.reach.goals s (sym h.0.goal_is ∙ ap (λ (y : RecordedAs). y.goal) e ∙ is)
are_goals a last (x ∷ recorded) h r s (inr i) is = are_goals a (suc last) recorded h.1 r s i is

are_makers : (a : Against) (n last : ℕ) (recorded : List RecordedAs) → AreOfFirings n a.rows → AreMakersOfFirings n a.reach.goals → AreRecorded a last recorded → AreMakersUpTo n recorded
are_makers a n last [] rows makers h r m i j = absurd i
are_makers a n last (x ∷ recorded) rows makers h r m (inl e) j =
    makers_up_to n a.reach a.rows rows makers x.firing.depth (elements_matched a.elements x.firing.instance.tags) m
    (subst (λ used. IsIn m (flat_map maker_named used)) (ap (λ (y : RecordedAs). y.firing.used) (sym e) ∙ h.0.used_are) j)
are_makers a n last (x ∷ recorded) rows makers h r m (inr i) j = are_makers a n (suc last) recorded rows makers h.1 r m i j

-- ---- all of a wave

module _ (s : Standing) (rules : List RuleOf) (instances : List Instance) (words : Texts) (letters : List ℕ) (last : ℕ) (new_words : Texts) (new_letters : List ℕ) (made : Fired)
    (is : instances_outcome (against s) rules instances (gathered words letters last nothing_fired) ≡ reached (gathered new_words new_letters (last + length instances) made)) where
  all_recorded : AreRecorded (against s) last (recorded_in (map entry_seen made.entries))
  all_recorded = let more = records_more (against s) (flat_map (firables_for rules s.elements) instances) _ _ is in subst (AreRecorded (against s) last) (sym more.recorded_are) more.are_recorded

  pub numbers_all : AreNumberedAfter last (recorded_in (map entry_seen made.entries))
  numbers_all = are_numbered (against s) last (recorded_in (map entry_seen made.entries)) all_recorded

  pub goals_all : AreGoalsOf s.goals (recorded_in (map entry_seen made.entries))
  goals_all = are_goals (against s) last (recorded_in (map entry_seen made.entries)) all_recorded

  pub makers_all : AreOfFirings last s.rows → AreMakersOfFirings last s.goals → AreMakersUpTo last (recorded_in (map entry_seen made.entries))
  makers_all rows makers = are_makers (against s) last last (recorded_in (map entry_seen made.entries)) rows makers all_recorded
