-- The firings of a wave join each history of which the record is a part.
use Rattle.std.proofs.Common.{◌≡◌, refl, sym, ◌∙◌, ap, subst, ℕ, ◌<◌, ◌≤◌, Bool, true, false, ◌==◌, cond, inl, inr, arith, List, [], ◌∷◌, ◌++◌, map}
use Rattle.std.proofs.lemmas.List.{append-nil}
use Rattle.defs_soar.specs.Agents.{Agent}
use Rattle.defs_soar.specs.Explanation.{explaining, firing_of}
use Rattle.defs_soar.specs.History.{FiringOf}
use Rattle.defs_soar.specs.Laws.{IsIn}
use Rattle.defs_soar.specs.Pending.{pending}
use Rattle.defs_soar.specs.Standing.{AreFrom, firings_of_history, is_recorded, roots_of}
use Rattle.defs_soar.specs.Waves.{wave_of, worked}
use Rattle.learning_laws.specs.LawfulWaves.{fresh_firings}
use Rattle.learning_laws.proofs.Lists.{any_in, any_some, each_all, filter_within, in_append, in_left, in_mapped, in_right, same_number}
use Rattle.agent_laws.specs.Records.{AreRisingFrom}
use Rattle.agent_laws.specs.RecordSteps.{IsJoined}
use Rattle.agent_laws.proofs.DependenceLaws.{filter_both, none_of}
use Rattle.agent_laws.proofs.PartLaws.{rising_are_apart}
use Rattle.agent_laws.proofs.ReachLaws.{explaining_has_makers, explaining_has_roots}
use Rattle.agent_laws.proofs.RecordLaws.{from_there}
use Rattle.agent_laws.proofs.WaveRecords.{waves_join_record}
use Rattle.record_laws.specs.Closed.{HasMakers}
use Rattle.record_laws.specs.Joining.{LaterJoin, WavesLeaveRecord}

-- ---- numbers

-- no firing has a number above all
none_above : (n : ℕ) (firings : List FiringOf) → ((f : FiringOf) → IsIn f firings → f.number < n) → firing_of firings n ≡ []
none_above n [] h = refl
none_above n (f ∷ firings) h = go (f.number == n) refl (none_above n firings (λ g i. h g (inr i)))
  where
    go : (b : Bool) → (f.number == n) ≡ b → firing_of firings n ≡ [] → cond b (f ∷ firing_of firings n) (firing_of firings n) ≡ []
    go true q later = let less : f.number < n = h f (inl refl) in let e : f.number ≡ n = same_number f.number n q in absurd (omega arith)
    go false q later = later

rising_above : (last : ℕ) (new : List FiringOf) (f : FiringOf) → AreRisingFrom last new → IsIn f new → last < f.number
rising_above last [] f h i = absurd i
rising_above last (g ∷ new) f h (inl e) = let same : g.number ≡ f.number = ap (λ (x : FiringOf). x.number) e in let less : last < g.number = h.0 in omega arith
rising_above last (g ∷ new) f h (inr i) = let less : last < g.number = h.0 in let more = rising_above g.number new f h.1 i in omega arith

all_from : (history kept : List FiringOf) → ((f : FiringOf) → IsIn f kept → firing_of history f.number ≡ f ∷ []) → AreFrom history kept
all_from history [] h = tt
all_from history (f ∷ kept) h = (h f (inl refl), all_from history kept (λ g i. h g (inr i)))

pub later_join : LaterJoin
later_join last kept others new from few rising = all_from (others ++ new) (kept ++ new) (λ f i. elim (in_append f kept new i) [ inl j ↦ old f j | inr j ↦ fresh f j ])
  where
    both : (n : ℕ) → firing_of (others ++ new) n ≡ firing_of others n ++ firing_of new n
    both n = filter_both (λ f. f.number == n) others new

    is_there : (f : FiringOf) → IsIn f kept → IsIn f others
    is_there f i = (filter_within (λ g. g.number == f.number) others f (subst (IsIn f) (sym (from_there others kept f from i)) (inl refl))).0

    old : (f : FiringOf) → IsIn f kept → firing_of (others ++ new) f.number ≡ f ∷ []
    old f i =
        let low : f.number ≤ last = few f (is_there f i) in
        let none : firing_of new f.number ≡ [] = none_of f.number new (λ g j. let high : last < g.number = rising_above last new g rising j in omega arith) in
        both f.number ∙ ap (λ fs. firing_of others f.number ++ fs) none ∙ append-nil (firing_of others f.number) ∙ from_there others kept f from i

    fresh : (f : FiringOf) → IsIn f new → firing_of (others ++ new) f.number ≡ f ∷ []
    fresh f i =
        let high : last < f.number = rising_above last new f rising i in
        let none : firing_of others f.number ≡ [] = none_above f.number others (λ g j. let low : g.number ≤ last = few g j in omega arith) in
        both f.number ∙ ap (λ fs. fs ++ firing_of new f.number) none ∙ from_there new new f (rising_are_apart last new rising) i

-- ---- the record after a wave

-- firings that all have makers have them with more behind them
recorded_more : (kept new : List FiringOf) (n : ℕ) → is_recorded kept n ≡ true → is_recorded (kept ++ new) n ≡ true
recorded_more kept new n h = let a = any_some (λ f. f.number == n) kept h in any_in (λ f. f.number == n) a.0 (kept ++ new) (in_left a.0 kept new a.1) a.2

makers_after : (kept new : List FiringOf) (after : Agent) → HasMakers kept → IsJoined kept new after → HasMakers (kept ++ new)
makers_after kept new after closed h f i n j = elim (in_append f kept new i) [
  | inl k ↦ recorded_more kept new n (closed f k n j)
  | inr k ↦
      let numbers = map (λ (g : FiringOf). g.number) new in
      let all = firings_of_history after in
      each_all (is_recorded (kept ++ new)) n (explaining all numbers) h.has_new.reaches_all
      (explaining_has_makers all numbers f.number f n (explaining_has_roots all numbers f.number (in_mapped (λ (g : FiringOf). g.number) f new k))
      (subst (IsIn f) (sym (from_there all (kept ++ new) f h.has_new.from_history (in_right f kept new k))) (inl refl)) j)
]

pub waves_leave_record : WavesLeaveRecord
waves_leave_record end keeps orders kept a proposing h part closed =
    let new = fresh_firings (worked end a (pending proposing a)) in
    let after = (wave_of end a (pending proposing a)).agent in
    let joined : IsJoined kept new after = waves_join_record end keeps orders kept a proposing h part.apart (record { from_history = part.from_history; reaches_all = part.reaches_all }) in
    record {
      apart = joined.has_new.apart;
      makers = makers_after kept new after closed joined;
      roots = λ n i. each_all (is_recorded (kept ++ new)) n (explaining (firings_of_history after) (roots_of after)) joined.is_record.reaches_all (explaining_has_roots (firings_of_history after) (roots_of after) n i);
    }
