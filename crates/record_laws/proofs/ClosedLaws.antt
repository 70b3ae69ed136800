-- A record that has the makers of what its firings used has all that its firings reach.
use Rattle.std.proofs.Common.{◌≡◌, refl, sym, subst, ℕ, true, ◌==◌, inl, inr, List}
use Rattle.defs_soar.specs.Explanation.{explaining, firing_of}
use Rattle.defs_soar.specs.History.{FiringOf}
use Rattle.defs_soar.specs.Laws.{IsIn}
use Rattle.defs_soar.specs.Standing.{AreFrom, is_recorded}
use Rattle.agent_laws.proofs.ReachLaws.{explaining_has_makers, explaining_has_roots, explaining_within, numbers_of_makers}
use Rattle.agent_laws.proofs.RecordLaws.{from_there}
use Rattle.learning_laws.proofs.Lists.{all_each, any_some, each_all, same_number}
use Rattle.record_laws.specs.Closed.{ReachedHaveMakers, RecordedRootsSuffice, RootsAreRecorded}

-- the firing of a number that is recorded
pub recorded_firing : (kept : List FiringOf) (n : ℕ) → is_recorded kept n ≡ true → (f : FiringOf) × IsIn f kept × (f.number ≡ n)
recorded_firing kept n h = let a = any_some (λ f. f.number == n) kept h in (a.0, a.1, same_number a.0.number n a.2)

-- it is the one of its number in the history
only_one : (firings kept : List FiringOf) (f g : FiringOf) → AreFrom firings kept → IsIn g kept → IsIn f (firing_of firings g.number) → f ≡ g
only_one firings kept f g from i j = elim (subst (IsIn f) (from_there firings kept g from i) j) [ inl e ↦ sym e | inr z ↦ absurd z ]

pub recorded_roots_suffice : RecordedRootsSuffice
recorded_roots_suffice kept firings roots apart from closed there = record {
  apart = apart;
  from_history = from;
  reaches_all =
      all_each (is_recorded kept) (explaining firings roots) (explaining_within firings (λ n. is_recorded kept n ≡ true) roots there (λ n f p i m j.
      let g = recorded_firing kept n p in
      let same : f ≡ g.0 = only_one firings kept f g.0 from g.1 (subst (λ k. IsIn f (firing_of firings k)) (sym g.2) i) in
      closed g.0 g.1 m (subst (λ (x : FiringOf). IsIn m (numbers_of_makers x)) same j)));
}

pub roots_are_recorded : RootsAreRecorded
roots_are_recorded kept firings roots h n i = each_all (is_recorded kept) n (explaining firings roots) h.reaches_all (explaining_has_roots firings roots n i)

pub reached_have_makers : ReachedHaveMakers
reached_have_makers less kept roots from within all f i n j =
    each_all (is_recorded less) n (explaining kept roots) all
    (explaining_has_makers kept roots f.number f n (within f i) (subst (IsIn f) (sym (from_there kept less f from i)) (inl refl)) j)
