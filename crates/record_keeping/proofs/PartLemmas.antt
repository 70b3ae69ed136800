-- What roots reach in a record is a part of each history of which the record is one.
use Rattle.std.proofs.Common.{◌≡◌, refl, sym, subst, ℕ, Bool, true, false, ◌==◌, cond, inl, arith, List, [], ◌∷◌, filter}
use Rattle.defs_soar.specs.Explanation.{explaining}
use Rattle.defs_soar.specs.History.{FiringOf}
use Rattle.defs_soar.specs.Laws.{IsIn}
use Rattle.defs_soar.specs.Standing.{AreFrom, is_recorded}
use Rattle.agent_laws.proofs.Lists.{all_each, any_in, any_some, each_all, filter_keeps, filter_within, same_number}
use Rattle.agent_laws.specs.Records.{IsPartOf, NumbersByRecord, PartsOfParts}
use Rattle.agent_laws.proofs.ReachLaws.{explaining_has_makers}
use Rattle.agent_laws.proofs.RecordLaws.{from_there}
use Rattle.record_laws.specs.Closed.{HasMakers}
use Rattle.soar_record.specs.Recorded.{is_of, reached_by}
use Rattle.soar_record.proofs.KeepingLemmas.{from_left}

turned : (a b : ℕ) → (a == b) ≡ true → (b == a) ≡ true
turned a b e = grind arith

some_from : (p : FiringOf → Bool) (history kept : List FiringOf) → AreFrom history kept → AreFrom history (filter p kept)
some_from p history [] h = tt
some_from p history (f ∷ kept) h = go (p f) (some_from p history kept h.1)
  where
    go : (b : Bool) → AreFrom history (filter p kept) → AreFrom history (cond b (f ∷ filter p kept) (filter p kept))
    go true later = (h.0, later)
    go false later = later

-- a firing that is reached is among those that are left
still_recorded : (kept : List FiringOf) (roots : List ℕ) (n : ℕ) → IsIn n (explaining kept roots) → is_recorded kept n ≡ true → is_recorded (reached_by roots kept) n ≡ true
still_recorded kept roots n i there =
    let a = any_some (λ f. f.number == n) kept there in
    let reached : is_of (explaining kept roots) a.0 ≡ true = any_in (λ m. m == a.0.number) n (explaining kept roots) i (turned a.0.number n a.2) in
    any_in (λ f. f.number == n) a.0 (reached_by roots kept) (filter_keeps (is_of (explaining kept roots)) kept a.0 a.1 reached) a.2

pub part_left : NumbersByRecord → PartsOfParts → (less kept : List FiringOf) (roots : List ℕ) → AreFrom kept kept → less ≡ reached_by roots kept
    → (history : List FiringOf) → IsPartOf kept history roots → IsPartOf less history roots
part_left numbers parts less kept roots once is history h =
    subst (λ (fs : List FiringOf). IsPartOf fs history roots) (sym is)
    (parts (reached_by roots kept) kept history roots h (record {
      apart = from_left (is_of (explaining kept roots)) kept kept once;
      from_history = some_from (is_of (explaining kept roots)) kept kept once;
      reaches_all =
          all_each (is_recorded (reached_by roots kept)) (explaining kept roots)
          (λ n i. still_recorded kept roots n i (each_all (is_recorded kept) n (explaining history roots) h.reaches_all (subst (IsIn n) (numbers kept history roots h) i)));
    }))

-- with the makers of what each firing used
pub makers_left : (less kept : List FiringOf) (roots : List ℕ) → AreFrom kept kept → less ≡ reached_by roots kept → HasMakers kept → HasMakers less
makers_left less kept roots once is makers = subst HasMakers (sym is) each
  where
    each : HasMakers (reached_by roots kept)
    each f i n j =
        let a = filter_within (is_of (explaining kept roots)) kept f i in
        let b = any_some (λ m. m == f.number) (explaining kept roots) a.1 in
        let itself : IsIn f.number (explaining kept roots) = subst (λ m. IsIn m (explaining kept roots)) (same_number b.0 f.number b.2) b.1 in
        still_recorded kept roots n (explaining_has_makers kept roots f.number f n itself (subst (IsIn f) (sym (from_there kept kept f once a.0)) (inl refl)) j) (makers f a.0 n j)
