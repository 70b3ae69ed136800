-- The firing at a place is the first of its number, where numbers tell firings.
use Rattle.std.proofs.Common.{◌≡◌, refl, sym, ◌∙◌, ap, ℕ, zero, suc, Bool, true, false, ◌==◌, cond, inl, inr, arith, List, [], ◌∷◌, map, Some, None}
use Rattle.std.specs.List.{slice_get}
use Rattle.std.specs.Option.{option_map}
use Rattle.defs_soar.specs.History.{FiringOf}
use Rattle.defs_soar.specs.Laws.{IsIn}
use Rattle.defs_soar.specs.WaveAtHand.{Entry as EntryOf, Fresh, all_fresh, fired, noted}
use Rattle.learning_laws.proofs.Lists.{same_number}
use Rattle.wave_entries.specs.Entries.{entry_seen}
use Rattle.wave_entries.specs.declared.entry.Entry.{Entry}
use Rattle.wave_learning.specs.Found.{AreTold, firing_at, firing_of_entry, first_firing, or_firing}

-- a firing of this number is there
record IsThere (n : ℕ) (entries : List EntryOf) (f : FiringOf) : Type 0 where
  fresh : Fresh
  is_there : IsIn fresh (all_fresh entries)
  number_is : fresh.firing.number ≡ n
  firing_is : fresh.firing ≡ f

there_now : (n : ℕ) (e : EntryOf) (entries : List EntryOf) (f : FiringOf) → firing_at n e ≡ Some f → IsThere n (e ∷ entries) f
there_now n (noted l) entries f q = absurd (cc)
there_now n (fired x) entries f q = go (x.firing.number == n) refl q
  where
    go : (b : Bool) → (x.firing.number == n) ≡ b → cond b (Some x.firing) None ≡ Some f → IsThere n (fired x ∷ entries) f
    go true p r = record { fresh = x; is_there = inl refl; number_is = same_number x.firing.number n p; firing_is = cc }
    go false p r = absurd (cc)

there_later : (n : ℕ) (e : EntryOf) (entries : List EntryOf) (f : FiringOf) → IsThere n entries f → IsThere n (e ∷ entries) f
there_later n (noted l) entries f h = record { fresh = h.fresh; is_there = h.is_there; number_is = h.number_is; firing_is = h.firing_is }
there_later n (fired x) entries f h = record { fresh = h.fresh; is_there = inr h.is_there; number_is = h.number_is; firing_is = h.firing_is }

there : (n place : ℕ) (entries : List Entry) (f : FiringOf) → firing_of_entry n (option_map entry_seen (slice_get entries place)) ≡ Some f → IsThere n (map entry_seen entries) f
there n place [] f q = absurd (cc)
there n zero (e ∷ entries) f q = there_now n (entry_seen e) (map entry_seen entries) f q
there n (suc place) (e ∷ entries) f q = there_later n (entry_seen e) (map entry_seen entries) f (there n place entries f q)

not_other : (m n : ℕ) → (m == n) ≡ false → m ≡ n → ⊥
not_other m n p q = grind arith

first_is : (n : ℕ) (entries : List EntryOf) (x : Fresh) → IsIn x (all_fresh entries) → x.firing.number ≡ n
    → ((y : Fresh) → IsIn y (all_fresh entries) → y.firing.number ≡ n → y.firing ≡ x.firing) → first_firing n entries ≡ Some x.firing
first_is n [] x i q tell = absurd i
first_is n (noted l ∷ entries) x i q tell = first_is n entries x i q tell
first_is n (fired y ∷ entries) x i q tell = go (y.firing.number == n) refl i (λ j. first_is n entries x j q (λ z k r. tell z (inr k) r))
  where
    go : (b : Bool) → (y.firing.number == n) ≡ b → IsIn x (all_fresh (fired y ∷ entries)) → (IsIn x (all_fresh entries) → first_firing n entries ≡ Some x.firing)
        → or_firing (cond b (Some y.firing) None) (first_firing n entries) ≡ Some x.firing
    go true p j later = ap Some (tell y (inl refl) (same_number y.firing.number n p))
    go false p (inl e) later = absurd (not_other y.firing.number n p (ap (λ (z : Fresh). z.firing.number) e ∙ q))
    go false p (inr j) later = later j

pub told_first : (n place : ℕ) (entries : List Entry) (f : FiringOf) → AreTold (map entry_seen entries) → firing_of_entry n (option_map entry_seen (slice_get entries place)) ≡ Some f
    → first_firing n (map entry_seen entries) ≡ Some f
told_first n place entries f told q =
    let h = there n place entries f q in
    first_is n (map entry_seen entries) h.fresh h.is_there h.number_is (λ y i p. told y h.fresh i h.is_there (p ∙ sym h.number_is)) ∙ ap Some h.firing_is
