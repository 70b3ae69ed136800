-- What is left of a record that keeps the firings of some numbers.
use Rattle.std.proofs.Common.{◌≡◌, refl, sym, ◌∙◌, ap, ap₂, subst, ℕ, Bool, true, false, ◌==◌, ◌||◌, cond, arith, List, [], ◌∷◌, filter}
use Rattle.std.specs.List.{list_any}
use Rattle.std.specs.Ordering.{is_eq, nat_cmp}
use Rattle.defs_soar.specs.declared.firing.Firing.{Firing}
use Rattle.defs_soar.specs.Explanation.{firing_of}
use Rattle.defs_soar.specs.History.{FiringOf, firing_seen}
use Rattle.defs_soar.specs.Standing.{AreFrom}
use Rattle.soar_record.specs.Recorded.{firings_in, HaveOwnNumbers, is_of, IsNumbered, of_numbers, recorded}

found_flip : (n k : ℕ) → is_eq (nat_cmp n k) ≡ (k == n)
found_flip n k = grind arith

-- what a set of numbers finds
pub found_in_set : (n : ℕ) (ms : List ℕ) → list_any (λ k. is_eq (nat_cmp n k)) ms ≡ list_any (λ m. m == n) ms
found_in_set n [] = refl
found_in_set n (m ∷ ms) = ap₂ (λ a b. a || b) (found_flip n m) (found_in_set n ms)

-- the entry stands under one of the numbers
abbrev pub is_kept : List ℕ → ℕ × Firing → Bool
is_kept numbers e = list_any (λ n. n == e.0) numbers

abbrev pub entries_kept : List ℕ → List (ℕ × Firing) → List (ℕ × Firing)
entries_kept numbers entries = filter (is_kept numbers) entries

-- the entries that are left are the firings of these numbers
pub firings_kept : (numbers : List ℕ) (entries : List (ℕ × Firing)) → HaveOwnNumbers entries → recorded (firings_in (entries_kept numbers entries)) ≡ of_numbers numbers (recorded (firings_in entries))
firings_kept numbers [] h = refl
firings_kept numbers (e ∷ entries) h = go (is_kept numbers e) (is_of numbers (firing_seen e.1)) (ap (λ k. list_any (λ n. n == k) numbers) h.0) (firings_kept numbers entries h.1)
  where
    go : (a b : Bool) → a ≡ b → recorded (firings_in (entries_kept numbers entries)) ≡ of_numbers numbers (recorded (firings_in entries))
        → recorded (firings_in (cond a (e ∷ entries_kept numbers entries) (entries_kept numbers entries))) ≡ cond b (firing_seen e.1 ∷ of_numbers numbers (recorded (firings_in entries))) (of_numbers numbers (recorded (firings_in entries)))
    go true true q later = ap (λ l. firing_seen e.1 ∷ l) later
    go false false q later = later
    go true false q later = absurd (cc)
    go false true q later = absurd (cc)

own_kept : (numbers : List ℕ) (entries : List (ℕ × Firing)) → HaveOwnNumbers entries → HaveOwnNumbers (entries_kept numbers entries)
own_kept numbers [] h = tt
own_kept numbers (e ∷ entries) h = go (is_kept numbers e) (own_kept numbers entries h.1)
  where
    go : (b : Bool) → HaveOwnNumbers (entries_kept numbers entries) → HaveOwnNumbers (cond b (e ∷ entries_kept numbers entries) (entries_kept numbers entries))
    go true later = (h.0, later)
    go false later = later

-- ---- numbers that stand once

module _ (p : FiringOf → Bool) where
  -- the firing of a number among those that are left
  firing_left : (fs : List FiringOf) (n : ℕ) → firing_of (filter p fs) n ≡ filter p (firing_of fs n)
  firing_left [] n = refl
  firing_left (f ∷ fs) n = go (p f) refl (f.number == n) refl (firing_left fs n)
    where
      go : (a : Bool) → p f ≡ a → (b : Bool) → (f.number == n) ≡ b → firing_of (filter p fs) n ≡ filter p (firing_of fs n)
          → firing_of (cond a (f ∷ filter p fs) (filter p fs)) n ≡ filter p (cond b (f ∷ firing_of fs n) (firing_of fs n))
      go true e true q later =
          ap (λ x. cond x (f ∷ firing_of (filter p fs) n) (firing_of (filter p fs) n)) q ∙ ap (λ l. f ∷ l) later
          ∙ ap (λ x. cond x (f ∷ filter p (firing_of fs n)) (filter p (firing_of fs n))) (sym e)
      go true e false q later = ap (λ x. cond x (f ∷ firing_of (filter p fs) n) (firing_of (filter p fs) n)) q ∙ later
      go false e true q later = later ∙ ap (λ x. cond x (f ∷ filter p (firing_of fs n)) (filter p (firing_of fs n))) (sym e)
      go false e false q later = later

  pub from_left : (history kept : List FiringOf) → AreFrom history kept → AreFrom (filter p history) (filter p kept)
  from_left history [] h = tt
  from_left history (f ∷ kept) h = go (p f) refl (from_left history kept h.1)
    where
      go : (b : Bool) → p f ≡ b → AreFrom (filter p history) (filter p kept) → AreFrom (filter p history) (cond b (f ∷ filter p kept) (filter p kept))
      go true e later = (firing_left history f.number ∙ ap (filter p) h.0 ∙ ap (λ x. cond x (f ∷ []) []) e, later)
      go false e later = later

pub still_numbered : (numbers : List ℕ) (entries : List (ℕ × Firing)) → IsNumbered entries → IsNumbered (entries_kept numbers entries)
still_numbered numbers entries h = record {
  own_numbers = own_kept numbers entries h.own_numbers;
  once = subst (λ (l : List FiringOf). AreFrom l l) (sym (firings_kept numbers entries h.own_numbers)) (from_left (is_of numbers) before before h.once);
}
  where
    before : List FiringOf
    before = recorded (firings_in entries)
