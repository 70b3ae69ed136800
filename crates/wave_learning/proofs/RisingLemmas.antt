-- Numbers of firings that rise, and the preferences of one firing among them.
use Rattle.std.proofs.Common.{◌≡◌, refl, sym, ◌∙◌, ap, ap₂, subst, ℕ, zero, suc, ◌<◌, ◌≤◌, Bool, true, false, ◌&&◌, ◌==◌, nat_lt, cond, inl, inr, arith, List, [], ◌∷◌, ◌++◌, length, map}
use Rattle.std.proofs.lemmas.Bool.{lt-ltb, ltb-true}
use Rattle.std.specs.Prelude.{slice_index_or, slice_set}
use Rattle.defs_soar.specs.declared.preference.Wish.{Wish}
use Rattle.defs_soar.specs.Events.{LearningEvent, WishSupport}
use Rattle.defs_soar.specs.Laws.{IsIn}
use Rattle.defs_soar.specs.LearnedFirings.{with_support_by, with_supports_by}
use Rattle.defs_soar.specs.WaveAtHand.{Entry as EntryOf, Fresh, fired, noted}
use Rattle.learned_firings.specs.Flags.{with_flags, with_flags_held}
use Rattle.learning_laws.proofs.Lists.{and_true, both_true, same_number}
use Rattle.wave_entries.specs.Entries.{entry_seen, fresh_at_hand}
use Rattle.wave_entries.specs.declared.entry.Entry.{Entry}
use Rattle.wave_entries.specs.declared.entry.Entry.TheVariants as entry
use Rattle.wave_learning.specs.Rising.{AreRising, has_number, numbers_in, rises_from}

-- ---- they stay so

numbers_with : (n : ℕ) (p : Wish → Bool) (by : WishSupport) (entries : List EntryOf) → numbers_in (map (with_supports_by n p by) entries) ≡ numbers_in entries
numbers_with n p by [] = refl
numbers_with n p by (noted l ∷ entries) = numbers_with n p by entries
numbers_with n p by (fired x ∷ entries) = go (x.firing.number == n) (numbers_with n p by entries)
  where
    go : (b : Bool) → numbers_in (map (with_supports_by n p by) entries) ≡ numbers_in entries
        → numbers_in (cond b (fired (record x { wishes = map (with_support_by p by) x.wishes })) (fired x) ∷ map (with_supports_by n p by) entries) ≡ x.firing.number ∷ numbers_in entries
    go true q = ap (λ l. x.firing.number ∷ l) q
    go false q = ap (λ l. x.firing.number ∷ l) q

numbers_fired : (entries : List EntryOf) (x : Fresh) → numbers_in (entries ++ fired x ∷ []) ≡ numbers_in entries ++ x.firing.number ∷ []
numbers_fired [] x = refl
numbers_fired (fired y ∷ entries) x = ap (λ l. y.firing.number ∷ l) (numbers_fired entries x)
numbers_fired (noted l ∷ entries) x = numbers_fired entries x

numbers_noted : (entries : List EntryOf) (learning_event : LearningEvent) → numbers_in (entries ++ noted learning_event ∷ []) ≡ numbers_in entries
numbers_noted [] learning_event = refl
numbers_noted (fired y ∷ entries) learning_event = ap (λ l. y.firing.number ∷ l) (numbers_noted entries learning_event)
numbers_noted (noted l ∷ entries) learning_event = numbers_noted entries learning_event

rises_more : (last n : ℕ) (numbers : List ℕ) → rises_from last numbers ≡ true → last < n → ((m : ℕ) → IsIn m numbers → m < n) → rises_from last (numbers ++ n ∷ []) ≡ true
rises_more last n [] h less below = ap (λ b. b && true) (lt-ltb last n less)
rises_more last n (m ∷ numbers) h less below =
    let both = both_true (nat_lt last m) (rises_from m numbers) h in
    and_true (nat_lt last m) (rises_from m (numbers ++ n ∷ [])) both.0 (rises_more m n numbers both.1 (below m (inl refl)) (λ j i. below j (inr i)))

-- all numbers are at most this
abbrev pub AreWithin : ℕ → List EntryOf → Type 0
AreWithin last entries = (m : ℕ) → IsIn m (numbers_in entries) → m ≤ last

pub rising_noted : (n : ℕ) (p : Wish → Bool) (by : WishSupport) (entries : List EntryOf) (learning_event : LearningEvent) → AreRising entries → AreRising (map (with_supports_by n p by) entries ++ noted learning_event ∷ [])
rising_noted n p by entries learning_event h =
    subst (λ numbers. rises_from 0 numbers ≡ true) (sym (numbers_noted (map (with_supports_by n p by) entries) learning_event ∙ numbers_with n p by entries)) h

pub rising_fired : (n : ℕ) (p : Wish → Bool) (by : WishSupport) (entries : List EntryOf) (x : Fresh) (last : ℕ) → AreRising entries → AreWithin last entries → last < x.firing.number
    → AreRising (map (with_supports_by n p by) entries ++ fired x ∷ [])
rising_fired n p by entries x last h within above =
    subst (λ numbers. rises_from 0 numbers ≡ true) (sym (numbers_fired (map (with_supports_by n p by) entries) x ∙ ap (λ l. l ++ x.firing.number ∷ []) (numbers_with n p by entries)))
    (rises_more 0 x.firing.number (numbers_in entries) h (omega (arith, above)) (λ m i. let low : m ≤ last = within m i in omega (arith, above)))

-- ---- one firing among them

other : (m n : ℕ) → m < n → (m == n) ≡ false
other m n less = grind arith

-- above the number, all stays
others_stay : (last n : ℕ) (flags : List Bool) (by : WishSupport) (entries : List EntryOf) → rises_from last (numbers_in entries) ≡ true → n ≤ last → map (with_flags n flags by) entries ≡ entries
others_stay last n flags by [] h low = refl
others_stay last n flags by (noted l ∷ entries) h low = ap (λ es. noted l ∷ es) (others_stay last n flags by entries h low)
others_stay last n flags by (fired x ∷ entries) h low =
    let both = both_true (nat_lt last x.firing.number) (rises_from x.firing.number (numbers_in entries)) h in
    let above : last < x.firing.number = ltb-true last x.firing.number both.0 in
    ap₂ (λ e es. e ∷ es) (ap (λ b. cond b (fired (with_flags_held flags by x)) (fired x)) (above_other n x.firing.number (omega (arith, low, above)))) (others_stay x.firing.number n flags by entries both.1 (omega (arith, low, above)))
  where
    above_other : (m k : ℕ) → m < k → (k == m) ≡ false
    above_other m k less = grind arith

-- an entry behind has a higher number
later_above : (last place n : ℕ) (items : List Entry) (slot : Entry) → rises_from last (numbers_in (map entry_seen items)) ≡ true → place < length items → slot ≡ slice_index_or items place slot
    → has_number n (entry_seen slot) ≡ true → last < n
later_above last place n [] slot h within at is = absurd (omega (arith, within))
later_above last zero n (entry.Noted l ∷ items) slot h within at is = let none = ap (λ s. has_number n (entry_seen s)) at in absurd (cc)
later_above last zero n (entry.Fired x ∷ items) slot h within at is =
    let both = both_true (nat_lt last x.recorded.firing.number) (rises_from x.recorded.firing.number (numbers_in (map entry_seen items))) h in
    let above : last < x.recorded.firing.number = ltb-true last x.recorded.firing.number both.0 in
    let same : x.recorded.firing.number ≡ n = same_number x.recorded.firing.number n (sym (ap (λ s. has_number n (entry_seen s)) at) ∙ is) in
    omega (arith, above, same)
later_above last (suc place) n (entry.Noted l ∷ items) slot h within at is = later_above last place n items slot h (omega (arith, within)) at is
later_above last (suc place) n (entry.Fired x ∷ items) slot h within at is =
    let both = both_true (nat_lt last x.recorded.firing.number) (rises_from x.recorded.firing.number (numbers_in (map entry_seen items))) h in
    let above : last < x.recorded.firing.number = ltb-true last x.recorded.firing.number both.0 in
    let higher : x.recorded.firing.number < n = later_above x.recorded.firing.number place n items slot both.1 (omega (arith, within)) at is in
    omega (arith, above, higher)

-- what is held of the firing changes at its place alone
flagged_from : (last place n : ℕ) (flags : List Bool) (by : WishSupport) (items : List Entry) (slot new : Entry) → rises_from last (numbers_in (map entry_seen items)) ≡ true → place < length items
    → slot ≡ slice_index_or items place slot → has_number n (entry_seen slot) ≡ true → entry_seen new ≡ with_flags n flags by (entry_seen slot)
    → map entry_seen (slice_set items place new) ≡ map (with_flags n flags by) (map entry_seen items)
flagged_from last place n flags by [] slot new h within at is held = absurd (omega (arith, within))
flagged_from last zero n flags by (entry.Noted l ∷ items) slot new h within at is held = let none = ap (λ s. has_number n (entry_seen s)) at in absurd (cc)
flagged_from last zero n flags by (entry.Fired x ∷ items) slot new h within at is held =
    let both = both_true (nat_lt last x.recorded.firing.number) (rises_from x.recorded.firing.number (numbers_in (map entry_seen items))) h in
    let same : x.recorded.firing.number ≡ n = same_number x.recorded.firing.number n (sym (ap (λ s. has_number n (entry_seen s)) at) ∙ is) in
    ap₂ (λ e es. e ∷ es) (held ∙ ap (λ s. with_flags n flags by (entry_seen s)) at) (sym (others_stay x.recorded.firing.number n flags by (map entry_seen items) both.1 (omega (arith, same))))
flagged_from last (suc place) n flags by (entry.Noted l ∷ items) slot new h within at is held =
    ap (λ es. entry_seen (entry.Noted l) ∷ es) (flagged_from last place n flags by items slot new h (omega (arith, within)) at is held)
flagged_from last (suc place) n flags by (entry.Fired x ∷ items) slot new h within at is held =
    let both = both_true (nat_lt last x.recorded.firing.number) (rises_from x.recorded.firing.number (numbers_in (map entry_seen items))) h in
    let higher : x.recorded.firing.number < n = later_above x.recorded.firing.number place n items slot both.1 (omega (arith, within)) at is in
    ap₂ (λ e es. e ∷ es) (sym (ap (λ b. cond b (fired (with_flags_held flags by (fresh_at_hand x))) (fired (fresh_at_hand x))) (other x.recorded.firing.number n higher)))
    (flagged_from x.recorded.firing.number place n flags by items slot new both.1 (omega (arith, within)) at is held)

pub flagged_at : (place n : ℕ) (flags : List Bool) (by : WishSupport) (items : List Entry) (slot new : Entry) → AreRising (map entry_seen items) → place < length items
    → slot ≡ slice_index_or items place slot → has_number n (entry_seen slot) ≡ true → entry_seen new ≡ with_flags n flags by (entry_seen slot)
    → map entry_seen (slice_set items place new) ≡ map (with_flags n flags by) (map entry_seen items)
flagged_at place n flags by items slot new h within at is held = flagged_from 0 place n flags by items slot new h within at is held
