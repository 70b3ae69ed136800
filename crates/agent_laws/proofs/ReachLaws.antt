-- What explains firings, whatever the history: it is closed under makers, and the least that is so and has the roots.
use Rattle.std.proofs.Common.{◌≡◌, refl, sym, ◌∙◌, ap, ap₂, subst, ℕ, zero, suc, ◌+◌, ◌≤◌, ◌<◌, nat_lt, Bool, true, false, ◌==◌, cond, inl, inr, ◌⊎◌, arith, List, [], ◌∷◌, length, map, flat_map, filter}
use Rattle.soar_rule.specs.Repeat.{until_same}
use Rattle.defs_soar.specs.Explanation.{explaining, firing_of, maker_named, with_makers, with_number, with_numbers}
use Rattle.defs_soar.specs.History.{FiringOf}
use Rattle.defs_soar.specs.Laws.{IsIn}
use Rattle.defs_soar.specs.Standing.{is_recorded}
use Rattle.learning_laws.proofs.RepeatLemmas.{until_same_keeps}
use Rattle.learning_laws.proofs.ExplainNumbers.{above_in, AllAbove, few_among, longer_all, Rising, rising_all, rising_with, same_all, same_with, from_all, with_left, with_right, with_this, with_others}
use Rattle.learning_laws.proofs.Lists.{any_in, any_some, filter_keeps, filter_within, in_flat_map, in_flat_mapped, in_mapped, same_number}

-- ---- numbers in order

-- what has no more numbers than some of its own has just these
none_more : (xs ys : List ℕ) → Rising xs → ((n : ℕ) → IsIn n xs → IsIn n ys) → length ys ≤ length xs → (n : ℕ) → IsIn n ys → IsIn n xs
none_more xs ys r within few n i =
    let most : length (with_number n xs) ≤ length ys = few_among (with_number n xs) ys (rising_with n xs r) (λ m j. elim (from_all (n ∷ []) xs m j) [ inl k ↦ elim k [ inl e ↦ subst (λ x. IsIn x ys) e i | inr z ↦ absurd z ] | inr k ↦ within m k ]) in
    subst (IsIn n) (same_with n xs (omega arith)) (with_this n xs)

-- numbers in order are told by what is among them
pub same_members : (xs ys : List ℕ) → Rising xs → Rising ys → ((n : ℕ) → IsIn n xs → IsIn n ys) → ((n : ℕ) → IsIn n ys → IsIn n xs) → xs ≡ ys
same_members [] [] r q h k = refl
same_members [] (y ∷ ys) r q h k = absurd (k y (inl refl))
same_members (x ∷ xs) [] r q h k = absurd (h x (inl refl))
same_members (x ∷ xs) (y ∷ ys) r q h k =
    let e : x ≡ y = first (h x (inl refl)) (k y (inl refl)) in
    ap₂ (λ n ns. n ∷ ns) e (same_members xs ys r.1 q.1 (λ n i. later x xs y ys n e r.0 i (h n (inr i))) (λ n i. later y ys x xs n (sym e) q.0 i (k n (inr i))))
  where
    first : (y ≡ x) ⊎ IsIn x ys → (x ≡ y) ⊎ IsIn y xs → x ≡ y
    first (inl e) b = sym e
    first (inr i) (inl e) = e
    first (inr i) (inr j) = let a = above_in y x ys q.0 i in let b = above_in x y xs r.0 j in absurd (omega arith)

    later : (a : ℕ) (rest : List ℕ) (b : ℕ) (bs : List ℕ) (n : ℕ) → a ≡ b → AllAbove a rest → IsIn n rest → (b ≡ n) ⊎ IsIn n bs → IsIn n bs
    later a rest b bs n e above i (inl q) = let less = above_in a n rest above i in absurd (omega arith)
    later a rest b bs n e above i (inr j) = j

-- a number that was there is not put in again
was_there : (n : ℕ) (ns : List ℕ) → Rising ns → IsIn n ns → with_number n ns ≡ ns
was_there n ns r i = sym (same_members ns (with_number n ns) r (rising_with n ns r) (λ m j. with_others n m ns j) (λ m j. elim (from_all (n ∷ []) ns m j) [ inl k ↦ elim k [ inl e ↦ subst (λ x. IsIn x ns) e i | inr z ↦ absurd z ] | inr k ↦ k ]))

-- ---- firings that explain others

abbrev pub numbers_of_makers : FiringOf → List ℕ
numbers_of_makers f = flat_map maker_named f.used

module _ (firings : List FiringOf) where
  abbrev pub makers_of_all : List ℕ → List ℕ
  makers_of_all ns = flat_map (λ n. flat_map numbers_of_makers (firing_of firings n)) ns

  -- those that firings have
  abbrev recorded : List ℕ → List ℕ
  recorded ns = filter (is_recorded firings) ns

  abbrev numbers : List ℕ
  numbers = map (λ (f : FiringOf). f.number) firings

  firing_is : (f : FiringOf) (n : ℕ) → IsIn f (firing_of firings n) → IsIn f firings × ((f.number == n) ≡ true)
  firing_is f n i = filter_within (λ f. f.number == n) firings f i

  recorded_in : (n : ℕ) (ns : List ℕ) → IsIn n (recorded ns) → IsIn n numbers
  recorded_in n ns i =
      let a = any_some (λ f. f.number == n) firings (filter_within (is_recorded firings) ns n i).1 in
      subst (λ x. IsIn x numbers) (same_number a.0.number n a.2) (in_mapped (λ (f : FiringOf). f.number) a.0 firings a.1)

  above_filtered : (p : ℕ → Bool) (n : ℕ) (ns : List ℕ) → AllAbove n ns → AllAbove n (filter p ns)
  above_filtered p n [] h = h
  above_filtered p n (k ∷ ns) h = go (p k) (above_filtered p n ns h.1)
    where
      go : (b : Bool) → AllAbove n (filter p ns) → AllAbove n (cond b (k ∷ filter p ns) (filter p ns))
      go true later = (h.0, later)
      go false later = later

  rising_filtered : (p : ℕ → Bool) (ns : List ℕ) → Rising ns → Rising (filter p ns)
  rising_filtered p [] h = h
  rising_filtered p (k ∷ ns) h = go (p k) (rising_filtered p ns h.1)
    where
      go : (b : Bool) → Rising (filter p ns) → Rising (cond b (k ∷ filter p ns) (filter p ns))
      go true later = (above_filtered p k ns h.0, later)
      go false later = later

  -- makers of what they used are among them
  abbrev pub IsClosed : List ℕ → Type 0
  IsClosed ns = (n : ℕ) → IsIn n (makers_of_all ns) → IsIn n ns

  -- where they are as long as with their makers, they have these
  closed_where_same : (ns : List ℕ) → length (with_makers firings ns) ≤ length ns → IsClosed ns
  closed_where_same ns l n i = subst (IsIn n) (same_all (makers_of_all ns) ns l) (with_left (makers_of_all ns) ns n i)

  -- and the other way round
  same_where_closed : (ms ns : List ℕ) → Rising ns → ((n : ℕ) → IsIn n ms → IsIn n ns) → with_numbers ms ns ≡ ns
  same_where_closed [] ns r h = refl
  same_where_closed (m ∷ ms) ns r h = ap (with_number m) (same_where_closed ms ns r (λ n i. h n (inr i))) ∙ was_there m ns r (h m (inl refl))

  -- a step after which no more of them are recorded has all makers
  closed_next : (ns : List ℕ) → Rising ns → length (recorded (with_makers firings ns)) ≤ length (recorded ns) → IsClosed (with_makers firings ns)
  closed_next ns r l n i =
      let a = in_flat_map (λ n. flat_map numbers_of_makers (firing_of firings n)) n (with_makers firings ns) i in
      let b = in_flat_map numbers_of_makers n (firing_of firings a.0) a.2 in
      let f = firing_is b.0 a.0 b.1 in
      let there : IsIn a.0 (recorded (with_makers firings ns)) = filter_keeps (is_recorded firings) (with_makers firings ns) a.0 a.1 (any_in (λ f. f.number == a.0) b.0 firings f.0 f.1) in
      let before : IsIn a.0 (recorded ns) = none_more (recorded ns) (recorded (with_makers firings ns)) (rising_filtered (is_recorded firings) ns r)
      (λ m j. let k = filter_within (is_recorded firings) ns m j in filter_keeps (is_recorded firings) (with_makers firings ns) m (with_right (makers_of_all ns) ns m k.0) k.1) l a.0 there in
      with_left (makers_of_all ns) ns n (in_flat_mapped (λ n. flat_map numbers_of_makers (firing_of firings n)) a.0 n ns (filter_within (is_recorded firings) ns a.0 before).0 a.2)

  numbers_count : (fs : List FiringOf) → length (map (λ (f : FiringOf). f.number) fs) ≡ length fs
  numbers_count [] = refl
  numbers_count (f ∷ fs) = ap suc (numbers_count fs)

  -- each round but the last finds a firing more, so as many as there are firings are enough
  closes : (m : ℕ) (ns : List ℕ) → Rising ns → IsClosed ns ⊎ (length firings < m + length (recorded ns)) → IsClosed (until_same (λ a b. length a == length b) m (with_makers firings) ns)
  closes zero ns r (inl h) = h
  closes zero ns r (inr l) =
      let few : length (recorded ns) ≤ length numbers = few_among (recorded ns) numbers (rising_filtered (is_recorded firings) ns r) (λ n i. recorded_in n ns i) in
      let count : length numbers ≡ length firings = numbers_count firings in absurd (omega arith)
  closes (suc m) ns r h = go (length ns == length (with_makers firings ns)) refl (closes m (with_makers firings ns) (rising_all (makers_of_all ns) ns r))
    where
      next : length ns < length (with_makers firings ns) → (b : Bool) → nat_lt (length (recorded ns)) (length (recorded (with_makers firings ns))) ≡ b → IsClosed ns ⊎ (length firings < suc m + length (recorded ns))
          → IsClosed (with_makers firings ns) ⊎ (length firings < m + length (recorded (with_makers firings ns)))
      next longer b q (inl k) = let same : length (with_makers firings ns) ≡ length ns = ap length (same_where_closed (makers_of_all ns) ns r k) in absurd (omega arith)
      next longer true q (inr l) = let more : length (recorded ns) < length (recorded (with_makers firings ns)) = grind arith in inr (omega arith)
      next longer false q (inr l) = let few : length (recorded (with_makers firings ns)) ≤ length (recorded ns) = grind arith in inl (closed_next ns r few)

      go : (b : Bool) → (length ns == length (with_makers firings ns)) ≡ b
          → (IsClosed (with_makers firings ns) ⊎ (length firings < m + length (recorded (with_makers firings ns))) → IsClosed (until_same (λ a b. length a == length b) m (with_makers firings) (with_makers firings ns)))
          → IsClosed (elim b [ true ↦ ns | false ↦ until_same (λ a b. length a == length b) m (with_makers firings) (with_makers firings ns) ])
      go true q later = closed_where_same ns (grind arith)
      go false q later = let more : length ns ≤ length (with_makers firings ns) = longer_all (makers_of_all ns) ns in later (next (grind arith) (nat_lt (length (recorded ns)) (length (recorded (with_makers firings ns)))) refl h)

  -- whatever the history, makers of what was used are among what explains
  pub explaining_is_closed : (roots : List ℕ) → IsClosed (explaining firings roots)
  explaining_is_closed roots = closes (length firings) (with_numbers roots []) (rising_all roots [] tt) (go (with_numbers roots []) (length (recorded (with_numbers roots []))) refl)
    where
      go : (ns : List ℕ) (k : ℕ) → length (recorded ns) ≡ k → IsClosed ns ⊎ (length firings < length firings + length (recorded ns))
      go ns zero q = inl (λ n i.
          let a = in_flat_map (λ n. flat_map numbers_of_makers (firing_of firings n)) n ns i in
          let b = in_flat_map numbers_of_makers n (firing_of firings a.0) a.2 in
          let f = firing_is b.0 a.0 b.1 in
          absurd (none (recorded ns) q a.0 (filter_keeps (is_recorded firings) ns a.0 a.1 (any_in (λ f. f.number == a.0) b.0 firings f.0 f.1))))
        where
          none : (xs : List ℕ) → length xs ≡ 0 → (n : ℕ) → IsIn n xs → ⊥
          none [] q n i = i
          none (x ∷ xs) q n i = omega arith
      go ns (suc k) q = inr (omega arith)

  pub explaining_rises : (roots : List ℕ) → Rising (explaining firings roots)
  explaining_rises roots = until_same_keeps Rising (with_makers firings) (λ a b. length a == length b) (λ ns r. rising_all (makers_of_all ns) ns r) (length firings) (with_numbers roots []) (rising_all roots [] tt)

  pub explaining_has_roots : (roots : List ℕ) (n : ℕ) → IsIn n roots → IsIn n (explaining firings roots)
  explaining_has_roots roots n i =
      until_same_keeps (IsIn n) (with_makers firings) (λ a b. length a == length b) (λ ns j. with_right (makers_of_all ns) ns n j) (length firings) (with_numbers roots []) (with_left roots [] n i)

  -- the makers that a firing among them names
  pub explaining_has_makers : (roots : List ℕ) (n : ℕ) (f : FiringOf) (m : ℕ) → IsIn n (explaining firings roots) → IsIn f (firing_of firings n) → IsIn m (numbers_of_makers f) → IsIn m (explaining firings roots)
  explaining_has_makers roots n f m i j k =
      explaining_is_closed roots m
      (in_flat_mapped (λ n. flat_map numbers_of_makers (firing_of firings n)) n m (explaining firings roots) i (in_flat_mapped numbers_of_makers f m (firing_of firings n) j k))

  -- what holds of the roots, and of the makers with each firing, holds of all that explains
  pub explaining_within : (P : ℕ → Type 0) (roots : List ℕ) → ((n : ℕ) → IsIn n roots → P n) → ((n : ℕ) (f : FiringOf) → P n → IsIn f (firing_of firings n) → (m : ℕ) → IsIn m (numbers_of_makers f) → P m)
      → (n : ℕ) → IsIn n (explaining firings roots) → P n
  explaining_within P roots at_roots at_makers =
      until_same_keeps (λ ns. (n : ℕ) → IsIn n ns → P n) (with_makers firings) (λ a b. length a == length b)
      (λ ns h n i. elim (from_all (makers_of_all ns) ns n i) [
        | inl j ↦
            let a = in_flat_map (λ n. flat_map numbers_of_makers (firing_of firings n)) n ns j in
            let b = in_flat_map numbers_of_makers n (firing_of firings a.0) a.2 in at_makers a.0 b.0 (h a.0 a.1) b.1 n b.2
        | inr j ↦ h n j
      ]) (length firings) (with_numbers roots []) (λ n i. elim (from_all roots [] n i) [ inl j ↦ at_roots n j | inr j ↦ absurd j ])
