-- Requests for patterns, as nodes come and go.
use Rattle.std.proofs.Common.{◌≡◌, refl, sym, ap, ap₂, subst, ◌∙◌, Bool, true, false, cond, ◌==◌, eqb-true, eq-eqb, ℕ, zero, suc, ◌+◌, ◌-◌, ◌≤◌, nat_lt, List, [], ◌∷◌, Option, Some, None, slice_index_or, ◌⊎◌, ◌≢◌, inl, inr, arith}
use Rattle.std.proofs.lemmas.Option.{same_Some}
use Rattle.std.proofs.lemmas.Bool.{cases_eq, ltb-false}
use Rattle.std.specs.Prelude.{option_and_then}
use Rattle.rete_alpha.specs.Alphas.{AlphaOf, Asked, asked_at, asked_less, asked_more, IsLive, Releases, Asks}
use Rattle.rete_alpha.specs.declared.pattern.ConstPattern.{ConstPattern}
use Rattle.join_parts.specs.Known.{constants_of}
use Rattle.node_table.specs.declared.node.Node.{Node}
use Rattle.node_table.specs.Asked.{Asker, asker, one_for, asks, asking, requests_at, IsAsked}

-- ---- a sum over slots, of which one changes

module _ {A : Type 0} (f : Option A → ℕ) (nothing : f None ≡ 0) where
  abbrev pub total : List (Option A) → ℕ
  total [] = 0
  total (o ∷ os) = f o + total os

  empties : (ys : List (Option A)) → ((k : ℕ) → slice_index_or ys k None ≡ None) → total ys ≡ 0
  empties [] h = refl
  empties (y ∷ ys) h =
      let one : f y ≡ 0 = ap f (h 0) ∙ nothing in
      let two : total ys ≡ 0 = empties ys (λ k. h (suc k)) in
      omega (arith, one, two)

  all_same : (xs ys : List (Option A)) → ((k : ℕ) → slice_index_or ys k None ≡ slice_index_or xs k None) → total ys ≡ total xs
  all_same [] ys h = empties ys h
  all_same (x ∷ xs) [] h = sym (empties (x ∷ xs) (λ k. sym (h k)))
  all_same (x ∷ xs) (y ∷ ys) h = ap₂ (λ p q. p + q) (ap f (h 0)) (all_same xs ys (λ k. h (suc k)))

  -- where one slot has changed, the sum has by that
  pub one_changed : (xs ys : List (Option A)) (n : ℕ) → ((k : ℕ) → k ≢ n → slice_index_or ys k None ≡ slice_index_or xs k None)
      → total ys + f (slice_index_or xs n None) ≡ total xs + f (slice_index_or ys n None)
  one_changed [] [] n h = refl
  one_changed [] (y ∷ ys) zero h =
      let rest : total ys ≡ 0 = empties ys (λ k. h (suc k) (λ e. omega (arith, e))) in
      omega (arith, rest, nothing)
  one_changed [] (y ∷ ys) (suc n) h =
      let first : f y ≡ 0 = ap f (h 0 (λ e. omega (arith, e))) ∙ nothing in
      let rest : total ys + f None ≡ 0 + f (slice_index_or ys n None) = one_changed [] ys n (λ k ne. h (suc k) (λ e. ne (omega (arith, e)))) in
      omega (arith, first, rest)
  one_changed (x ∷ xs) [] zero h =
      let rest : total xs ≡ 0 = empties xs (λ k. sym (h (suc k) (λ e. omega (arith, e)))) in
      omega (arith, rest, nothing)
  one_changed (x ∷ xs) [] (suc n) h =
      let first : f x ≡ 0 = ap f (sym (h 0 (λ e. omega (arith, e)))) ∙ nothing in
      let rest : 0 + f (slice_index_or xs n None) ≡ total xs + f None = one_changed xs [] n (λ k ne. h (suc k) (λ e. ne (omega (arith, e)))) in
      omega (arith, first, rest)
  one_changed (x ∷ xs) (y ∷ ys) zero h =
      let rest : total ys ≡ total xs = all_same xs ys (λ k. h (suc k) (λ e. omega (arith, e))) in
      omega (arith, rest)
  one_changed (x ∷ xs) (y ∷ ys) (suc n) h =
      let first : f y ≡ f x = ap f (h 0 (λ e. omega (arith, e))) in
      let rest = one_changed xs ys n (λ k ne. h (suc k) (λ e. ne (omega (arith, e)))) in
      let same : total ys + f (slice_index_or xs n None) ≡ total xs + f (slice_index_or ys n None) = rest in
      omega (arith, first, same)

  -- where all slots say the same, the sums are one
  pub sums_same : (xs ys : List (Option A)) → ((k : ℕ) → f (slice_index_or ys k None) ≡ f (slice_index_or xs k None)) → total ys ≡ total xs
  sums_same [] [] h = refl
  sums_same [] (y ∷ ys) h =
      let first : f y ≡ 0 = h 0 ∙ nothing in
      let rest : total ys ≡ 0 = sums_same [] ys (λ k. h (suc k)) in
      omega (arith, first, rest)
  sums_same (x ∷ xs) [] h =
      let first : f x ≡ 0 = sym (h 0) ∙ nothing in
      let rest : 0 ≡ total xs = sums_same xs [] (λ k. h (suc k)) in
      omega (arith, first, rest)
  sums_same (x ∷ xs) (y ∷ ys) h = ap₂ (λ p q. p + q) (h 0) (sums_same xs ys (λ k. h (suc k)))

asking_is : (a : ℕ) (xs : List (Option Node)) → asking a xs ≡ total (asks a) refl xs
asking_is a [] = refl
asking_is a (x ∷ xs) = ap (λ k. asks a x + k) (asking_is a xs)

pub asking_changed : (a : ℕ) (xs ys : List (Option Node)) (n : ℕ) → ((k : ℕ) → k ≢ n → slice_index_or ys k None ≡ slice_index_or xs k None)
    → asking a ys + asks a (slice_index_or xs n None) ≡ asking a xs + asks a (slice_index_or ys n None)
asking_changed a xs ys n h =
    let one = one_changed (asks a) refl xs ys n h in
    ap (λ k. k + asks a (slice_index_or xs n None)) (asking_is a ys) ∙ one ∙ ap (λ k. k + asks a (slice_index_or ys n None)) (sym (asking_is a xs))

-- ---- who asks

abbrev pub asks_at : List (Option Node) → ℕ → Option Asker
asks_at xs n = option_and_then asker (slice_index_or xs n None)

one_own : (a : ℕ) (q : Asker) → a ≡ q.0 → one_for a (Some q) ≡ 1
one_own a q e = ap (λ (b : Bool). cond b 1 0) (eq-eqb q.0 a (sym e))

one_other : (a : ℕ) (q : Asker) → a ≢ q.0 → one_for a (Some q) ≡ 0
one_other a q ne = by (q.0 == a) refl
  where
    by : (b : Bool) → (q.0 == a) ≡ b → (let n : ℕ = cond b 1 0 in n) ≡ 0
    by true is = absurd (ne (sym (eqb-true q.0 a is)))
    by false is = refl

at_least : (a : ℕ) (xs : List (Option Node)) (n : ℕ) → asks a (slice_index_or xs n None) ≤ asking a xs
at_least a [] n = omega arith
at_least a (x ∷ xs) zero = omega arith
at_least a (x ∷ xs) (suc n) = (let deep : asks a (slice_index_or xs n None) ≤ asking a xs = at_least a xs n in omega (arith, deep))

-- a node that asks as before
pub kept_asked : (xs ys : List (Option Node)) (alpha : AlphaOf) (n : ℕ) → IsAsked xs alpha → asks_at ys n ≡ asks_at xs n → ((k : ℕ) → k ≢ n → slice_index_or ys k None ≡ slice_index_or xs k None) → IsAsked ys alpha
kept_asked xs ys alpha n asked same others = record {
  counted = λ a.
      let whole : asking a ys + asks a (slice_index_or xs n None) ≡ asking a xs + asks a (slice_index_or ys n None) = asking_changed a xs ys n others in
      let equal : asks a (slice_index_or ys n None) ≡ asks a (slice_index_or xs n None) = ap (one_for a) same in
      let all : asking a ys ≡ asking a xs = omega (arith, whole, equal) in
      all ∙ asked.counted a;
  patterned = λ k q there. asked.patterned k q (before k ∙ there);
}
  where
    before : (k : ℕ) → asks_at xs k ≡ asks_at ys k
    before k = elim (cases_eq k n) [
      | inl e ↦ ap (asks_at xs) e ∙ sym same ∙ ap (asks_at ys) (sym e)
      | inr ne ↦ ap (option_and_then asker) (sym (others k ne))
    ]

-- nodes that all ask as before
pub alike_asked : (xs ys : List (Option Node)) (alpha : AlphaOf) → IsAsked xs alpha → ((k : ℕ) → asks_at ys k ≡ asks_at xs k) → IsAsked ys alpha
alike_asked xs ys alpha asked same = record {
  counted = λ a. asking_is a ys ∙ sums_same (asks a) refl xs ys (λ k. ap (one_for a) (same k)) ∙ sym (asking_is a xs) ∙ asked.counted a;
  patterned = λ k q there. asked.patterned k q (sym (same k) ∙ there);
}

pub is_live : (xs : List (Option Node)) (alpha : AlphaOf) (n : ℕ) (q : Asker) → IsAsked xs alpha → asks_at xs n ≡ Some q → IsLive alpha q.0
is_live xs alpha n q asked here = (let r = asked.patterned n q here in (r.0, r.1))

-- ---- a node that goes takes its request back

less_requests : (o : Option Asked) → 1 ≤ requests_at o → requests_at (asked_less o) + 1 ≡ requests_at o
less_requests None h = absurd (omega (arith, h))
less_requests (Some q) h = by (nat_lt 1 q.requests) refl
  where
    by : (b : Bool) → nat_lt 1 q.requests ≡ b → requests_at (cond b (Some (record { pattern = q.pattern; requests = q.requests - 1 })) None) + 1 ≡ q.requests
    by true is = omega (arith, h)
    by false is = (let le : q.requests ≤ 1 = ltb-false 1 q.requests is in omega (arith, le, h))

less_pattern : (o : Option Asked) (q r : Asked) → o ≡ Some q → asked_less o ≡ Some r → r.pattern ≡ q.pattern
less_pattern None q r is h = absurd (cc)
less_pattern (Some p) q r is h = by (nat_lt 1 p.requests) h
  where
    by : (b : Bool) → cond b (Some (record { pattern = p.pattern; requests = p.requests - 1 })) None ≡ Some r → r.pattern ≡ q.pattern
    by true e = ap (λ (x : Asked). x.pattern) (sym (same_Some (record { pattern = p.pattern; requests = p.requests - 1 }) r e)) ∙ ap (λ (x : Asked). x.pattern) (same_Some p q is)
    by false e = absurd (cc)

pub dropped_asked : (xs ys : List (Option Node)) (old new : AlphaOf) (n : ℕ) (own : Asker) → IsAsked xs old → asks_at xs n ≡ Some own → asks_at ys n ≡ None
    → ((k : ℕ) → k ≢ n → slice_index_or ys k None ≡ slice_index_or xs k None) → Releases old new own.0 → IsAsked ys new
dropped_asked xs ys old new n own asked here gone others releases = record { counted = counted; patterned = λ k q there. patterned k q there (cases_eq q.0 own.0) }
  where
    moved : (a : ℕ) → asking a ys + one_for a (Some own) ≡ asking a xs
    moved a =
        let whole : asking a ys + asks a (slice_index_or xs n None) ≡ asking a xs + asks a (slice_index_or ys n None) = asking_changed a xs ys n others in
        let mine : asks a (slice_index_or xs n None) ≡ one_for a (Some own) = ap (one_for a) here in
        let none : asks a (slice_index_or ys n None) ≡ 0 = ap (one_for a) gone in
        omega (arith, whole, mine, none)

    counted : (a : ℕ) → asking a ys ≡ requests_at (asked_at new a)
    counted a = elim (cases_eq a own.0) [
      | inl e ↦ (
          let one : one_for a (Some own) ≡ 1 = one_own a own e in
          let total_ : asking a ys + one_for a (Some own) ≡ asking a xs = moved a in
          let before : asking a xs ≡ requests_at (asked_at old a) = asked.counted a in
          let some : 1 ≤ requests_at (asked_at old a) = omega (arith, one, total_, before) in
          let less : requests_at (asked_less (asked_at old a)) + 1 ≡ requests_at (asked_at old a) = less_requests (asked_at old a) some in
          let is : requests_at (asked_at new a) ≡ requests_at (asked_less (asked_at old a)) = subst (λ (x : ℕ). requests_at (asked_at new x) ≡ requests_at (asked_less (asked_at old x))) (sym e) (ap requests_at releases.here) in
          omega (arith, one, total_, before, less, is))
      | inr ne ↦ (
          let none : one_for a (Some own) ≡ 0 = one_other a own ne in
          let total_ : asking a ys + one_for a (Some own) ≡ asking a xs = moved a in
          let before : asking a xs ≡ requests_at (asked_at old a) = asked.counted a in
          let is : requests_at (asked_at new a) ≡ requests_at (asked_at old a) = ap requests_at (releases.others a ne) in
          omega (arith, none, total_, before, is))
    ]

    was_there : (k : ℕ) (q : Asker) → asks_at ys k ≡ Some q → asks_at xs k ≡ Some q
    was_there k q there = elim (cases_eq k n) [
      | inl e ↦ (let none : asks_at ys k ≡ None = ap (asks_at ys) e ∙ gone in absurd (cc))
      | inr ne ↦ ap (option_and_then asker) (sym (others k ne)) ∙ there
    ]

    found_at : (o : Option Asked) (a : ℕ) → asked_at new a ≡ o → 1 ≤ requests_at (asked_at new a) → (q : Asked) × (asked_at new a ≡ Some q)
    found_at None a is h = absurd (let none : requests_at (asked_at new a) ≡ 0 = ap requests_at is in omega (arith, none, h))
    found_at (Some q) a is h = (q, is)

    patterned : (k : ℕ) (q : Asker) → asks_at ys k ≡ Some q → (q.0 ≡ own.0) ⊎ (q.0 ≢ own.0) → (r : Asked) × (asked_at new q.0 ≡ Some r) × (r.pattern ≡ constants_of q.1)
    patterned k q there (inr ne) =
        let before = asked.patterned k q (was_there k q there) in
        (before.0, releases.others q.0 ne ∙ before.1, before.2)
    patterned k q there (inl e) =
        let before = asked.patterned k q (was_there k q there) in
        let mine : asks q.0 (slice_index_or ys k None) ≡ 1 = ap (one_for q.0) there ∙ one_own q.0 q refl in
        let least : asks q.0 (slice_index_or ys k None) ≤ asking q.0 ys = at_least q.0 ys k in
        let is : asking q.0 ys ≡ requests_at (asked_at new q.0) = counted q.0 in
        let some : 1 ≤ requests_at (asked_at new q.0) = omega (arith, mine, least, is) in
        let now = found_at (asked_at new q.0) q.0 refl some in
        let less : asked_less (asked_at old q.0) ≡ Some now.0 = subst (λ (x : ℕ). asked_less (asked_at old x) ≡ asked_at new x) (sym e) (sym releases.here) ∙ now.1 in
        (now.0, now.1, less_pattern (asked_at old q.0) before.0 now.0 before.1 less ∙ before.2)

-- ---- a node that comes asks for its pattern

more_requests : (p : ConstPattern) (o : Option Asked) → requests_at (Some (asked_more p o)) ≡ requests_at o + 1
more_requests p None = refl
more_requests p (Some q) = refl

more_pattern : (p : ConstPattern) (o : Option Asked) → ((q : Asked) → o ≡ Some q → q.pattern ≡ p) → (asked_more p o).pattern ≡ p
more_pattern p None own = refl
more_pattern p (Some q) own = own q refl

kept_pattern : (p : ConstPattern) (o : Option Asked) (q : Asked) → o ≡ Some q → (asked_more p o).pattern ≡ q.pattern
kept_pattern p None q is = absurd (cc)
kept_pattern p (Some r) q is = ap (λ (x : Asked). x.pattern) (same_Some r q is)

pub came_asked : (xs ys : List (Option Node)) (old new : AlphaOf) (n : ℕ) (own : Asker) → IsAsked xs old → asks_at xs n ≡ None → asks_at ys n ≡ Some own
    → ((k : ℕ) → k ≢ n → slice_index_or ys k None ≡ slice_index_or xs k None) → Asks old new (constants_of own.1) own.0 → IsAsked ys new
came_asked xs ys old new n own asked vacant here others asks_ = record { counted = counted; patterned = λ k q there. elim (cases_eq k n) [ inl e ↦ first k q there e | inr ne ↦ later k q (ap (option_and_then asker) (sym (others k ne)) ∙ there) (cases_eq q.0 own.0) ] }
  where
    moved : (a : ℕ) → asking a ys ≡ asking a xs + one_for a (Some own)
    moved a =
        let whole : asking a ys + asks a (slice_index_or xs n None) ≡ asking a xs + asks a (slice_index_or ys n None) = asking_changed a xs ys n others in
        let mine : asks a (slice_index_or ys n None) ≡ one_for a (Some own) = ap (one_for a) here in
        let none : asks a (slice_index_or xs n None) ≡ 0 = ap (one_for a) vacant in
        omega (arith, whole, mine, none)

    counted : (a : ℕ) → asking a ys ≡ requests_at (asked_at new a)
    counted a = elim (cases_eq a own.0) [
      | inl e ↦ (
          let one : one_for a (Some own) ≡ 1 = one_own a own e in
          let total_ : asking a ys ≡ asking a xs + one_for a (Some own) = moved a in
          let before : asking a xs ≡ requests_at (asked_at old a) = asked.counted a in
          let is : requests_at (asked_at new a) ≡ requests_at (asked_at old a) + 1 = subst (λ (x : ℕ). requests_at (asked_at new x) ≡ requests_at (asked_at old x) + 1) (sym e)
          (ap requests_at asks_.here ∙ more_requests (constants_of own.1) (asked_at old own.0)) in
          omega (arith, one, total_, before, is))
      | inr ne ↦ (
          let none : one_for a (Some own) ≡ 0 = one_other a own ne in
          let total_ : asking a ys ≡ asking a xs + one_for a (Some own) = moved a in
          let before : asking a xs ≡ requests_at (asked_at old a) = asked.counted a in
          let is : requests_at (asked_at new a) ≡ requests_at (asked_at old a) = ap requests_at (asks_.others a ne) in
          omega (arith, none, total_, before, is))
    ]

    first : (k : ℕ) (q : Asker) → asks_at ys k ≡ Some q → k ≡ n → (r : Asked) × (asked_at new q.0 ≡ Some r) × (r.pattern ≡ constants_of q.1)
    first k q there e =
        let same : own ≡ q = same_Some own q (sym here ∙ ap (asks_at ys) (sym e) ∙ there) in (
          asked_more (constants_of own.1) (asked_at old own.0),
          ap (λ (x : Asker). asked_at new x.0) (sym same) ∙ asks_.here,
          more_pattern (constants_of own.1) (asked_at old own.0) asks_.own ∙ ap (λ (x : Asker). constants_of x.1) same,
        )

    later : (k : ℕ) (q : Asker) → asks_at xs k ≡ Some q → (q.0 ≡ own.0) ⊎ (q.0 ≢ own.0) → (r : Asked) × (asked_at new q.0 ≡ Some r) × (r.pattern ≡ constants_of q.1)
    later k q there (inr ne) = (let before = asked.patterned k q there in (before.0, asks_.others q.0 ne ∙ before.1, before.2))
    later k q there (inl e) =
        let before = asked.patterned k q there in (
          asked_more (constants_of own.1) (asked_at old own.0),
          ap (asked_at new) e ∙ asks_.here,
          kept_pattern (constants_of own.1) (asked_at old own.0) before.0 (ap (asked_at old) (sym e) ∙ before.1) ∙ before.2,
        )
