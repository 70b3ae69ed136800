-- Keys keep their numbers as numbers get and lose keys.
use Rattle.std.proofs.Common.{◌≡◌, ◌≢◌, refl, sym, ap, ◌∙◌, Bool, true, false, cond, ◌⊎◌, ℕ, Option, Some, None, inl, inr}
use Rattle.std.proofs.lemmas.Option.{same_Some}
use Rattle.std.proofs.lemmas.Bool.{cases_eq}
use Rattle.node_table.specs.Nodes.{IsNumbered}

module _ {K : Type 0} where
  -- no number's key is another
  pub numbered_same : (number : K → Option ℕ) (old new : ℕ → Option K) → IsNumbered number old → ((n : ℕ) → new n ≡ old n) → IsNumbered number new
  numbered_same number old new numbered same k n = ((λ h. same n ∙ (numbered k n).0 h), λ h. (numbered k n).1 (sym (same n) ∙ h))

  -- what had no key goes
  pub numbered_unkeyed : (number : K → Option ℕ) (old new : ℕ → Option K) (m : ℕ) → IsNumbered number old → old m ≡ None → new m ≡ None → ((n : ℕ) → n ≢ m → new n ≡ old n) → IsNumbered number new
  numbered_unkeyed number old new m numbered was here others = numbered_same number old new numbered same
    where
      same : (n : ℕ) → new n ≡ old n
      same n = elim (cases_eq n m) [ inl e ↦ ap new e ∙ here ∙ sym (ap old e ∙ was) | inr ne ↦ others n ne ]

  pub numbered_by : (number number1 : K → Option ℕ) (key : ℕ → Option K) → IsNumbered number key → ((k : K) → number1 k ≡ number k) → IsNumbered number1 key
  numbered_by number number1 key numbered same k n = ((λ h. (numbered k n).0 (sym (same k) ∙ h)), λ h. same k ∙ (numbered k n).1 h)

  -- what came to a vacant number goes
  pub undone : (old mid new : ℕ → Option K) (m : ℕ) → old m ≡ None → ((n : ℕ) → n ≢ m → mid n ≡ old n) → new m ≡ None → ((n : ℕ) → n ≢ m → new n ≡ mid n) → (n : ℕ) → new n ≡ old n
  undone old mid new m vacant others here back n = elim (cases_eq n m) [ inl e ↦ ap new e ∙ here ∙ sym (ap old e ∙ vacant) | inr ne ↦ back n ne ∙ others n ne ]

  -- a new key at a vacant number
  pub numbered_first : (alike : K → K → Bool) → ((a b : K) → alike a b ≡ true → a ≡ b) → ((a : K) → alike a a ≡ true)
      → (number number1 : K → Option ℕ) (old new : ℕ → Option K) (m : ℕ) (k : K) → IsNumbered number old → number k ≡ None → old m ≡ None
      → ((q : K) → number1 q ≡ cond (alike k q) (Some m) (number q)) → new m ≡ Some k → ((n : ℕ) → n ≢ m → new n ≡ old n) → IsNumbered number1 new
  numbered_first alike told itself number number1 old new m k numbered unnumbered vacant renumbered here others q n = (
    (λ h. to (alike k q) refl (sym (renumbered q) ∙ h)),
    (λ h. renumbered q ∙ from (alike k q) refl (cases_eq n m) h),
  )
    where
      to : (b : Bool) → alike k q ≡ b → cond b (Some m) (number q) ≡ Some n → new n ≡ Some q
      to true same h = ap new (sym (same_Some m n h)) ∙ here ∙ ap (λ (r : K). let o : Option K = Some r in o) (told k q same)
      to false same h =
          let there : old n ≡ Some q = (numbered q n).0 h in
          let ne : n ≢ m = λ e. (let none : old n ≡ None = ap old e ∙ vacant in cc) in
          others n ne ∙ there

      from : (b : Bool) → alike k q ≡ b → (n ≡ m) ⊎ (n ≢ m) → new n ≡ Some q → cond b (Some m) (number q) ≡ Some n
      from true same (inl e) h = ap (λ (i : ℕ). let o : Option ℕ = Some i in o) (sym e)
      from true same (inr ne) h =
          let one : number q ≡ Some n = (numbered q n).1 (sym (others n ne) ∙ h) in
          let none : number q ≡ None = ap number (sym (told k q same)) ∙ unnumbered in
          absurd (cc)
      from false same (inl e) h =
          let own : k ≡ q = same_Some k q (sym here ∙ ap new (sym e) ∙ h) in
          let bad : true ≡ false = sym (itself k) ∙ ap (alike k) own ∙ same in
          absurd (cc)
      from false same (inr ne) h = (numbered q n).1 (sym (others n ne) ∙ h)

  -- a key goes with its number
  pub numbered_last : (alike : K → K → Bool) → ((a b : K) → alike a b ≡ true → a ≡ b) → ((a : K) → alike a a ≡ true)
      → (number number1 : K → Option ℕ) (old new : ℕ → Option K) (m : ℕ) (k : K) → IsNumbered number old → old m ≡ Some k
      → ((q : K) → number1 q ≡ cond (alike k q) None (number q)) → new m ≡ None → ((n : ℕ) → n ≢ m → new n ≡ old n) → IsNumbered number1 new
  numbered_last alike told itself number number1 old new m k numbered was renumbered here others q n = (
    (λ h. to (alike k q) refl (sym (renumbered q) ∙ h)),
    (λ h. renumbered q ∙ from (alike k q) refl (cases_eq n m) h),
  )
    where
      to : (b : Bool) → alike k q ≡ b → cond b None (number q) ≡ Some n → new n ≡ Some q
      to true same h = absurd (cc)
      to false same h =
          let there : old n ≡ Some q = (numbered q n).0 h in
          let ne : n ≢ m = λ e. (
          let own : k ≡ q = same_Some k q (sym was ∙ ap old (sym e) ∙ there) in
          let bad : true ≡ false = sym (itself k) ∙ ap (alike k) own ∙ same in
          absurd (cc)) in
          others n ne ∙ there

      from : (b : Bool) → alike k q ≡ b → (n ≡ m) ⊎ (n ≢ m) → new n ≡ Some q → cond b None (number q) ≡ Some n
      from b same (inl e) h = (let none : new n ≡ None = ap new e ∙ here in absurd (cc))
      from true same (inr ne) h =
          let one : number q ≡ Some n = (numbered q n).1 (sym (others n ne) ∙ h) in
          let two : number q ≡ Some m = ap number (sym (told k q same)) ∙ (numbered k m).1 was in
          absurd (ne (same_Some n m (sym one ∙ two)))
      from false same (inr ne) h = (numbered q n).1 (sym (others n ne) ∙ h)
