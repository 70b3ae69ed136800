-- What a negation lacks that waits for nothing, it lacks for good.
use Rattle.std.proofs.Common.{◌≡◌, ℕ, Bool, true, false, ◌&&◌, not, List, [], ◌∷◌, refl, sym, ◌∙◌}
use Rattle.std.specs.Prelude.{Some, None, if◌then◌else◌}
use Rattle.soar_rule.specs.Conditions.{Condition}
use Rattle.soar_rule.specs.MatchOrder.{waits_for, readiness}
use Rattle.soar_rule.specs.Variables.{is_among, variables_of_condition}
use Rattle.rule_check.specs.Agreeing.{AllHave}
use Rattle.rule_check.proofs.AgreeLemmas.{readiness_agrees, waits_agrees}

-- the bound variables, with some more that are plain outside
abbrev pub GrowsWithin : List ℕ → List ℕ → List ℕ → Type 0
GrowsWithin outside bound also = (v : ℕ) → is_among outside v ≡ false → is_among bound v ≡ is_among also v

abbrev pub KeepsBound : List ℕ → List ℕ → Type 0
KeepsBound bound also = (v : ℕ) → is_among bound v ≡ true → is_among also v ≡ true

-- a variable that is not waited for stays bound, or stays unbound
stays : (outside bound also : List ℕ) (v : ℕ) → GrowsWithin outside bound also → KeepsBound bound also → (is_among outside v && not (is_among bound v)) ≡ false → is_among bound v ≡ is_among also v
stays outside bound also v within keeps none = by (is_among outside v) (is_among bound v) refl refl none
  where
    by : (o b : Bool) → is_among outside v ≡ o → is_among bound v ≡ b → (o && not b) ≡ false → is_among bound v ≡ is_among also v
    by o true e f none = f ∙ sym (keeps v f)
    by false false e f none = within v e
    by true false e f none = cc

all_stay : (outside bound also : List ℕ) → GrowsWithin outside bound also → KeepsBound bound also → (vs : List ℕ) → waits_for outside bound vs ≡ None → AllHave (λ v. is_among bound v ≡ is_among also v) vs
all_stay outside bound also within keeps [] none = tt
all_stay outside bound also within keeps (v ∷ vs) none = by (is_among outside v && not (is_among bound v)) refl none (all_stay outside bound also within keeps vs)
  where
    by : (awaited : Bool) → (is_among outside v && not (is_among bound v)) ≡ awaited → (if awaited then Some v else waits_for outside bound vs) ≡ None
        → (waits_for outside bound vs ≡ None → AllHave (λ v. is_among bound v ≡ is_among also v) vs)
        → AllHave (λ v. is_among bound v ≡ is_among also v) (v ∷ vs)
    by true e none rest = cc
    by false e none rest = (stays outside bound also v within keeps e, rest none)

pub readiness_lasts : (c : Condition) (inside : Bool) (outside bound also : List ℕ) → GrowsWithin outside bound also → KeepsBound bound also → waits_for outside bound (variables_of_condition c) ≡ None
    → readiness c inside outside bound ≡ readiness c inside outside also
readiness_lasts c inside outside bound also within keeps none =
    readiness_agrees (λ v. is_among bound v ≡ is_among also v) c (all_stay outside bound also within keeps (variables_of_condition c) none) inside outside outside bound also (λ v. refl) (λ v same. same)

pub waits_last : (c : Condition) (outside bound also : List ℕ) → GrowsWithin outside bound also → KeepsBound bound also → waits_for outside bound (variables_of_condition c) ≡ None
    → waits_for outside also (variables_of_condition c) ≡ None
waits_last c outside bound also within keeps none =
    sym (waits_agrees (λ v. is_among bound v ≡ is_among also v) outside outside bound also (λ v. refl) (λ v same. same) (variables_of_condition c) (all_stay outside bound also within keeps (variables_of_condition c) none))
    ∙ none
