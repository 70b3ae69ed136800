-- Where two variables never get one number, lists of variables are searched alike.
use Rattle.std.specs.Prelude.{map, if◌then◌else◌}
use Rattle.std.specs.List.{list_any}
use Rattle.std.proofs.Common.{◌≡◌, ℕ, Bool, true, false, ◌&&◌, ◌||◌, ◌==◌, not, List, [], ◌∷◌, Option, Some, None, refl, ◌∙◌, ap, ap₂, eq-eqb}
use Rattle.std.specs.Prelude.{option_map}
use Rattle.std.proofs.lemmas.Bool.{eqb-true, eqb-false}
use Rattle.soar_rule.specs.MatchOrder.{or_else, first_unknown, waits_for}
use Rattle.soar_rule.specs.Variables.{is_among}

pub either_of : {A B : Type 0} (f : A → B) (a b : Option A) → or_else (option_map f a) (option_map f b) ≡ option_map f (or_else a b)
either_of f None b = refl
either_of f (Some a) b = refl

module _ (g : ℕ → ℕ) (apart : (v w : ℕ) → g v ≡ g w → v ≡ w) where
  pub same_number : (v w : ℕ) → (g v == g w) ≡ (v == w)
  same_number v w = by (v == w) refl
    where
      by : (b : Bool) → (v == w) ≡ b → (g v == g w) ≡ b
      by true e = eq-eqb (g v) (g w) (ap g (eqb-true v w e))
      by false e = other (g v == g w) refl
        where
          other : (c : Bool) → (g v == g w) ≡ c → (g v == g w) ≡ false
          other true f = absurd (eqb-false v w e (apart v w (eqb-true (g v) (g w) f)))
          other false f = f

  pub among_again : (vs : List ℕ) (v : ℕ) → is_among (map g vs) (g v) ≡ is_among vs v
  among_again [] v = refl
  among_again (w ∷ vs) v = ap₂ ◌||◌ (same_number v w) (among_again vs v)

  pub any_among_again : (bound vs : List ℕ) → list_any (is_among (map g bound)) (map g vs) ≡ list_any (is_among bound) vs
  any_among_again bound [] = refl
  any_among_again bound (v ∷ vs) = ap₂ ◌||◌ (among_again bound v) (any_among_again bound vs)

  pub unknown_again : (known vs : List ℕ) → first_unknown (map g known) (map g vs) ≡ option_map g (first_unknown known vs)
  unknown_again known [] = refl
  unknown_again known (v ∷ vs) = ap (λ b. if b then first_unknown (map g known) (map g vs) else Some (g v)) (among_again known v) ∙ by (is_among known v) (unknown_again known vs)
    where
      by : (b : Bool) → first_unknown (map g known) (map g vs) ≡ option_map g (first_unknown known vs)
          → (if b then first_unknown (map g known) (map g vs) else Some (g v)) ≡ option_map g (if b then first_unknown known vs else Some v)
      by true later = later
      by false later = refl

  pub waits_again : (outside bound vs : List ℕ) → waits_for (map g outside) (map g bound) (map g vs) ≡ option_map g (waits_for outside bound vs)
  waits_again outside bound [] = refl
  waits_again outside bound (v ∷ vs) =
      ap₂ (λ b c. if b && not c then Some (g v) else waits_for (map g outside) (map g bound) (map g vs)) (among_again outside v) (among_again bound v)
      ∙ by (is_among outside v && not (is_among bound v)) (waits_again outside bound vs)
    where
      by : (b : Bool) → waits_for (map g outside) (map g bound) (map g vs) ≡ option_map g (waits_for outside bound vs)
          → (if b then Some (g v) else waits_for (map g outside) (map g bound) (map g vs)) ≡ option_map g (if b then Some v else waits_for outside bound vs)
      by true later = refl
      by false later = later
