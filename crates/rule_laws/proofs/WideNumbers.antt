-- Numbers that keep some variables apart, widened so that they keep all variables apart.
use Rattle.std.proofs.Common.{◌≡◌, ℕ, suc, ◌+◌, ◌<◌, Bool, true, false, ◌||◌, ◌==◌, List, [], ◌∷◌, refl, ap, arith}
use Rattle.std.proofs.lemmas.Bool.{eqb-true}
use Rattle.soar_rule.specs.Alike.{IsApart}
use Rattle.soar_rule.specs.Variables.{is_among}

-- more than each of these variables is given
abbrev beyond : (ℕ → ℕ) → List ℕ → ℕ
beyond number [] = 0
beyond number (v ∷ vs) = suc (number v + beyond number vs)

below_beyond : (number : ℕ → ℕ) (vs : List ℕ) (v : ℕ) → is_among vs v ≡ true → number v < beyond number vs
below_beyond number [] v e = absurd (cc)
below_beyond number (w ∷ vs) v e = by (v == w) refl e (below_beyond number vs v)
  where
    by : (b : Bool) → (v == w) ≡ b → (b || is_among vs v) ≡ true → (is_among vs v ≡ true → number v < beyond number vs) → number v < beyond number (w ∷ vs)
    by true f h later = let same : number v ≡ number w = ap number (eqb-true v w f) in omega arith
    by false f h later = let less = later h in omega arith

abbrev wide_by : (ℕ → ℕ) → List ℕ → ℕ → Bool → ℕ
wide_by number vs v true = number v
wide_by number vs v false = beyond number vs + v

-- the same numbers for these variables, and greater ones for all others
abbrev pub wide : (ℕ → ℕ) → List ℕ → ℕ → ℕ
wide number vs v = wide_by number vs v (is_among vs v)

pub wide_same : (number : ℕ → ℕ) (vs : List ℕ) (v : ℕ) → is_among vs v ≡ true → wide number vs v ≡ number v
wide_same number vs v e = ap (wide_by number vs v) e

pub wide_apart : (number : ℕ → ℕ) (vs : List ℕ) → IsApart number vs → (v w : ℕ) → wide number vs v ≡ wide number vs w → v ≡ w
wide_apart number vs apart v w same = by (is_among vs v) (is_among vs w) refl refl same
  where
    by : (b c : Bool) → is_among vs v ≡ b → is_among vs w ≡ c → wide_by number vs v b ≡ wide_by number vs w c → v ≡ w
    by true true e f g = apart v w e f g
    by true false e f g = let less = below_beyond number vs v e in absurd (omega arith)
    by false true e f g = let less = below_beyond number vs w f in absurd (omega arith)
    by false false e f g = omega arith
