-- States of an order that agree on some variables.
use Rattle.std.specs.Prelude.{◌≡◌, ℕ, List, [], ◌∷◌}
use Rattle.soar_rule.specs.MatchOrder.{Taken}
use Rattle.soar_rule.specs.Variables.{is_among}

-- each variable of the list has the property
abbrev pub AllHave : (ℕ → Type 0) → List ℕ → Type 0
AllHave P [] = Unit {0}
AllHave P (v ∷ vs) = P v × AllHave P vs

-- the lists have the same variables among those with the property
abbrev pub AgreeOn : (ℕ → Type 0) → List ℕ → List ℕ → Type 0
AgreeOn P vs ws = (v : ℕ) → P v → is_among vs v ≡ is_among ws v

-- the same numbers are among both
abbrev pub SameMembers : List ℕ → List ℕ → Type 0
SameMembers vs ws = (v : ℕ) → is_among vs v ≡ is_among ws v

-- the same was taken, in the same order, and what is bound agrees on the variables with the property
pub record Agree (P : ℕ → Type 0) (t u : Taken) : Type 0 where
  pub places : SameMembers t.places u.places
  pub order : t.order ≡ u.order
  pub bound : AgreeOn P t.bound u.bound
