-- Firings that join a record, one after the other.
use Rattle.std.proofs.Common.{◌≡◌, refl, ap, ℕ, ◌≤◌, ◌<◌, ◌==◌, arith, Bool, true, false, cond, inl, inr, List, [], ◌∷◌, ◌++◌}
use Rattle.defs_soar.specs.Explanation.{firing_of}
use Rattle.defs_soar.specs.History.{FiringOf}
use Rattle.defs_soar.specs.Laws.{IsIn}
use Rattle.learning_laws.proofs.Lists.{in_append, same_number}
use Rattle.goal_dependence.specs.Remembered.{CanJoin}

-- no firing is of a number that is greater than all
none_of : (n : ℕ) (kept : List FiringOf) → ((f : FiringOf) → IsIn f kept → f.number < n) → firing_of kept n ≡ []
none_of n [] low = refl
none_of n (f ∷ kept) low = go (f.number == n) refl (none_of n kept (λ g i. low g (inr i)))
  where
    go : (b : Bool) → (f.number == n) ≡ b → firing_of kept n ≡ [] → cond b (f ∷ firing_of kept n) (firing_of kept n) ≡ []
    go true q later = let less : f.number < n = low f (inl refl) in let e : f.number ≡ n = same_number f.number n q in absurd (omega arith)
    go false q later = later

pub joins_now : (kept : List FiringOf) (f : FiringOf) (new : List FiringOf) → CanJoin kept (f ∷ new) → firing_of kept f.number ≡ []
joins_now kept f new h = none_of f.number kept (λ g i. let low : g.number ≤ h.last = h.kept_up_to g i in let high : h.last < f.number = h.rising.0 in omega arith)

pub joins_on : (kept : List FiringOf) (f : FiringOf) (new : List FiringOf) → CanJoin kept (f ∷ new) → CanJoin (kept ++ f ∷ []) new
joins_on kept f new h = record {
  last = f.number;
  kept_up_to = λ g i. elim (in_append g kept (f ∷ []) i) [
    | inl j ↦ let low : g.number ≤ h.last = h.kept_up_to g j in let high : h.last < f.number = h.rising.0 in omega arith
    | inr j ↦ elim j [ inl e ↦ let q : f.number ≡ g.number = ap (λ (x : FiringOf). x.number) e in omega arith | inr z ↦ absurd z ]
  ];
  rising = h.rising.1;
}
