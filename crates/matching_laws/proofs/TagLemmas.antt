-- Tags of elements that stay, and of those that come behind them.
use Rattle.std.proofs.Common.{ℕ, ◌<◌, ◌≤◌, ◌==◌, ◌≡◌, Bool, true, false, cond, List, [], ◌∷◌, ◌++◌, filter, arith}
use Rattle.soar_wm.specs.declared.element.Element.{Element}
use Rattle.soar_wm.specs.WorkingMemory.{IsBelow, IsGiven}

pub itself : (n : ℕ) → (n == n) ≡ true
itself n = grind arith

pub below_apart : (m n : ℕ) → m < n → (m == n) ≡ false
below_apart m n h = grind arith

pub below_filter : (p : Element → Bool) (tag : ℕ) (elements : List Element) → IsBelow tag elements → IsBelow tag (filter p elements)
below_filter p tag [] below = tt
below_filter p tag (e ∷ elements) below = by (p e) (below_filter p tag elements below.1)
  where
    by : (b : Bool) → IsBelow tag (filter p elements) → IsBelow tag (cond b (e ∷ filter p elements) (filter p elements))
    by true later = (below.0, later)
    by false later = later

pub given_filter : (p : Element → Bool) (last : ℕ) (elements : List Element) → IsGiven last elements → IsGiven last (filter p elements)
given_filter p last [] given = tt
given_filter p last (e ∷ elements) given = by (p e) (given_filter p last elements given.2)
  where
    by : (b : Bool) → IsGiven last (filter p elements) → IsGiven last (cond b (e ∷ filter p elements) (filter p elements))
    by true later = (given.0, given.1, later)
    by false later = later

-- one element more, under a later tag
pub given_after : (last more : ℕ) (elements : List Element) (e : Element) → IsGiven last elements → last ≤ more → 1 ≤ e.tag → e.tag ≤ more
    → IsGiven more (elements ++ e ∷ [])
given_after last more [] e given le one top = (one, top, tt)
given_after last more (f ∷ elements) e given le one top = (given.0, omega (arith, given.1, le), given_after last more elements e given.2 le one top)
