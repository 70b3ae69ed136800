-- What the functions do that take conditions in match order.
use Rattle.std.specs.Prelude.{◌≡◌, ℕ, ◌<◌, Bool, true, false, List, map, slice_set, Option, Some, None, if◌then◌else◌}
use Rattle.soar_rule.specs.declared.cond.Cond.{Cond}
use Rattle.soar_rule.specs.Conditions.{Condition, condition, Conditions}
use Rattle.soar_rule.specs.MatchOrder.{Readiness, is_ready, is_positive, Taken, nothing_taken, with_condition, count_of, readiness, one_taken}
use Rattle.soar_rule.specs.Repeat.{repeated}
use Rattle.soar_rule.specs.Variables.{is_among, bound_by, plain_outside}
use Rattle.rule_check.specs.declared.level.Left.{Left}
use Rattle.rule_check.specs.declared.level.Level.{Level}
use Rattle.rule_check.specs.declared.level.Standing.{Standing}
use Rattle.rule_check.specs.declared.taking.Found.{Found}
use Rattle.rule_check.specs.declared.taking.Found.TheVariants as found
use Rattle.rule_check.specs.declared.taking.InOrder.{InOrder}
use Rattle.rule_check.specs.Levels.{IsKnown, is_taken, standing_at, left_from, nothing_left, with_left, ready_of, lack_of, left_of}
use Rattle.rule_check.specs.Marking.{AreMarked}
use Rattle.rule_check.specs.Members.{members}

-- ---- a look at one condition

-- what is known of it may be more, and holds
pub record IsNoted (c : Condition) (inside : Bool) (outside : List ℕ) (place : ℕ) (old : Level) (new : Level) : Type 0 where
  pub standing : Standing
  pub changed : new ≡ record old { standings = slice_set old.standings place standing }
  pub taken : is_taken standing ≡ is_taken (standing_at old.standings place)
  pub known : IsKnown c inside outside (members old.bound.marks) standing

abbrev pub left_here : Bool → Bool → ℕ → Readiness → Left
left_here taken positive place r = if taken then nothing_left else left_of positive place (lack_of r)

-- it is ready, or else what it lacks is noted
abbrev pub LooksAt : Condition → Bool → List ℕ → List ℕ → ℕ → Bool → Left → Left → Option Cond → Type 0
LooksAt c inside outside bound place taken left after (Some d) = (taken ≡ false) × (readiness c inside outside bound ≡ is_ready (condition d))
LooksAt c inside outside bound place taken left after None =
    (taken ≡ false → ready_of (readiness c inside outside bound) ≡ None) × (after ≡ with_left left (left_here taken (is_positive c) place (readiness c inside outside bound)))

-- ---- a look at all

-- what is known may be more, and nothing else changes
pub record KeepsTaken (old : Level) (new : Level) : Type 0 where
  pub taken : map is_taken new.standings ≡ map is_taken old.standings
  pub conds : new.conds ≡ old.conds
  pub bound : new.bound ≡ old.bound

-- the condition at this place is the first that is ready
pub record IsFirstReady (cs : Conditions) (inside : Bool) (outside : List ℕ) (t : Taken) (place : ℕ) (c : Condition) : Type 0 where
  pub step : one_taken cs inside outside 0 t ≡ with_condition place c t
  pub free : is_among t.places place ≡ false
  pub within : place < count_of cs
  pub bound : (v : ℕ) → is_among (bound_by c) v ≡ true → is_among (plain_outside cs) v ≡ true

abbrev pub IsFound : Conditions → Bool → List ℕ → Taken → Found → Type 0
IsFound cs inside outside t (found.Ready place c) = IsFirstReady cs inside outside t place (condition c)
IsFound cs inside outside t (found.Nothing left) = (one_taken cs inside outside 0 t ≡ t) × (left ≡ left_from cs inside outside 0 t)

-- ---- the whole list

abbrev pub ordered_from : Conditions → Bool → List ℕ → Taken
ordered_from cs inside bound = repeated (count_of cs) (λ t. one_taken cs inside (plain_outside cs) 0 t) (nothing_taken bound)

-- the conditions are taken in match order where these variables are bound before
pub record IsOrdered (cs : Conditions) (inside : Bool) (bound : List ℕ) (order : InOrder) : Type 0 where
  pub taken : map condition order.conds ≡ (ordered_from cs inside bound).order
  pub marked : AreMarked order.bound.marks (ordered_from cs inside bound).bound
  pub left : order.left ≡ left_from cs inside (plain_outside cs) 0 (ordered_from cs inside bound)
