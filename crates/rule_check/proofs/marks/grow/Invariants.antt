use Rattle.std.proofs.Common.{◌≡◌, ℕ, ◌-◌, length}
use Rattle.rule_check.specs.Marking.{is_marked}
use Rattle.rule_check.proofs.marks.grow.Given as goal

abbrev pub invariant-marks : goal.invariant-marks
invariant-marks l = (number : ℕ) → is_marked l.marks number ≡ is_marked l.initial.marks number

abbrev pub decreases-marks : goal.decreases-marks
decreases-marks l = l.count - length l.marks
