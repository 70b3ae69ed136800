use Rattle.std.proofs.Common.{◌≡◌, List, ℕ, drop, map}
use Rattle.soar_rule.specs.Conditions.{conditions}
use Rattle.soar_rule.specs.MatchOrder.{one_taken}
use Rattle.soar_rule.specs.Repeat.{repeated}
use Rattle.soar_rule.specs.Variables.{plain_outside}
use Rattle.rule_check.specs.Agreeing.{Agree}
use Rattle.rule_check.specs.Levels.{IsLevel, is_taken, left_from, open_count, taken_seen, with_left}
use Rattle.rule_check.specs.Marking.{AreMarked}
use Rattle.rule_check.specs.Members.{members}
use Rattle.rule_check.specs.Taking.{KeepsTaken, ordered_from}
use Rattle.rule_check.proofs.taking.+taking.Given as goal

abbrev pub invariant-look-conds : goal.invariant-look-conds
invariant-look-conds l = record {
  level : IsLevel l.conds l.inside (members l.outside.marks) l.level;
  kept : KeepsTaken l.initial.level l.level;
  step :
      one_taken (conditions (drop l.place l.conds)) l.inside (members l.outside.marks) l.place (taken_seen l.initial.level)
      ≡ one_taken (conditions l.conds) l.inside (members l.outside.marks) 0 (taken_seen l.initial.level);
  left :
      with_left l.left (left_from (conditions (drop l.place l.conds)) l.inside (members l.outside.marks) l.place (taken_seen l.initial.level))
      ≡ left_from (conditions l.conds) l.inside (members l.outside.marks) 0 (taken_seen l.initial.level);
}

abbrev pub invariant-take_all-rounds : goal.invariant-take_all-rounds
invariant-take_all-rounds l = record {
  level : IsLevel l.conds l.inside (members l.outside.marks) l.level;
  agree :
      (variables : List ℕ) → AreMarked l.fn.bound.marks variables
      → Agree (λ v. Unit {0})
      (repeated (open_count (map is_taken l.level.standings)) (λ t. one_taken (conditions l.fn.conds) l.fn.inside (plain_outside (conditions l.fn.conds)) 0 t) (taken_seen l.level))
      (ordered_from (conditions l.fn.conds) l.fn.inside variables);
}

abbrev pub decreases-take_all-rounds : goal.decreases-take_all-rounds
decreases-take_all-rounds l = open_count (map is_taken l.level.standings)
