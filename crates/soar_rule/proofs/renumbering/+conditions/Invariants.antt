use Rattle.std.proofs.Common.{◌≡◌, map, None, take}
use Rattle.std.specs.Option.{option_copied}
use Rattle.soar_rule.specs.Renumbering.{renumbered_by}
use Rattle.soar_rule.specs.Conditions.{condition}
use Rattle.soar_rule.specs.Renaming.{condition_with}
use Rattle.soar_rule.proofs.renumbering.+conditions.Given as goal

abbrev pub invariant-renumber_conds-conds : goal.invariant-renumber_conds-conds
invariant-renumber_conds-conds l = record {
  renumbered : map condition l.out ≡ map (λ c. condition_with (renumbered_by (option_copied l.numbering)) (condition c)) (take l.cond-index l.conds);
  kept : l.numbering ≡ None → l.out ≡ take l.cond-index l.conds;
}
