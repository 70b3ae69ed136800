use Rattle.std.proofs.Common.{◌≡◌, ◌++◌, drop}
use Rattle.soar_rule.specs.Conditions.{conditions}
use Rattle.soar_rule.specs.Symbols.{constants_of_conditions}
use Rattle.defs_read.specs.PrintingConditions.{condition_lines}
use Rattle.soar_show.specs.Known.{Knows}
use Rattle.soar_show.specs.Lines.{inner_text}
use Rattle.soar_show.proofs.conditions.push_conditions.Given as goal

abbrev pub invariant-conds : goal.invariant-conds
invariant-conds l = record {
  known : Knows l.names.words (constants_of_conditions (conditions (drop l.cond-index l.conds)));
  text : l.out ++ inner_text (condition_lines (conditions (drop l.cond-index l.conds)) l.names) ≡ l.initial.out ++ inner_text (condition_lines (conditions l.conds) l.names);
}
