use denote.Shadow.{shadow}
use denote.Text.{Utf8}
use Rattle.std.proofs.Common.{◌≡◌, ◌++◌, drop}
use Rattle.soar_rule.specs.Conditions.{conditions}
use Rattle.soar_rule.specs.Symbols.{constants_of_conditions}
use Rattle.defs_read.specs.PrintingConditions.{inside_text}
use Rattle.soar_show.specs.Known.{Knows}
use Rattle.soar_show.specs.Lines.{with_gaps}
use Rattle.soar_show.proofs.conditions.+conditions.Given as goal

abbrev pub invariant-push_inside-conds : goal.invariant-push_inside-conds
invariant-push_inside-conds l = record {
  utf8 : shadow (Utf8 l.gap);
  known : Knows l.names.words (constants_of_conditions (conditions (drop l.cond-index l.conds)));
  text : l.out ++ with_gaps l.gap (drop l.cond-index l.conds) l.names ≡ l.initial.out ++ inside_text (conditions l.conds) l.names;
}
