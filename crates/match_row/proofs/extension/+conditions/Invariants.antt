use Rattle.std.proofs.Common.{◌≡◌, drop, flat_map}
use Rattle.soar_rule.specs.Conditions.{condition, conditions}
use Rattle.defs_match.specs.Rows.{rows_with, rows_from}
use Rattle.match_row.proofs.extension.+conditions.Given as goal

abbrev pub invariant-rows_from-conds : goal.invariant-rows_from-conds
invariant-rows_from-conds l = rows_from (conditions (drop l.cond-index l.conds)) l.elements l.rows.items ≡ rows_from (conditions l.conds) l.elements l.initial.rows.items

abbrev pub invariant-rows_by-rows : goal.invariant-rows_by-rows
invariant-rows_by-rows l = l.out.items ≡ flat_map (rows_with (condition l.cond) l.elements) l.yielded
