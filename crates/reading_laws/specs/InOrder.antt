-- A production with its variables numbered in the order of its text, as reading numbers them.
use Rattle.std.specs.Prelude.{map}
use Rattle.soar_rule.specs.Canonical.{in_order_of_occurrence, renumbered}
use Rattle.soar_rule.specs.Productions.{ProductionOf}
use Rattle.soar_rule.specs.Renaming.{action_with, conditions_with}
use Rattle.defs_read.specs.PrintingConditions.{name_at}

-- the same production: each variable has the name that it had
abbrev pub in_text_order : ProductionOf → ProductionOf
in_text_order p =
    let order = in_order_of_occurrence p.conditions p.actions in
    record p { vars = map (name_at p.vars) order; conditions = conditions_with (renumbered order) p.conditions; actions = map (action_with (renumbered order)) p.actions }
