use Rattle.std.proofs.Common.{arith, ◌-◌, subst, sym, List}
use Rattle.defs_soar.specs.declared.preference.Preference.{Preference}
use Rattle.soar_settle.specs.Known.{AreRowsKnown}
use Rattle.list_parts.proofs.OrderLemmas.{known_at, known_order_after}
use Rattle.list_parts.proofs.order.rows_in_order.Goals as goal

pub add_row-requires-clause-all : goal.add_row-requires-clause-all
add_row-requires-clause-all c =
    subst (λ (rows : List Preference). AreRowsKnown c.args.table.now rows) (sym c.rows.invariant) (known_order_after c.args.table.now c.rows.at c.args.rows.now c.requires)

pub add_row-requires-clause-one : goal.add_row-requires-clause-one
add_row-requires-clause-one c = known_at c.args.table.now c.args.rows.now (c.rows.at - 1) _ (omega arith) c.requires
