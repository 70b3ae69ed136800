use Rattle.std.proofs.Common.{◌∙◌, List, sym, subst}
use Rattle.defs_soar.specs.declared.preference.Preference.{Preference}
use Rattle.soar_settle.specs.Known.{AreRowsKnown}
use Rattle.list_parts.proofs.OrderLemmas.{known_in_order}
use Rattle.list_parts.proofs.preferences.list_slot.Goals as goal

pub list_ordered-requires : goal.list_ordered-requires
list_ordered-requires c =
    subst (λ (rows : List Preference). AreRowsKnown c.args.table.now rows) (sym (c.as_slice.ensures ∙ c.in_ok-ordered.ensures)) (known_in_order c.args.table.now c.args.rows.now c.requires)
