use Rattle.std.proofs.Common.{◌∙◌, ◌&&◌, List, sym, subst}
use Rattle.soar_sym.specs.Equality.{symbol_eq}
use Rattle.defs_soar.specs.declared.preference.Preference.{Preference}
use Rattle.soar_settle.specs.Known.{AreRowsKnown}
use Rattle.list_parts.proofs.OrderLemmas.{known_filter}
use Rattle.list_parts.proofs.preferences.list_preferences.Goals as goal

pub list_slot-requires : goal.list_slot-requires
list_slot-requires c =
    subst (λ (rows : List Preference). AreRowsKnown c.args.table.now rows) (sym (c.as_slice.ensures ∙ c.in_ok-rows.ensures))
    (known_filter (λ row. symbol_eq row.wish.id c.args.id && symbol_eq row.wish.attr c.args.attr) c.args.table.now c.args.prefs.now.rows c.requires)
