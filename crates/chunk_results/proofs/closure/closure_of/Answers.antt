use Rattle.std.proofs.Common.{◌-◌, arith, sym, subst, List}
use Rattle.defs_soar.specs.declared.preference.Preference.{Preference}
use Rattle.chunk_results.specs.Reached.{AreRowsKnown}
use Rattle.chunk_results.proofs.PlaceLemmas.{known_after, known_at, no_preference}
use Rattle.chunk_results.proofs.closure.closure_of.Goals as goal

pub add_row-requires-clause-all : goal.add_row-requires-clause-all
add_row-requires-clause-all c =
    let P : List Preference → Type 0 = AreRowsKnown c.args.table.now in
    subst P (sym c.rows.invariant) (known_after c.args.table.now c.args.ids.now c.args.rows.now c.rows.at c.requires)

pub add_row-requires-clause-one : goal.add_row-requires-clause-one
add_row-requires-clause-one c = known_at c.args.table.now c.args.rows.now (c.rows.at - 1) no_preference (omega arith) c.requires
