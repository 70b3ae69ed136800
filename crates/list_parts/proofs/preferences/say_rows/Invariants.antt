use Rattle.std.proofs.Common.{◌≡◌, ◌++◌, map, drop}
use Rattle.defs_soar.specs.Trace.{rendered}
use Rattle.defs_run.specs.Listing.{preference_line}
use Rattle.defs_run.specs.Sessions.{as_lines}
use Rattle.soar_settle.specs.Known.{AreRowsKnown}
use Rattle.list_parts.proofs.preferences.say_rows.Given as goal

abbrev pub invariant-rows : goal.invariant-rows
invariant-rows l = record {
  known : AreRowsKnown l.table (drop l.row-index l.rows);
  text : l.out ++ (rendered 1 l.mid_line (as_lines (map (preference_line l.table) (drop l.row-index l.rows)))).text
      ≡ l.initial.out ++ (rendered 1 l.initial.mid_line (as_lines (map (preference_line l.table) l.rows))).text;
  mid_line : (rendered 1 l.mid_line (as_lines (map (preference_line l.table) (drop l.row-index l.rows)))).mid_line
      ≡ (rendered 1 l.initial.mid_line (as_lines (map (preference_line l.table) l.rows))).mid_line;
}
