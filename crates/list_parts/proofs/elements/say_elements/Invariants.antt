use Rattle.std.proofs.Common.{◌≡◌, ◌++◌, map, drop}
use Rattle.defs_soar.specs.Texts.{tagged_text}
use Rattle.defs_soar.specs.Trace.{rendered}
use Rattle.defs_run.specs.Sessions.{as_lines}
use Rattle.soar_settle.specs.Known.{AreElementsKnown}
use Rattle.list_parts.proofs.elements.say_elements.Given as goal

abbrev pub invariant-elements : goal.invariant-elements
invariant-elements l = record {
  known : AreElementsKnown l.table (drop l.element-index l.elements);
  text : l.out ++ (rendered 1 l.mid_line (as_lines (map (tagged_text l.table) (drop l.element-index l.elements)))).text
      ≡ l.initial.out ++ (rendered 1 l.initial.mid_line (as_lines (map (tagged_text l.table) l.elements))).text;
  mid_line : (rendered 1 l.mid_line (as_lines (map (tagged_text l.table) (drop l.element-index l.elements)))).mid_line
      ≡ (rendered 1 l.initial.mid_line (as_lines (map (tagged_text l.table) l.elements))).mid_line;
}
