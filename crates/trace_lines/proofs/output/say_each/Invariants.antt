use Rattle.std.proofs.Common.{◌≡◌, ◌++◌, map, drop}
use Rattle.std.specs.List.{All}
use Rattle.defs_soar.specs.Trace.{piece_of, rendered}
use Rattle.trace_lines.specs.Saying.{IsTripleKnown, output_event}
use Rattle.trace_lines.proofs.output.say_each.Given as goal

abbrev pub invariant-triples : goal.invariant-triples
invariant-triples l = record {
  known : All (IsTripleKnown l.table) (drop l.triple-index l.triples);
  text : l.out ++ (rendered 1 l.mid_line (map (piece_of l.table) (map (output_event l.shows) (drop l.triple-index l.triples)))).text
      ≡ l.initial.out ++ (rendered 1 l.initial.mid_line (map (piece_of l.table) (map (output_event l.shows) l.triples))).text;
  mid_line : (rendered 1 l.mid_line (map (piece_of l.table) (map (output_event l.shows) (drop l.triple-index l.triples)))).mid_line
      ≡ (rendered 1 l.initial.mid_line (map (piece_of l.table) (map (output_event l.shows) l.triples))).mid_line;
}
