use Rattle.std.proofs.Common.{◌≡◌, ◌++◌, take, drop}
use Rattle.soar_edge.specs.Cutting.{open_text}
use Rattle.soar_edge.specs.Scanning.{inside_of}
use Rattle.defs_run.specs.WholeReading.{before_comment}
use Rattle.file_names.proofs.comment.comment_place.Given as goal

abbrev pub invariant-bytes : goal.invariant-bytes
invariant-bytes l = record {
  place : l.place ≡ l.byte-index;
  front : take l.place l.bytes ++ before_comment (inside_of l.inside) (drop l.place l.bytes) ≡ before_comment open_text l.bytes;
}
