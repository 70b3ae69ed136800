use Rattle.std.proofs.Common.{◌≡◌, List, ℕ, Option, Some, drop}
use Rattle.soar_edge.specs.declared.filed.Filed.{Filed}
use Rattle.defs_run.specs.Runs.{Run}
use Rattle.command_runs.specs.Causes.{Fetched}
use Rattle.command_runs.specs.Following.{Comes, IsAt, IsBehind}
use Rattle.command_runs.specs.Whole.{files_of}
use Rattle.command_runs.proofs.files.obey_files.Given as goal

abbrev pub invariant-names : goal.invariant-names
invariant-names g l = record {
  ready : g.C.Carrier.ready l.progress.carrier;
  shelf : g.F.Shelf.faults l.files ≡ g.F.Shelf.faults l.initial.files;
  sink : g.O.Sink.faults l.out ≡ g.O.Sink.faults l.initial.out;
  stock : g.F.Shelf.files l.files ≡ g.F.Shelf.files l.initial.files;
  fetched : Fetched l.initial.progress.fetched l.progress.fetched (g.F.Shelf.fetched l.initial.files) (g.F.Shelf.fetched l.files);
  behind : (stock : List Filed) → g.F.Shelf.files l.initial.files ≡ Some stock → (fails : Option ℕ) → Comes fails l.progress.fetched → (r : Run) → IsAt (g.C.Carrier.stands l.initial.progress.carrier) l.initial.progress r
      → IsBehind (g.C.Carrier.stands l.progress.carrier) l.progress (g.O.Sink.written l.initial.out) (g.O.Sink.written l.out)
      (files_of fails stock (drop l.name-index l.names)) (files_of fails stock l.names r);
}
