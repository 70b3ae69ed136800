use Rattle.std.proofs.Common.{◌≡◌, [], List, ℕ, Bool, Option, Some, length}
use Rattle.soar_edge.specs.Cuts.{MayFollow, cuts_with}
use Rattle.soar_edge.specs.declared.filed.Filed.{Filed}
use Rattle.defs_run.specs.Whole.{whole_stage}
use Rattle.defs_run.specs.Runs.{Run}
use Rattle.defs_run.specs.Sources.{cuts_run}
use Rattle.command_runs.specs.Causes.{Fetched}
use Rattle.command_runs.specs.Following.{Comes, IsAt, IsBehind, inner_of}
use Rattle.command_runs.proofs.stream.+obey_fed.Given as goal

abbrev pub decreases-obey_fed : goal.decreases-obey_fed
decreases-obey_fed g l = l.depth

abbrev pub invariant-commands : goal.invariant-commands
invariant-commands g l = record {
  closed : l.cutter.closed ≡ l.initial.cutter.closed;
  fed : l.cutter.fed ≡ l.initial.cutter.fed;
  ready : g.C.Carrier.ready l.progress.carrier;
  shelf : g.F.Shelf.faults l.files ≡ g.F.Shelf.faults l.initial.files;
  sink : g.O.Sink.faults l.out ≡ g.O.Sink.faults l.initial.out;
  stock : g.F.Shelf.files l.files ≡ g.F.Shelf.files l.initial.files;
  fetched : Fetched l.initial.progress.fetched l.progress.fetched (g.F.Shelf.fetched l.initial.files) (g.F.Shelf.fetched l.files);
  behind : (stock : List Filed) → g.F.Shelf.files l.initial.files ≡ Some stock → (fails : Option ℕ) → Comes fails l.progress.fetched → (r : Run) → IsAt (g.C.Carrier.stands l.initial.progress.carrier) l.initial.progress r → (ends : Bool) (more : List ℕ) → MayFollow l.initial.cutter.closed ends more
      → IsBehind (g.C.Carrier.stands l.progress.carrier) l.progress (g.O.Sink.written l.initial.out) (g.O.Sink.written l.out)
      (cuts_run whole_stage (inner_of fails stock l.depth) fails stock l.source (cuts_with l.cutter ends more))
      (cuts_run whole_stage (inner_of fails stock l.depth) fails stock l.source (cuts_with l.initial.cutter ends more) r);
}

abbrev pub decreases-commands : goal.decreases-commands
decreases-commands g l = length (cuts_with l.cutter l.cutter.closed [])
