use Rattle.std.proofs.Common.{◌≡◌, ℕ, ◌^◌, ◌≤◌, ◌-◌, false, [], List, Option, Some}
use Rattle.std.specs.Prelude.{IfSome}
use Rattle.soar_edge.specs.Cuts.{cuts_with}
use Rattle.soar_edge.specs.declared.filed.Filed.{Filed}
use Rattle.defs_run.specs.Runs.{Run}
use Rattle.command_runs.specs.Causes.{Fetched}
use Rattle.command_runs.specs.Following.{Comes, IsAt}
use Rattle.command_runs.proofs.ReadingLemmas.{BehindFront, IsPlace}
use Rattle.command_runs.proofs.input.obey_input.Given as goal

abbrev pub invariant-reading : goal.invariant-reading
invariant-reading g l = record {
  unclosed : l.cutter.closed ≡ false;
  count : l.cutter.fed ≡ l.taken;
  few : l.taken ≤ 2 ^ 26;
  waits : cuts_with l.cutter false [] ≡ [];
  ready : g.C.Carrier.ready l.progress.carrier;
  source : g.I.Source.faults l.input ≡ g.I.Source.faults l.initial.input;
  shelf : g.F.Shelf.faults l.files ≡ g.F.Shelf.faults l.initial.files;
  sink : g.O.Sink.faults l.out ≡ g.O.Sink.faults l.initial.out;
  stock : g.F.Shelf.files l.files ≡ g.F.Shelf.files l.initial.files;
  fetched : Fetched l.initial.progress.fetched l.progress.fetched (g.F.Shelf.fetched l.initial.files) (g.F.Shelf.fetched l.files);
  place : IfSome (g.I.Source.left l.initial.input) (λ all. IsPlace all (g.I.Source.left l.input) l.taken);
  behind : IfSome (g.I.Source.left l.initial.input) (λ all. (stock : List Filed) → g.F.Shelf.files l.initial.files ≡ Some stock → (fails : Option ℕ) → Comes fails l.progress.fetched → (r : Run) → IsAt (g.C.Carrier.stands l.initial.progress.carrier) l.initial.progress r
      → BehindFront (g.C.Carrier.stands l.progress.carrier) l.progress (g.O.Sink.written l.initial.out) (g.O.Sink.written l.out) fails stock l.cutter l.taken all r);
}

abbrev pub decreases-reading : goal.decreases-reading
decreases-reading g l = 67108864 - l.taken
