use Rattle.std.proofs.Common.{◌≡◌, ◌++◌, ◌-◌, ◌≤◌}
use Rattle.defs_run.specs.CommandLine.{removals_text}
use Rattle.generator.proofs.removals.add_removals.Given as goal

abbrev pub invariant-items : goal.invariant-items
invariant-items l = l.script ++ removals_text l.items l.item (l.items - l.item) ≡ l.initial.script ++ removals_text l.items 0 l.items
