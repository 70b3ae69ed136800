use Rattle.std.proofs.Common.{◌≡◌, ◌++◌, ◌-◌, ◌≤◌}
use Rattle.defs_run.specs.CommandLine.{items_text}
use Rattle.generator.proofs.items.add_items.Given as goal

abbrev pub invariant-items : goal.invariant-items
invariant-items l = l.script ++ items_text l.items l.item (l.items - l.item) ≡ l.initial.script ++ items_text l.items 0 l.items
