use Rattle.std.proofs.Common.{◌≡◌, drop, map}
use Rattle.defs_soar.specs.Cycle.{with_changes}
use Rattle.input_queue.specs.Seen.{queued_seen}
use Rattle.input_queue.proofs.changes.make_all.Given as goal

abbrev pub invariant-changes : goal.invariant-changes
invariant-changes l = with_changes l.inputs (map queued_seen (drop l.queued-index l.queue)) ≡ with_changes l.initial.inputs (map queued_seen l.queue)
