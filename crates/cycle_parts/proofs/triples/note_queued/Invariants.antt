use Rattle.std.proofs.Common.{◌≡◌, ◌++◌, map, take}
use Rattle.input_queue.specs.Seen.{triple_queued}
use Rattle.cycle_parts.proofs.triples.note_queued.Given as goal

abbrev pub invariant-queue : goal.invariant-queue
invariant-queue l = l.changed ≡ l.initial.changed ++ map triple_queued (take l.queued-index l.queue)
