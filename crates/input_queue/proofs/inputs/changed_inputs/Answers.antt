use Rattle.std.proofs.Common.{◌∙◌, ap, map}
use Rattle.defs_soar.specs.Cycle.{with_changes}
use Rattle.input_queue.specs.Seen.{queued_seen}
use Rattle.input_queue.proofs.ChangeLemmas.{known_changed}
use Rattle.input_queue.proofs.inputs.changed_inputs.Goals as goal

pub returns-clause-known : goal.returns-clause-known
returns-clause-known c = λ words known more.
    known_changed words c.args.inputs.now c.args.queue.now _
    (c.in_ok-change_all.ensures ∙ ap (λ l. with_changes l (map queued_seen c.as_slice-2.result.now)) (c.in_ok-changed.ensures ∙ c.as_slice.ensures)
    ∙ ap (λ q. with_changes c.args.inputs.now (map queued_seen q)) c.as_slice-2.ensures) known more
