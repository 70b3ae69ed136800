use Rattle.std.proofs.Common.{◌∙◌, take, ap, arith}
use Rattle.soar_edge.specs.Cuts.{Uncut}
use Rattle.soar_edge.specs.Scanning.{newlines}
use Rattle.soar_edge.proofs.HeldLemmas.{line_fits}
use Rattle.soar_edge.proofs.cutter.Cutter.line_past.Goals as goal

pub overflow_add-result : goal.overflow_add-result
overflow_add-result c =
    let s = c.self.inside in
    let front = c.args.self.now.bytes in
    let fits = line_fits s.bytes.items s.start s.scan s.line s.fed front c.args.size c.self.invariant (ap (λ (u : Uncut). u.bytes) c.self.view_is) c.requires in
    omega (arith, fits, c.newlines.ensures ∙ ap (λ bytes. newlines (take c.args.size bytes)) c.rest.ensures)
