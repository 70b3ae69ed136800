use Rattle.std.proofs.Common.{◌+◌, ◌∙◌, take, sym, ap, subst}
use Rattle.soar_edge.specs.Cuts.{Uncut}
use Rattle.soar_edge.specs.Scanning.{newlines}
use Rattle.soar_edge.specs.Holding.{IsHeld}
use Rattle.soar_edge.proofs.HeldLemmas.{is_held_past}
use Rattle.soar_edge.proofs.cutter.Cutter.pass.Goals as goal

pub invariant_of-self : goal.invariant_of-self
invariant_of-self c =
    let s = c.self.inside in
    let front = c.args.self.now.bytes in
    let same = ap (λ (u : Uncut). u.line + newlines (take c.args.size front)) c.self.view_is ∙ sym c.line_past-self-inside.ensures in
    subst (λ line. IsHeld s.bytes.items (s.start + c.args.size) c.args.scan line s.fed) same
    (is_held_past s.bytes.items s.start s.scan s.line s.fed front c.args.size c.args.scan c.self.invariant (ap (λ (u : Uncut). u.bytes) c.self.view_is) c.requires.within c.requires.scanned)
