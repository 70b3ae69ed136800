use Rattle.std.proofs.Common.{◌==◌, ◌∙◌, sym, ap, drop, position, arith, length-drop}
use Rattle.std.proofs.lemmas.List.{take_rest}
use Rattle.soar_edge.proofs.SkipLemmas.{newline_at, skips_comment, leads_to_comment}
use Rattle.soar_edge.proofs.lead.lead_of.Goals as goal

pub bytes-preserved-in-Some : goal.bytes-preserved-in-Some
bytes-preserved-in-Some c =
    let bytes = c.args.bytes.now in
    let size = c.bytes.size in
    let at = ap (position (λ b. b == 10)) (sym (take_rest bytes size)) ∙ sym c.in-Some.ensures in
    let found = newline_at (drop size bytes) c.in-Some.more at in
    record {
      within = omega (arith, found.1, length-drop size bytes);
      skips = skips_comment bytes size c.in-Some.more (omega arith) c.if-byte-eq35.true at c.bytes.invariant.skips;
    }

pub returns-in-None : goal.returns-in-None
returns-in-None c =
    let at = ap (position (λ b. b == 10)) (sym (take_rest c.args.bytes.now c.bytes.size)) ∙ sym c.in-None.ensures in
    leads_to_comment c.args.bytes.now c.bytes.size (omega arith) c.if-byte-eq35.true at c.bytes.invariant.skips
