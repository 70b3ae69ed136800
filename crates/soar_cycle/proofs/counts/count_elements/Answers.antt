use Rattle.std.proofs.Common.{◌≡◌, ◌∙◌, ap, arith}
use Rattle.soar_cycle.proofs.CountLemmas.{count_to, counts_all}
use Rattle.soar_cycle.proofs.counts.count_elements.Goals as goal

pub returns : goal.returns
returns c =
    let memory = c.args.memory.now in
    let all : c.tags.tag ≡ memory.last = omega (arith, c.tags.invariant.within, c.tags-test.false, c.last_tag.ensures) in
    c.tags.invariant.counted ∙ (ap (λ tag. count_to tag memory.elements) all ∙ counts_all memory.last memory.elements c.tags.invariant.lawful.rising c.tags.invariant.lawful.given)
