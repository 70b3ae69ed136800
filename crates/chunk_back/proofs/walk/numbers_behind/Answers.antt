use Rattle.std.proofs.Common.{◌∙◌, ap₂}
use Rattle.defs_soar.specs.Explanation.{with_numbers}
use Rattle.chunk_back.proofs.WalkLemmas.{as_a_set}
use Rattle.chunk_back.proofs.walk.numbers_behind.Goals as goal

pub returns : goal.returns
returns g c =
    let kept = g.K.Keeps.kept c.args.kept.now in
    c.into_set.ensures ∙ c.in_ok-add_numbers.ensures ∙ ap₂ with_numbers (c.as_slice.ensures.value ∙ c.in_ok-found.ensures) c.new-numbers.ensures ∙ as_a_set kept c.args.roots.now
