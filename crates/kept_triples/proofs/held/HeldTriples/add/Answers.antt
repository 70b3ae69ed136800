use Rattle.std.proofs.Common.{◌∙◌, sym}
use Rattle.kept_triples.specs.Marks.{is_strange}
use Rattle.kept_triples.proofs.MarkLemmas.{more_told, neither_first, neither_second}
use Rattle.kept_triples.proofs.held.HeldTriples.add.Goals as goal

pub invariant_of-self-2 : goal.invariant_of-self-2
invariant_of-self-2 c =
    let before = c.self.inside.strange in
    let this = is_strange c.args.triple in
    let is = sym c.is_any_strange-self-inside.ensures in
    more_told before c.is_any_strange-self-inside.result c.self.inside.set c.add.new.self c.args.triple c.self.invariant c.in_ok-is_new.ensures.has
    (λ none. neither_first before this (is ∙ none)) (λ none. neither_second before this (is ∙ none))
