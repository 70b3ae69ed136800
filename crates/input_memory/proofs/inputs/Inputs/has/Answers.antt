use Rattle.std.proofs.Common.{◌≡◌, ◌∙◌, false, ap, arith, sym}
use Rattle.std.specs.Map.{values_of}
use Rattle.defs_soar.specs.Values.{has_triple_among}
use Rattle.input_memory.proofs.MarkLemmas.{none_marked}
use Rattle.input_memory.proofs.StoreLemmas.{any_turned}
use Rattle.input_memory.proofs.inputs.Inputs.has.Goals as goal

pub returns-then-not-self : goal.returns-then-not-self
returns-then-not-self c =
    let none : c.self.inside.marked ≡ false = grind (arith, c.if-not-self.true) in
    sym (none_marked (values_of c.self.inside.store.triples.entries) c.args.triple (c.self.invariant.1 none) c.if-triple.true) ∙ ap (λ ts. has_triple_among ts c.args.triple) c.self.view_is

pub returns : goal.returns
returns c = c.has_key.ensures ∙ any_turned c.args.triple _ ∙ ap (λ ts. has_triple_among ts c.args.triple) c.self.view_is
