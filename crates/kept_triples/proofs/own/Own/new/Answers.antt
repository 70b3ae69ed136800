use Rattle.std.proofs.Common.{◌∙◌, ap, subst, sym}
use Rattle.defs_soar.specs.Values.{has_triple_among}
use Rattle.kept_triples.specs.Owned.{ArePlain}
use Rattle.kept_triples.proofs.OwnLemmas.{own_are_plain}
use Rattle.kept_triples.proofs.own.Own.new.Goals as goal

pub invariant_of-result : goal.invariant_of-result
invariant_of-result c =
    ((λ t. c.in_ok-set.ensures t ∙ ap (λ all. has_triple_among all t) c.as_slice.ensures), subst ArePlain (sym c.in_ok-all.ensures) (own_are_plain c.args.goals.now))
