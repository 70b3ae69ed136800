use Rattle.std.proofs.Common.{◌∙◌, ◌∷◌, cond, ap, refl, sym}
use Rattle.kept_triples.specs.Counts.{how_many}
use Rattle.kept_triples.proofs.BalanceLemmas.{one_went, stays}
use Rattle.kept_triples.proofs.looking.go.Goals as goal

pub returns-then-not-remove-clause-counts : goal.returns-then-not-remove-clause-counts
returns-then-not-remove-clause-counts c =
    let new = c.remove.new.self in
    stays c.args.held.now new c.args.difference.now
    (λ p. ap (λ b. how_many p (cond b (c.args.triple ∷ new) new)) (sym c.if-not-remove.true) ∙ c.remove.ensures.once p)

pub returns-clause-counts : goal.returns-clause-counts
returns-clause-counts c =
    let new = c.remove.new.self in
    let before = c.args.difference.now in
    one_went c.args.held.now new before (record { gone = c.push.new.self; come = before.come }) c.args.triple
    (λ p. ap (λ b. how_many p (cond b (c.args.triple ∷ new) new)) (sym c.if-not-remove.false) ∙ c.remove.ensures.once p)
    c.in_ok-push.ensures.ok refl
