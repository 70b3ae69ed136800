use Rattle.std.proofs.Common.{◌∙◌, ◌∷◌, cond, ap, refl}
use Rattle.kept_triples.specs.Counts.{how_many}
use Rattle.kept_triples.proofs.BalanceLemmas.{one_came, stays}
use Rattle.kept_triples.proofs.looking.come.Goals as goal

pub returns-then-not-is_new-clause-counts : goal.returns-then-not-is_new-clause-counts
returns-then-not-is_new-clause-counts c =
    let old = c.args.held.now in
    stays old c.add.new.self c.args.difference.now
    (λ p. c.in_ok-is_new.ensures.once p ∙ ap (λ b. how_many p (cond b (c.args.triple ∷ old) old)) c.if-not-is_new.true)

pub returns-clause-counts : goal.returns-clause-counts
returns-clause-counts c =
    let old = c.args.held.now in
    let before = c.args.difference.now in
    one_came old c.add.new.self before (record { gone = before.gone; come = c.push.new.self }) c.args.triple
    (λ p. c.in_ok-is_new.ensures.once p ∙ ap (λ b. how_many p (cond b (c.args.triple ∷ old) old)) c.if-not-is_new.false)
    refl c.in_ok-push.ensures.ok
