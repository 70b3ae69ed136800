use Rattle.std.proofs.Common.{◌+◌, ◌∷◌, drop, sym, subst, arith}
use Rattle.std.proofs.lemmas.Grind.{common_steps}
use Rattle.defs_read.specs.Sayings.{AreTokensKnown}
use Rattle.command_orders.specs.Behind.{AreArgumentsKnown}
use Rattle.command_orders.proofs.ArgumentLemmas.{arguments_last, items_from}
use Rattle.command_orders.proofs.argument.arguments_of.Goals as goal

pub tokens-preserved : goal.tokens-preserved
tokens-preserved c = record {
  arguments = λ words. grind (arith, common_steps, c.tokens.invariant.arguments words, c.argument_at.ensures.argument words);
  known = λ words known.
      let before = c.tokens.invariant.known words known in
      let rest : AreTokensKnown words (c.token-item.result ∷ drop (c.tokens.token-index + 1) c.args.tokens.now) =
      subst (AreTokensKnown words) (items_from c.args.tokens.now c.tokens.token-index c.token-item.result c.tokens-test.true c.token-item.is) before.1 in
      (subst (AreArgumentsKnown words) (sym c.in_ok-push.ensures.ok) (arguments_last words c.tokens.arguments c.argument_at.result before.0 (c.argument_at.ensures.known words rest.0)), rest.1);
}

pub returns-clause-known : goal.returns-clause-known
returns-clause-known c = λ words known. (c.tokens.invariant.known words known).0
