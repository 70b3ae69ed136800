-- the loop that reads the values of a function, and the words of a call
use Rattle.std.proofs.Common.{◌≡◌, sym, ◌∙◌, subst, true, false}
use Rattle.defs_read.specs.ReadingValues.{wants}
use Rattle.defs_read.specs.Sayings.{sayings}
use Rattle.tree_parts.proofs.LoopLaws.{ended, stopped}
use Rattle.tree_parts.proofs.ValueLaws.{known_call, arguments_begun, arguments_pushed}
use Rattle.tree_parts.proofs.reader.Reader.+terms.Goals as goal

pub call-returns-clause-known : goal.call-returns-clause-known
call-returns-clause-known t c = known_call c.args.self.now c.in_ok-function.function c.in_ok-values.values ∙ c.in_ok-values.ensures.known

pub arguments-values-init : goal.arguments-values-init
arguments-values-init t c = arguments_begun c.args.function c.args.depth c.args.self.now c.args.tokens.now c.new-values.result c.new-values.ensures c.requires

pub arguments-values-preserved : goal.arguments-values-preserved
arguments-values-preserved t c =
    arguments_pushed c.args.function c.args.depth c.args.self.now c.args.tokens.now c.values.values c.values.rest.now c.values.invariant
    c.push.new.self c.in-Ok.value c.in-Ok.after.now c.in_ok-push-in-Ok.ensures.ok
    (subst (λ n. wants c.args.function n (sayings c.args.self.now c.values.rest.now) ≡ true) c.len.ensures (sym (c.wants.ensures c.args.self.now) ∙ c.values-test.true))
    c.in-Ok.ensures.gives c.in-Ok.ensures.known c.in-Ok.ensures.rest

pub arguments-returns-in-Err-clause-gives : goal.arguments-returns-in-Err-clause-gives
arguments-returns-in-Err-clause-gives t c =
    stopped c.values.invariant c.in-Err.stop
    (subst (λ n. wants c.args.function n (sayings c.args.self.now c.values.rest.now) ≡ true) c.len.ensures (sym (c.wants.ensures c.args.self.now) ∙ c.values-test.true)) c.in-Err.ensures.gives

pub arguments-returns-clause-gives : goal.arguments-returns-clause-gives
arguments-returns-clause-gives t c =
    ended c.values.invariant
    (subst (λ n. wants c.args.function n (sayings c.args.self.now c.values.rest.now) ≡ false) c.len.ensures (sym (c.wants.ensures c.args.self.now) ∙ c.values-test.false))
