use Rattle.std.proofs.Common.{sym, subst}
use Rattle.soar_sym.specs.Words.{IsKnown}
use Rattle.soar_fire.specs.Known.{Knows, bound_symbols}
use Rattle.soar_fire.proofs.KnownLemmas.{knows_bound_push}
use Rattle.soar_fire.proofs.value.new_identifier.Goals as goal

pub returns-in_ok-push-in-Ok-clause-bound : goal.returns-in_ok-push-in-Ok-clause-bound
returns-in_ok-push-in-Ok-clause-bound c =
    subst (λ bindings. Knows c.args.table.now (bound_symbols bindings)) (sym c.in_ok-push-in-Ok.ensures.items)
    (knows_bound_push c.args.table.now c.args.bindings.now.items c.args.variable c.in-Ok.symbol c.requires.bound
    (subst (IsKnown c.args.table.now) (sym c.in-Ok.ensures.given.0) (c.requires.low, c.requires.high)))
