use Rattle.std.proofs.Common.{Result, sym, subst}
use Rattle.defs_run.specs.Orders.{Order, Refusal}
use Rattle.soar_cmd.specs.Answers.{IsJudged}
use Rattle.soar_cmd.proofs.source.source_order.Goals as goal

pub returns-in-Ok-clause-judged : goal.returns-in-Ok-clause-judged
returns-in-Ok-clause-judged c = λ words.
    subst (λ (order : Result Order Refusal). IsJudged words order c.named_order.result) (sym c.in-Ok.ensures.name) (c.named_order.ensures.judged words)
