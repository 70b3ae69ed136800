use Rattle.std.proofs.Common.{sym, subst}
use Rattle.defs_run.specs.Carrying.{carried_out}
use Rattle.defs_run.specs.declared.form.Order.{Order}
use Rattle.command_orders.specs.Asked.{order_seen}
use Rattle.soar_agent.specs.Carries.{Carries}
use Rattle.soar_agent.specs.Running.{run_learning}
use Rattle.soar_agent.proofs.state.Session.list.Goals as goal

pub returns-in-Stats-clause-reply : goal.returns-in-Stats-clause-reply
returns-in-Stats-clause-reply g c =
    subst (λ (o : Order). Carries c.args.self.now c.list_counts.new.self c.args.origin.now.source.now c.args.origin.now.line (carried_out run_learning (order_seen o)) c.args.out.now c.list_counts.new.out c.list_counts.result) (sym c.in-Stats.is)
    c.list_counts.ensures.reply
