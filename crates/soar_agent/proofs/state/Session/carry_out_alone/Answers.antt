use Rattle.std.proofs.Common.{sym, subst}
use Rattle.defs_run.specs.declared.form.Order.{Order}
use Rattle.command_orders.specs.Asked.{order_seen}
use Rattle.defs_run.specs.Carrying.{carried_out}
use Rattle.soar_agent.specs.Running.{run_learning}
use Rattle.soar_agent.specs.Carries.{Carries}
use Rattle.soar_agent.proofs.SoundLemmas.{may_be_loaded}
use Rattle.soar_agent.proofs.state.Session.carry_out_alone.Goals as goal

pub load-requires-clause-may_be_loaded : goal.load-requires-clause-may_be_loaded
load-requires-clause-may_be_loaded g c = may_be_loaded c.args.self.now.agent.parts.table c.args.order c.in-Load.production c.in-Load.is c.requires.lawful

pub returns-in-Load-clause-reply : goal.returns-in-Load-clause-reply
returns-in-Load-clause-reply g c =
    subst (λ (o : Order). Carries c.args.self.now c.load.new.self c.args.origin.now.source.now c.args.origin.now.line (carried_out run_learning (order_seen o)) c.args.out.now c.args.out.now c.load.result) (sym c.in-Load.is)
    (c.load.ensures.reply c.args.out.now)

pub returns-in-Random-clause-reply : goal.returns-in-Random-clause-reply
returns-in-Random-clause-reply g c =
    subst (λ (o : Order). Carries c.args.self.now c.put_random.new.self c.args.origin.now.source.now c.args.origin.now.line (carried_out run_learning (order_seen o)) c.args.out.now c.args.out.now c.put_random.result) (sym c.in-Random.is)
    (c.put_random.ensures.reply c.args.out.now)

pub returns-in-InitSoar-clause-reply : goal.returns-in-InitSoar-clause-reply
returns-in-InitSoar-clause-reply g c =
    subst (λ (o : Order). Carries c.args.self.now c.restart.new.self c.args.origin.now.source.now c.args.origin.now.line (carried_out run_learning (order_seen o)) c.args.out.now c.args.out.now c.restart.result) (sym c.in-InitSoar.is)
    (c.restart.ensures.reply c.args.out.now)

pub returns-in-Watch-clause-reply : goal.returns-in-Watch-clause-reply
returns-in-Watch-clause-reply g c =
    subst (λ (o : Order). Carries c.args.self.now c.set_watch.new.self c.args.origin.now.source.now c.args.origin.now.line (carried_out run_learning (order_seen o)) c.args.out.now c.args.out.now c.set_watch.result) (sym c.in-Watch.is)
    (c.set_watch.ensures.reply c.args.out.now)

pub returns-in-Chunk-clause-reply : goal.returns-in-Chunk-clause-reply
returns-in-Chunk-clause-reply g c =
    subst (λ (o : Order). Carries c.args.self.now c.set_learning.new.self c.args.origin.now.source.now c.args.origin.now.line (carried_out run_learning (order_seen o)) c.args.out.now c.args.out.now c.set_learning.result) (sym c.in-Chunk.is)
    (c.set_learning.ensures.reply c.args.out.now)

pub returns-in-LocalNegations-clause-reply : goal.returns-in-LocalNegations-clause-reply
returns-in-LocalNegations-clause-reply g c =
    subst (λ (o : Order). Carries c.args.self.now c.set_local_negations.new.self c.args.origin.now.source.now c.args.origin.now.line (carried_out run_learning (order_seen o)) c.args.out.now c.args.out.now c.set_local_negations.result) (sym c.in-LocalNegations.is)
    (c.set_local_negations.ensures.reply c.args.out.now)

pub returns-in-SelectBy-clause-reply : goal.returns-in-SelectBy-clause-reply
returns-in-SelectBy-clause-reply g c =
    subst (λ (o : Order). Carries c.args.self.now c.set_mode.new.self c.args.origin.now.source.now c.args.origin.now.line (carried_out run_learning (order_seen o)) c.args.out.now c.args.out.now c.set_mode.result) (sym c.in-SelectBy.is)
    (c.set_mode.ensures.reply c.args.out.now)

pub returns-in-MaxElaborations-clause-reply : goal.returns-in-MaxElaborations-clause-reply
returns-in-MaxElaborations-clause-reply g c =
    subst (λ (o : Order). Carries c.args.self.now c.set_max_elaborations.new.self c.args.origin.now.source.now c.args.origin.now.line (carried_out run_learning (order_seen o)) c.args.out.now c.args.out.now c.set_max_elaborations.result) (sym c.in-MaxElaborations.is)
    (c.set_max_elaborations.ensures.reply c.args.out.now)
