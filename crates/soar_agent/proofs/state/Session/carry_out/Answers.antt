use Rattle.std.proofs.Common.{Ok, refl, sym, subst}
use Rattle.defs_run.specs.Sessions.{quits, sources}
use Rattle.defs_run.specs.declared.form.Order.{Order}
use Rattle.command_orders.specs.Asked.{order_seen}
use Rattle.soar_agent.specs.Carries.{CarriesOut}
use Rattle.soar_agent.specs.declared.outcome.Outcome.TheVariants.{Quit, Source}
use Rattle.soar_agent.proofs.CommandLemmas.{alone_read, carries_as}
use Rattle.soar_agent.proofs.ReplyLemmas.{asks}
use Rattle.soar_agent.proofs.state.Session.carry_out.Goals as goal

pub returns-in-Run-clause-command : goal.returns-in-Run-clause-command
returns-in-Run-clause-command g c =
    subst (λ (o : Order). CarriesOut c.args.self.now c.ask_to_run.new.self c.args.origin.now.source.now c.args.origin.now.line (order_seen o) c.args.out.now c.ask_to_run.new.out c.ask_to_run.result)
    (sym c.in-Run.is) c.ask_to_run.ensures.command

pub returns-in-Source-clause-command : goal.returns-in-Source-clause-command
returns-in-Source-clause-command g c =
    subst (λ (o : Order). CarriesOut c.args.self.now c.args.self.now c.args.origin.now.source.now c.args.origin.now.line (order_seen o) c.args.out.now c.args.out.now (Ok (Source c.in-Source.name)))
    (sym c.in-Source.is) (λ history remembers. (refl, (asks c.args.self.now (sources c.in-Source.name) history c.args.out.now remembers c.requires.ready, refl)))

pub returns-in-Quit-clause-command : goal.returns-in-Quit-clause-command
returns-in-Quit-clause-command g c =
    subst (λ (o : Order). CarriesOut c.args.self.now c.args.self.now c.args.origin.now.source.now c.args.origin.now.line (order_seen o) c.args.out.now c.args.out.now (Ok Quit))
    (sym c.in-Quit.is) (λ history remembers. (refl, (asks c.args.self.now quits history c.args.out.now remembers c.requires.ready, refl)))

pub returns-in_default-clause-command : goal.returns-in_default-clause-command
returns-in_default-clause-command g c =
    carries_as c.args.self.now c.carry_out_alone.new.self c.args.origin.now.source.now c.args.origin.now.line (order_seen c.args.order) c.args.out.now c.carry_out_alone.new.out c.carry_out_alone.result
    (alone_read c.args.order c.in_default.not-Run c.in_default.not-Source c.in_default.not-Quit) c.carry_out_alone.ensures.reply
