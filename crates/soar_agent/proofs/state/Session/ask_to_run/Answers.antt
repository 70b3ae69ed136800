use Rattle.std.proofs.Common.{◌≡◌, ◌∙◌, Bool, true, false, Ok, refl, sym, subst}
use Rattle.std.specs.Prelude.{if◌then◌else◌}
use Rattle.defs_run.specs.Carrying.{followed}
use Rattle.defs_run.specs.Inputs.{Carried, does, refuses}
use Rattle.defs_run.specs.Orders.{halted, run_cycles}
use Rattle.defs_run.specs.Runs.{replied_by}
use Rattle.defs_run.specs.Sessions.{Session}
use Rattle.soar_agent.specs.Carries.{Responds}
use Rattle.soar_agent.specs.Outcomes.{outcome_by}
use Rattle.soar_agent.specs.Running.{run_learning}
use Rattle.soar_agent.specs.States.{session_of}
use Rattle.soar_agent.specs.declared.outcome.Outcome.TheVariants.{Run}
use Rattle.soar_agent.proofs.state.Session.ask_to_run.Goals as goal

pub returns-then-halted-clause-command : goal.returns-then-halted-clause-command
returns-then-halted-clause-command g c = λ history remembers.
    let s : Session = session_of c.args.self.now history in
    let carried : Bool → Carried = λ b. if b then refuses halted else does (followed s (run_learning c.args.count s.agent)) in
    let is : true ≡ c.args.self.now.agent.parts.halted = sym c.if-halted.true ∙ c.halted.ensures in
    subst (λ (b : Bool). Responds c.args.self.now.agent.parts.settings.watch c.args.self.now.agent.mid_line
    (record { reply = replied_by c.args.origin.now.source.now c.args.origin.now.line s (carried b); outcome = outcome_by (run_cycles c.args.count) (carried b) })
    c.refuse_with.new.self c.args.out.now c.refuse_with.new.out c.refuse_with.result)
    is (c.refuse_with.ensures.reply history remembers)

pub returns-clause-command : goal.returns-clause-command
returns-clause-command g c = λ history remembers.
    let s : Session = session_of c.args.self.now history in
    let carried : Bool → Carried = λ b. if b then refuses halted else does (followed s (run_learning c.args.count s.agent)) in
    let is : false ≡ c.args.self.now.agent.parts.halted = sym c.if-halted.false ∙ c.halted.ensures in
    subst (λ (b : Bool). Responds c.args.self.now.agent.parts.settings.watch c.args.self.now.agent.mid_line
    (record { reply = replied_by c.args.origin.now.source.now c.args.origin.now.line s (carried b); outcome = outcome_by (run_cycles c.args.count) (carried b) })
    c.args.self.now c.args.out.now c.args.out.now (Ok (Run c.args.count)))
    is (
      refl,
      (
        record {
          history = history;
          remembers = remembers;
          comes = record { session = refl; refused = refl; sequel = refl; limit = refl; front = λ mid. refl };
          text = refl;
          mid_line = refl;
          settings = refl;
          kept = c.requires;
        },
        refl,
      ),
    )
