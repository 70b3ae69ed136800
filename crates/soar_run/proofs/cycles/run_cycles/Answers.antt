use Rattle.std.proofs.Common.{◌≡◌, ◌-◌, ◌+◌, Ok, ap, true, false, refl, sym, ◌∙◌, arith}
use Rattle.soar_agent.specs.Seen.{agent_of}
use Rattle.soar_agent.specs.SettingsType.{Settings}
use Rattle.soar_run.specs.Cycles.{cycle_of}
use Rattle.soar_run.proofs.RanLemmas.{all_behind, halts_behind, none_behind, one_behind, some_at, some_behind, some_of_all, stops_behind, writes_at}
use Rattle.soar_run.proofs.cycles.run_cycles.Goals as goal

pub cycles-init : goal.cycles-init
cycles-init g c = record {
  ready = c.requires.ready;
  labels = refl;
  settings = refl;
  calm = refl;
  behind = λ history remembers. none_behind c.args.session.now.agent.parts.settings.watch c.args.session.now.agent c.args.count (c.args.count - 0) history (g.O.Sink.written c.args.out.now) remembers (omega arith);
}

pub returns-then-halted-clause-course : goal.returns-then-halted-clause-course
returns-then-halted-clause-course g c = λ history remembers. (
  refl,
  refl,
  (halts_behind c.args.session.now.agent.parts.settings.watch _ _ _ _ _ _ (sym c.if-halted.ensures) (c.cycles.invariant.behind history remembers)).1,
  c.cycles.invariant.labels,
  c.cycles.invariant.settings,
  c.cycles.invariant.ready,
)

pub returns-then-halted-clause-written : goal.returns-then-halted-clause-written
returns-then-halted-clause-written g c = λ history remembers. (halts_behind c.args.session.now.agent.parts.settings.watch _ _ _ _ _ _ (sym c.if-halted.ensures) (c.cycles.invariant.behind history remembers)).0

pub returns-then-halted-clause-prefix : goal.returns-then-halted-clause-prefix
returns-then-halted-clause-prefix g c = λ history remembers.
    some_of_all _ _ _ (halts_behind c.args.session.now.agent.parts.settings.watch _ _ _ _ _ _ (sym c.if-halted.ensures) (c.cycles.invariant.behind history remembers)).0

pub cycles-preserved : goal.cycles-preserved
cycles-preserved g c =
    let went : c.in-Ok-true.field-0 ≡ true = cc c.in-Ok-true.field-0-test in
    record {
      ready = c.in-Ok-true.ensures.ready (ap Ok went);
      labels = c.in-Ok-true.ensures.labels ∙ c.cycles.invariant.labels;
      settings = c.in-Ok-true.ensures.settings ∙ c.cycles.invariant.settings;
      calm = c.in-Ok-true.ensures.cause.cause ∙ c.cycles.invariant.calm;
      behind = λ history remembers. one_behind c.args.session.now.agent.parts.settings.watch _ (c.args.count - c.cycles.number) (c.args.count - (c.cycles.number + 1)) _ _ _ _ _ _ (omega arith) (sym c.if-halted.ensures)
          (c.cycles.invariant.behind history remembers)
          (λ past kept. writes_at c.cycles.session.agent.parts.settings.watch c.args.session.now.agent.parts.settings.watch c.cycles.session.agent.mid_line (cycle_of (agent_of c.cycles.session.agent.parts past)) c.write_cycle.new.session.agent (g.O.Sink.written c.cycles.out) (g.O.Sink.written c.write_cycle.new.out) _ true
          (ap (λ (s : Settings). s.watch) c.cycles.invariant.settings) went (c.in-Ok-true.ensures.course past kept));
    }

pub returns-in-Ok-false-clause-course : goal.returns-in-Ok-false-clause-course
returns-in-Ok-false-clause-course g c = λ history remembers.
    let went : c.in-Ok-false.field-0 ≡ false = cc c.in-Ok-false.field-0-test in
    (stops_behind c.args.session.now.agent.parts.settings.watch _ (c.args.count - c.cycles.number) (c.args.count - (c.cycles.number + 1)) _ _ c.write_cycle.new.session.agent _ _ _ (omega arith) (sym c.if-halted.ensures) (c.cycles.invariant.behind history remembers)
    (λ past kept. writes_at c.cycles.session.agent.parts.settings.watch c.args.session.now.agent.parts.settings.watch c.cycles.session.agent.mid_line (cycle_of (agent_of c.cycles.session.agent.parts past)) c.write_cycle.new.session.agent (g.O.Sink.written c.cycles.out) (g.O.Sink.written c.write_cycle.new.out) _ false
    (ap (λ (s : Settings). s.watch) c.cycles.invariant.settings) went (c.in-Ok-false.ensures.course past kept))).1

pub returns-in-Ok-false-clause-written : goal.returns-in-Ok-false-clause-written
returns-in-Ok-false-clause-written g c = λ history remembers.
    let went : c.in-Ok-false.field-0 ≡ false = cc c.in-Ok-false.field-0-test in
    (stops_behind c.args.session.now.agent.parts.settings.watch _ (c.args.count - c.cycles.number) (c.args.count - (c.cycles.number + 1)) _ _ c.write_cycle.new.session.agent _ _ _ (omega arith) (sym c.if-halted.ensures) (c.cycles.invariant.behind history remembers)
    (λ past kept. writes_at c.cycles.session.agent.parts.settings.watch c.args.session.now.agent.parts.settings.watch c.cycles.session.agent.mid_line (cycle_of (agent_of c.cycles.session.agent.parts past)) c.write_cycle.new.session.agent (g.O.Sink.written c.cycles.out) (g.O.Sink.written c.write_cycle.new.out) _ false
    (ap (λ (s : Settings). s.watch) c.cycles.invariant.settings) went (c.in-Ok-false.ensures.course past kept))).0

pub returns-in-Ok-false-clause-prefix : goal.returns-in-Ok-false-clause-prefix
returns-in-Ok-false-clause-prefix g c = λ history remembers.
    some_behind c.args.session.now.agent.parts.settings.watch _ (c.args.count - c.cycles.number) (c.args.count - (c.cycles.number + 1)) _ _ _ _ _ (omega arith) (sym c.if-halted.ensures) (c.cycles.invariant.behind history remembers)
    (λ past kept. some_at c.cycles.session.agent.parts.settings.watch c.args.session.now.agent.parts.settings.watch c.cycles.session.agent.mid_line (cycle_of (agent_of c.cycles.session.agent.parts past)) (g.O.Sink.written c.cycles.out) (g.O.Sink.written c.write_cycle.new.out)
    (ap (λ (s : Settings). s.watch) c.cycles.invariant.settings) (c.in-Ok-false.ensures.prefix past kept))

pub returns-in-Err-clause-prefix : goal.returns-in-Err-clause-prefix
returns-in-Err-clause-prefix g c = λ history remembers.
    some_behind c.args.session.now.agent.parts.settings.watch _ (c.args.count - c.cycles.number) (c.args.count - (c.cycles.number + 1)) _ _ _ _ _ (omega arith) (sym c.if-halted.ensures) (c.cycles.invariant.behind history remembers)
    (λ past kept. some_at c.cycles.session.agent.parts.settings.watch c.args.session.now.agent.parts.settings.watch c.cycles.session.agent.mid_line (cycle_of (agent_of c.cycles.session.agent.parts past)) (g.O.Sink.written c.cycles.out) (g.O.Sink.written c.write_cycle.new.out)
    (ap (λ (s : Settings). s.watch) c.cycles.invariant.settings) (c.in-Err.ensures.prefix past kept))

pub returns-clause-prefix : goal.returns-clause-prefix
returns-clause-prefix g c = λ history remembers.
    some_of_all _ _ _ (all_behind c.args.session.now.agent.parts.settings.watch _ (c.args.count - c.cycles.number) _ _ _ _ (omega arith) (c.cycles.invariant.behind history remembers)).0
