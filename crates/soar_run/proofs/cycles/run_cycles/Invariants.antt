use Rattle.std.proofs.Common.{◌≡◌, ◌-◌, List}
use Rattle.defs_soar.specs.History.{RecordedFiring}
use Rattle.soar_agent.specs.Running.{run_learning}
use Rattle.soar_agent.specs.Remembers.{Remembers}
use Rattle.soar_agent.specs.Seen.{agent_of}
use Rattle.soar_run.specs.Ready.{IsReadySession}
use Rattle.soar_run.proofs.RanLemmas.{RunBehind}
use Rattle.soar_run.proofs.cycles.run_cycles.Given as goal

abbrev pub invariant-cycles : goal.invariant-cycles
invariant-cycles g l = record {
  ready : IsReadySession l.session;
  labels : l.session.labels ≡ l.initial.session.labels;
  settings : l.session.agent.parts.settings ≡ l.initial.session.agent.parts.settings;
  calm : g.O.Sink.faults l.out ≡ g.O.Sink.faults l.initial.out;
  behind : (history : List RecordedFiring) → Remembers l.initial.session.agent.parts history → RunBehind l.initial.session.agent.parts.settings.watch l.initial.session.agent.mid_line (l.count - l.number) (run_learning l.count (agent_of l.initial.session.agent.parts history)) l.session.agent
      (g.O.Sink.written l.initial.out) (g.O.Sink.written l.out);
}
