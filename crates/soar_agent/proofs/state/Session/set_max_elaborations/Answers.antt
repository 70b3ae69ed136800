use Rattle.std.proofs.Common.{subst}
use Rattle.defs_run.specs.Carrying.{with_settings}
use Rattle.soar_cycle.specs.Settings.{settings_seen}
use Rattle.soar_cycle.specs.SettingsType.{Settings}
use Rattle.soar_agent.specs.Carries.{Obeys}
use Rattle.soar_agent.specs.States.{session_of}
use Rattle.soar_agent.proofs.state.Session.set_max_elaborations.Goals as goal

pub returns-clause-reply : goal.returns-clause-reply
returns-clause-reply g c = λ said history remembers.
    subst (λ (old : Settings). Obeys c.args.self.now.agent.parts.settings.watch c.args.self.now.agent.mid_line
    (with_settings (session_of c.args.self.now history) (record (settings_seen old) { max_elaborations = c.args.count })) c.set.new.self said said c.set.result)
    c.settings-old.ensures (c.set.ensures.reply said history remembers)
