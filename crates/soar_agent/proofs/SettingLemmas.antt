-- Settings, and starting anew.
use Rattle.std.proofs.Common.{◌≡◌, ℕ, Bool, List, [], false, Ok, refl, sym, ap, subst, append-nil, ◌∙◌}
use Rattle.defs_soar.specs.Agents.{Agent}
use Rattle.defs_soar.specs.History.{RecordedFiring}
use Rattle.defs_soar.specs.Phases.{halting}
use Rattle.defs_soar.specs.Resettling.{AgentStep}
use Rattle.defs_run.specs.Carrying.{with_settings}
use Rattle.soar_cycle.specs.Remembers.{Remembers}
use Rattle.soar_cycle.specs.Seen.{Stepped, agent_of}
use Rattle.soar_cycle.specs.Settings.{settings_seen}
use Rattle.soar_cycle.specs.SettingsType.{Settings}
use Rattle.soar_cycle.proofs.StandsLemmas.{remembers_same, state_is}
use Rattle.soar_cycle.specs.Calls.{restart_step}
use Rattle.soar_cycle.specs.Agents.{AgentSeen}
use Rattle.command_labels.specs.declared.label.Label.{Label as LabelKept}
use Rattle.soar_agent.specs.Carries.{Obeys}
use Rattle.soar_agent.specs.Restarting.{restarts}
use Rattle.soar_agent.specs.States.{IsReady, session_of}
use Rattle.soar_agent.specs.declared.outcome.Outcome.TheVariants.{Done}
use Rattle.soar_agent.specs.declared.state.Session.{Session as SessionKept}
use Rattle.soar_agent.proofs.LabelLemmas.{with_labels}
use Rattle.soar_agent.proofs.ReplyLemmas.{goes_on, with_kept}
use Rattle.soar_agent.proofs.SessionLemmas.{watch_of}

-- the agent with other settings
abbrev pub with_set : Settings → AgentSeen → AgentSeen
with_set settings a = record a { parts = record a.parts { settings = settings } }

remembers_set : (settings : Settings) (a : AgentSeen) (history : List RecordedFiring) → Remembers a.parts history → Remembers (with_set settings a).parts history
remembers_set settings a history r = remembers_same a.parts (with_set settings a).parts history refl refl refl refl refl refl refl r

pub sets : {M : Type 0} (s : SessionKept M) (b : AgentSeen) (settings : Settings) (history : List RecordedFiring) (said : List ℕ) → Remembers s.agent.parts history → b ≡ with_set settings s.agent → IsReady (with_kept b s)
    → Obeys (watch_of s) s.agent.mid_line (with_settings (session_of s history) (settings_seen settings)) (with_kept b s) said said (Ok Done)
sets s b settings history said remembers is ready =
    subst (λ (a : AgentSeen). Obeys (watch_of s) s.agent.mid_line (with_settings (session_of s history) (settings_seen settings)) (with_kept a s) said said (Ok Done)) (sym is) (
      refl,
      (
        record {
          history = history;
          remembers = remembers_set settings s.agent history remembers;
          session = refl;
          within = refl;
          text = sym (append-nil said);
          refused = refl;
          kept = subst (λ (a : AgentSeen). IsReady (with_kept a s)) is ready;
        },
        refl,
      ),
    )

-- ---- starting anew

pub starts_anew : {M : Type 0} (s : SessionKept M) (b : AgentSeen) (labels : List LabelKept) (history : List RecordedFiring) (said : List ℕ)
    → IsReady (with_labels b labels s) → b.mid_line ≡ s.agent.mid_line → labels ≡ [] → Stepped b.parts (restart_step (agent_of s.agent.parts history))
    → Obeys (watch_of s) s.agent.mid_line (restarts (session_of s history)) (with_labels b labels s) said said (Ok Done)
starts_anew s b labels history said ready same none stepped =
    let a : Agent = agent_of s.agent.parts history in
    let step : AgentStep = restart_step a in (
      refl,
      (
        record {
          history = step.agent.history;
          remembers = stepped.stands.remembers;
          session = ap (λ (l : List LabelKept). session_of (with_labels b l s) step.agent.history) none
              ∙ (ap (λ (t : Agent). record (session_of s history) { agent = t; labels = []; mid_line = b.mid_line }) (sym (state_is b.parts (halting step) stepped.stands) ∙ goes_on step refl)
              ∙ ap (λ (mid : Bool). record (session_of s history) { agent = step.agent; labels = []; mid_line = mid }) same);
          within = refl;
          text = sym (append-nil said);
          refused = refl;
          kept = ready;
        },
        refl,
      ),
    )
