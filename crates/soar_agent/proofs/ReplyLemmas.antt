-- What is replied to orders, and what the session does.
use Rattle.std.proofs.Common.{◌≡◌, ℕ, Bool, arith, true, false, ◌||◌, List, [], ◌∷◌, ◌++◌, Some, None, Result, Ok, Err, refl, sym, ap, subst, ◌∙◌, append-nil}
use Rattle.std.proofs.lemmas.Grind.{common_steps}
use Rattle.std.specs.Prelude.{if◌then◌else◌, nat_le}
use Rattle.soar_sym.specs.declared.symbol.Sym.{Sym}
use Rattle.soar_sym.specs.declared.symbol.Triple.{Triple}
use Rattle.defs_soar.specs.Agents.{Agent}
use Rattle.defs_soar.specs.Cycle.{held_with}
use Rattle.defs_soar.specs.History.{RecordedFiring}
use Rattle.defs_soar.specs.Limits.{Total, or_limit}
use Rattle.defs_soar.specs.Phases.{halting}
use Rattle.defs_soar.specs.Resettling.{AgentStep, resettled}
use Rattle.defs_soar.specs.Trace.{Written, followed_by, line_text, rendered}
use Rattle.defs_soar.specs.Trimming.{Remains}
use Rattle.defs_run.specs.Inputs.{refuses, told_by, with_inputs}
use Rattle.defs_run.specs.Orders.{Refusal, no_production, refusal_text}
use Rattle.defs_run.specs.Sessions.{Reply, Sequel, quiet, with_agent, as_lines, says, draws}
use Rattle.soar_settle.specs.declared.stop.Stop.{Stop}
use Rattle.soar_settle.specs.declared.stop.Stop.TheVariants as stop
use Rattle.soar_cycle.specs.Remembers.{Remembers}
use Rattle.soar_cycle.specs.Seen.{Stepped, agent_of}
use Rattle.soar_cycle.specs.Stands.{Stands}
use Rattle.soar_cycle.specs.Parts.{Parts as PartsKept}
use Rattle.soar_cycle.proofs.StandsLemmas.{state_is}
use Rattle.soar_cycle.specs.Calls.{drawn}
use Rattle.soar_cycle.specs.Stepping.{GoesStep, QuietStep, WentStep, step_written}
use Rattle.soar_cycle.specs.Agents.{AgentSeen}
use Rattle.session_parts.specs.Saying.{Says}
use Rattle.soar_agent.specs.Carries.{Obeys, Responds, response_by}
use Rattle.soar_agent.specs.States.{IsReady, session_of}
use Rattle.soar_agent.specs.Steps.{Replied}
use Rattle.soar_agent.specs.Telling.{front_told}
use Rattle.soar_agent.specs.declared.outcome.Outcome.{Outcome}
use Rattle.soar_agent.specs.declared.outcome.Outcome.TheVariants.{Done, Refused}
use Rattle.soar_agent.specs.declared.state.Session.{Session as SessionKept}
use Rattle.soar_agent.proofs.SessionLemmas.{nothing, obeys_same, drawn_same, drawn_stops, replied_done, watch_of}

-- the session with another agent
abbrev pub with_kept : {M : Type 0} → AgentSeen → SessionKept M → SessionKept M
with_kept b s = record s { agent = b }

-- ---- lines

least : (watch : ℕ) → nat_le 0 watch ≡ true
least watch = grind (arith, common_steps)

-- they are written at each watch level
lines_at : (watch : ℕ) (mid : Bool) (lines : List (List ℕ)) → rendered watch mid (as_lines lines) ≡ rendered 1 mid (as_lines lines)
lines_at watch mid [] = refl
lines_at watch mid (text ∷ lines) =
    let one : Written = record { text = line_text mid text; mid_line = false } in
    ap (λ (b : Bool). let w : Written = if b then one else nothing mid in followed_by w (rendered watch w.mid_line (as_lines lines))) (least watch)
    ∙ ap (followed_by one) (lines_at watch false lines)

lines_said : {M : Type 0} (s : SessionKept M) (b : AgentSeen) (lines : List (List ℕ)) (new_mid : Bool) (history : List RecordedFiring) (before after : List ℕ)
    → Remembers s.agent.parts history → IsReady s → b ≡ record s.agent { mid_line = new_mid } → Says lines s.agent.mid_line before new_mid after
    → Replied (watch_of s) s.agent.mid_line (says (session_of s history) lines) (with_kept b s) before after false
lines_said s b lines new_mid history before after remembers ready is said =
    let at : rendered 1 s.agent.mid_line (as_lines lines) ≡ rendered (watch_of s) s.agent.mid_line (as_lines lines) = sym (lines_at (watch_of s) s.agent.mid_line lines) in
    record {
      history = history;
      remembers = subst (λ (c : AgentSeen). Remembers c.parts history) (sym is) remembers;
      session = ap (λ (c : AgentSeen). session_of (with_kept c s) history) is
          ∙ ap (λ (mid : Bool). record (session_of s history) { mid_line = mid }) (said.1 ∙ ap (λ (w : Written). w.mid_line) at);
      within = refl;
      text = said.0 ∙ ap (λ t. before ++ t) (ap (λ (w : Written). w.text) at ∙ sym (append-nil (rendered (watch_of s) s.agent.mid_line (as_lines lines)).text));
      refused = refl;
      kept = subst (λ (c : AgentSeen). IsReady (with_kept c s)) (sym is) ready;
    }

pub says_lines : {M : Type 0} (s : SessionKept M) (b : AgentSeen) (spoken lines : List (List ℕ)) (mid new_mid : Bool) (history : List RecordedFiring) (before after : List ℕ)
    → Remembers s.agent.parts history → IsReady s → b ≡ record s.agent { mid_line = new_mid } → spoken ≡ lines → mid ≡ s.agent.mid_line → Says spoken mid before new_mid after
    → Obeys (watch_of s) s.agent.mid_line (says (session_of s history) lines) (with_kept b s) before after (Ok Done)
says_lines s b spoken lines mid new_mid history before after remembers ready is same ends said =
    replied_done (watch_of s) s.agent.mid_line (says (session_of s history) lines) (with_kept b s) before after refl
    (lines_said s b lines new_mid history before after remembers ready is
    (subst (λ (m : Bool). Says lines m before new_mid after) ends (subst (λ (l : List (List ℕ)). Says l mid before new_mid after) same said)))

-- the line of a refusal
pub refused_line : {M : Type 0} (s : SessionKept M) (b : AgentSeen) (r : Refusal) (number : ℕ) (from : List ℕ) (line : ℕ) (history : List RecordedFiring) (before after : List ℕ)
    → Remembers s.agent.parts history → IsReady s → b ≡ record s.agent { mid_line = false } → number ≡ r.number → after ≡ before ++ line_text s.agent.mid_line (refusal_text r from line)
    → Responds (watch_of s) s.agent.mid_line (response_by from line (session_of s history) (refuses r)) (with_kept b s) before after (Ok (Refused number))
refused_line s b r number from line history before after remembers ready is numbered text =
    let told : List ℕ = refusal_text r from line in
    let said : Says (told ∷ []) s.agent.mid_line before false after = (text ∙ ap (λ t. before ++ t) (sym (append-nil (line_text s.agent.mid_line told))), refl) in
    let o = lines_said s b (told ∷ []) false history before after remembers ready is said in (
      ap Refused numbered,
      (record { history = o.history; remembers = o.remembers; session = o.session; within = o.within; text = o.text; refused = refl; kept = o.kept }, refl),
    )

-- no production of a name, where the agent is the same
pub refused_same : {M : Type 0} (s new : SessionKept M) (b : AgentSeen) (name : Sym) (from : List ℕ) (line : ℕ) (history : List RecordedFiring) (before after : List ℕ) (result : Result Outcome Stop)
    → s.agent ≡ b → Remembers s.agent.parts history
    → (Remembers b.parts history → Responds b.parts.settings.watch b.mid_line (response_by from line (session_of (with_kept b s) history) (refuses (no_production b.parts.table name))) new before after result)
    → Responds (watch_of s) s.agent.mid_line (response_by from line (session_of s history) (refuses (no_production s.agent.parts.table name))) new before after result
refused_same s new b name from line history before after result same remembers refused =
    subst (λ (a : AgentSeen). Responds a.parts.settings.watch a.mid_line (response_by from line (session_of (with_kept a s) history) (refuses (no_production a.parts.table name))) new before after result) (sym same)
    (refused (subst (λ (a : AgentSeen). Remembers a.parts history) same remembers))

-- ---- steps of the agent that tell nothing

or_false : (b : Bool) → (b || false) ≡ b
or_false true = refl
or_false false = refl

-- where no firing halts, the state is that of the step
pub goes_on : (s : AgentStep) → s.halted ≡ false → halting s ≡ s.agent
goes_on s none = ap (λ (h : Bool). record s.agent { halted = s.agent.halted || h }) none ∙ ap (λ (h : Bool). record s.agent { halted = h }) (or_false s.agent.halted)

-- the session once its agent went there
arrives : {M : Type 0} (s : SessionKept M) (b : AgentSeen) (step : AgentStep) (history : List RecordedFiring) → step.halted ≡ false → Stepped b.parts step
    → session_of (with_kept b s) (halting step).history ≡ record (session_of s history) { agent = step.agent; mid_line = b.mid_line }
arrives s b step history none stepped = ap (λ (a : Agent). record (session_of s history) { agent = a; mid_line = b.mid_line }) (sym (state_is b.parts (halting step) stepped.stands) ∙ goes_on step none)

pub quiet_done : {M : Type 0} (s : SessionKept M) (b : AgentSeen) (to : Agent) (totals : List Total) (history : List RecordedFiring) (said : List ℕ)
    → IsReady (with_kept b s) → b.mid_line ≡ s.agent.mid_line → Stepped b.parts (drawn to totals)
    → Obeys (watch_of s) s.agent.mid_line (quiet (with_agent (session_of s history) to)) (with_kept b s) said said (Ok Done)
quiet_done s b to totals history said ready same stepped = (
  refl,
  (
    record {
      history = to.history;
      remembers = stepped.stands.remembers;
      session = arrives s b (drawn to totals) history refl stepped ∙ ap (λ (mid : Bool). record (session_of s history) { agent = to; mid_line = mid }) same;
      within = refl;
      text = sym (append-nil said);
      refused = refl;
      kept = ready;
    },
    refl,
  ),
)

-- the same where nothing is drawn
pub quiet_stands : {M : Type 0} (s : SessionKept M) (b : AgentSeen) (to : Agent) (history : List RecordedFiring) (said : List ℕ) → IsReady (with_kept b s) → b.mid_line ≡ s.agent.mid_line → Stands b.parts to
    → Obeys (watch_of s) s.agent.mid_line (quiet (with_agent (session_of s history) to)) (with_kept b s) said said (Ok Done)
quiet_stands s b to history said ready same stands = (
  refl,
  (
    record {
      history = to.history;
      remembers = stands.remembers;
      session = ap (λ (a : Agent). record (session_of s history) { agent = a; mid_line = b.mid_line }) (sym (state_is b.parts to stands))
          ∙ ap (λ (mid : Bool). record (session_of s history) { agent = to; mid_line = mid }) same;
      within = refl;
      text = sym (append-nil said);
      refused = refl;
      kept = ready;
    },
    refl,
  ),
)

-- with what the step draws
pub drawn_done : {M : Type 0} (s : SessionKept M) (b : AgentSeen) (to : Agent) (totals : List Total) (history : List RecordedFiring) (said : List ℕ)
    → IsReady (with_kept b s) → b.mid_line ≡ s.agent.mid_line → Stepped b.parts (drawn to totals)
    → Obeys (watch_of s) s.agent.mid_line (draws totals (quiet (with_agent (session_of s history) to))) (with_kept b s) said said (Ok Done)
drawn_done s b to totals history said ready same stepped =
    let reply : Reply = quiet (with_agent (session_of s history) to) in
    obeys_same (watch_of s) s.agent.mid_line (draws totals reply) reply (with_kept b s) said said (Ok Done) (drawn_same (watch_of s) totals reply stepped.within)
    (quiet_done s b to totals history said ready same stepped)

-- a step that draws nothing stops for want of memory alone
pub quiet_none : {M : Type 0} (s new : SessionKept M) (to : Agent) (parts : PartsKept) (reply : Reply) (said : List ℕ) (why : Stop)
    → QuietStep {T = Unit {0}} (drawn to []) parts (Err why) → Obeys (watch_of s) s.agent.mid_line reply new said said (Err why)
quiet_none s new to parts reply said (stop.Limit limit) step = absurd (let no : None ≡ Some limit = step in cc)
quiet_none s new to parts reply said stop.NoMemory step = tt

pub drawn_none : {M : Type 0} (s new : SessionKept M) (to : Agent) (totals : List Total) (parts : PartsKept) (reply : Reply) (said : List ℕ) (why : Stop)
    → new.agent.mid_line ≡ s.agent.mid_line → QuietStep {T = Unit {0}} (drawn to totals) parts (Err why) → Obeys (watch_of s) s.agent.mid_line (draws totals reply) new said said (Err why)
drawn_none s new to totals parts reply said (stop.Limit limit) same step = drawn_stops (watch_of s) s.agent.mid_line totals reply new said limit step same
drawn_none s new to totals parts reply said stop.NoMemory same step = tt

-- ---- inputs

settling_goes_on : (a : Agent) (held : Remains) → (resettled a held).halted ≡ false
unfolding resettled
settling_goes_on a held = refl

-- what settling tells is written where it passes no limit
pub settles : {M : Type 0} (s : SessionKept M) (b : AgentSeen) (inputs : List Triple) (history : List RecordedFiring) (before after : List ℕ)
    → IsReady (with_kept b s) → (let a = agent_of s.agent.parts history in WentStep (watch_of s) s.agent.mid_line (resettled a (held_with a inputs)) b.parts b.mid_line before after)
    → Obeys (watch_of s) s.agent.mid_line (with_inputs inputs (session_of s history)) (with_kept b s) before after (Ok Done)
settles s b inputs history before after ready went =
    let old : Agent = agent_of s.agent.parts history in
    let step : AgentStep = resettled old (held_with old inputs) in
    let w : Written = step_written (watch_of s) s.agent.mid_line step in
    let front : front_told (watch_of s) s.agent.mid_line (told_by old step ∷ []) ≡ followed_by w (nothing w.mid_line) =
    ap (λ o. elim o as (λ _. Written) [ Some limit ↦ nothing s.agent.mid_line | None ↦ followed_by w (nothing w.mid_line) ]) went.stepped.within in (
      refl,
      (
        record {
          history = (halting step).history;
          remembers = went.stepped.stands.remembers;
          session = arrives s b step history (settling_goes_on old (held_with old inputs)) went.stepped
              ∙ ap (λ (mid : Bool). record (session_of s history) { agent = step.agent; mid_line = mid }) (went.mid_line ∙ ap (λ (v : Written). v.mid_line) (sym front));
          within = ap (λ o. or_limit o None) went.stepped.within;
          text = went.text ∙ ap (λ t. before ++ t) (sym (append-nil w.text) ∙ ap (λ (v : Written). v.text) (sym front));
          refused = refl;
          kept = ready;
        },
        refl,
      ),
    )

pub settles_none : {M : Type 0} (s new : SessionKept M) (inputs : List Triple) (history : List RecordedFiring) (before after : List ℕ) (why : Stop)
    → (let a = agent_of s.agent.parts history in GoesStep {T = Unit {0}} (watch_of s) s.agent.mid_line (resettled a (held_with a inputs)) new.agent.parts new.agent.mid_line before after (Err why))
    → Obeys (watch_of s) s.agent.mid_line (with_inputs inputs (session_of s history)) new before after (Err why)
settles_none s new inputs history before after (stop.Limit limit) stops =
    let old : Agent = agent_of s.agent.parts history in
    let step : AgentStep = resettled old (held_with old inputs) in
    let w : Written = step_written (watch_of s) s.agent.mid_line step in
    let front : front_told (watch_of s) s.agent.mid_line (told_by old step ∷ []) ≡ nothing s.agent.mid_line =
    ap (λ o. elim o as (λ _. Written) [ Some limit ↦ nothing s.agent.mid_line | None ↦ followed_by w (nothing w.mid_line) ]) stops.passed in (
      record {
        passed = ap (λ o. or_limit o None) stops.passed;
        text = stops.text ∙ (sym (append-nil before) ∙ ap (λ (v : Written). before ++ v.text) (sym front));
        mid_line = stops.mid_line ∙ ap (λ (v : Written). v.mid_line) (sym front);
      },
      tt,
    )
settles_none s new inputs history before after stop.NoMemory stops = tt

-- ---- what the caller does

-- nothing is done but that it is asked for
pub asks : {M : Type 0} (s : SessionKept M) (sequel : Sequel) (history : List RecordedFiring) (said : List ℕ) → Remembers s.agent.parts history → IsReady s
    → Replied (watch_of s) s.agent.mid_line (record (quiet (session_of s history)) { sequel = sequel }) s said said false
asks s sequel history said remembers ready = record {
  history = history;
  remembers = remembers;
  session = refl;
  within = refl;
  text = sym (append-nil said);
  refused = refl;
  kept = ready;
}
