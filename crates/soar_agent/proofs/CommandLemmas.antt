-- The words of a command join the table before it is carried out, and what was said is appended.
use Rattle.std.proofs.Common.{◌≡◌, ◌≢◌, ℕ, ◌-◌, ◌^◌, ◌<◌, Bool, true, false, List, [], ◌∷◌, ◌++◌, length, Result, Ok, Err, refl, sym, ap, subst, ◌∙◌, append-nil}
use Rattle.std.specs.Prelude.{IfOk}
use Rattle.soar_sym.specs.Words.{Texts}
use Rattle.defs_soar.specs.declared.limit.Which.TheVariants as which
use Rattle.defs_soar.specs.History.{RecordedFiring}
use Rattle.defs_soar.specs.Limits.{limit_text, words_to}
use Rattle.defs_soar.specs.Trace.{Written, line_text}
use Rattle.defs_run.specs.Carrying.{carried_out}
use Rattle.defs_run.specs.Inputs.{Carried, does, refuses}
use Rattle.defs_run.specs.Orders.{Order, Refusal, quit, run_cycles, source}
use Rattle.defs_run.specs.Whole.{whole_stage}
use Rattle.defs_run.specs.Runs.{after_reading, ordered_by, replied_by}
use Rattle.defs_run.specs.Sessions.{Session, Reply, draws, refused_by}
use Rattle.defs_run.specs.Stages.{Reading}
use Rattle.defs_run.specs.declared.form.Order.{Order as OrderRead}
use Rattle.defs_run.specs.declared.form.Order.TheVariants as form
use Rattle.command_orders.specs.Asked.{order_seen}
use Rattle.soar_settle.specs.declared.stop.Stop.{Stop}
use Rattle.soar_settle.specs.declared.stop.Stop.TheVariants as stop
use Rattle.soar_agent.specs.Alone.{IsAlone}
use Rattle.soar_agent.specs.Carries.{Carries, CarriesOut, HasNoCycles, Responds, Response, response_by, with_table}
use Rattle.soar_cycle.specs.Agents.{standing_after}
use Rattle.soar_cycle.specs.declared.standing.Standing.{Standing}
use Rattle.session_parts.specs.Stopping.{SaysStop}
use Rattle.soar_agent.specs.Commands.{Commands, Outcomes, RefusesTold}
use Rattle.soar_agent.specs.Outcomes.{HasOutcome, outcome_by, command_outcome, outcome_of_order, outcome_read}
use Rattle.soar_agent.specs.Running.{run_learning}
use Rattle.soar_agent.specs.States.{IsReady, IsSoundSession, session_of}
use Rattle.soar_agent.specs.Steps.{Replied, Stops, written_of}
use Rattle.soar_agent.specs.Writing.{limit_line}
use Rattle.soar_agent.specs.declared.outcome.Outcome.{Outcome}
use Rattle.soar_agent.specs.declared.outcome.Outcome.TheVariants as outcome
use Rattle.soar_agent.specs.declared.outcome.Outcome.TheVariants.{Done}
use Rattle.soar_agent.specs.declared.state.Session.{Session as SessionKept}
use Rattle.soar_agent.proofs.SessionLemmas.{drawn_same, outcomes_same, stops_drawn, watch_of, words_fit, words_spent}

-- ---- outcomes

pub responds_outcomes : {M : Type 0} (watch : ℕ) (mid : Bool) (r : Response) (new : SessionKept M) (before after : List ℕ) (result : Result Outcome Stop)
    → Responds watch mid r new before after result → Outcomes watch mid r.reply new before after result
responds_outcomes watch mid r new before after (Ok answer) responds = responds.1
responds_outcomes watch mid r new before after (Err (stop.Limit limit)) responds = responds.0
responds_outcomes watch mid r new before after (Err stop.NoMemory) responds = tt

-- to an order that asks nothing of the caller
alone_done : (order : Order) → IsAlone order → outcome_of_order order ≡ Done
alone_done (run_cycles n) alone = absurd alone
alone_done (source name) alone = absurd alone
alone_done quit alone = absurd alone
alone_done other alone = refl

response_is : (from : List ℕ) (line : ℕ) (order : Order) (s : Session) (c : Carried) → outcome_of_order order ≡ Done
    → response_by from line s c ≡ record { reply = replied_by from line s c; outcome = outcome_by order c }
response_is from line order s (does reply) is = λ k. record { reply = reply; outcome = sym is k }
response_is from line order s (refuses r) is = refl

pub carries_as : {M : Type 0} (old new : SessionKept M) (from : List ℕ) (line : ℕ) (order : Order) (before after : List ℕ) (result : Result Outcome Stop) → IsAlone order
    → Carries old new from line (carried_out run_learning order) before after result → CarriesOut old new from line order before after result
carries_as old new from line order before after result alone carries = λ history remembers.
    let s : Session = session_of old history in
    subst (λ (r : Response). Responds (watch_of old) old.agent.mid_line r new before after result)
    (response_is from line order s (carried_out run_learning order s) (alone_done order alone)) (carries history remembers)

-- ---- orders as they are read

pub alone_read : (order : OrderRead) → ((count : ℕ) → order ≢ form.Run count) → ((name : List ℕ) → order ≢ form.Source name) → order ≢ form.Quit → IsAlone (order_seen order)
alone_read (form.Run count) no_run no_source no_quit = absurd (no_run count refl)
alone_read (form.Source name) no_run no_source no_quit = absurd (no_source name refl)
alone_read form.Quit no_run no_source no_quit = absurd (no_quit refl)
alone_read other no_run no_source no_quit = tt

-- ---- what was read, carried out

-- a table that holds the words draws nothing that is told
pub reads_as : {M : Type 0} (s new : SessionKept M) (from : List ℕ) (line : ℕ) (r : Reading) (words : Texts) (order : Result Order Refusal) (history : List RecordedFiring) (before after : List ℕ) (result : Result Outcome Stop)
    → r.words ≡ words → r.order ≡ order → length words < 2 ^ 32
    → Outcomes (watch_of s) s.agent.mid_line (ordered_by whole_stage from line (session_of (with_table words s) history) order) new before after result
    → Outcomes (watch_of s) s.agent.mid_line (after_reading whole_stage from line (session_of s history) r) new before after result
reads_as s new from line r words order history before after result read is small outcomes =
    let reply : Texts → Result Order Refusal → Reply = λ w o. ordered_by whole_stage from line (session_of (with_table w s) history) o in
    let few : length r.words < 2 ^ 32 = subst (λ (w : Texts). length w < 2 ^ 32) (sym read) small in
    outcomes_same (watch_of s) s.agent.mid_line (draws (words_to (length r.words) ∷ []) (reply r.words r.order)) (reply r.words r.order) new before after result
    (drawn_same (watch_of s) (words_to (length r.words) ∷ []) (reply r.words r.order) (words_fit (length r.words) few))
    (subst (λ (w : Texts). Outcomes (watch_of s) s.agent.mid_line (reply w r.order) new before after result) (sym read)
    (subst (λ (o : Result Order Refusal). Outcomes (watch_of s) s.agent.mid_line (reply words o) new before after result) (sym is) outcomes))

-- more words than a table holds stop the session
pub reads_spent : {M : Type 0} (s new : SessionKept M) (from : List ℕ) (line : ℕ) (r : Reading) (history : List RecordedFiring) (said : List ℕ) → 2 ^ 32 - 1 < length r.words → new.agent.mid_line ≡ s.agent.mid_line
    → Outcomes (watch_of s) s.agent.mid_line (after_reading whole_stage from line (session_of s history) r) new said said (Err (stop.Limit which.Words))
reads_spent s new from line r history said many same =
    stops_drawn (watch_of s) s.agent.mid_line (words_to (length r.words) ∷ []) (ordered_by whole_stage from line (session_of (with_table r.words s) history) r.order)
    new said which.Words (words_spent (length r.words) many) same

-- the outcome of what was read
pub reads_outcome : {M : Type 0} (s new : SessionKept M) (r : Reading) (words : Texts) (order : Result Order Refusal) (response : Response) (watch : ℕ) (mid : Bool) (history : List RecordedFiring) (before after : List ℕ)
    (result : Result Outcome Stop) → r.words ≡ words → r.order ≡ order → length words < 2 ^ 32 → response.outcome ≡ outcome_read (session_of (with_table words s) history) order
    → Responds watch mid response new before after result → HasOutcome (session_of s history) r result
reads_outcome s new r words order response watch mid history before after result words_are is small came responds =
    by result responds
  where
    same : command_outcome (session_of s history) r ≡ response.outcome
    same = (λ k. outcome_read (session_of (with_table (words_are k) s) history) (is k)) ∙ sym came

    by : (result : Result Outcome Stop) → Responds watch mid response new before after result → HasOutcome (session_of s history) r result
    by (Ok answer) responds = (responds.0 ∙ sym same, words_fit (length r.words) (subst (λ (w : Texts). length w < 2 ^ 32) (sym words_are) small))
    by (Err (stop.Limit limit)) responds = λ count runs. absurd (subst HasNoCycles (sym same ∙ runs) responds.1)
    by (Err stop.NoMemory) responds = tt

pub spent_outcome : (s : Session) (r : Reading) → 2 ^ 32 - 1 < length r.words → HasOutcome s r (Err (stop.Limit which.Words))
spent_outcome s r many = λ count runs. words_spent (length r.words) many

-- ---- what was said, appended

pub replied_said : {M : Type 0} (watch : ℕ) (mid : Bool) (reply : Reply) (new : SessionKept M) (first piece before after : List ℕ) (said answer : Bool) → first ≡ [] → Replied watch mid reply new first piece said
    → after ≡ before ++ piece → answer ≡ reply.refused → Replied watch mid reply new before after answer
replied_said watch mid reply new first piece before after said answer none r appended refused = record {
  history = r.history;
  remembers = r.remembers;
  session = r.session;
  within = r.within;
  text = appended ∙ ap (λ t. before ++ t) (r.text ∙ ap (λ t. t ++ (written_of watch mid reply).text) none);
  refused = refused;
  kept = r.kept;
}

pub said_outcome : {M : Type 0} (watch : ℕ) (mid : Bool) (reply : Reply) (new : SessionKept M) (first piece before after : List ℕ) (answer : Outcome) → first ≡ []
    → Outcomes watch mid reply new first piece (Ok answer) → after ≡ before ++ piece → Outcomes watch mid reply new before after (Ok answer)
said_outcome watch mid reply new first piece before after outcome.Done none o appended = (replied_said watch mid reply new first piece before after false false none o.0 appended o.0.refused, o.1)
said_outcome watch mid reply new first piece before after (outcome.Refused number) none o appended = (replied_said watch mid reply new first piece before after true true none o.0 appended o.0.refused, o.1)
said_outcome watch mid reply new first piece before after (outcome.Run count) none o appended = (
  record {
    history = o.0.history;
    remembers = o.0.remembers;
    comes = o.0.comes;
    text = appended ∙ (ap (λ t. before ++ t) (o.0.text ∙ none) ∙ append-nil before);
    mid_line = o.0.mid_line;
    settings = o.0.settings;
    kept = o.0.kept;
  },
  o.1,
)
said_outcome watch mid reply new first piece before after (outcome.Source name) none o appended = (replied_said watch mid reply new first piece before after false false none o.0 appended o.0.refused, o.1)
said_outcome watch mid reply new first piece before after outcome.Quit none o appended = (replied_said watch mid reply new first piece before after false false none o.0 appended o.0.refused, o.1)

pub said_stop : {M : Type 0} (old new : SessionKept M) (history : List RecordedFiring) (reply : Reply) (ends : Bool) (first piece before after : List ℕ) (why result : Stop) → first ≡ []
    → ends ≡ new.agent.mid_line → Outcomes (watch_of old) old.agent.mid_line reply new first piece (Err why) → SaysStop why ends piece before after result
    → Commands (session_of old history) reply new before after (Err result)
said_stop old new history reply ends first piece before after why (stop.Limit limit) none same obeys says =
    let stops : Stops (watch_of old) old.agent.mid_line reply new first piece limit = subst (λ (e : Stop). Outcomes (watch_of old) old.agent.mid_line reply new first piece (Err e)) says.0 obeys in
    let front : Written = written_of (watch_of old) old.agent.mid_line reply in (
      stops.passed,
      says.1
          ∙ ap (λ t. before ++ (t ++ line_text ends (limit_text limit))) (stops.text ∙ ap (λ t. t ++ front.text) none)
          ∙ ap (λ m. before ++ (front.text ++ line_text m (limit_text limit))) (same ∙ stops.mid_line)
          ∙ ap (λ o. before ++ (front.text ++ limit_line front.mid_line o)) (sym stops.passed),
    )
said_stop old new history reply ends first piece before after why stop.NoMemory none same obeys says = says

pub said_limit : (s : Session) (r : Reading) (ends : Bool) (piece before after : List ℕ) (why result : Stop) → HasOutcome s r (Err why) → SaysStop why ends piece before after result → HasOutcome s r (Err result)
said_limit s r ends piece before after why (stop.Limit limit) has says = subst (λ (e : Stop). HasOutcome s r (Err e)) says.0 has
said_limit s r ends piece before after why stop.NoMemory has says = tt

-- ---- what the session answers from then on

-- the session with another standing
abbrev pub with_standing : {M : Type 0} → Standing → SessionKept M → SessionKept M
with_standing standing s = record s { standing = standing }

replied_left : {M : Type 0} (watch : ℕ) (mid : Bool) (reply : Reply) (new : SessionKept M) (standing : Standing) (before after : List ℕ) (answer : Bool) → Replied watch mid reply new before after answer
    → Replied watch mid reply (with_standing standing new) before after answer
replied_left watch mid reply new standing before after answer r =
    record { history = r.history; remembers = r.remembers; session = r.session; within = r.within; text = r.text; refused = r.refused; kept = r.kept }

outcome_left : {M : Type 0} (watch : ℕ) (mid : Bool) (reply : Reply) (new : SessionKept M) (standing : Standing) (before after : List ℕ) (answer : Outcome)
    → Outcomes watch mid reply new before after (Ok answer) → Outcomes watch mid reply (with_standing standing new) before after (Ok answer)
outcome_left watch mid reply new standing before after outcome.Done o = (replied_left watch mid reply new standing before after false o.0, o.1)
outcome_left watch mid reply new standing before after (outcome.Refused number) o = (replied_left watch mid reply new standing before after true o.0, o.1)
outcome_left watch mid reply new standing before after (outcome.Run count) o = (
  record { history = o.0.history; remembers = o.0.remembers; comes = o.0.comes; text = o.0.text; mid_line = o.0.mid_line; settings = o.0.settings; kept = o.0.kept },
  o.1,
)
outcome_left watch mid reply new standing before after (outcome.Source name) o = (replied_left watch mid reply new standing before after false o.0, o.1)
outcome_left watch mid reply new standing before after outcome.Quit o = (replied_left watch mid reply new standing before after false o.0, o.1)

pub command_left : {M : Type 0} (s : Session) (reply : Reply) (new : SessionKept M) (standing : Standing) (before after : List ℕ) (result : Result Outcome Stop) → Commands s reply new before after result
    → Commands s reply (with_standing standing new) before after result
command_left s reply new standing before after (Ok answer) commands = outcome_left s.agent.settings.watch s.mid_line reply new standing before after answer commands
command_left s reply new standing before after (Err (stop.Limit limit)) commands = commands
command_left s reply new standing before after (Err stop.NoMemory) commands = commands

-- it is sound behind its answer
pub sound_left : {M : Type 0} (new : SessionKept M) (before now : Standing) (result : Result Outcome Stop) → now ≡ standing_after before result → IfOk result (λ _. IsReady new)
    → IsSoundSession (with_standing now new)
sound_left new before now (Ok answer) is ready = λ stands. ready
sound_left new before now (Err (stop.Limit limit)) is ready = λ stands. absurd (cc)
sound_left new before now (Err stop.NoMemory) is ready = λ stands. absurd (cc)

-- ---- a refusal that the caller tells

pub refused_left : {M : Type 0} (s : Session) (reply : Reply) (new : SessionKept M) (standing : Standing) (before after : List ℕ) (result : Result (Unit {0}) Stop) → RefusesTold s reply new before after result
    → RefusesTold s reply (with_standing standing new) before after result
refused_left s reply new standing before after (Ok done) told = replied_left s.agent.settings.watch s.mid_line reply new standing before after true told
refused_left s reply new standing before after (Err (stop.Limit limit)) told = told
refused_left s reply new standing before after (Err stop.NoMemory) told = told

-- the refusal is that of the number, and its line was appended
pub told_said : {M : Type 0} (s new : SessionKept M) (from : List ℕ) (line : ℕ) (history : List RecordedFiring) (first_refusal refusal : Refusal) (piece before after first : List ℕ) (said : Outcome) → first ≡ [] → first_refusal ≡ refusal
    → Responds (watch_of s) s.agent.mid_line (response_by from line (session_of s history) (refuses first_refusal)) new first piece (Ok said) → after ≡ before ++ piece
    → Replied (watch_of s) s.agent.mid_line (refused_by refusal from line (session_of s history)) new before after true
told_said s new from line history first_refusal refusal piece before after first said none same responds appended =
    let session : Session = session_of s history in
    let refused : Outcomes (watch_of s) s.agent.mid_line (refused_by first_refusal from line session) new first piece (Ok (outcome.Refused first_refusal.number)) =
    subst (λ (o : Outcome). Outcomes (watch_of s) s.agent.mid_line (refused_by first_refusal from line session) new first piece (Ok o)) responds.0 responds.1 in
    replied_said (watch_of s) s.agent.mid_line (refused_by refusal from line session) new first piece before after true true none
    (subst (λ (r : Refusal). Replied (watch_of s) s.agent.mid_line (refused_by r from line session) new first piece true) same refused.0) appended refl
