-- The triple of three operands, and queueing with it.
use Rattle.std.proofs.Common.{◌≡◌, ℕ, Bool, List, ◌++◌, Result, Ok, Err, ap, subst, ◌∙◌}
use Rattle.soar_sym.specs.declared.symbol.Sym.{Sym}
use Rattle.soar_sym.specs.declared.symbol.Triple.{Triple}
use Rattle.defs_soar.specs.Goals.{plain_triple}
use Rattle.defs_soar.specs.History.{RecordedFiring}
use Rattle.defs_run.specs.Inputs.{Spelled, spelled, with_queued}
use Rattle.defs_run.specs.Orders.{Operand}
use Rattle.defs_run.specs.Sessions.{Session, Resolved, resolved}
use Rattle.soar_settle.specs.declared.stop.Stop.{Stop}
use Rattle.soar_settle.specs.declared.stop.Stop.TheVariants as stop
use Rattle.soar_cycle.proofs.LimitLemmas.{passed_behind, passed_front}
use Rattle.soar_agent.specs.Carries.{Obeys}
use Rattle.soar_agent.specs.Labels.{Makes, Spells}
use Rattle.soar_agent.specs.Queueing.{queues_triple}
use Rattle.soar_agent.specs.States.{session_of}
use Rattle.soar_agent.specs.declared.outcome.Outcome.{Outcome}
use Rattle.soar_agent.specs.declared.state.Session.{Session as SessionKept}
use Rattle.soar_agent.proofs.LabelLemmas.{resolved_watch}
use Rattle.soar_agent.proofs.SessionLemmas.{obeys_same, drawn_same, drawn_stops, watch_of}

-- ---- three operands, one after the other

-- an operand resolved behind another
pub behind : {M : Type 0} (middle new : SessionKept M) (first : Resolved) (o : Operand) (history : List RecordedFiring) (result : Result Sym Stop) → session_of middle history ≡ first.session
    → Makes new (resolved (session_of middle history) o) history result → Makes new (resolved first.session o) history result
behind middle new first o history result is makes = subst (λ (s : Session). Makes new (resolved s o) history result) is makes

pub spells : {M : Type 0} (old one two new : SessionKept M) (id attr value : Operand) (i a v : Sym) (history : List RecordedFiring)
    → Makes one (resolved (session_of old history) id) history (Ok i) → Makes two (resolved (session_of one history) attr) history (Ok a) → Makes new (resolved (session_of two history) value) history (Ok v)
    → Spells new (spelled (session_of old history) id attr value) history (Ok (plain_triple i a v))
spells old one two new id attr value i a v history first second third =
    let r : Resolved = resolved (session_of old history) id in
    let q : Resolved = resolved r.session attr in
    let p : Resolved = resolved q.session value in
    let next : Makes two q history (Ok a) = behind one two r attr history (Ok a) first.1 second in
    let last : Makes new p history (Ok v) = behind two new q value history (Ok v) next.1 third in
    let triple : plain_triple i a v ≡ plain_triple r.symbol q.symbol p.symbol = λ k. plain_triple (first.0 k) (next.0 k) (last.0 k) in
    (triple, last.1, passed_behind r.totals (q.totals ++ p.totals) first.2 ∙ (passed_behind q.totals p.totals next.2 ∙ last.2), last.3)

pub id_none : {M : Type 0} (old new : SessionKept M) (id attr value : Operand) (history : List RecordedFiring) (why : Stop)
    → Makes new (resolved (session_of old history) id) history (Err why) → Spells new (spelled (session_of old history) id attr value) history (Err why)
id_none old new id attr value history (stop.Limit limit) first =
    let r : Resolved = resolved (session_of old history) id in
    let q : Resolved = resolved r.session attr in
    passed_front r.totals (q.totals ++ (resolved q.session value).totals) limit first
id_none old new id attr value history stop.NoMemory first = tt

pub attr_none : {M : Type 0} (old one new : SessionKept M) (id attr value : Operand) (i : Sym) (history : List RecordedFiring) (why : Stop)
    → Makes one (resolved (session_of old history) id) history (Ok i) → Makes new (resolved (session_of one history) attr) history (Err why)
    → Spells new (spelled (session_of old history) id attr value) history (Err why)
attr_none old one new id attr value i history (stop.Limit limit) first second =
    let r : Resolved = resolved (session_of old history) id in
    let q : Resolved = resolved r.session attr in
    passed_behind r.totals (q.totals ++ (resolved q.session value).totals) first.2
    ∙ passed_front q.totals (resolved q.session value).totals limit (behind one new r attr history (Err (stop.Limit limit)) first.1 second)
attr_none old one new id attr value i history stop.NoMemory first second = tt

pub value_none : {M : Type 0} (old one two new : SessionKept M) (id attr value : Operand) (i a : Sym) (history : List RecordedFiring) (why : Stop)
    → Makes one (resolved (session_of old history) id) history (Ok i) → Makes two (resolved (session_of one history) attr) history (Ok a)
    → Makes new (resolved (session_of two history) value) history (Err why) → Spells new (spelled (session_of old history) id attr value) history (Err why)
value_none old one two new id attr value i a history (stop.Limit limit) first second third =
    let r : Resolved = resolved (session_of old history) id in
    let q : Resolved = resolved r.session attr in
    let next : Makes two q history (Ok a) = behind one two r attr history (Ok a) first.1 second in
    passed_behind r.totals (q.totals ++ (resolved q.session value).totals) first.2
    ∙ (passed_behind q.totals (resolved q.session value).totals next.2 ∙ behind two new q value history (Err (stop.Limit limit)) next.1 third)
value_none old one two new id attr value i a history stop.NoMemory first second third = tt

-- ---- queueing

spelled_watch : (s : Session) (id attr value : Operand) → (spelled s id attr value).session.agent.settings.watch ≡ s.agent.settings.watch
spelled_watch s id attr value =
    let r : Resolved = resolved s id in
    let q : Resolved = resolved r.session attr in
    resolved_watch q.session value ∙ (resolved_watch r.session attr ∙ resolved_watch s id)

pub queues_spelled : {M : Type 0} (old middle new : SessionKept M) (adds : Bool) (id attr value : Operand) (triple : Triple) (history : List RecordedFiring) (before after : List ℕ) (result : Result Outcome Stop)
    → middle.agent.mid_line ≡ old.agent.mid_line → Spells middle (spelled (session_of old history) id attr value) history (Ok triple)
    → Obeys (watch_of middle) middle.agent.mid_line (queues_triple adds triple (session_of middle history)) new before after result
    → Obeys (watch_of old) old.agent.mid_line (with_queued adds (spelled (session_of old history) id attr value)) new before after result
queues_spelled old middle new adds id attr value triple history before after result same spelt obeys =
    let t : Spelled = spelled (session_of old history) id attr value in
    let watch_is : watch_of middle ≡ watch_of old = ap (λ (s : Session). s.agent.settings.watch) spelt.1 ∙ spelled_watch (session_of old history) id attr value in
    obeys_same (watch_of old) old.agent.mid_line (with_queued adds t) (queues_triple adds t.triple t.session) new before after result
    (drawn_same (watch_of old) t.totals (queues_triple adds t.triple t.session) spelt.2)
    (subst (λ (s : Session). Obeys (watch_of old) old.agent.mid_line (queues_triple adds t.triple s) new before after result) spelt.1
    (subst (λ (u : Triple). Obeys (watch_of old) old.agent.mid_line (queues_triple adds u (session_of middle history)) new before after result) spelt.0
    (subst (λ (watch : ℕ). Obeys watch old.agent.mid_line (queues_triple adds triple (session_of middle history)) new before after result) watch_is
    (subst (λ (mid : Bool). Obeys (watch_of middle) mid (queues_triple adds triple (session_of middle history)) new before after result) same obeys))))

pub queues_none : {M : Type 0} (old new : SessionKept M) (adds : Bool) (t : Spelled) (history : List RecordedFiring) (said : List ℕ) (why : Stop)
    → new.agent.mid_line ≡ old.agent.mid_line → Spells new t history (Err why) → Obeys (watch_of old) old.agent.mid_line (with_queued adds t) new said said (Err why)
queues_none old new adds t history said (stop.Limit limit) same spelt = drawn_stops (watch_of old) old.agent.mid_line t.totals (queues_triple adds t.triple t.session) new said limit spelt same
queues_none old new adds t history said stop.NoMemory same spelt = tt
