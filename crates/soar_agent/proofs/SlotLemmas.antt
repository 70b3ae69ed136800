-- The preferences of a slot, once its operands stand for symbols.
use Rattle.std.proofs.Common.{◌≡◌, ℕ, Bool, List, ◌++◌, None, Result, Ok, Err, ◌∙◌, subst}
use Rattle.soar_sym.specs.declared.symbol.Sym.{Sym}
use Rattle.defs_soar.specs.History.{RecordedFiring}
use Rattle.defs_soar.specs.Limits.{first_passed}
use Rattle.defs_run.specs.Carrying.{lists_slot}
use Rattle.defs_run.specs.Listing.{preference_lines}
use Rattle.defs_run.specs.Orders.{Operand}
use Rattle.defs_run.specs.Sessions.{Reply, Resolved, Session, resolved, says}
use Rattle.soar_settle.specs.declared.stop.Stop.{Stop}
use Rattle.soar_settle.specs.declared.stop.Stop.TheVariants as stop
use Rattle.soar_cycle.proofs.LimitLemmas.{passed_behind, passed_front}
use Rattle.soar_agent.specs.Carries.{Obeys}
use Rattle.soar_agent.specs.Labels.{Makes}
use Rattle.soar_agent.specs.States.{session_of}
use Rattle.soar_agent.specs.declared.outcome.Outcome.{Outcome}
use Rattle.soar_agent.specs.declared.state.Session.{Session as SessionKept}
use Rattle.soar_agent.proofs.LabelLemmas.{made_replies, resolved_watch}
use Rattle.soar_agent.proofs.SessionLemmas.{drawn_same, drawn_stops, obeys_same, watch_of}
use Rattle.soar_agent.proofs.SpellingLemmas.{behind}

-- what is said of the slot
abbrev says_slot : Sym → Sym → Session → Reply
says_slot id attr s = says s (preference_lines s.agent id attr)

pub slot_made : {M : Type 0} (old one two last : SessionKept M) (id attr : Operand) (i a : Sym) (history : List RecordedFiring) (before after : List ℕ) (result : Result Outcome Stop)
    → two.agent.mid_line ≡ old.agent.mid_line → Makes one (resolved (session_of old history) id) history (Ok i) → Makes two (resolved (session_of one history) attr) history (Ok a)
    → Obeys (watch_of two) two.agent.mid_line (says_slot i a (session_of two history)) last before after result
    → Obeys (watch_of old) old.agent.mid_line (lists_slot (session_of old history) id attr) last before after result
slot_made old one two last id attr i a history before after result same first second obeys =
    let s : Session = session_of old history in
    let r : Resolved = resolved s id in
    let q : Resolved = resolved r.session attr in
    let next : Makes two q history (Ok a) = behind one two r attr history (Ok a) first.1 second in
    let within : first_passed (r.totals ++ q.totals) ≡ None = passed_behind r.totals q.totals first.2 ∙ next.2 in
    obeys_same (watch_of old) old.agent.mid_line (lists_slot s id attr) (says_slot r.symbol q.symbol q.session) last before after result
    (drawn_same (watch_of old) (r.totals ++ q.totals) (says_slot r.symbol q.symbol q.session) within)
    (made_replies old two last q (λ symbol session. says_slot r.symbol symbol session) a history before after result same (resolved_watch r.session attr ∙ resolved_watch s id) next
    (subst (λ (x : Sym). Obeys (watch_of two) two.agent.mid_line (says_slot x a (session_of two history)) last before after result) first.0 obeys))

pub slot_id_none : {M : Type 0} (old new : SessionKept M) (id attr : Operand) (history : List RecordedFiring) (said : List ℕ) (why : Stop)
    → new.agent.mid_line ≡ old.agent.mid_line → Makes new (resolved (session_of old history) id) history (Err why)
    → Obeys (watch_of old) old.agent.mid_line (lists_slot (session_of old history) id attr) new said said (Err why)
slot_id_none old new id attr history said (stop.Limit limit) same first =
    let r : Resolved = resolved (session_of old history) id in
    let q : Resolved = resolved r.session attr in
    drawn_stops (watch_of old) old.agent.mid_line (r.totals ++ q.totals) (says_slot r.symbol q.symbol q.session) new said limit (passed_front r.totals q.totals limit first) same
slot_id_none old new id attr history said stop.NoMemory same first = tt

pub slot_attr_none : {M : Type 0} (old one new : SessionKept M) (id attr : Operand) (i : Sym) (history : List RecordedFiring) (said : List ℕ) (why : Stop)
    → new.agent.mid_line ≡ old.agent.mid_line → Makes one (resolved (session_of old history) id) history (Ok i) → Makes new (resolved (session_of one history) attr) history (Err why)
    → Obeys (watch_of old) old.agent.mid_line (lists_slot (session_of old history) id attr) new said said (Err why)
slot_attr_none old one new id attr i history said (stop.Limit limit) same first second =
    let r : Resolved = resolved (session_of old history) id in
    let q : Resolved = resolved r.session attr in
    drawn_stops (watch_of old) old.agent.mid_line (r.totals ++ q.totals) (says_slot r.symbol q.symbol q.session) new said limit
    (passed_behind r.totals q.totals first.2 ∙ behind one new r attr history (Err (stop.Limit limit)) first.1 second) same
slot_attr_none old one new id attr i history said stop.NoMemory same first second = tt
