-- A new label, and what is replied in a session with labels.
use Rattle.std.proofs.Common.{◌≡◌, ℕ, Bool, List, [], ◌∷◌, ◌++◌, map, Option, Some, None, Result, Ok, Err, refl, sym, ap, subst, ◌∙◌, arith}
use Rattle.std.specs.Prelude.{IsTrue}
use Rattle.std.proofs.lemmas.Bool.Decides.{nat_tests}
use Rattle.std.proofs.lemmas.List.{map-append}
use Rattle.soar_sym.specs.Words.{Texts, IsKnown}
use Rattle.soar_sym.specs.declared.symbol.Sym.{Sym}
use Rattle.soar_sym.specs.declared.symbol.Sym.TheVariants.{Ident}
use Rattle.soar_wm.specs.WorkingMemory.{elements_of}
use Rattle.defs_soar.specs.Agents.{Agent, Holding}
use Rattle.defs_soar.specs.History.{RecordedFiring}
use Rattle.defs_soar.specs.Naming.{letter_from}
use Rattle.defs_soar.specs.Phases.{halting}
use Rattle.defs_soar.specs.Resettling.{AgentStep}
use Rattle.defs_run.specs.Carrying.{lists_elements}
use Rattle.defs_run.specs.Listing.{element_lines}
use Rattle.defs_run.specs.Orders.{Operand, is_symbol, is_label}
use Rattle.defs_run.specs.Sessions.{Label, Session, Reply, Resolved, label_in, labelled, resolved, says}
use Rattle.soar_settle.specs.declared.stop.Stop.{Stop}
use Rattle.soar_settle.specs.declared.stop.Stop.TheVariants as stop
use Rattle.soar_cycle.specs.Seen.{agent_of}
use Rattle.soar_cycle.proofs.StandsLemmas.{state_is}
use Rattle.soar_cycle.specs.Calls.{GivesFresh, fresh_step, next_number}
use Rattle.soar_cycle.specs.Agents.{AgentSeen}
use Rattle.command_labels.specs.Found.{label_seen}
use Rattle.command_labels.specs.Lettered.{is_lettered}
use Rattle.command_labels.specs.declared.label.Label.{Label as LabelKept}
use Rattle.soar_agent.specs.Carries.{Obeys}
use Rattle.soar_agent.specs.Labels.{Makes}
use Rattle.soar_agent.specs.States.{session_of}
use Rattle.soar_agent.specs.declared.outcome.Outcome.{Outcome}
use Rattle.soar_agent.specs.declared.state.Session.{Session as SessionKept}
use Rattle.soar_agent.proofs.ReplyLemmas.{goes_on}
use Rattle.soar_agent.proofs.SessionLemmas.{obeys_same, drawn_same, drawn_stops, watch_of}

-- ---- a new label

pub known_lettered : (words : Texts) (letter number : ℕ) → IsKnown words (Ident letter number) → IsTrue (is_lettered (Ident letter number))
known_lettered words letter number known = grind (arith, nat_tests, known.0, known.1)

-- the session with another agent and other labels
abbrev pub with_labels : {M : Type 0} → AgentSeen → List LabelKept → SessionKept M → SessionKept M
with_labels b labels s = record s { agent = b; labels = labels }

pub makes_label : {M : Type 0} (s : SessionKept M) (b : AgentSeen) (labels : List LabelKept) (label : LabelKept) (letter : ℕ) (name : List ℕ) (history : List RecordedFiring)
    → letter ≡ letter_from name → label.name ≡ name → labels ≡ s.labels ++ label ∷ [] → b.mid_line ≡ s.agent.mid_line → GivesFresh letter (agent_of s.agent.parts history) b.parts (Ok label.symbol)
    → Makes (with_labels b labels s) (labelled (session_of s history) name None) history (Ok label.symbol)
makes_label s b labels label letter name history first named are same gives =
    let a : Agent = agent_of s.agent.parts history in
    let at : GivesFresh (letter_from name) a b.parts (Ok label.symbol) = subst (λ l. GivesFresh l a b.parts (Ok label.symbol)) first gives in
    let step : AgentStep = fresh_step (letter_from name) a in
    let arrived : agent_of b.parts history ≡ step.agent = sym (state_is b.parts (halting step) at.1.stands) ∙ goes_on step refl in
    let shape : Agent → List Label → Bool → Session = λ agent others mid. record { agent = agent; labels = others; mid_line = mid } in
    let one : Label = record { name = name; symbol = Ident (letter_from name) (next_number (letter_from name) a) } in
    let seen : label_seen label ≡ one = λ k. record { name = named k; symbol = at.0 k } in
    let more : map label_seen labels ≡ map label_seen s.labels ++ one ∷ [] =
    ap (map label_seen) are ∙ (map-append label_seen s.labels (label ∷ []) ∙ ap (λ (l : Label). map label_seen s.labels ++ l ∷ []) seen) in (
      at.0,
      ap (λ agent. shape agent (map label_seen labels) b.mid_line) arrived
          ∙ (ap (λ others. shape step.agent others b.mid_line) more ∙ ap (λ mid. shape step.agent (map label_seen s.labels ++ one ∷ []) mid) same),
      at.1.within,
      at.1.stands.remembers,
    )

pub makes_none : {M : Type 0} (s new : SessionKept M) (letter : ℕ) (name : List ℕ) (history : List RecordedFiring) (why : Stop)
    → letter ≡ letter_from name → GivesFresh letter (agent_of s.agent.parts history) new.agent.parts (Err why) → Makes new (labelled (session_of s history) name None) history (Err why)
makes_none s new letter name history (stop.Limit limit) first gives = subst (λ l. GivesFresh l (agent_of s.agent.parts history) new.agent.parts (Err (stop.Limit limit))) first gives
makes_none s new letter name history stop.NoMemory first gives = tt

-- ---- what labels leave

labelled_holding : (s : Session) (name : List ℕ) (o : Option Sym) → (labelled s name o).session.agent.holding ≡ s.agent.holding
labelled_holding s name None = refl
labelled_holding s name (Some symbol) = refl

pub resolved_holding : (s : Session) (o : Operand) → (resolved s o).session.agent.holding ≡ s.agent.holding
resolved_holding s (is_symbol symbol) = refl
resolved_holding s (is_label name) = labelled_holding s name (label_in s.labels name)

labelled_words : (s : Session) (name : List ℕ) (o : Option Sym) → (labelled s name o).session.agent.names.words ≡ s.agent.names.words
labelled_words s name None = refl
labelled_words s name (Some symbol) = refl

resolved_words : (s : Session) (o : Operand) → (resolved s o).session.agent.names.words ≡ s.agent.names.words
resolved_words s (is_symbol symbol) = refl
resolved_words s (is_label name) = labelled_words s name (label_in s.labels name)

labelled_watch : (s : Session) (name : List ℕ) (o : Option Sym) → (labelled s name o).session.agent.settings.watch ≡ s.agent.settings.watch
labelled_watch s name None = refl
labelled_watch s name (Some symbol) = refl

pub resolved_watch : (s : Session) (o : Operand) → (resolved s o).session.agent.settings.watch ≡ s.agent.settings.watch
resolved_watch s (is_symbol symbol) = refl
resolved_watch s (is_label name) = labelled_watch s name (label_in s.labels name)

-- ---- once labels stand for symbols

-- what is replied where they do
pub made_replies : {M : Type 0} (old new last : SessionKept M) (r : Resolved) (reply : Sym → Session → Reply) (symbol : Sym) (history : List RecordedFiring) (before after : List ℕ) (result : Result Outcome Stop)
    → new.agent.mid_line ≡ old.agent.mid_line → r.session.agent.settings.watch ≡ watch_of old → Makes new r history (Ok symbol)
    → Obeys (watch_of new) new.agent.mid_line (reply symbol (session_of new history)) last before after result
    → Obeys (watch_of old) old.agent.mid_line (reply r.symbol r.session) last before after result
made_replies old new last r reply symbol history before after result same level makes obeys =
    let watch_is : watch_of new ≡ watch_of old = ap (λ (s : Session). s.agent.settings.watch) makes.1 ∙ level in
    subst (λ (s : Session). Obeys (watch_of old) old.agent.mid_line (reply r.symbol s) last before after result) makes.1
    (subst (λ (s : Sym). Obeys (watch_of old) old.agent.mid_line (reply s (session_of new history)) last before after result) makes.0
    (subst (λ (watch : ℕ). Obeys watch old.agent.mid_line (reply symbol (session_of new history)) last before after result) watch_is
    (subst (λ (mid : Bool). Obeys (watch_of new) mid (reply symbol (session_of new history)) last before after result) same obeys)))

-- ---- listing

-- the elements of an identifier, once a label stands for it
pub lists_made : {M : Type 0} (old new last : SessionKept M) (id : Operand) (symbol : Sym) (history : List RecordedFiring) (before after : List ℕ) (result : Result Outcome Stop)
    → new.agent.mid_line ≡ old.agent.mid_line → Makes new (resolved (session_of old history) id) history (Ok symbol)
    → Obeys (watch_of new) new.agent.mid_line (says (session_of new history) (element_lines new.agent.parts.table (elements_of symbol new.agent.parts.memory.elements))) last before after result
    → Obeys (watch_of old) old.agent.mid_line (lists_elements (session_of old history) id) last before after result
lists_made old new last id symbol history before after result same makes obeys =
    let s : Session = session_of old history in
    let r : Resolved = resolved s id in
    let line : Texts → Holding → Sym → Session → Reply = λ words held symbol session. says session (element_lines words (elements_of symbol held.elements)) in
    obeys_same (watch_of old) old.agent.mid_line (lists_elements s id) (line s.agent.names.words s.agent.holding r.symbol r.session) last before after result
    (drawn_same (watch_of old) r.totals (line s.agent.names.words s.agent.holding r.symbol r.session) makes.2)
    (subst (λ (words : Texts). Obeys (watch_of old) old.agent.mid_line (line words s.agent.holding r.symbol r.session) last before after result) (resolved_words s id)
    (subst (λ (held : Holding). Obeys (watch_of old) old.agent.mid_line (line r.session.agent.names.words held r.symbol r.session) last before after result) (resolved_holding s id)
    (made_replies old new last r (λ found session. line session.agent.names.words session.agent.holding found session) symbol history before after result same (resolved_watch s id) makes obeys)))

-- what a label draws is beyond the limit
pub lists_none : {M : Type 0} (old new : SessionKept M) (id : Operand) (history : List RecordedFiring) (said : List ℕ) (why : Stop)
    → new.agent.mid_line ≡ old.agent.mid_line → Makes new (resolved (session_of old history) id) history (Err why)
    → Obeys (watch_of old) old.agent.mid_line (lists_elements (session_of old history) id) new said said (Err why)
lists_none old new id history said (stop.Limit limit) same makes =
    let r : Resolved = resolved (session_of old history) id in
    drawn_stops (watch_of old) old.agent.mid_line r.totals (says r.session (element_lines old.agent.parts.table (elements_of r.symbol old.agent.parts.memory.elements))) new said limit makes same
lists_none old new id history said stop.NoMemory same makes = tt
