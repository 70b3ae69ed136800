-- Adding an element, reply by reply.
use Rattle.std.proofs.Common.{◌≡◌, ◌∙◌, ℕ, ◌+◌, ◌≤◌, ◌==◌, Bool, true, false, ◌&&◌, cond, inl, inr, List, [], ◌∷◌, ◌++◌, Option, Some, None, Result, Ok, Err, refl, sym, ap, subst, arith}
use Rattle.std.proofs.lemmas.Bool.Decides.{nat_tests}
use Rattle.soar_sym.specs.Equality.{mark_eq, symbol_eq}
use Rattle.soar_sym.specs.Letters.{last_of}
use Rattle.soar_sym.specs.declared.symbol.Sym.{Sym}
use Rattle.soar_sym.specs.declared.symbol.Sym.TheVariants.{Ident, Word, Int}
use Rattle.soar_sym.specs.declared.symbol.Triple.{Triple}
use Rattle.soar_wm.specs.WorkingMemory.{has_triple, tag_of}
use Rattle.soar_wm.specs.declared.element.Element.{Element}
use Rattle.defs_soar.specs.Goals.{plain_triple}
use Rattle.defs_soar.specs.History.{RecordedFiring}
use Rattle.defs_soar.specs.Laws.{IsIn}
use Rattle.defs_run.specs.Inputs.{Spelled, refuses, unless_there, with_inputs}
use Rattle.defs_run.specs.Orders.{already_there}
use Rattle.defs_run.specs.Sessions.{Session, Reply, Resolved, draws, labelled}
use Rattle.soar_settle.specs.declared.stop.Stop.{Stop}
use Rattle.soar_settle.specs.declared.stop.Stop.TheVariants as stop
use Rattle.learning_laws.specs.LawfulAgents.{IsNumbered}
use Rattle.soar_cycle.specs.Lawful.{IsOfLawful}
use Rattle.soar_cycle.specs.Parts.{Parts as PartsKept}
use Rattle.soar_agent.specs.Carries.{Obeys, Responds, response_by}
use Rattle.soar_agent.specs.Adding.{makes_labelled, puts}
use Rattle.soar_agent.specs.Labels.{Makes}
use Rattle.soar_agent.specs.States.{session_of}
use Rattle.soar_agent.specs.declared.outcome.Outcome.{Outcome}
use Rattle.soar_agent.specs.declared.state.Session.{Session as SessionKept}
use Rattle.soar_agent.proofs.LabelLemmas.{made_replies}
use Rattle.soar_agent.proofs.ReadyLemmas.{elements_numbered}
use Rattle.soar_agent.proofs.SessionLemmas.{obeys_same, drawn_same, drawn_stops, watch_of}

-- what is done where the triple has a tag, and where it has none
pub there_refused : {M : Type 0} (s new : SessionKept M) (from : List ℕ) (line : ℕ) (t : Spelled) (session : Session) (o : Option ℕ) (tag : ℕ) (before after : List ℕ) (result : Result Outcome Stop) → o ≡ Some tag
    → Responds (watch_of s) s.agent.mid_line (response_by from line session (refuses (already_there tag))) new before after result
    → Responds (watch_of s) s.agent.mid_line (response_by from line session (unless_there t o)) new before after result
there_refused s new from line t session o tag before after result is obeys =
    subst (λ (o : Option ℕ). Responds (watch_of s) s.agent.mid_line (response_by from line session (unless_there t o)) new before after result) (sym is) obeys

pub missing_put : {M : Type 0} (s new : SessionKept M) (from : List ℕ) (line : ℕ) (t : Spelled) (session : Session) (o : Option ℕ) (before after : List ℕ) (result : Result Outcome Stop) → o ≡ None
    → Obeys (watch_of s) s.agent.mid_line (puts t) new before after result
    → Responds (watch_of s) s.agent.mid_line (response_by from line session (unless_there t o)) new before after result
missing_put s new from line t session o before after result is obeys =
    subst (λ (o : Option ℕ). Responds (watch_of s) s.agent.mid_line (response_by from line session (unless_there t o)) new before after result) (sym is) obeys

-- a triple of symbols that there are draws nothing
pub puts_triple : {M : Type 0} (s new : SessionKept M) (triple : Triple) (history : List RecordedFiring) (before after : List ℕ) (result : Result Outcome Stop)
    → Obeys (watch_of s) s.agent.mid_line (with_inputs (s.agent.parts.inputs ++ triple ∷ []) (session_of s history)) new before after result
    → Obeys (watch_of s) s.agent.mid_line (puts (record { session = session_of s history; triple = triple; totals = [] })) new before after result
puts_triple s new triple history before after result obeys =
    let reply : Reply = with_inputs (s.agent.parts.inputs ++ triple ∷ []) (session_of s history) in
    obeys_same (watch_of s) s.agent.mid_line (draws [] reply) reply new before after result (drawn_same (watch_of s) [] reply refl) obeys

-- the label is made, and then the triple is put
pub puts_labelled : {M : Type 0} (old middle new : SessionKept M) (id attr symbol : Sym) (name : List ℕ) (history : List RecordedFiring) (before after : List ℕ) (result : Result Outcome Stop)
    → middle.agent.mid_line ≡ old.agent.mid_line → Makes middle (labelled (session_of old history) name None) history (Ok symbol)
    → Obeys (watch_of middle) middle.agent.mid_line (with_inputs (middle.agent.parts.inputs ++ plain_triple id attr symbol ∷ []) (session_of middle history)) new before after result
    → Obeys (watch_of old) old.agent.mid_line (makes_labelled id attr name (session_of old history)) new before after result
puts_labelled old middle new id attr symbol name history before after result same makes obeys =
    let r : Resolved = labelled (session_of old history) name None in
    let reply : Sym → Session → Reply = λ s session. with_inputs (session.agent.holding.inputs ++ plain_triple id attr s ∷ []) session in
    obeys_same (watch_of old) old.agent.mid_line (makes_labelled id attr name (session_of old history)) (reply r.symbol r.session) new before after result
    (drawn_same (watch_of old) r.totals (reply r.symbol r.session) makes.2)
    (made_replies old middle new r reply symbol history before after result same refl makes obeys)

pub puts_none : {M : Type 0} (old new : SessionKept M) (id attr : Sym) (name : List ℕ) (history : List RecordedFiring) (said : List ℕ) (why : Stop)
    → new.agent.mid_line ≡ old.agent.mid_line → Makes new (labelled (session_of old history) name None) history (Err why)
    → Obeys (watch_of old) old.agent.mid_line (makes_labelled id attr name (session_of old history)) new said said (Err why)
puts_none old new id attr name history said (stop.Limit limit) same makes =
    let r : Resolved = labelled (session_of old history) name None in
    drawn_stops (watch_of old) old.agent.mid_line r.totals (with_inputs (r.session.agent.holding.inputs ++ plain_triple id attr r.symbol ∷ []) r.session) new said limit makes same
puts_none old new id attr name history said stop.NoMemory same makes = tt

-- ---- no element has the identifier of a new label

same_letter : (m n : ℕ) → (m == n) ≡ true → m ≡ n
same_letter m n h = grind arith

beyond_last : (m last : ℕ) → m ≤ last → (m == last + 1) ≡ false
beyond_last m last few = grind (arith, nat_tests)

is_other : (letters : List ℕ) (letter : ℕ) (s : Sym) → IsNumbered letters s → symbol_eq s (Ident letter (last_of letters letter + 1)) ≡ false
is_other letters letter (Ident a m) numbered = by (a == letter) refl
  where
    by : (b : Bool) → (a == letter) ≡ b → (b && (m == last_of letters letter + 1)) ≡ false
    by false e = refl
    by true e = beyond_last m (last_of letters letter) (subst (λ l. m ≤ last_of letters l) (same_letter a letter e) numbered)
is_other letters letter (Word n) numbered = refl
is_other letters letter (Int z) numbered = refl

third_false : (a b d : Bool) → (a && (b && (false && d))) ≡ false
third_false false b d = refl
third_false true false d = refl
third_false true true d = refl

has_other : (t : Triple) (e : Element) → symbol_eq e.value t.value ≡ false → has_triple t e ≡ false
has_other t e other =
    ap (λ b. symbol_eq e.id t.id && (symbol_eq e.attr t.attr && (b && mark_eq e.accept t.accept))) other ∙ third_false (symbol_eq e.id t.id) (symbol_eq e.attr t.attr) (mark_eq e.accept t.accept)

none_has : (letters : List ℕ) (id attr : Sym) (letter : ℕ) (elements : List Element) → ((e : Element) → IsIn e elements → IsNumbered letters e.value)
    → tag_of (plain_triple id attr (Ident letter (last_of letters letter + 1))) elements ≡ None
none_has letters id attr letter [] numbered = refl
none_has letters id attr letter (e ∷ elements) numbered =
    let t : Triple = plain_triple id attr (Ident letter (last_of letters letter + 1)) in
    ap (λ b. cond b (Some e.tag) (tag_of t elements)) (has_other t e (is_other letters letter e.value (numbered e (inl refl)))) ∙ none_has letters id attr letter elements (λ x i. numbered x (inr i))

-- the letters gave those of all elements
pub next_is_new : (p : PartsKept) (id attr : Sym) (letter : ℕ) → IsOfLawful p → tag_of (plain_triple id attr (Ident letter (last_of p.letters letter + 1))) p.memory.elements ≡ None
next_is_new p id attr letter lawful = none_has p.letters id attr letter p.memory.elements (λ e is. (elements_numbered p e lawful is).2)
