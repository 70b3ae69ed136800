-- A session stays ready: the letters give no identifier back, so those of labels stay given.
use Rattle.std.proofs.Common.{◌≡◌, ◌∙◌, ℕ, ◌+◌, ◌==◌, ◌≤◌, true, false, Bool, cond, inl, inr, List, [], ◌∷◌, ◌++◌, map, Some, refl, sym, ap, subst, arith}
use Rattle.std.specs.Prelude.{if◌then◌else◌}
use Rattle.std.specs.Str.{bytes_eq}
use Rattle.soar_sym.specs.Letters.{last_of, with_last}
use Rattle.soar_sym.specs.Words.{IsKnown}
use Rattle.soar_sym.specs.declared.symbol.Sym.{Sym}
use Rattle.soar_sym.specs.declared.symbol.Sym.TheVariants.{Ident}
use Rattle.soar_sym.specs.declared.symbol.Triple.{Triple}
use Rattle.soar_wm.specs.WorkingMemory.{element_of, triple_of}
use Rattle.soar_wm.specs.declared.element.Element.{Element}
use Rattle.defs_soar.specs.Agents.{Agent}
use Rattle.defs_soar.specs.Laws.{IsIn}
use Rattle.defs_soar.specs.Phases.{halting}
use Rattle.defs_soar.specs.Resettling.{AgentStep}
use Rattle.defs_soar.specs.Ungrounded.{symbols_of_element}
use Rattle.defs_run.specs.Sessions.{label_in}
use Rattle.learning_laws.specs.LawfulAgents.{AreGiven, IsLawfulAgent, IsNumbered}
use Rattle.learning_laws.proofs.NewIdentifiers.{last_new}
use Rattle.letter_laws.specs.Grows.{LettersGrow}
use Rattle.letter_laws.proofs.GrowthLaws.{given_stay_given, identifiers_grow}
use Rattle.soar_cycle.specs.Lawful.{IsOfLawful}
use Rattle.soar_cycle.specs.Seen.{Stepped}
use Rattle.soar_cycle.specs.Stands.{Stands}
use Rattle.soar_cycle.specs.Parts.{Parts as PartsKept}
use Rattle.soar_cycle.specs.Calls.{IsTripleGiven, IsTripleKnown}
use Rattle.soar_cycle.specs.Agents.{AgentSeen, IsSoundAgent}
use Rattle.command_labels.specs.Found.{label_seen}
use Rattle.command_labels.specs.declared.label.Label.{Label}
use Rattle.soar_agent.specs.Numbered.{AreLabelsNumbered, IsTripleNumbered}
use Rattle.soar_agent.specs.States.{IsReady}
use Rattle.soar_agent.specs.declared.state.Session.{Session as SessionKept}

-- ---- letters

itself : (n : ℕ) → n ≤ n
itself n = omega arith

pub letters_same : (old new : List ℕ) → new ≡ old → LettersGrow old new
letters_same old new same l = subst (λ letters. last_of old l ≤ last_of letters l) (sym same) (itself (last_of old l))

-- where the parts stood for a state, and now stand for one that has its letters
pub letters_kept : (old new : PartsKept) (step : Agent → Agent) → IsOfLawful old → ((s : Agent) → Stands old s → Stands new (step s))
    → ((s : Agent) → (step s).names.letters ≡ s.names.letters) → LettersGrow old.letters new.letters
letters_kept old new step lawful steps same =
    let a : Agent = lawful.agent in
    letters_same old.letters new.letters ((steps a lawful.stands).letters ∙ same a ∙ sym lawful.stands.letters)

-- or for one that has more
pub letters_more : (old new : PartsKept) (step : Agent → Agent) → IsOfLawful old → ((s : Agent) → Stands old s → Stands new (step s))
    → ((s : Agent) → IsLawfulAgent s → LettersGrow s.names.letters (step s).names.letters) → LettersGrow old.letters new.letters
letters_more old new step lawful steps grows l =
    let a : Agent = lawful.agent in
    subst (λ letters. last_of letters l ≤ last_of new.letters l) (sym lawful.stands.letters)
    (subst (λ letters. last_of a.names.letters l ≤ last_of letters l) (sym (steps a lawful.stands).letters) (grows a lawful.lawful l))

-- the letters with a new identifier, which they gave
pub letters_new : (old new : PartsKept) (letter : ℕ) → IsOfLawful old → 65 ≤ letter → letter ≤ 90
    → ((s : Agent) → Stands old s → new.letters ≡ with_last s.names.letters letter (last_of s.names.letters letter + 1)) → LettersGrow old.letters new.letters
letters_new old new letter lawful low high steps l =
    let a : Agent = lawful.agent in
    subst (λ letters. last_of letters l ≤ last_of new.letters l) (sym lawful.stands.letters)
    (subst (λ letters. last_of a.names.letters l ≤ last_of letters l) (sym (steps a lawful.stands))
    (identifiers_grow a.names.letters letter lawful.lawful.founded.symbols.letters low high l))

pub new_numbered : (old new : PartsKept) (letter : ℕ) → IsOfLawful old → letter ≤ 90
    → ((s : Agent) → Stands old s → new.letters ≡ with_last s.names.letters letter (last_of s.names.letters letter + 1))
    → IsNumbered new.letters (Ident letter (last_of old.letters letter + 1))
new_numbered old new letter lawful high steps =
    let a : Agent = lawful.agent in
    let number : ℕ = last_of a.names.letters letter + 1 in
    let last : last_of new.letters letter ≡ number =
    ap (λ letters. last_of letters letter) (steps a lawful.stands) ∙ last_new a.names.letters letter number lawful.lawful.founded.symbols.letters high in
    let same : last_of old.letters letter ≡ last_of a.names.letters letter = ap (λ letters. last_of letters letter) lawful.stands.letters in
    omega (arith, last, same)

-- ---- labels

pub labels_stay : (old new : List ℕ) (labels : List Label) → LettersGrow old new → AreLabelsNumbered old labels → AreLabelsNumbered new labels
labels_stay old new [] grows numbered = tt
labels_stay old new (l ∷ labels) grows numbered = (given_stay_given old new l.symbol grows numbered.0, labels_stay old new labels grows numbered.1)

pub labels_with : (letters : List ℕ) (labels : List Label) (label : Label) → AreLabelsNumbered letters labels → IsNumbered letters label.symbol → AreLabelsNumbered letters (labels ++ label ∷ [])
labels_with letters [] label numbered own = (own, tt)
labels_with letters (l ∷ labels) label numbered own = (numbered.0, labels_with letters labels label numbered.1 own)

-- the identifier of a label
pub label_numbered : (letters : List ℕ) (labels : List Label) (name : List ℕ) (symbol : Sym) → AreLabelsNumbered letters labels → label_in (map label_seen labels) name ≡ Some symbol → IsNumbered letters symbol
label_numbered letters [] name symbol numbered is = absurd (cc)
label_numbered letters (l ∷ labels) name symbol numbered is = by (bytes_eq l.name name) is (label_numbered letters labels name symbol numbered.1)
  where
    by : (b : Bool) → (if b then Some l.symbol else label_in (map label_seen labels) name) ≡ Some symbol → (label_in (map label_seen labels) name ≡ Some symbol → IsNumbered letters symbol) → IsNumbered letters symbol
    by true is later = let same : l.symbol ≡ symbol = cc in subst (IsNumbered letters) same numbered.0
    by false is later = later is

-- ---- sessions

-- with another agent
pub ready_after : {M : Type 0} (s : SessionKept M) (b : AgentSeen) → IsReady s → b.standing ≡ s.agent.standing → IsSoundAgent b → LettersGrow s.agent.parts.letters b.parts.letters
    → IsReady (record s { agent = b })
ready_after s b ready same sound grows =
    let stands = same ∙ ready.0 in
    let both = sound stands in (stands, both.0, both.1, labels_stay s.agent.parts.letters b.parts.letters s.labels grows ready.3)

-- without labels
pub ready_anew : {M : Type 0} (s : SessionKept M) (b : AgentSeen) (labels : List Label) → IsReady s → b.standing ≡ s.agent.standing → IsSoundAgent b → labels ≡ [] → IsReady (record s { agent = b; labels = labels })
ready_anew s b labels ready same sound none =
    let stands = same ∙ ready.0 in
    let both = sound stands in (stands, both.0, both.1, subst (AreLabelsNumbered b.parts.letters) (sym none) tt)

-- with a label more
pub ready_labelled : {M : Type 0} (s : SessionKept M) (b : AgentSeen) (labels : List Label) (label : Label) → IsReady s → b.standing ≡ s.agent.standing → IsSoundAgent b → LettersGrow s.agent.parts.letters b.parts.letters
    → IsNumbered b.parts.letters label.symbol → labels ≡ s.labels ++ label ∷ [] → IsReady (record s { agent = b; labels = labels })
ready_labelled s b labels label ready same sound grows own are =
    let stands = same ∙ ready.0 in
    let both = sound stands in
    let numbered : AreLabelsNumbered b.parts.letters (s.labels ++ label ∷ []) =
    labels_with b.parts.letters s.labels label (labels_stay s.agent.parts.letters b.parts.letters s.labels grows ready.3) own in (stands, both.0, both.1, subst (AreLabelsNumbered b.parts.letters) (sym are) numbered)

-- with an agent of the same parts
pub ready_same : {M : Type 0} (s : SessionKept M) (b : AgentSeen) (mid_line : Bool) → IsReady s → b ≡ record s.agent { mid_line = mid_line } → IsReady (record s { agent = b })
ready_same s b mid_line ready is = subst (λ (a : AgentSeen). IsReady (record s { agent = a })) (sym is) ready

-- behind a step of the agent that gives no identifier
pub ready_stepped : {M : Type 0} (s : SessionKept M) (b : AgentSeen) (step : Agent → AgentStep) → IsReady s → b.standing ≡ s.agent.standing → IsSoundAgent b
    → ((t : Agent) → Stands s.agent.parts t → Stepped b.parts (step t)) → ((t : Agent) → (step t).agent.names.letters ≡ t.names.letters) → IsReady (record s { agent = b })
ready_stepped s b step ready same sound steps letters =
    ready_after s b ready same sound (letters_kept s.agent.parts b.parts (λ t. halting (step t)) ready.2 (λ t stands. (steps t stands).stands) letters)

-- ---- triples

-- what is known and was given by the letters was given
pub triple_given : (p : PartsKept) (t : Triple) → IsTripleKnown p.table t → IsTripleNumbered p.letters t → IsTripleGiven p t
triple_given p t known numbered s (inl is) = subst (λ (x : Sym). IsKnown p.table x × IsNumbered p.letters x) is (known.0, numbered.0)
triple_given p t known numbered s (inr (inl is)) = subst (λ (x : Sym). IsKnown p.table x × IsNumbered p.letters x) is (known.1, numbered.1)
triple_given p t known numbered s (inr (inr (inl is))) = subst (λ (x : Sym). IsKnown p.table x × IsNumbered p.letters x) is (known.2, numbered.2)
triple_given p t known numbered s (inr (inr (inr i))) = absurd i

element_in : (tag : ℕ) (elements : List Element) (found : Element) → element_of tag elements ≡ Some found → IsIn found elements
element_in tag [] found is = absurd (cc)
element_in tag (e ∷ elements) found is = by (e.tag == tag) is (element_in tag elements found)
  where
    by : (b : Bool) → cond b (Some e) (element_of tag elements) ≡ Some found → (element_of tag elements ≡ Some found → IsIn found elements) → IsIn found (e ∷ elements)
    by true is later = let same : e ≡ found = cc in inl same
    by false is later = inr (later is)

-- the identifiers of elements were given
pub elements_numbered : (p : PartsKept) (e : Element) → IsOfLawful p → IsIn e p.memory.elements → IsTripleNumbered p.letters (triple_of e)
elements_numbered p e lawful is =
    let a : Agent = lawful.agent in
    let there : IsIn e a.holding.elements = subst (IsIn e) lawful.stands.elements is in
    let elements = lawful.lawful.founded.elements in
    let given : AreGiven a.names (symbols_of_element e) = elements.given e (elements.present e there) in
    let numbered : (s : Sym) → IsIn s (symbols_of_element e) → IsNumbered p.letters s = λ s i. subst (λ letters. IsNumbered letters s) (sym lawful.stands.letters) (given s i).1 in
    (numbered e.id (inl refl), numbered e.attr (inr (inl refl)), numbered e.value (inr (inr (inl refl))))

pub element_numbered : (p : PartsKept) (tag : ℕ) (found : Element) → IsOfLawful p → element_of tag p.memory.elements ≡ Some found → IsTripleNumbered p.letters (triple_of found)
element_numbered p tag found lawful is = elements_numbered p found lawful (element_in tag p.memory.elements found is)
