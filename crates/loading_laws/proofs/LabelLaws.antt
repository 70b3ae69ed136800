-- Operands stand for symbols that were given.
use Rattle.std.proofs.Common.{◌≡◌, refl, ◌∙◌, subst, ℕ, ◌+◌, ◌-◌, ◌≤◌, nat_lt, Bool, true, false, cond, inl, inr, arith, List, [], ◌∷◌, length, Option, Some, None}
use Rattle.std.proofs.lemmas.List.{length-set}
use Rattle.std.specs.Prelude.{not}
use Rattle.std.specs.Str.{bytes_eq}
use Rattle.soar_sym.specs.Letters.{last_of, with_last}
use Rattle.soar_sym.specs.Words.{IsKnown}
use Rattle.soar_sym.specs.declared.symbol.Sym.{Sym}
use Rattle.soar_sym.specs.declared.symbol.Sym.TheVariants.{Ident, Word, Int}
use Rattle.defs_text.specs.Bytes.{is_capital, is_small}
use Rattle.defs_text.specs.Symbols.{symbol_text}
use Rattle.defs_soar.specs.Agents.{Names}
use Rattle.defs_soar.specs.Naming.{letter_from}
use Rattle.defs_soar.specs.Values.{is_identifier}
use Rattle.defs_run.specs.Inputs.{or_else, unreached_in}
use Rattle.defs_run.specs.Orders.{Operand, is_label, is_symbol}
use Rattle.defs_run.specs.Sessions.{Label, label_in, labelled, resolved, Resolved, Session, unknown_in, with_label}
use Rattle.learning_laws.specs.LawfulAgents.{IsGiven, IsLawfulAgent, IsNumbered}
use Rattle.learning_laws.proofs.Lists.{in_append}
use Rattle.learning_laws.proofs.NewIdentifiers.{last_new}
use Rattle.letter_laws.specs.Grows.{LettersGrow}
use Rattle.letter_laws.proofs.GrowthLaws.{given_stay_given, identifiers_grow}
use Rattle.session_laws.proofs.StepLaws.{identifiers_keep}
use Rattle.loading_laws.specs.Labels.{AreLabelsGiven, ElementsAreGiven, HasGivenLabels, LabelsStayGiven, OperandsAreGiven, ResolvingGrows, ResolvingKeepsAgents, ResolvingKeepsLabels, SpelledAreGiven, SpellingKeepsAgents}
use Rattle.loading_laws.specs.Orders.{IsOperandKnown}

-- ---- letters

pub letter_capital : (bytes : List ℕ) → (65 ≤ letter_from bytes) × (letter_from bytes ≤ 90)
letter_capital [] = (omega arith, omega arith)
letter_capital (b ∷ bytes) = go (is_capital b) refl (is_small b) refl
  where
    go : (x : Bool) → is_capital b ≡ x → (y : Bool) → is_small b ≡ y → (65 ≤ cond x b (cond y (b - 32) 73)) × (cond x b (cond y (b - 32) 73) ≤ 90)
    go true p y q = (grind arith, grind arith)
    go false p true q = (grind arith, grind arith)
    go false p false q = (omega arith, omega arith)

pub itself : (letters : List ℕ) → LettersGrow letters letters
itself letters l = same (last_of letters l)
  where
    same : (n : ℕ) → n ≤ n
    same n = omega arith

-- ---- labels

pub labels_stay_given : LabelsStayGiven
labels_stay_given old new labels grows h l i = let g = h l i in (g.0, go l.symbol g.0 g.1)
  where
    go : (s : Sym) → is_identifier s ≡ true → IsGiven old s → IsGiven new s
    go (Ident letter n) q g = (g.0, given_stay_given old.letters new.letters (Ident letter n) grows g.1)
    go (Word n) q g = absurd (cc)
    go (Int z) q g = absurd (cc)

-- the label of a name
labelled_given : (names : Names) (labels : List Label) (name : List ℕ) (symbol : Sym) → label_in labels name ≡ Some symbol → AreLabelsGiven names labels → IsGiven names symbol
labelled_given names [] name symbol q h = absurd (cc)
labelled_given names (l ∷ labels) name symbol q h = go (bytes_eq l.name name) q (λ k. labelled_given names labels name symbol k (λ m i. h m (inr i)))
  where
    go : (b : Bool) → cond b (Some l.symbol) (label_in labels name) ≡ Some symbol → (label_in labels name ≡ Some symbol → IsGiven names symbol) → IsGiven names symbol
    go true k later = let same : l.symbol ≡ symbol = cc in subst (IsGiven names) same (h l (inl refl)).1
    go false k later = later k

module _ (s : Session) (name : List ℕ) where
  abbrev letter : ℕ
  letter = letter_from name

  abbrev number : ℕ
  number = last_of s.agent.names.letters letter + 1

  abbrev made : Resolved
  made = with_label s name letter number

  made_given : length s.agent.names.letters ≡ 26 → IsGiven made.session.agent.names made.symbol
  made_given long =
      let range = letter_capital name in
      let last_is : last_of (with_last s.agent.names.letters letter number) letter ≡ number = last_new s.agent.names.letters letter number long range.1 in
      (range, omega arith)

  made_grows : length s.agent.names.letters ≡ 26 → LettersGrow s.agent.names.letters made.session.agent.names.letters
  made_grows long = let range = letter_capital name in identifiers_grow s.agent.names.letters letter long range.0 range.1

  made_keeps : HasGivenLabels s → HasGivenLabels made.session
  made_keeps h = record {
    letters = length-set s.agent.names.letters (letter - 65) number ∙ h.letters;
    labels = λ l i. elim (in_append l s.labels (record { name = name; symbol = Ident letter number } ∷ []) i) [
      | inl j ↦ labels_stay_given s.agent.names made.session.agent.names s.labels (made_grows h.letters) h.labels l j
      | inr j ↦ elim j [ inl q ↦ subst (λ (m : Label). (is_identifier m.symbol ≡ true) × IsGiven made.session.agent.names m.symbol) q (refl, made_given h.letters) | inr k ↦ absurd k ]
    ];
  }

  labelled_keeps : (o : Option Sym) → HasGivenLabels s → HasGivenLabels (labelled s name o).session
  labelled_keeps (Some symbol) h = h
  labelled_keeps None h = made_keeps h

  labelled_grows : (o : Option Sym) → HasGivenLabels s → LettersGrow s.agent.names.letters (labelled s name o).session.agent.names.letters
  labelled_grows (Some symbol) h = itself s.agent.names.letters
  labelled_grows None h = made_grows h.letters

  label_given : (o : Option Sym) → label_in s.labels name ≡ o → HasGivenLabels s → IsGiven (labelled s name o).session.agent.names (labelled s name o).symbol
  label_given (Some symbol) q h = labelled_given s.agent.names s.labels name symbol q h.labels
  label_given None q h = made_given h.letters

  labelled_lawful : (o : Option Sym) → IsLawfulAgent s.agent → IsLawfulAgent (labelled s name o).session.agent
  labelled_lawful (Some symbol) h = h
  labelled_lawful None h = let range = letter_capital name in identifiers_keep s.agent letter h range.0 range.1

-- ---- operands

pub resolving_keeps_labels : ResolvingKeepsLabels
resolving_keeps_labels s (is_symbol symbol) h = h
resolving_keeps_labels s (is_label name) h = labelled_keeps s name (label_in s.labels name) h

pub resolving_grows : ResolvingGrows
resolving_grows s (is_symbol symbol) h = itself s.agent.names.letters
resolving_grows s (is_label name) h = labelled_grows s name (label_in s.labels name) h

-- an identifier that is not told as unknown was given
symbol_numbered : (s : Session) (symbol : Sym) → unknown_in s (is_symbol symbol) ≡ None → IsNumbered s.agent.names.letters symbol
symbol_numbered s (Word n) q = tt
symbol_numbered s (Int z) q = tt
symbol_numbered s (Ident letter n) q = go (nat_lt (last_of s.agent.names.letters letter) n) refl q
  where
    go : (b : Bool) → nat_lt (last_of s.agent.names.letters letter) n ≡ b → cond (not b) None (Some (symbol_text s.agent.names.words (Ident letter n))) ≡ None → n ≤ last_of s.agent.names.letters letter
    go true p k = absurd (cc)
    go false p k = grind arith

pub operands_are_given : OperandsAreGiven
operands_are_given s (is_symbol symbol) h known q = (known, symbol_numbered s symbol q)
operands_are_given s (is_label name) h known q = label_given s name (label_in s.labels name) refl h

pub resolving_keeps_agents : ResolvingKeepsAgents
resolving_keeps_agents s (is_symbol symbol) h = h
resolving_keeps_agents s (is_label name) h = labelled_lawful s name (label_in s.labels name) h

-- ---- three operands

given_later : (old new : Names) (s : Sym) → old.words ≡ new.words → LettersGrow old.letters new.letters → IsGiven old s → IsGiven new s
given_later old new s same grows g = (subst (λ words. IsKnown words s) same g.0, given_stay_given old.letters new.letters s grows g.1)

-- the table stays
same_words : (s : Session) (o : Operand) → s.agent.names.words ≡ (resolved s o).session.agent.names.words
same_words s (is_symbol symbol) = refl
same_words s (is_label name) = go (label_in s.labels name)
  where
    go : (o : Option Sym) → s.agent.names.words ≡ (labelled s name o).session.agent.names.words
    go (Some symbol) = refl
    go None = refl

-- what is no unknown identifier is none once another operand stands for its symbol
still_known : (s : Session) (o p : Operand) → HasGivenLabels s → unknown_in s p ≡ None → unknown_in (resolved s o).session p ≡ None
still_known s o (is_label name) h q = refl
still_known s o (is_symbol symbol) h q =
    go symbol (given_stay_given s.agent.names.letters (resolved s o).session.agent.names.letters symbol (resolving_grows s o h) (symbol_numbered s symbol q))
  where
    given : (t : Session) (letter n : ℕ) → (b : Bool) → nat_lt (last_of t.agent.names.letters letter) n ≡ b → n ≤ last_of t.agent.names.letters letter
        → cond (not b) None (Some (symbol_text t.agent.names.words (Ident letter n))) ≡ None
    given t letter n true p k = absurd (grind arith)
    given t letter n false p k = refl

    go : (x : Sym) → IsNumbered (resolved s o).session.agent.names.letters x → unknown_in (resolved s o).session (is_symbol x) ≡ None
    go (Word n) k = refl
    go (Int z) k = refl
    go (Ident letter n) k = given (resolved s o).session letter n (nat_lt (last_of (resolved s o).session.agent.names.letters letter) n) refl k

operand_still : (s : Session) (o p : Operand) → IsOperandKnown s.agent.names.words p → IsOperandKnown (resolved s o).session.agent.names.words p
operand_still s o p h = subst (λ words. IsOperandKnown words p) (same_words s o) h

both_none : {A : Type 0} (a b : Option A) → or_else a b ≡ None → (a ≡ None) × (b ≡ None)
both_none None b q = (refl, q)
both_none (Some x) b q = absurd (cc)

pub spelled_are_given : SpelledAreGiven
spelled_are_given reached s id attr value h known q =
    let first = both_none (unknown_in s id) (or_else (cond reached (unreached_in s id) None) (or_else (unknown_in s attr) (unknown_in s value))) q in
    let second = both_none (cond reached (unreached_in s id) None) (or_else (unknown_in s attr) (unknown_in s value)) first.1 in
    let third = both_none (unknown_in s attr) (unknown_in s value) second.1 in
    let i = resolved s id in
    let a = resolved i.session attr in
    let v = resolved a.session value in
    let hi = resolving_keeps_labels s id h in
    let ha = resolving_keeps_labels i.session attr hi in
    let hv = resolving_keeps_labels a.session value ha in
    let given_id : IsGiven i.session.agent.names i.symbol = operands_are_given s id h known.id_known first.0 in
    let given_attr : IsGiven a.session.agent.names a.symbol = operands_are_given i.session attr hi (operand_still s id attr known.attr_known) (still_known s id attr h third.0) in
    let given_value : IsGiven v.session.agent.names v.symbol =
    operands_are_given a.session value ha (operand_still i.session attr value (operand_still s id value known.value_known)) (still_known i.session attr value hi (still_known s id value h third.1)) in
    let attr_later : IsGiven v.session.agent.names a.symbol = given_later a.session.agent.names v.session.agent.names a.symbol (same_words a.session value) (resolving_grows a.session value ha) given_attr in
    let id_between : IsGiven a.session.agent.names i.symbol = given_later i.session.agent.names a.session.agent.names i.symbol (same_words i.session attr) (resolving_grows i.session attr hi) given_id in
    let id_later : IsGiven v.session.agent.names i.symbol = given_later a.session.agent.names v.session.agent.names i.symbol (same_words a.session value) (resolving_grows a.session value ha) id_between in (
      hv,
      λ x j. elim j [
        | inl e ↦ subst (IsGiven v.session.agent.names) e id_later
        | inr k ↦ elim k [
          | inl e ↦ subst (IsGiven v.session.agent.names) e attr_later
          | inr l ↦ elim l [ inl e ↦ subst (IsGiven v.session.agent.names) e given_value | inr m ↦ absurd m ]
        ]
      ],
    )

pub elements_are_given : ElementsAreGiven
elements_are_given a e h i = h.founded.elements.given e (h.founded.elements.present e i)

pub spelling_keeps_agents : SpellingKeepsAgents
spelling_keeps_agents s id attr value h =
    let i = resolved s id in
    let a = resolved i.session attr in
    resolving_keeps_agents a.session value (resolving_keeps_agents i.session attr (resolving_keeps_agents s id h))
