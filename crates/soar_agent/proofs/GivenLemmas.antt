-- An addition whose identifiers there are, the first of them reached.
use Rattle.std.proofs.Common.{◌≡◌, ℕ, ◌==◌, Bool, true, false, not, List, [], ◌++◌, map, Option, Some, None, Result, refl, sym, ap, subst, ◌∙◌, arith}
use Rattle.std.specs.Prelude.{if◌then◌else◌}
use Rattle.std.proofs.lemmas.Bool.Decides.{nat_tests}
use Rattle.soar_sym.specs.Words.{Texts}
use Rattle.soar_sym.specs.declared.symbol.Sym.{Sym}
use Rattle.soar_sym.specs.declared.symbol.Sym.TheVariants.{Ident, Word, Int}
use Rattle.soar_wm.specs.WorkingMemory.{triple_of}
use Rattle.defs_text.specs.Symbols.{symbol_text}
use Rattle.defs_soar.specs.Agents.{Agent, Holding}
use Rattle.defs_soar.specs.Goals.{is_operator_slot, plain_triple}
use Rattle.defs_soar.specs.History.{RecordedFiring}
use Rattle.defs_soar.specs.Levels.{level}
use Rattle.defs_run.specs.Inputs.{Carried, refuses, Spelled, spelled, or_else, added, first_unknown, unreached_in, unreached_label}
use Rattle.defs_run.specs.Orders.{Operand, is_symbol, is_label, not_of_the_top_state, reserved_attribute}
use Rattle.defs_run.specs.Sessions.{Label, Resolved, Session, is_given, label_in, labelled, resolved, unknown_in}
use Rattle.defs_run.specs.declared.form.Addition.{Addition}
use Rattle.defs_run.specs.declared.form.Operand.{Operand as OperandRead}
use Rattle.defs_run.specs.declared.form.Operand.TheVariants as operand
use Rattle.learning_laws.specs.LawfulAgents.{IsNumbered}
use Rattle.letter_laws.specs.Grows.{LettersGrow}
use Rattle.letter_laws.proofs.GrowthLaws.{given_stay_given}
use Rattle.soar_settle.specs.declared.stop.Stop.{Stop}
use Rattle.soar_agent.specs.Carries.{Responds, response_by}
use Rattle.soar_agent.specs.Adding.{adds_at_top, spelled_by, unless_twice}
use Rattle.command_orders.specs.Asked.{operand_seen}
use Rattle.command_orders.specs.Known.{IsAttributeKnown}
use Rattle.command_labels.specs.Found.{label_seen}
use Rattle.session_parts.specs.Labels.{symbol_in}
use Rattle.soar_agent.specs.Numbered.{IsAdditionNumbered, IsOperandNumbered}
use Rattle.soar_agent.specs.States.{session_of}
use Rattle.soar_agent.specs.declared.outcome.Outcome.{Outcome}
use Rattle.soar_agent.specs.declared.state.Session.{Session as SessionKept}
use Rattle.soar_agent.proofs.LabelLemmas.{resolved_holding}

-- ---- operands that stand for a symbol already

abbrev standing : Session → Sym → Resolved
standing s symbol = record { session = s; symbol = symbol; totals = [] }

pub resolved_standing : (s : Session) (o : Operand) (symbol : Sym) → symbol_in s.labels o ≡ Some symbol → resolved s o ≡ standing s symbol
resolved_standing s (is_symbol own) symbol is = let same : own ≡ symbol = cc in ap (standing s) same
resolved_standing s (is_label name) symbol is = ap (labelled s name) is

-- ---- what is not unknown

none_first : {A : Type 0} (o p : Option A) → or_else o p ≡ None → o ≡ None
none_first None p is = refl
none_first (Some a) p is = is

none_later : {A : Type 0} (o p : Option A) → or_else o p ≡ None → p ≡ None
none_later None p is = is
none_later (Some a) p is = absurd (cc)

reached_first : (s : Session) (id attr value : Operand) → first_unknown true s id attr value ≡ None → unreached_in s id ≡ None
reached_first s id attr value is =
    none_first (unreached_in s id) (or_else (unknown_in s attr) (unknown_in s value))
    (none_later (unknown_in s id) (or_else (unreached_in s id) (or_else (unknown_in s attr) (unknown_in s value))) is)

unreached_stands : (s : Session) (o : Operand) → unreached_in s o ≡ None → (symbol : Sym) × (symbol_in s.labels o ≡ Some symbol)
unreached_stands s (is_symbol symbol) is = (symbol, refl)
unreached_stands s (is_label name) is = by (label_in s.labels name) refl is
  where
    by : (o : Option Sym) → label_in s.labels name ≡ o → unreached_label s name o ≡ None → (symbol : Sym) × (symbol_in s.labels (is_label name) ≡ Some symbol)
    by (Some symbol) stands e = (symbol, stands)
    by None stands e = absurd (cc)

-- a reached operand stands for a symbol
pub id_stands : (s : Session) (id attr value : Operand) → first_unknown true s id attr value ≡ None → (symbol : Sym) × (symbol_in s.labels id ≡ Some symbol)
id_stands s id attr value is = unreached_stands s id (reached_first s id attr value is)

-- ---- what the letters gave

given_numbered : (a : Agent) (s : Sym) → is_given a s ≡ true → IsNumbered a.names.letters s
given_numbered a (Ident letter number) is = grind (arith, nat_tests, is)
given_numbered a (Word word) is = tt
given_numbered a (Int value) is = tt

unknown_numbered : (s : Session) (o : OperandRead) → unknown_in s (operand_seen o) ≡ None → IsOperandNumbered s.agent.names.letters o
unknown_numbered s (operand.Label name) is = tt
unknown_numbered s (operand.Symbol symbol) is = by (is_given s.agent symbol) refl is
  where
    by : (b : Bool) → is_given s.agent symbol ≡ b → (if b then None else Some (symbol_text s.agent.names.words symbol)) ≡ None → IsNumbered s.agent.names.letters symbol
    by true given e = given_numbered s.agent symbol given
    by false given e = absurd (cc)

pub addition_numbered : (s : Session) (reached : Bool) (addition : Addition) → first_unknown reached s (operand_seen addition.id) (operand_seen addition.attr) (operand_seen addition.value) ≡ None
    → IsAdditionNumbered s.agent.names.letters addition
addition_numbered s reached addition is =
    let id : Option (List ℕ) = unknown_in s (operand_seen addition.id) in
    let attr : Option (List ℕ) = unknown_in s (operand_seen addition.attr) in
    let value : Option (List ℕ) = unknown_in s (operand_seen addition.value) in
    let unreached : Option (List ℕ) = if reached then unreached_in s (operand_seen addition.id) else None in
    let behind : or_else attr value ≡ None = none_later unreached (or_else attr value) (none_later id (or_else unreached (or_else attr value)) is) in
    record {
      id_numbered = unknown_numbered s addition.id (none_first id (or_else unreached (or_else attr value)) is);
      attr_numbered = unknown_numbered s addition.attr (none_first attr value behind);
      value_numbered = unknown_numbered s addition.value (none_later attr value behind);
    }

pub operand_stays : (old new : List ℕ) (o : OperandRead) → LettersGrow old new → IsOperandNumbered old o → IsOperandNumbered new o
operand_stays old new (operand.Symbol symbol) grows numbered = given_stay_given old new symbol grows numbered
operand_stays old new (operand.Label name) grows numbered = tt

-- ---- what is done

-- unless the identifier is not of the top level, or its attribute is reserved
unless_barred : Sym → Sym → Carried → Holding → Carried
unless_barred id attr c h =
    if not (elim (level h.goals (map triple_of h.elements) id) as (λ _. Bool) [ Some n ↦ n == 1 | None ↦ false ]) then refuses not_of_the_top_state
    else if is_operator_slot h.goals id attr then refuses reserved_attribute
    else c

-- once the first two operands were resolved
spelled_after : Operand → Resolved → Resolved → Spelled
spelled_after value first second =
    let v : Resolved = resolved second.session value in
    record { session = v.session; triple = plain_triple first.symbol second.symbol v.symbol; totals = first.totals ++ (second.totals ++ v.totals) }

spelled_given : (s : Session) (id attr value : Operand) (i a : Sym) → symbol_in s.labels id ≡ Some i → symbol_in s.labels attr ≡ Some a → spelled s id attr value ≡ spelled_by i a (resolved s value)
unfolding spelled_after
spelled_given s id attr value i a id_is attr_is =
    ap (λ (r : Resolved). spelled_after value r (resolved r.session attr)) (resolved_standing s id i id_is)
    ∙ ap (λ (r : Resolved). spelled_after value (standing s i) r) (resolved_standing s attr a attr_is)

-- in the session in which the value stands for a symbol, the levels and the goals are the same
adds_given : (s : Session) (id attr value : Operand) (i a : Sym) → symbol_in s.labels id ≡ Some i → symbol_in s.labels attr ≡ Some a → added (spelled s id attr value) ≡ adds_at_top i a value s
unfolding unless_barred
adds_given s id attr value i a id_is attr_is =
    ap added (spelled_given s id attr value i a id_is attr_is)
    ∙ ap (unless_barred i a (unless_twice (spelled_by i a (resolved s value)))) (resolved_holding s value)

-- ---- an addition whose first operands stand for symbols

pub attribute_stands : (words : Texts) (labels : List Label) (o : OperandRead) → IsAttributeKnown words o → (symbol : Sym) × (symbol_in labels (operand_seen o) ≡ Some symbol)
attribute_stands words labels (operand.Symbol symbol) known = (symbol, refl)
attribute_stands words labels (operand.Label name) known = absurd known

pub given_adds : {M : Type 0} (old same new : SessionKept M) (from : List ℕ) (line : ℕ) (id attr value : Operand) (i a : Sym) (history : List RecordedFiring) (before after : List ℕ) (result : Result Outcome Stop)
    → symbol_in (map label_seen old.labels) id ≡ Some i → symbol_in (map label_seen old.labels) attr ≡ Some a → same ≡ old
    → Responds same.agent.parts.settings.watch same.agent.mid_line (response_by from line (session_of same history) (adds_at_top i a value (session_of same history))) new before after result
    → Responds old.agent.parts.settings.watch old.agent.mid_line (response_by from line (session_of old history) (added (spelled (session_of old history) id attr value))) new before after result
given_adds {M = M} old same new from line id attr value i a history before after result id_is attr_is is obeys =
    let s : Session = session_of old history in
    subst (λ (c : Carried). Responds old.agent.parts.settings.watch old.agent.mid_line (response_by from line s c) new before after result)
    (sym (adds_given s id attr value i a id_is attr_is))
    (subst (λ (t : SessionKept M). Responds t.agent.parts.settings.watch t.agent.mid_line (response_by from line (session_of t history) (adds_at_top i a value (session_of t history))) new before after result) is obeys)
