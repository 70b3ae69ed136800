-- The symbols that orders on inputs give: words of the table, numbers, and identifiers that the agent's letters gave.
use Rattle.std.specs.Prelude.{◌≡◌, Bool, true, List, length, None}
use Rattle.soar_wm.specs.declared.element.Element.{Element}
use Rattle.soar_wm.specs.WorkingMemory.{triple_of}
use Rattle.defs_soar.specs.Agents.{Agent, Names}
use Rattle.defs_soar.specs.Laws.{IsIn}
use Rattle.defs_soar.specs.Values.{is_identifier}
use Rattle.defs_run.specs.Inputs.{first_unknown, spelled}
use Rattle.defs_run.specs.Orders.{Operand}
use Rattle.defs_run.specs.Sessions.{Label, resolved, Session, unknown_in}
use Rattle.learning_laws.specs.LawfulAgents.{AreGiven, IsGiven, IsLawfulAgent, symbols_of_triple}
use Rattle.letter_laws.specs.Grows.{LettersGrow}
use Rattle.loading_laws.specs.Orders.{AreOperandsKnown, IsOperandKnown}

-- each stands for an identifier that the letters gave
abbrev pub AreLabelsGiven : Names → List Label → Type 0
AreLabelsGiven names labels = (l : Label) → IsIn l labels → (is_identifier l.symbol ≡ true) × IsGiven names l.symbol

-- the letters are from A to Z, and gave the labels
pub record HasGivenLabels (s : Session) : Type 0 where
  pub letters : length s.agent.names.letters ≡ 26
  pub labels : AreLabelsGiven s.agent.names s.labels

-- what was given stays given
abbrev pub LabelsStayGiven : Type 0
LabelsStayGiven = (old new : Names) (labels : List Label) → LettersGrow old.letters new.letters → AreLabelsGiven old labels → AreLabelsGiven new labels

-- ---- operands

-- a label that is used for the first time is given too, and no identifier is taken back
abbrev pub ResolvingKeepsLabels : Type 0
ResolvingKeepsLabels = (s : Session) (o : Operand) → HasGivenLabels s → HasGivenLabels (resolved s o).session

abbrev pub ResolvingGrows : Type 0
ResolvingGrows = (s : Session) (o : Operand) → HasGivenLabels s → LettersGrow s.agent.names.letters (resolved s o).session.agent.names.letters

-- an operand that names no unknown identifier stands for a symbol that was given
abbrev pub OperandsAreGiven : Type 0
OperandsAreGiven =
    (s : Session) (o : Operand) → HasGivenLabels s → IsOperandKnown s.agent.names.words o → unknown_in s o ≡ None → IsGiven (resolved s o).session.agent.names (resolved s o).symbol

-- so the symbols of the triple that three operands spell were given
abbrev pub SpelledAreGiven : Type 0
SpelledAreGiven =
    (reached : Bool) (s : Session) (id attr value : Operand) → HasGivenLabels s → AreOperandsKnown s.agent.names.words id attr value → first_unknown reached s id attr value ≡ None
    → HasGivenLabels (spelled s id attr value).session × AreGiven (spelled s id attr value).session.agent.names (symbols_of_triple (spelled s id attr value).triple)

-- and those of an element of working memory
abbrev pub ElementsAreGiven : Type 0
ElementsAreGiven = (a : Agent) (e : Element) → IsLawfulAgent a → IsIn e a.holding.elements → AreGiven a.names (symbols_of_triple (triple_of e))

-- ---- the agent

-- it stays lawful when an operand makes a label, and when three do
abbrev pub ResolvingKeepsAgents : Type 0
ResolvingKeepsAgents = (s : Session) (o : Operand) → IsLawfulAgent s.agent → IsLawfulAgent (resolved s o).session.agent

abbrev pub SpellingKeepsAgents : Type 0
SpellingKeepsAgents = (s : Session) (id attr value : Operand) → IsLawfulAgent s.agent → IsLawfulAgent (spelled s id attr value).session.agent
