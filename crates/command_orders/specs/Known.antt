-- Whether the table has the words of tokens and of orders.
use Rattle.std.specs.Prelude.{◌≡◌, ◌≤◌, true, false, List, [], ◌∷◌, Option, Some, None}
use Rattle.soar_sym.specs.Words.{Texts, has_text, IsKnown}
use Rattle.soar_rule.specs.AsItStands.{can_be_matched}
use Rattle.soar_rule.specs.Productions.{production_seen}
use Rattle.soar_rule.specs.Symbols.{AreKnown, symbols_of}
use Rattle.defs_text.specs.Lexing.{Saying, variable_named, word_of, Spelled}
use Rattle.defs_soar.specs.Pending.{is_justification}
use Rattle.defs_soar.specs.declared.choice.Mode.{Mode}
use Rattle.defs_soar.specs.declared.choice.Mode.TheVariants.{EpsilonGreedy}
use Rattle.defs_run.specs.declared.form.Addition.{Addition}
use Rattle.defs_run.specs.declared.form.Operand.{Operand}
use Rattle.defs_run.specs.declared.form.Operand.TheVariants.{Symbol, Label}
use Rattle.defs_run.specs.declared.form.Order.{Order}
use Rattle.defs_run.specs.declared.form.Order.TheVariants.{Load, Excise, Add, Queue, Watch, MatchesOf, Preferences, Print, Show, SelectBy, MaxElaborations, Explain}

-- the text of a word or variable of a token
abbrev pub IsSayingIn : Texts → Saying → Type 0
IsSayingIn words (variable_named name) = has_text words name ≡ true
IsSayingIn words (word_of text bare) = has_text words text ≡ true
IsSayingIn words other = Unit {0}

-- so it is once the tokens were read
abbrev pub AreSpelledIn : Texts → List Spelled → Type 0
AreSpelledIn words [] = Unit {0}
AreSpelledIn words (t ∷ tokens) = IsSayingIn words t.says × AreSpelledIn words tokens

-- ---- the symbols of an order

abbrev pub IsOperandKnown : Texts → Operand → Type 0
IsOperandKnown words (Symbol symbol) = IsKnown words symbol
IsOperandKnown words (Label name) = Unit {0}

-- an attribute is no label
abbrev pub IsAttributeKnown : Texts → Operand → Type 0
IsAttributeKnown words (Symbol symbol) = IsKnown words symbol
IsAttributeKnown words (Label name) = ⊥

pub record IsAdditionKnown (words : Texts) (addition : Addition) : Type 0 where
  pub id : IsOperandKnown words addition.id
  pub attr : IsAttributeKnown words addition.attr
  pub value : IsOperandKnown words addition.value

-- a probability of at most 1, in parts of at most a million
abbrev pub IsModeInRange : Mode → Type 0
IsModeInRange (EpsilonGreedy p q) = (p ≤ q) × (1 ≤ q) × (q ≤ 1000000)
IsModeInRange other = Unit {0}

-- a production to load is no justification, and can be matched as it stands
abbrev pub IsOrderKnown : Texts → Order → Type 0
IsOrderKnown words (Load production) =
    AreKnown words (symbols_of (production_seen production)) × (is_justification production.kind ≡ false) × (can_be_matched (production_seen production) ≡ true)
IsOrderKnown words (Excise name) = IsKnown words name
IsOrderKnown words (Add addition) = IsAdditionKnown words addition
IsOrderKnown words (Queue adds addition) = IsAdditionKnown words addition
IsOrderKnown words (Watch level) = level ≤ 5
IsOrderKnown words (MatchesOf name) = IsKnown words name
IsOrderKnown words (Preferences id attr) = IsOperandKnown words id × IsAttributeKnown words attr
IsOrderKnown words (Print id) = IsOperandKnown words id
IsOrderKnown words (Show name) = IsKnown words name
IsOrderKnown words (SelectBy mode) = IsModeInRange mode
IsOrderKnown words (MaxElaborations count) = (1 ≤ count) × (count ≤ 10000)
IsOrderKnown words (Explain name) = IsKnown words name
IsOrderKnown words other = Unit {0}

abbrev pub IsOrderRead : Texts → Option Order → Type 0
IsOrderRead words (Some order) = IsOrderKnown words order
IsOrderRead words None = Unit {0}
