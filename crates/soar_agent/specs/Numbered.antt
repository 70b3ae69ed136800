-- Identifiers that the letters gave: what labels and operands name may stand in what an agent takes in.
use Rattle.std.specs.Prelude.{ℕ, List, [], ◌∷◌}
use Rattle.soar_sym.specs.declared.symbol.Triple.{Triple}
use Rattle.defs_run.specs.declared.form.Addition.{Addition}
use Rattle.defs_run.specs.declared.form.Operand.{Operand}
use Rattle.defs_run.specs.declared.form.Operand.TheVariants as operand
use Rattle.learning_laws.specs.LawfulAgents.{IsNumbered}
use Rattle.command_labels.specs.declared.label.Label.{Label}
use Rattle.session_parts.specs.declared.slot.Slot.{Slot}

-- those that labels stand for
abbrev pub AreLabelsNumbered : List ℕ → List Label → Type 0
AreLabelsNumbered letters [] = Unit {0}
AreLabelsNumbered letters (l ∷ labels) = IsNumbered letters l.symbol × AreLabelsNumbered letters labels

-- that of an operand that is no label
abbrev pub IsOperandNumbered : List ℕ → Operand → Type 0
IsOperandNumbered letters (operand.Symbol symbol) = IsNumbered letters symbol
IsOperandNumbered letters (operand.Label name) = Unit {0}

pub record IsAdditionNumbered (letters : List ℕ) (addition : Addition) : Type 0 where
  pub id_numbered : IsOperandNumbered letters addition.id
  pub attr_numbered : IsOperandNumbered letters addition.attr
  pub value_numbered : IsOperandNumbered letters addition.value

abbrev pub IsSlotNumbered : List ℕ → Slot → Type 0
IsSlotNumbered letters slot = IsNumbered letters slot.id × IsNumbered letters slot.attr

abbrev pub IsTripleNumbered : List ℕ → Triple → Type 0
IsTripleNumbered letters t = IsNumbered letters t.id × IsNumbered letters t.attr × IsNumbered letters t.value
