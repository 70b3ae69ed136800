-- Orders that keep an agent lawful, and that commands are read as such.
use Rattle.std.specs.Prelude.{◌≡◌, ℕ, ◌≤◌, List, length, Ok}
use Rattle.soar_sym.specs.Words.{IsKnown, Texts}
use Rattle.defs_run.specs.Orders.{Operand, is_symbol, is_label, Order, load, add_wme, queue}
use Rattle.defs_run.specs.Present.{read_present}
use Rattle.defs_run.specs.Stages.{Reading}
use Rattle.defs_run.specs.WholeReading.{read_whole}
use Rattle.learning_laws.specs.Lawful.{Grown}
use Rattle.learning_laws.specs.LawfulAgents.{EachOnce}
use Rattle.loading_laws.specs.Literals.{MayBeLoaded}

-- a word of the table, a number, an identifier with a capital letter, or a label
abbrev pub IsOperandKnown : Texts → Operand → Type 0
IsOperandKnown words (is_symbol symbol) = IsKnown words symbol
IsOperandKnown words (is_label name) = Unit {0}

pub record AreOperandsKnown (words : Texts) (id attr value : Operand) : Type 0 where
  pub id_known : IsOperandKnown words id
  pub attr_known : IsOperandKnown words attr
  pub value_known : IsOperandKnown words value

-- its production may be loaded, and the symbols of its element are known
abbrev pub IsLawfulOrder : Texts → Order → Type 0
IsLawfulOrder words (load p) = MayBeLoaded words p
IsLawfulOrder words (add_wme id attr value) = AreOperandsKnown words id attr value
IsLawfulOrder words (queue adds id attr value) = AreOperandsKnown words id attr value
IsLawfulOrder words other = Unit {0}

-- Words join the table, in which each text stands once still, and the order that is read is lawful. The words of the start are in the table.
pub record ReadsLawfully (read : Texts → List ℕ → Reading) : Type 0 where
  pub grown : (words : Texts) (text : List ℕ) → Grown words (read words text).words
  pub once : (words : Texts) (text : List ℕ) → EachOnce words → EachOnce (read words text).words
  pub orders : (words : Texts) (text : List ℕ) (order : Order) → 24 ≤ length words → (read words text).order ≡ Ok order → IsLawfulOrder (read words text).words order

-- so do the whole program and the present one
abbrev pub WholeReadsLawfully : Type 0
WholeReadsLawfully = ReadsLawfully read_whole

abbrev pub PresentReadsLawfully : Type 0
PresentReadsLawfully = ReadsLawfully read_present
