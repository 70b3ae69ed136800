-- What operands stand for, and the identifiers that labels become.
use Rattle.std.specs.Prelude.{ℕ, ◌+◌, List, Option, Some}
use Rattle.soar_sym.specs.Letters.{last_of}
use Rattle.soar_sym.specs.declared.symbol.Sym.{Sym}
use Rattle.soar_sym.specs.declared.symbol.Sym.TheVariants.{Ident}
use Rattle.defs_soar.specs.Naming.{letter_from}
use Rattle.defs_run.specs.Orders.{Operand, is_symbol, is_label}
use Rattle.defs_run.specs.Sessions.{Label, label_in}

-- the symbol that an operand stands for already
abbrev pub symbol_in : List Label → Operand → Option Sym
symbol_in labels (is_symbol symbol) = Some symbol
symbol_in labels (is_label name) = label_in labels name

-- the identifier that a label becomes
abbrev pub next_identifier : List ℕ → List ℕ → Sym
next_identifier letters name = Ident (letter_from name) (last_of letters (letter_from name) + 1)
