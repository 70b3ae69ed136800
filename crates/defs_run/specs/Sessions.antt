-- The state of a session, what a command replies, and the labels in commands.
use Rattle.std.specs.Prelude.{ℕ, ◌+◌, Bool, true, false, not, nat_lt, List, [], ◌∷◌, ◌++◌, Option, Some, None, if◌then◌else◌, codes}
use Rattle.std.specs.Str.{bytes_eq}
use Rattle.soar_sym.specs.Letters.{last_of, with_last}
use Rattle.soar_sym.specs.declared.symbol.Sym.{Sym}
use Rattle.soar_sym.specs.declared.symbol.Sym.TheVariants.{Ident, Word, Int}
use Rattle.defs_text.specs.Symbols.{symbol_text}
use Rattle.defs_soar.specs.Agents.{Agent}
use Rattle.defs_soar.specs.Limits.{Total, identifiers_to}
use Rattle.defs_soar.specs.Naming.{letter_from}
use Rattle.defs_soar.specs.Start.{first_agent}
use Rattle.defs_soar.specs.Trace.{Piece, line}
use Rattle.defs_run.specs.Orders.{Operand, is_symbol, is_label, Refusal, refusal_text}

-- a label and its identifier
pub record Label : Type 0 where
  pub name : List ℕ
  pub symbol : Sym

-- `mid_line`: what was written so far ends in the middle of a line
pub record Session : Type 0 where
  pub agent : Agent
  pub labels : List Label
  pub mid_line : Bool

abbrev pub first_session : ℕ → Session
first_session watch = record { agent = first_agent watch; labels = []; mid_line = false }

-- ---- replies

-- what one step says, and what it draws
pub record Told : Type 0 where
  pub pieces : List Piece
  pub totals : List Total

-- what follows a command: the next one, the commands of a file, or the end
pub data Sequel : Type 0 where
  goes_on : Sequel
  sources : List ℕ → Sequel
  quits : Sequel

pub record Reply : Type 0 where
  pub session : Session
  pub told : List Told
  pub refused : Bool
  pub sequel : Sequel

abbrev pub replied : Session → List Told → Reply
replied s told = record { session = s; told = told; refused = false; sequel = goes_on }

abbrev pub quiet : Session → Reply
quiet s = replied s []

abbrev pub with_agent : Session → Agent → Session
with_agent s a = record s { agent = a }

-- text that is written at every level, a line each
abbrev pub as_lines : List (List ℕ) → List Piece
as_lines [] = []
as_lines (text ∷ texts) = line 0 text ∷ as_lines texts

abbrev pub says : Session → List (List ℕ) → Reply
says s texts = replied s (record { pieces = as_lines texts; totals = [] } ∷ [])

-- a refused command leaves the session as it was
abbrev pub refused_by : Refusal → List ℕ → ℕ → Session → Reply
refused_by r from number s = record (says s (refusal_text r from number ∷ [])) { refused = true }

abbrev pub draws : List Total → Reply → Reply
draws totals reply = record reply { told = record { pieces = []; totals = totals } ∷ reply.told }

-- ---- labels

abbrev pub label_in : List Label → List ℕ → Option Sym
label_in [] name = None
label_in (l ∷ labels) name = if bytes_eq l.name name then Some l.symbol else label_in labels name

-- a session in which an operand stands for a symbol
pub record Resolved : Type 0 where
  pub session : Session
  pub symbol : Sym
  pub totals : List Total

abbrev pub with_label : Session → List ℕ → ℕ → ℕ → Resolved
with_label s name letter number = record {
  session = record s {
    agent = record s.agent { names = record s.agent.names { letters = with_last s.agent.names.letters letter number } };
    labels = s.labels ++ record { name = name; symbol = Ident letter number } ∷ [];
  };
  symbol = Ident letter number;
  totals = identifiers_to number ∷ [];
}

-- a label that is used for the first time becomes a new identifier
abbrev pub labelled : Session → List ℕ → Option Sym → Resolved
labelled s name (Some symbol) = record { session = s; symbol = symbol; totals = [] }
labelled s name None = with_label s name (letter_from name) (last_of s.agent.names.letters (letter_from name) + 1)

abbrev pub resolved : Session → Operand → Resolved
resolved s (is_symbol symbol) = record { session = s; symbol = symbol; totals = [] }
resolved s (is_label name) = labelled s name (label_in s.labels name)

-- ---- identifiers that were never given

abbrev pub is_given : Agent → Sym → Bool
is_given a (Ident letter number) = not (nat_lt (last_of a.names.letters letter) number)
is_given a (Word word) = true
is_given a (Int value) = true

-- the text of an operand that names no identifier there is
abbrev pub unknown_in : Session → Operand → Option (List ℕ)
unknown_in s (is_symbol symbol) = if is_given s.agent symbol then None else Some (symbol_text s.agent.names.words symbol)
unknown_in s (is_label name) = None

-- a label with its brackets
abbrev pub bracketed : List ℕ → List ℕ
bracketed name = codes "<" ++ (name ++ codes ">")
