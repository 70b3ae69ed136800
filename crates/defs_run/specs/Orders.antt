-- What a command asks for, and how it may be refused (Soar manual, chapter 9, the user interface; the texts are this engine's).
use Rattle.std.specs.Prelude.{ℕ, Bool, List, ◌∷◌, ◌++◌, codes}
use Rattle.std.specs.Fmt.{decimal}
use Rattle.soar_sym.specs.Words.{Texts}
use Rattle.soar_sym.specs.declared.symbol.Sym.{Sym}
use Rattle.soar_rule.specs.Productions.{ProductionOf}
use Rattle.defs_text.specs.Symbols.{symbol_text}
use Rattle.defs_soar.specs.declared.choice.Mode.{Mode}

-- a symbol, or a label by its name
pub data Operand : Type 0 where
  is_symbol : Sym → Operand
  is_label : List ℕ → Operand

-- an order for each form of the commands
pub data Order : Type 0 where
  load : ProductionOf → Order
  excise : Sym → Order
  source : List ℕ → Order
  add_wme : Operand → Operand → Operand → Order
  remove_wme : ℕ → Order
  queue : Bool → Operand → Operand → Operand → Order  -- to add, or to remove
  random : List ℕ → Order
  run_cycles : ℕ → Order
  watch : ℕ → Order
  matches : Order
  matches_of : Sym → Order
  preferences : Operand → Operand → Order
  print_id : Operand → Order
  print_name : Sym → Order
  print_memory print_rules print_chunks : Order
  chunk : Bool → Order
  local_negations : Bool → Order
  select_by : Mode → Order
  max_elaborations : ℕ → Order
  explain : Sym → Order
  stats init_soar quit : Order

-- ---- refusals

-- the number and the text
pub record Refusal : Type 0 where
  pub number : ℕ
  pub text : List ℕ

abbrev pub refusal : ℕ → List ℕ → Refusal
refusal number text = record { number = number; text = text }

abbrev pub unfinished_command : Refusal
unfinished_command = refusal 11 (codes "unfinished command")

abbrev pub unknown_command : Refusal
unknown_command = refusal 10 (codes "unknown command")

abbrev pub at_byte : ℕ → List ℕ → ℕ → Refusal
at_byte number text place = refusal number (text ++ (codes " at byte " ++ decimal place))

abbrev pub wrong_words : Refusal
wrong_words = refusal 30 (codes "wrong words")

abbrev pub unknown_identifier : List ℕ → Refusal
unknown_identifier text = refusal 31 (codes "unknown identifier " ++ text)

abbrev pub not_of_the_top_state : Refusal
not_of_the_top_state = refusal 38 (codes "not of the top state")

abbrev pub reserved_attribute : Refusal
reserved_attribute = refusal 36 (codes "reserved attribute")

abbrev pub already_there : ℕ → Refusal
already_there tag = refusal 35 (codes "already there as " ++ decimal tag)

abbrev pub no_production : Texts → Sym → Refusal
no_production words name = refusal 32 (codes "no production " ++ symbol_text words name)

abbrev pub not_a_learned_rule : Texts → Sym → Refusal
not_a_learned_rule words name = refusal 39 (codes "not a learned rule " ++ symbol_text words name)

abbrev pub no_element : ℕ → Refusal
no_element tag = refusal 33 (codes "no element " ++ decimal tag)

abbrev pub not_an_input : ℕ → Refusal
not_an_input tag = refusal 34 (codes "not an input element " ++ decimal tag)

abbrev pub halted : Refusal
halted = refusal 37 (codes "halted")

abbrev pub too_many_files : Refusal
too_many_files = refusal 42 (codes "too many files")

abbrev pub sources_too_deep : Refusal
sources_too_deep = refusal 41 (codes "sources too deep")

abbrev pub no_file : List ℕ → Refusal
no_file name = refusal 40 (codes "no file " ++ name)

-- `error NUMBER SOURCE:LINE: TEXT`
abbrev pub refusal_text : Refusal → List ℕ → ℕ → List ℕ
refusal_text r from line = codes "error " ++ (decimal r.number ++ (32 ∷ (from ++ (58 ∷ (decimal line ++ (codes ": " ++ r.text))))))
