-- How commands are read once all are built (the forms are this engine's).
use Rattle.std.specs.Prelude.{ℕ, ◌+◌, true, false, ◌==◌, nat_lt, List, [], ◌∷◌, ◌++◌, map, drop, length, Option, Some, None, Result, Ok, Err, if◌then◌else◌, codes}
use Rattle.std.specs.Fmt.{decimal}
use Rattle.std.specs.List.{prefix_len}
use Rattle.std.specs.Str.{bytes_eq}
use Rattle.std.specs.Str.Lossy.{utf8_valid_len}
use Rattle.soar_sym.specs.Words.{Texts}
use Rattle.soar_sym.specs.declared.symbol.Sym.{Sym}
use Rattle.soar_edge.specs.Cutting.{Inside, open_text, after_byte, is_comment}
use Rattle.soar_rule.specs.Checking.{Fault, no_state, unbound, unconnected, too_many, too_deep, bad_preference, ordered}
use Rattle.soar_rule.specs.Productions.{ProductionOf}
use Rattle.defs_text.specs.Bytes.{is_blank}
use Rattle.defs_text.specs.Lexing.{Spelled, Lexed, lexed}
use Rattle.defs_text.specs.Lexing as lexing
use Rattle.defs_text.specs.Numbered.{words_after}
use Rattle.defs_text.specs.Runs.{is_empty}
use Rattle.defs_read.specs.Expansion.{production_of}
use Rattle.defs_read.specs.Grammar.{Tree}
use Rattle.defs_read.specs.PrintingConditions.{atom_text}
use Rattle.soar_rule.specs.declared.cond.Atom.TheVariants.{Var}
use Rattle.defs_read.specs.Readers.{Stop, unexpected, deep}
use Rattle.defs_read.specs.ReadingActions.{tree_of}
use Rattle.defs_run.specs.Arguments.{Argument, argument_in}
use Rattle.defs_run.specs.CommandForms.{Form, forms, form_in}
use Rattle.defs_run.specs.Commands.{first_run}
use Rattle.defs_run.specs.Orders.{Order, load, source, Refusal, refusal, at_byte, unknown_command, wrong_words}
use Rattle.defs_run.specs.RandomReading.{random_lexed, random_order}
use Rattle.defs_run.specs.Stages.{Reading}

-- ---- refusals that the words alone decide

abbrev pub of_lexing : lexing.Fault → Refusal
of_lexing (lexing.bad_byte n) = at_byte 12 (codes "bad byte") n
of_lexing (lexing.float_number n) = at_byte 13 (codes "floating-point number") n
of_lexing (lexing.wide_number n) = at_byte 14 (codes "number too wide") n
of_lexing (lexing.open_string n) = at_byte 15 (codes "open string") n

abbrev pub of_stop : Stop → ℕ → Refusal
of_stop unexpected place = at_byte 16 (codes "unexpected token") place
of_stop deep place = at_byte 17 (codes "nesting too deep") place

abbrev pub of_check : Texts → List Sym → Fault → Refusal
of_check words vars no_state = refusal 20 (codes "no state condition")
of_check words vars (unbound v) = refusal 21 (codes "unbound variable " ++ atom_text (record { words = words; vars = vars }) (Var v))
of_check words vars (unconnected k) = refusal 22 (codes "unconnected condition " ++ decimal k)
of_check words vars (too_many n) = refusal 23 (codes "too many " ++ decimal n)
of_check words vars too_deep = refusal 24 (codes "too deep")
of_check words vars bad_preference = refusal 25 (codes "preference for an ordinary attribute")

-- ---- productions

-- the place of the first of so many tokens that are left, or behind the last one
abbrev pub place_left : ℕ → List Spelled → ℕ → ℕ
place_left behind [] left = behind
place_left behind (t ∷ tokens) left = if length (t ∷ tokens) == left then t.start else place_left t.end tokens left

-- what a production asks for at a stage, or its refusal
abbrev pub Judge : Type 0
Judge = Texts → ProductionOf → Result Order Refusal

abbrev pub of_ordered : Texts → ProductionOf → Result ProductionOf Fault → Result Order Refusal
of_ordered words p (Ok q) = Ok (load q)
of_ordered words p (Err why) = Err (of_check words p.vars why)

abbrev pub checked : Judge
checked words p = of_ordered words p (ordered p)

-- the fresh variables of a production join the table
abbrev pub read_tree : Judge → Texts → List Spelled → Result Tree (Stop × ℕ) → Reading
read_tree judge words tokens (Err stop) = record { words = words; order = Err (of_stop stop.0 (place_left 0 tokens stop.1)) }
read_tree judge words tokens (Ok tree) = let r = production_of words (map (λ t. t.says) tokens) tree in record { words = r.words; order = judge r.words r.production }

-- the words of the tokens up to the first fault join the table
abbrev pub unless_faulty : Texts → Lexed → (Texts → List Spelled → Reading) → Reading
unless_faulty words l f = let read = words_after words l.tokens in elim (l.fault) [ Some e ↦ record { words = read; order = Err (of_lexing e) } | None ↦ f read l.tokens ]

abbrev pub read_tokens : Judge → Texts → List Spelled → Reading
read_tokens judge words tokens = read_tree judge words tokens (tree_of (map (λ t. t.says) tokens))

abbrev pub read_sp : Judge → Texts → List ℕ → Reading
read_sp judge words text = unless_faulty words (lexed text) (read_tokens judge)

-- ---- files

-- the bytes before a comment
abbrev pub before_comment : Inside → List ℕ → List ℕ
before_comment inside [] = []
before_comment inside (b ∷ bytes) = let next = after_byte inside b in elim (is_comment next) [ true ↦ [] | false ↦ b ∷ before_comment next bytes ]

abbrev pub without_front_blanks : List ℕ → List ℕ
without_front_blanks bytes = drop (prefix_len is_blank bytes) bytes

abbrev pub reversed : List ℕ → List ℕ → List ℕ
reversed done [] = done
reversed done (b ∷ bytes) = reversed (b ∷ done) bytes

abbrev pub without_end_blanks : List ℕ → List ℕ
without_end_blanks bytes = reversed [] (without_front_blanks (reversed [] bytes))

-- where the name begins
abbrev pub name_start : List ℕ → ℕ
name_start text = let n = length (first_run text) in n + prefix_len is_blank (drop n text)

abbrev pub file_name : List ℕ → List ℕ
file_name text = without_end_blanks (without_front_blanks (before_comment open_text (drop (length (first_run text)) text)))

abbrev pub source_order : List ℕ → List ℕ → Result Order Refusal
source_order text name =
    if nat_lt (utf8_valid_len name) (length name) then Err (at_byte 12 (codes "bad byte") (name_start text + utf8_valid_len name))
    else if is_empty name then Err wrong_words else Ok (source name)

-- `source` adds no words
abbrev pub read_source : Texts → List ℕ → Reading
read_source words text = record { words = words; order = source_order text (file_name text) }

-- ---- the forms of the other commands

abbrev pub or_wrong : Option Order → Result Order Refusal
or_wrong (Some order) = Ok order
or_wrong None = Err wrong_words

-- the arguments behind the command's word
abbrev pub read_arguments : Texts → List ℕ → Lexed → (Texts → List Argument → Option Order) → Reading
read_arguments words text l order =
    unless_faulty words l (λ read tokens. record { words = read; order = or_wrong (order read (drop 1 (map (argument_in text) tokens))) })

-- ---- all commands

abbrev pub by_form : Texts → List ℕ → Option Form → Reading
by_form words text None = record { words = words; order = Err unknown_command }
by_form words text (Some f) = read_arguments words text (lexed text) f.order

-- the order of a command, or its refusal, and the table with its words
unfoldable pub read_whole : Texts → List ℕ → Reading
read_whole words text =
    let word = first_run text in
    if bytes_eq word (codes "sp") then read_sp checked words text
    else if bytes_eq word (codes "source") then read_source words text
    else if bytes_eq word (codes "random") then read_arguments words text (random_lexed 0 0 text) (λ read. random_order)
    else by_form words text (form_in forms word)
