-- The walk of clap over the words of the command line.
use Rattle.std.proofs.Common.{◌≡◌, Bool, true, false, ◌&&◌, not, List, [], ◌∷◌, Option, Some, None, unwrap_or, codes}
use Rattle.std.specs.Prelude.{option_map}
use Rattle.clap.specs.Simple.{Shape, built, filled, with_index}
use Rattle.clap.specs.Faults.{settle_fault, turn_fault, use_fault}
use Rattle.clap.specs.Kinds.{Kinds}
use Rattle.clap.specs.Walk.{Held, Row, Rule, Text, Waiting, option, Walk, all_of, settled, settled_rows, used, walked}
use Rattle.command_words.specs.Command.{file_rule, generate_rule, none_if, watch_rule, words_command}
use Rattle.command_words.specs.Given.{Given, State, between, awaits, names, refused, given_option}

-- the command when it is built, and its arguments
abbrev pub shape : Shape
shape = (built words_command).top

abbrev pub arguments : List Rule
arguments = (built words_command).top.rules

-- ---- the options

abbrev pub id_of : Bool → Text
id_of true = codes "watch"
id_of false = codes "generate"

abbrev pub option_rule : Bool → Rule
option_rule true = with_index 1 (filled watch_rule)
option_rule false = with_index 1 (filled generate_rule)

abbrev pub name_rule : Rule
name_rule = with_index 1 (filled file_rule)

-- ---- where the walk stands

abbrev pub Pending : Type 0
Pending = Option (Text × List Text)

abbrev pub held_at : List Row → Pending → Held
held_at rows pending = record { rows = rows; pending = pending; skip = 0 }

abbrev pub walk_at : List Row → Pending → Waiting → Bool → Walk
walk_at rows pending waiting is_trailing = record { held = held_at rows pending; waiting = waiting; position = 1; is_trailing = is_trailing; stopped = None }

abbrev pub fails : Kinds → Bool
fails [] = false
fails (k ∷ ks) = true

-- the faults of what is pending, if it were settled now
abbrev pub late_kinds : List Row → Pending → Kinds
late_kinds rows pending = settle_fault arguments false (held_at rows pending)

abbrev pub turn_kinds : Walk → Text → Kinds
turn_kinds w word = turn_fault shape [] w word

-- the rows at the end of the words, unless there is a fault
abbrev pub rows_from : Walk → List Text → Option (List Row)
rows_from w [] = none_if (settle_fault arguments false w.held) (Some (settled arguments w.held).rows)
rows_from w (word ∷ words) = none_if (turn_kinds w word) (rows_from (walked arguments [] w word) words)

-- ---- what it has found

-- the rows are of what was given
pub record Tells (rows : List Row) (g : Given) : Type 0 where
  pub watch : all_of (codes "watch") rows ≡ option_map (λ text. text ∷ []) g.watch
  pub generate : all_of (codes "generate") rows ≡ option_map (λ text. text ∷ []) g.generate
  pub files : unwrap_or (all_of (codes "file") rows) [] ≡ g.files

abbrev pub Settles : List Row → Pending → Given → Type 0
Settles rows pending g = (late_kinds rows pending ≡ []) × Tells (settled_rows arguments pending rows) g

abbrev pub is_option : Waiting → Bool
is_option (option id) = true
is_option _ = false

-- where the walk and the reading stand alike. What is pending and faulty was refused before
abbrev pub Stands : List Row → Pending → Waiting → Bool → State → Type 0
Stands rows pending waiting is_trailing (between g) = (is_option waiting ≡ false) × (is_trailing ≡ false) × Settles rows pending g
Stands rows pending waiting is_trailing (awaits is_watch g) = (waiting ≡ option (id_of is_watch)) × (is_trailing ≡ false) × (pending ≡ Some (id_of is_watch, [])) × Tells rows g
Stands rows pending waiting is_trailing (names g) = (is_trailing ≡ true) × Settles rows pending g
Stands rows pending waiting is_trailing refused = ((is_option waiting && not is_trailing) ≡ false) × (fails (late_kinds rows pending) ≡ true)

-- both refuse, or both take the words alike
abbrev pub Agrees : Option (List Row) → Option Given → Type 0
Agrees None None = Unit {0}
Agrees (Some rows) (Some g) = Tells rows g
Agrees _ _ = ⊥

-- an option with this text is one more, or one too many
abbrev pub UsesOnce : Bool → Text → List Row → Given → Type 0
UsesOnce is_watch text rows g = (g' : Given) × (given_option is_watch text g ≡ between g') × (use_fault false (option_rule is_watch) (text ∷ []) rows ≡ [])
    × Tells (used (option_rule is_watch) (text ∷ []) rows) g'

abbrev pub UsesTwice : Bool → Text → List Row → Given → Type 0
UsesTwice is_watch text rows g = (given_option is_watch text g ≡ refused) × (fails (use_fault false (option_rule is_watch) (text ∷ []) rows) ≡ true)
