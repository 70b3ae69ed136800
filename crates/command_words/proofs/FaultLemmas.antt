-- What clap says of the words of the command line: its faults, and where there is none its rows.
use Rattle.std.proofs.Common.{◌≡◌, ◌∙◌, ap, refl, sym, Bool, true, false, List, [], ◌∷◌, Option, Some, None, is_some, if◌then◌else◌, fold}
use Rattle.clap.specs.Simple.{built, entered, matches_of}
use Rattle.clap.specs.Faults.{check_fault, defaults_fault, entered_fault, fault_of, settle_fault, walk_fault}
use Rattle.clap.specs.Kinds.{Kinds, or_else}
use Rattle.clap.specs.Walk.{Held, Row, Text, Walk, finished, nothing_held, settled, walk, walk_from, walked}
use Rattle.command_words.specs.Command.{none_if, rows_found, words_command}
use Rattle.command_words.proofs.Walking.{arguments, rows_from, shape, turn_kinds}

or_else_none : (a : Kinds) → or_else a [] ≡ a
or_else_none [] = refl
or_else_none (k ∷ ks) = refl

-- the walk's end
abbrev last_held : Walk → List Text → Held
last_held w words = (fold (walked arguments []) w words).held

abbrev all_faults : Walk → List Text → Kinds
all_faults w words = or_else (walk_fault shape [] w words) (settle_fault arguments false (last_held w words))

pub rows_of_walk : (words : List Text) (w : Walk) → rows_from w words ≡ none_if (all_faults w words) (Some (settled arguments (last_held w words)).rows)
unfolding walk_fault
rows_of_walk [] w = refl
rows_of_walk (word ∷ words) w = go (turn_kinds w word) (rows_of_walk words (walked arguments [] w word))
  where
    go : (t : Kinds) → rows_from (walked arguments [] w word) words ≡ none_if (all_faults (walked arguments [] w word) words) (Some (settled arguments (last_held (walked arguments [] w word) words)).rows)
        → none_if t (rows_from (walked arguments [] w word) words)
        ≡ none_if (or_else (or_else t (walk_fault shape [] (walked arguments [] w word) words)) (settle_fault arguments false (last_held (walked arguments [] w word) words)))
        (Some (settled arguments (last_held (walked arguments [] w word) words)).rows)
    go [] rest = rest
    go (k ∷ ks) rest = refl

-- no argument has a default
same_either : {X : Type 0} (b : Bool) (x : X) → (if b then x else x) ≡ x
same_either true x = refl
same_either false x = refl

finished_rows : (h : Held) → finished arguments h ≡ (settled arguments h).rows
finished_rows h = simp same_either refl

no_defaults : (rows : List Row) → defaults_fault rows arguments ≡ []
unfolding defaults_fault
no_defaults rows = simp same_either refl

no_check : (rows : List Row) (has_subcommand : Bool) → check_fault shape rows has_subcommand ≡ []
no_check rows true = refl
no_check rows false = refl

no_subcommand : (stop : Option (Text × List Text)) → entered_fault (built words_command) stop ≡ []
no_subcommand None = refl
no_subcommand (Some p) = refl

faults_are : (words : List Text) → fault_of words_command words ≡ all_faults (walk_from nothing_held) words
faults_are words =
    let w = walk arguments [] nothing_held words in
    ap (λ below. or_else (walk_fault shape [] (walk_from nothing_held) words) (or_else below (or_else (settle_fault arguments false w.held)
    (or_else (defaults_fault (settled arguments w.held).rows arguments) (check_fault shape (finished arguments w.held) (is_some (entered (built words_command) w.stopped))))))) (no_subcommand w.stopped)
    ∙ (ap (λ defaults. or_else (walk_fault shape [] (walk_from nothing_held) words) (or_else (settle_fault arguments false w.held)
    (or_else defaults (check_fault shape (finished arguments w.held) (is_some (entered (built words_command) w.stopped)))))) (no_defaults (settled arguments w.held).rows)
    ∙ (ap (λ checks. or_else (walk_fault shape [] (walk_from nothing_held) words) (or_else (settle_fault arguments false w.held) checks)) (no_check (finished arguments w.held) (is_some (entered (built words_command) w.stopped)))
    ∙ ap (or_else (walk_fault shape [] (walk_from nothing_held) words)) (or_else_none (settle_fault arguments false w.held))))

-- the rows that clap finds, unless it has a fault
pub clap_rows : (words : List Text) → rows_found words ≡ rows_from (walk_from nothing_held) words
clap_rows words =
    ap (λ kinds. none_if kinds (Some (matches_of words_command words))) (faults_are words)
    ∙ (ap (λ rows. none_if (all_faults (walk_from nothing_held) words) (Some rows)) (finished_rows (last_held (walk_from nothing_held) words))
    ∙ sym (rows_of_walk words (walk_from nothing_held)))
