-- What the words give as texts, before the numbers are read. No public clause cites this module.
use Rattle.std.specs.Prelude.{ℕ, Bool, true, false, List, [], ◌∷◌, ◌++◌, Option, Some, None, option_map, is_some, unwrap_or, if◌then◌else◌, fold, codes}
use Rattle.std.specs.Str.{bytes_eq}
use Rattle.clap.specs.Lexer.{long_of, short_of}
use Rattle.clap.specs.Words.{Row, all_of, first_of}
use Rattle.defs_run.specs.CommandLine.{Options, number_between}

-- the texts behind the options, and the names of files
pub record Given : Type 0 where
  pub watch : Option (List ℕ)
  pub generate : Option (List ℕ)
  pub files : List (List ℕ)

abbrev pub nothing_given : Given
nothing_given = record { watch = None; generate = None; files = [] }

-- ---- the numbers

abbrev pub number_in : ℕ → ℕ → Option (List ℕ) → Option (Option ℕ)
number_in low high None = Some None
number_in low high (Some text) = option_map Some (number_between low high text)

abbrev pub with_numbers : List (List ℕ) → Option (Option ℕ) → Option (Option ℕ) → Option Options
with_numbers files None count = None
with_numbers files (Some level) None = None
with_numbers files (Some level) (Some count) = Some (record { watch = level; generate = count; files = files })

-- the options, where each text behind them is a number that they may have
abbrev pub numbers_read : Given → Option Options
numbers_read g = with_numbers g.files (number_in 0 5 g.watch) (number_in 1 200000 g.generate)

-- what was given, in clap's rows
abbrev pub given_in : List Row → Given
given_in rows = record {
  watch = first_of (codes "watch") rows;
  generate = first_of (codes "generate") rows;
  files = unwrap_or (all_of (codes "file") rows) [];
}

-- ---- the words

-- what a word is: an option by whether it is `--watch`, with what stands behind its `=`, a flag that is none, or a plain word
pub data Look : Type 0 where
  flag : Bool → Option (List ℕ) → Look
  unknown : Look
  plain : Look

abbrev pub look_long : List ℕ → Option (List ℕ) → Look
look_long name text =
    if bytes_eq (codes "watch") name then flag true text
    else if bytes_eq (codes "generate") name then flag false text
    else unknown

abbrev pub look_other : List ℕ → Look
look_other word = if is_some (short_of word) then unknown else plain

abbrev pub look_found : Option (List ℕ × Option (List ℕ)) → List ℕ → Look
look_found (Some p) word = look_long p.0 p.1
look_found None word = look_other word

abbrev pub look_at : List ℕ → Look
look_at word = look_found (long_of word) word

-- where the reading stands between two words
pub data State : Type 0 where
  between : Given → State
  awaits : Bool → Given → State
  names : Given → State
  refused : State

abbrev pub between_or : Option Given → State
between_or None = refused
between_or (Some g) = between g

-- one option, unless it was given
abbrev pub given_watch : Option (List ℕ) → List ℕ → Given → State
given_watch None text g = between (record g { watch = Some text })
given_watch (Some other) text g = refused

abbrev pub given_generate : Option (List ℕ) → List ℕ → Given → State
given_generate None text g = between (record g { generate = Some text })
given_generate (Some other) text g = refused

abbrev pub given_option : Bool → List ℕ → Given → State
given_option true text g = given_watch g.watch text g
given_option false text g = given_generate g.generate text g

abbrev pub given_file : List ℕ → Given → Given
given_file name g = record g { files = g.files ++ name ∷ [] }

abbrev pub after_look : Look → List ℕ → Given → State
after_look (flag is_watch None) word g = awaits is_watch g
after_look (flag is_watch (Some text)) word g = given_option is_watch text g
after_look unknown word g = refused
after_look plain word g = between (given_file word g)

abbrev pub awaited : Look → Bool → List ℕ → Given → State
awaited plain is_watch word g = given_option is_watch word g
awaited _ is_watch word g = refused

abbrev pub is_dashes : List ℕ → Bool
is_dashes word = bytes_eq word (codes "--")

abbrev pub next_state : State → List ℕ → State
next_state (between g) word = if is_dashes word then names g else after_look (look_at word) word g
next_state (awaits is_watch g) word = if is_dashes word then refused else awaited (look_at word) is_watch word g
next_state (names g) word = names (given_file word g)
next_state refused word = refused

-- what was given, at the end
abbrev pub last_given : State → Option Given
last_given (between g) = Some g
last_given (names g) = Some g
last_given _ = None

abbrev pub given_from : State → List (List ℕ) → Option Given
given_from s words = last_given (fold next_state s words)
