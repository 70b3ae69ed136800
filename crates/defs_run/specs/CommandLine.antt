-- The words of the command line, and the script that the program can generate.
use Rattle.std.specs.Prelude.{ℕ, zero, suc, ◌-◌, ◌%◌, Bool, true, false, ◌&&◌, ◌||◌, ◌==◌, not, nat_lt, nat_le, List, [], ◌∷◌, ◌++◌, length, drop, take, Option, Some, None, option_and_then, if◌then◌else◌, codes}
use Rattle.std.specs.Fmt.{decimal}
use Rattle.std.specs.List.{list_all}
use Rattle.std.specs.Str.{bytes_eq}
use Rattle.defs_text.specs.Bytes.{is_digit}
use Rattle.defs_text.specs.Runs.{begins_with, number_from, is_empty}

-- what the words ask for
pub record Options : Type 0 where
  pub watch : Option ℕ
  pub generate : Option ℕ
  pub files : List (List ℕ)

-- ---- numbers

-- digits without a leading zero, or 0
abbrev pub is_number : List ℕ → Bool
is_number text = not (is_empty text) && (list_all is_digit text && (not (begins_with 48 text) || (length text == 1)))

abbrev pub number_between : ℕ → ℕ → List ℕ → Option ℕ
number_between low high text =
    if is_number text then (if nat_le low (number_from 0 text) && nat_le (number_from 0 text) high then Some (number_from 0 text) else None) else None

-- ---- words

abbrev pub with_watch : Options → Option ℕ → Option Options
with_watch o None = None
with_watch o (Some n) = elim (o.watch) [ None ↦ Some (record o { watch = Some n }) | Some m ↦ None ]

abbrev pub with_generate : Options → Option ℕ → Option Options
with_generate o None = None
with_generate o (Some n) = elim (o.generate) [ None ↦ Some (record o { generate = Some n }) | Some m ↦ None ]

abbrev pub with_file : Options → List ℕ → Options
with_file o name = record o { files = o.files ++ name ∷ [] }

abbrev pub with_files : Options → List (List ℕ) → Options
with_files o names = record o { files = o.files ++ names }

-- the text behind a front that it begins with
abbrev pub behind : List ℕ → List ℕ → Option (List ℕ)
behind front text = if bytes_eq front (take (length front) text) then Some (drop (length front) text) else None

-- `-` and more
abbrev pub is_unknown_option : List ℕ → Bool
is_unknown_option text = begins_with 45 text && nat_lt 1 (length text)

abbrev pub by_equals : Options → List ℕ → Option Options
by_equals o word =
    elim (behind (codes "--watch=") word) [
      | Some text ↦ with_watch o (number_between 0 5 text)
      | None ↦ elim (behind (codes "--generate=") word) [
        | Some text ↦ with_generate o (number_between 1 200000 text)
        | None ↦ if is_unknown_option word then None else Some (with_file o word)
      ]
    ]

abbrev mutual
  -- the words from here on
  pub options_from : Options → List (List ℕ) → Option Options
  options_from o [] = Some o
  options_from o (word ∷ words) =
      if bytes_eq word (codes "--") then Some (with_files o words)
      else if bytes_eq word (codes "--watch") then value_from true o words
      else if bytes_eq word (codes "--generate") then value_from false o words
      else elim (by_equals o word) [ None ↦ None | Some p ↦ options_from p words ]

  -- the value of an option, and the words behind it
  pub value_from : Bool → Options → List (List ℕ) → Option Options
  value_from is_watch o [] = None
  value_from is_watch o (word ∷ words) =
      elim (if is_watch then with_watch o (number_between 0 5 word) else with_generate o (number_between 1 200000 word)) [
        | None ↦ None
        | Some p ↦ options_from p words
      ]

abbrev pub no_options : Options
no_options = record { watch = None; generate = None; files = [] }

-- a script is generated in the place of files and input
abbrev pub unless_both : Options → Option Options
unless_both o = elim (o.generate) [ None ↦ Some o | Some n ↦ (if is_empty o.files then Some o else None) ]

-- what the words ask for, where they have the form
abbrev pub options_of : List (List ℕ) → Option Options
options_of words = option_and_then unless_both (options_from no_options words)

-- ---- the generated script

abbrev pub rules_text : List ℕ
rules_text =
    codes "watch 0\nsp {gen*differ (state <s> ^item <i>) (<i> ^next <j>) (<j> ^kind <k>) -(<i> ^kind <k>) --> (<i> ^differs <j>)}\nsp {gen*last (state <s> ^item <i>) -(<i> ^next <j>) --> (<s> ^last <i>)}\n"

abbrev pub item_label : ℕ → List ℕ
item_label k = codes "<i" ++ (decimal k ++ codes ">")

abbrev pub next_line : List ℕ → ℕ → List ℕ
next_line front k = front ++ (item_label k ++ (codes " ^next " ++ (item_label (suc k) ++ codes "\n")))

abbrev pub item_text : ℕ → ℕ → List ℕ
item_text n k =
    codes "input add S1 ^item " ++ (item_label k ++ (codes "\ninput add " ++ (item_label k ++ (codes " ^kind " ++ (decimal (k % 3) ++ (codes "\n" ++
    (if nat_lt k (n - 1) then next_line (codes "input add ") k else [])))))))

-- so many items, from the one of a number on
abbrev pub items_text : ℕ → ℕ → ℕ → List ℕ
items_text n k zero = []
items_text n k (suc more) = item_text n k ++ items_text n (suc k) more

abbrev pub removal_text : ℕ → ℕ → List ℕ
removal_text n k = if (k % 2 == 0) && nat_lt k (n - 1) then next_line (codes "input remove ") k else []

abbrev pub removals_text : ℕ → ℕ → ℕ → List ℕ
removals_text n k zero = []
removals_text n k (suc more) = removal_text n k ++ removals_text n (suc k) more

-- items in a row, each with its kind and the next one; then every second link goes
unfoldable pub script_of : ℕ → List ℕ
script_of n = rules_text ++ (items_text n 0 n ++ (codes "run 1\n" ++ (removals_text n 0 n ++ codes "run 1\nstats\n")))
