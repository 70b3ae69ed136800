-- The first run of a command, which says what kind of command it is.
use Rattle.std.specs.Prelude.{ℕ, Bool, ◌||◌, ◌==◌, not, List, take}
use Rattle.std.specs.List.{prefix_len}
use Rattle.defs_text.specs.Bytes.{is_blank}

-- it ends at a blank or `{`
abbrev pub ends_first_run : ℕ → Bool
ends_first_run b = is_blank b || b == 123

abbrev pub first_run : List ℕ → List ℕ
first_run text = take (prefix_len (λ b. not (ends_first_run b)) text) text
