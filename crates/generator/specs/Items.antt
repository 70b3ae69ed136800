-- The commands of an item without its link.
use Rattle.std.specs.Prelude.{ℕ, ◌%◌, List, ◌++◌, codes}
use Rattle.std.specs.Fmt.{decimal}
use Rattle.defs_run.specs.CommandLine.{item_label}

-- the item is there, and has a kind
abbrev pub kind_text : ℕ → List ℕ
kind_text k = codes "input add S1 ^item " ++ (item_label k ++ (codes "\ninput add " ++ (item_label k ++ (codes " ^kind " ++ (decimal (k % 3) ++ codes "\n")))))
