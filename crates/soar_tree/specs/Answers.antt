-- What the answers of this crate's calls say.
use Rattle.std.specs.Prelude.{◌≡◌, ℕ, Result, Ok, Err}
use Rattle.soar_sym.specs.Words.{Texts}
use Rattle.defs_read.specs.Grammar.{Tree}
use Rattle.defs_read.specs.Readers.{Stop, unexpected, deep}
use Rattle.tree_parts.specs.Seen.{tree_seen}
use Rattle.tree_parts.specs.declared.production.Tree.{Tree as TreeRead}
use Rattle.tree_parts.specs.declared.stop.Stop.{Stop as StopRead}
use Rattle.tree_parts.specs.declared.stop.Stop.TheVariants as stop

-- the tree that the definition reads, or where it stops; only want of memory is free
abbrev pub IsTree : Texts → Result Tree (Stop × ℕ) → Result TreeRead StopRead → Type 0
IsTree words read (Ok tree) = read ≡ Ok (tree_seen words tree)
IsTree words read (Err (stop.Unexpected left)) = read ≡ Err (unexpected, left)
IsTree words read (Err (stop.Deep left)) = read ≡ Err (deep, left)
IsTree words read (Err stop.NoMemory) = Unit {0}
