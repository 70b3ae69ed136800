-- Keys that are noted, in a table.
use Rattle.std.specs.Prelude.{Bool}
use Rattle.std.specs.HashSet.{HashSet}
use Rattle.std.specs.List.{list_any}
use Rattle.std.specs.Ordering.{is_eq}
use Rattle.std.specs.declared.cmp.Ordering.{Ordering}
use Rattle.std.specs.declared.hash.BuildHasherDefault.{BuildHasherDefault}
use Rattle.std.specs.declared.hash.FoldHasher.{FoldHasher}
use Rattle.match_changes.specs.declared.key.MatchKey.{MatchKey}

-- a set of noted keys
abbrev pub NotedKeys : Type 0
NotedKeys = HashSet MatchKey (BuildHasherDefault FoldHasher)

-- whether a key that compares equal is noted
abbrev pub contains : (MatchKey → MatchKey → Ordering) → NotedKeys → MatchKey → Bool
contains cmp s q = list_any (λ k. is_eq (cmp q k)) s.keys
