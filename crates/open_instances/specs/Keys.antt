-- Keys in order, and what is counted by them.
use Rattle.std.specs.Prelude.{ℕ, Bool, ◌+◌, List, [], ◌∷◌, if◌then◌else◌}
use Rattle.std.specs.HashMap as table
use Rattle.std.specs.HashMap.{HashMap}
use Rattle.std.specs.Option.{unwrap_or}
use Rattle.std.specs.Ordering.{is_eq}
use Rattle.std.specs.declared.cmp.Ordering.{Ordering}
use Rattle.std.specs.declared.hash.BuildHasherDefault.{BuildHasherDefault}
use Rattle.std.specs.declared.hash.FoldHasher.{FoldHasher}
use Rattle.match_changes.specs.contracts.key.MatchKeyOrd.TheImpl as ord
use Rattle.match_changes.specs.contracts.key.MatchKeyPartialEq.TheImpl as equality
use Rattle.match_changes.specs.declared.key.MatchKey.{MatchKey}

abbrev pub KeyOf : Type 0
KeyOf = MatchKey

-- by rule, and then by tags
abbrev pub key_cmp : MatchKey → MatchKey → Ordering
key_cmp = (ord.ghosts).cmp

abbrev pub alike : MatchKey → MatchKey → Bool
alike a b = is_eq (key_cmp a b)

-- how a table finds its keys: so it does those that are alike
abbrev pub same_key : MatchKey → MatchKey → Bool
same_key = (equality.ghosts).eq

-- a table of counts
abbrev pub KeyCounts : Type 0
KeyCounts = HashMap MatchKey ℕ (BuildHasherDefault FoldHasher)

-- the count of a key
abbrev pub count_in : KeyCounts → MatchKey → ℕ
count_in counts q = unwrap_or (table.get_by (alike q) counts) 0

-- the same, as the table finds it
abbrev pub held_in : KeyCounts → MatchKey → ℕ
held_in counts q = unwrap_or (table.get same_key counts q) 0

-- how often a key is among these
abbrev pub times : MatchKey → List MatchKey → ℕ
times q [] = 0
times q (k ∷ keys) = (if alike k q then 1 else 0) + times q keys
