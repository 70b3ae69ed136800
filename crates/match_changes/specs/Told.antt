-- What is told of a change of the conflict set.
use Rattle.std.specs.Prelude.{◌≡◌, ◌↔◌, ℕ, Bool, ◌==◌, List, filter, Option, Some, None}
use Rattle.defs_match.specs.Laws.{IsIn}
use Rattle.defs_match.specs.declared.instance.Instance.{Instance}
use Rattle.match_changes.specs.declared.key.MatchKey.{MatchKey}

abbrev pub key_of : Instance → MatchKey
key_of i = record { rule = i.rule; tags = i.tags }

-- but for the instances of these keys, the two have the same
abbrev pub AreTold : List Instance → List Instance → List MatchKey → Type 0
AreTold before after told = (i : Instance) → (IsIn (key_of i) told → ⊥) → (IsIn i before ↔ IsIn i after)

-- the instance of a key, where there is one
abbrev pub IsTheOne : List Instance → MatchKey → Option Instance → Type 0
IsTheOne instances key None = (i : Instance) → IsIn i instances → key_of i ≡ key → ⊥
IsTheOne instances key (Some i) = IsIn i instances × (key_of i ≡ key)

-- the instance is of the rule of a number
abbrev pub is_of : ℕ → Instance → Bool
is_of number i = i.rule == number

-- those of the rule of a number, in order
abbrev pub of_rule : ℕ → List Instance → List Instance
of_rule number instances = filter (is_of number) instances
