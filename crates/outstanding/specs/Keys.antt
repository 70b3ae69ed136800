-- Instances by the numbers of their rules and their tags.
use Rattle.std.specs.Prelude.{◌≡◌, ℕ, Bool, ◌&&◌, ◌==◌, List}
use Rattle.std.specs.List.{list_any}
use Rattle.defs_match.specs.declared.instance.Instance.{Instance}
use Rattle.defs_soar.specs.Pending.{tags_eq}

abbrev pub Key : Type 0
Key = ℕ × List ℕ

abbrev pub IsKeyOf : Instance → Key → Type 0
IsKeyOf i key = key ≡ (i.rule, i.tags)

abbrev pub key_eq : Instance → Key → Bool
key_eq i key = (i.rule == key.0) && tags_eq i.tags key.1

abbrev pub has_key : List Key → Instance → Bool
has_key keys i = list_any (key_eq i) keys
