-- How rules go by their numbers, and how justifications that are spent are found. No public clause cites this.
use Rattle.std.specs.Prelude.{ℕ, Bool, false, List, [], ◌∷◌, Option, Some, None, if◌then◌else◌}
use Rattle.std.specs.BTreeSet.{insert_key}
use Rattle.std.specs.Ordering.{nat_cmp}
use Rattle.defs_match.specs.Contents.{rule_numbered, without_rule}
use Rattle.defs_match.specs.Rules.{RuleOf}
use Rattle.live_firings.specs.declared.live.Live.{Live}
use Rattle.wave_parts.specs.Programs.{is_justified}

-- without the rules of these numbers, in turn
abbrev pub without_each : List RuleOf → List ℕ → List RuleOf
without_each rules [] = rules
without_each rules (number ∷ numbers) = without_each (without_rule rules number) numbers

abbrev pub is_justified_at : Option RuleOf → Bool
is_justified_at None = false
is_justified_at (Some rule) = is_justified rule

-- with a number in its order, where it is of a justification
abbrev pub with_justified : List RuleOf → List ℕ → ℕ → List ℕ
with_justified rules numbers number = if is_justified_at (rule_numbered number rules) then insert_key nat_cmp numbers number else numbers

-- so with the rules of these firings, in turn
abbrev pub with_each_justified : List RuleOf → List ℕ → List Live → List ℕ
with_each_justified rules numbers [] = numbers
with_each_justified rules numbers (l ∷ live) = with_each_justified rules (with_justified rules numbers l.instance.rule) live
