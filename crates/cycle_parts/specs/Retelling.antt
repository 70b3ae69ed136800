-- A matcher that lets go of rules by number, and takes in those above a number; no public clause cites this file.
use Rattle.std.specs.Prelude.{ℕ, ◌<◌, nat_lt, List, [], ◌∷◌, if◌then◌else◌}
use Rattle.defs_match.specs.Contents.{HasRule, IsNewRule, with_rule, without_rule}
use Rattle.defs_match.specs.Rules.{RuleOf}

-- ---- rules that go

-- without the rules of these numbers, in turn
abbrev pub without_each_rule : List RuleOf → List ℕ → List RuleOf
without_each_rule rules [] = rules
without_each_rule rules (number ∷ numbers) = without_each_rule (without_rule rules number) numbers

-- each is there when its turn comes
abbrev pub AreHeld : List RuleOf → List ℕ → Type 0
AreHeld rules [] = Unit {0}
AreHeld rules (number ∷ numbers) = HasRule rules number × AreHeld (without_rule rules number) numbers

-- ---- rules that come

-- with the rule, where it is numbered above the last
abbrev pub with_above : ℕ → List RuleOf → RuleOf → List RuleOf
with_above last held rule = if nat_lt last rule.number then with_rule held rule else held

abbrev pub with_each_above : ℕ → List RuleOf → List RuleOf → List RuleOf
with_each_above last held [] = held
with_each_above last held (rule ∷ rules) = with_each_above last (with_above last held rule) rules

-- with the rules, in turn
abbrev pub with_each_rule : List RuleOf → List RuleOf → List RuleOf
with_each_rule held [] = held
with_each_rule held (rule ∷ rules) = with_each_rule (with_rule held rule) rules

-- each of them is new when its turn comes
abbrev pub AreEachNew : List RuleOf → List RuleOf → Type 0
AreEachNew held [] = Unit {0}
AreEachNew held (rule ∷ rules) = IsNewRule held rule × AreEachNew (with_rule held rule) rules

-- each of those is new when its turn comes
abbrev pub AreNewAbove : ℕ → List RuleOf → List RuleOf → Type 0
AreNewAbove last held [] = Unit {0}
AreNewAbove last held (rule ∷ rules) = (last < rule.number → IsNewRule held rule) × AreNewAbove last (with_above last held rule) rules
