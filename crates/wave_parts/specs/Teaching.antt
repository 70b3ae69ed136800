-- What a wave does to the rules: justifications that are spent go, and those that it learned come.
use Rattle.std.specs.Prelude.{◌≡◌, ℕ, Bool, true, ◌==◌, not, List, ◌++◌, map, filter}
use Rattle.std.specs.List.{list_any}
use Rattle.soar_rule.specs.AsItStands.{can_be_matched}
use Rattle.defs_match.specs.Rules.{RuleOf, rule_seen}
use Rattle.defs_soar.specs.Laws.{IsIn}
use Rattle.program_laws.specs.Taught.{AreNext}
use Rattle.wave_parts.specs.declared.parts.Parts.{Parts as PartsKept}

abbrev pub is_numbered_among : List ℕ → RuleOf → Bool
is_numbered_among numbers rule = list_any (λ number. number == rule.number) numbers

abbrev pub without_numbers : List ℕ → List RuleOf → List RuleOf
without_numbers numbers rules = filter (λ rule. not (is_numbered_among numbers rule)) rules

abbrev pub numbers_among : List ℕ → List RuleOf → List ℕ
numbers_among numbers rules = map (λ (rule : RuleOf). rule.number) (filter (is_numbered_among numbers) rules)

-- the numbers are of rules that were there, in their order; the rules that came have the numbers after the last, and can be matched as they stand
pub record AreRetaught (old new : PartsKept) (spent : List ℕ) : Type 0 where
  pub spent_are : spent ≡ numbers_among spent (map rule_seen old.rules)
  pub taught : List RuleOf
  pub rules_are : map rule_seen new.rules ≡ without_numbers spent (map rule_seen old.rules) ++ taught
  pub numbers : AreNext old.last_rule taught new.last_rule
  pub matchable : (rule : RuleOf) → IsIn rule taught → can_be_matched rule.production ≡ true
