-- The rules of the parts, with what is kept of those that were learned, and what goes of them.
use Rattle.std.specs.Prelude.{◌≡◌, ℕ, Bool, true, ◌==◌, List, map, filter}
use Rattle.std.specs.List.{list_any}
use Rattle.defs_match.specs.Rules.{RuleOf, rule_seen}
use Rattle.defs_soar.specs.Agents.{Learnt, Program}
use Rattle.defs_soar.specs.Laws.{IsIn}
use Rattle.defs_soar.specs.Pending.{is_justification}
use Rattle.wave_learning.specs.Hands.{learned_rule_seen}
use Rattle.wave_parts.specs.declared.parts.Parts.{Parts as PartsKept}

abbrev pub program_of : PartsKept → Program
program_of a = record { rules = map rule_seen a.rules; last_rule = a.last_rule; chains = map learned_rule_seen a.chains; chunks = a.chunks; justifications = a.justifications }

abbrev pub is_justified : RuleOf → Bool
is_justified rule = is_justification rule.production.kind

-- the numbers of the rules that pass
abbrev pub numbers_where : (RuleOf → Bool) → List RuleOf → List ℕ
numbers_where p rules = map (λ (rule : RuleOf). rule.number) (filter p rules)

-- one of the rules has this explanation
abbrev pub is_explained_in : List RuleOf → Learnt → Bool
is_explained_in rules learnt = list_any (λ rule. rule.number == learnt.rule) rules

-- the explanations of these rules
abbrev pub chains_of : List RuleOf → List Learnt → List Learnt
chains_of rules chains = filter (is_explained_in rules) chains

-- the rule of each explanation is there
abbrev pub AreExplained : List RuleOf → List Learnt → Type 0
AreExplained rules chains = (l : Learnt) → IsIn l chains → is_explained_in rules l ≡ true
