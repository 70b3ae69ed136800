-- Rules of a name that go, with their explanations; no public clause cites this file.
use Rattle.std.specs.Prelude.{◌≡◌, ℕ, Bool, false, ◌==◌, ◌&&◌, not, List, filter, map, Option, Some, None}
use Rattle.std.specs.List.{list_any}
use Rattle.soar_sym.specs.declared.symbol.Sym.{Sym}
use Rattle.defs_match.specs.Rules.{RuleOf, rule_seen}
use Rattle.defs_run.specs.Carrying.{is_named}
use Rattle.defs_soar.specs.Agents.{Learnt}
use Rattle.decision_parts.specs.Hands.{learned_rule_seen}
use Rattle.decision_parts.specs.Parts.{Parts as PartsKept}

-- the rule of the number has the name
abbrev pub is_of_name : Sym → List RuleOf → ℕ → Bool
is_of_name name rules number = list_any (λ rule. (rule.number == number) && is_named name rule) rules

-- so where the number tells the rule
abbrev pub is_found_so : Sym → Option RuleOf → Bool
is_found_so name None = false
is_found_so name (Some rule) = is_named name rule

-- those that do not have a name
abbrev pub unnamed : Sym → List RuleOf → List RuleOf
unnamed name rules = filter (λ rule. not (is_named name rule)) rules

-- the explanations of those
abbrev pub unnamed_chains : Sym → List RuleOf → List Learnt → List Learnt
unnamed_chains name rules chains = filter (λ learnt. not (is_of_name name rules learnt.rule)) chains

-- nothing else of the parts changes
pub record AreDropped (old new : PartsKept) (name : Sym) : Type 0 where
  pub rules_are : map rule_seen new.rules ≡ unnamed name (map rule_seen old.rules)
  pub chains_are : map learned_rule_seen new.chains ≡ unnamed_chains name (map rule_seen old.rules) (map learned_rule_seen old.chains)
  pub same : new ≡ record old { rules = new.rules; chains = new.chains }
