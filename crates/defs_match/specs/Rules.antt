-- Loaded productions as plain data.
use Rattle.std.specs.Prelude.{ℕ}
use Rattle.soar_rule.specs.Productions.{ProductionOf, production_seen}
use Rattle.defs_match.specs.declared.rule.Rule.{Rule}

-- a loaded production under its number, with its conditions in match order
pub record RuleOf : Type 0 where
  pub number : ℕ
  pub production : ProductionOf

-- the code's type as plain data
abbrev pub rule_seen : Rule → RuleOf
rule_seen r = record { number = r.number; production = production_seen r.production }
