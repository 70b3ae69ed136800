-- The first rule with the same body, as the code looks for it: among rules of some numbers.
use Rattle.std.specs.Prelude.{ℕ, List, [], ◌∷◌, Option, Some, None, if◌then◌else◌}
use Rattle.soar_sym.specs.declared.symbol.Sym.{Sym}
use Rattle.soar_rule.specs.Canonical.{canonical}
use Rattle.soar_rule.specs.Equality.{same_body}
use Rattle.soar_rule.specs.Productions.{ProductionOf}
use Rattle.defs_match.specs.Contents.{rule_numbered}
use Rattle.defs_match.specs.Rules.{RuleOf}
use Rattle.defs_soar.specs.Ungrounded.{or_else}

-- the name of a rule, if its canonical form has the body of this one
abbrev pub like_rule : ProductionOf → Option RuleOf → Option Sym
like_rule form None = None
like_rule form (Some rule) = if same_body form (canonical rule.production) then Some rule.production.name else None

-- the name of the first such rule, by the numbers in their order
abbrev pub like_numbered : ProductionOf → List RuleOf → List ℕ → Option Sym
like_numbered form rules [] = None
like_numbered form rules (n ∷ numbers) = or_else (like_rule form (rule_numbered n rules)) (like_numbered form rules numbers)
