-- Rules in order of number.
use Rattle.std.specs.Prelude.{ℕ, ◌<◌, ◌==◌, Bool, List, [], ◌∷◌, map, filter}
use Rattle.body_marks.specs.Fingerprint.{fingerprint}
use Rattle.defs_match.specs.Rules.{RuleOf}
use Rattle.defs_run.specs.Pending.{is_justification}

-- the numbers of all rules are below this one
abbrev pub AreBelow : ℕ → List RuleOf → Type 0
AreBelow number [] = Unit {0}
AreBelow number (rule ∷ rules) = (rule.number < number) × AreBelow number rules

-- the numbers of all rules are above this one
abbrev pub AreAbove : ℕ → List RuleOf → Type 0
AreAbove number [] = Unit {0}
AreAbove number (rule ∷ rules) = (number < rule.number) × AreAbove number rules

-- numbers rise strictly
abbrev pub IsRising : List RuleOf → Type 0
IsRising [] = Unit {0}
IsRising (rule ∷ rules) = AreAbove rule.number rules × IsRising rules

abbrev pub is_justified : RuleOf → Bool
is_justified rule = is_justification rule.production.kind

-- the numbers of the justifications
abbrev pub justification_numbers : List RuleOf → List ℕ
justification_numbers rules = map (λ (rule : RuleOf). rule.number) (filter is_justified rules)

-- the numbers of the rules of a fingerprint
abbrev pub alike_numbers : ℕ → List RuleOf → List ℕ
alike_numbers print rules = map (λ (rule : RuleOf). rule.number) (filter (λ (rule : RuleOf). fingerprint rule.production == print) rules)
