-- What came of a program, and of an agent: rules that are still loaded have the explanations that they had.
use Rattle.std.specs.Prelude.{◌≡◌, ◌≤◌, ◌<◌, ◌⊎◌, List, [], ◌∷◌}
use Rattle.defs_match.specs.Rules.{RuleOf}
use Rattle.defs_soar.specs.Agents.{Agent, Learnt, Program}
use Rattle.defs_soar.specs.Laws.{IsIn}
use Rattle.defs_run.specs.Carrying.{chain_of_rule}
use Rattle.learning_laws.specs.Lawful.{Grown}

-- the numbers rise strictly
abbrev pub DoRise : List RuleOf → Type 0
DoRise [] = Unit {0}
DoRise (rule ∷ rules) = ((r : RuleOf) → IsIn r rules → rule.number < r.number) × DoRise rules

-- the numbers of the rules rise, and neither a rule nor an explanation is of a number that was not given yet
pub record IsNumberedProgram (p : Program) : Type 0 where
  pub rise : DoRise p.rules
  pub given : (r : RuleOf) → IsIn r p.rules → r.number ≤ p.last_rule
  pub explained : (l : Learnt) → IsIn l p.chains → l.rule ≤ p.last_rule

-- the rule was there, and has the explanation that it had, or none as before
pub record HasStayed (p q : Program) (r : RuleOf) : Type 0 where
  pub there : IsIn r p.rules
  pub same : chain_of_rule q.chains r.number ≡ chain_of_rule p.chains r.number

-- the second came of the first: each rule of it has stayed, or has a number that was given since
pub record Later (p q : Program) : Type 0 where
  pub numbered : IsNumberedProgram q
  pub last : p.last_rule ≤ q.last_rule
  pub rules : (r : RuleOf) → IsIn r q.rules → HasStayed p q r ⊎ (p.last_rule < r.number)

-- so of an agent, whose table of words begins with the words of the first
abbrev pub LaterAgent : Agent → Agent → Type 0
LaterAgent a b = Later a.program b.program × Grown a.names.words b.names.words

-- ---- laws

abbrev pub LaterItself : Type 0
LaterItself = (p : Program) → IsNumberedProgram p → Later p p

abbrev pub LaterTwice : Type 0
LaterTwice = (p q s : Program) → Later p q → Later q s → Later p s
