-- What a wave learns: rules that join behind the others, each under the next number and with its explanation.
use Rattle.std.specs.Prelude.{◌≡◌, ℕ, suc, ◌≤◌, List, [], ◌∷◌, ◌++◌, map, flat_map}
use Rattle.defs_match.specs.Rules.{RuleOf}
use Rattle.defs_soar.specs.Agents.{Agent, Learnt}
use Rattle.defs_soar.specs.Explanation.{maker_named}
use Rattle.defs_soar.specs.Laws.{IsIn}
use Rattle.defs_soar.specs.Learning.{with_learning}
use Rattle.defs_soar.specs.Limits.{Total}
use Rattle.defs_soar.specs.WaveAtHand.{all_fresh, BeforeWave, Fresh, Wave}
use Rattle.learning_laws.specs.Lawful.{Grown}
use Rattle.learning_laws.specs.LawfulAgents.{IsLawfulAgent}
use Rattle.learning_laws.specs.LawfulWaves.{IsLawfulWave}

-- rules under the numbers after this one, up to the last
abbrev pub AreNext : ℕ → List RuleOf → ℕ → Type 0
AreNext number [] last = number ≡ last
AreNext number (rule ∷ rules) last = (rule.number ≡ suc number) × AreNext (suc number) rules last

-- what is learned joins what was there; letters, tags and halts stay
pub record IsTaught (before after : Wave) : Type 0 where
  pub rules : List RuleOf
  pub rules_are : after.program.rules ≡ before.program.rules ++ rules
  pub numbers : AreNext before.program.last_rule rules after.program.last_rule
  pub chains : List Learnt
  pub chains_are : after.program.chains ≡ before.program.chains ++ chains
  pub of_rules : map (λ (l : Learnt). l.rule) chains ≡ map (λ (r : RuleOf). r.number) rules
  pub words : Grown before.names.words after.names.words
  pub letters_are : after.names.letters ≡ before.names.letters
  pub last_tag_is : after.names.last_tag ≡ before.names.last_tag
  pub halted_is : after.halted ≡ before.halted
  pub totals : List Total
  pub totals_are : after.totals ≡ before.totals ++ totals

abbrev pub LearningTeaches : Type 0
LearningTeaches = (m : BeforeWave) (w : Wave) → IsTaught w (with_learning m w)

-- what a firing of a wave used was made before the wave
abbrev pub MakersAreBefore : Type 0
MakersAreBefore =
    (a : Agent) (w : Wave) (x : Fresh) (n : ℕ) → IsLawfulAgent a → IsLawfulWave a w → IsIn x (all_fresh w.entries) → IsIn n (flat_map maker_named x.firing.used)
    → n ≤ a.counts.firings
