use Rattle.std.proofs.Common.{◌<◌, ◌≤◌, suc, length, ap, ◌∙◌, arith}
use Rattle.defs_soar.specs.declared.goal.Impasse.TheVariants as impasse
use Rattle.defs_soar.specs.Walk.{meets}
use Rattle.decision_walk.proofs.StepLemmas.{stays_on, stays_there}
use Rattle.decision_walk.proofs.stepping.stay.Goals as goal

pub returns-then-above-len : goal.returns-then-above-len
returns-then-above-len c = λ v.
    let there : suc c.args.above < length c.args.goals.now = omega (arith, c.if-above-len.true, c.len.ensures, ap length c.list.ensures.goals) in
    stays_on v c.args.above c.args.goals.now there

pub returns : goal.returns
returns c = λ v.
    let last : length c.args.goals.now ≤ suc c.args.above = omega (arith, c.if-above-len.false, c.len.ensures, ap length c.list.ensures.goals) in
    ap (λ items. record { goals = c.args.goals.now; decided = meets impasse.OperatorNoChange items }) c.new.ensures
    ∙ stays_there v c.args.above c.args.goals.now c.requires.there last
