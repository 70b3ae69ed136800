use Rattle.std.proofs.Common.{◌≡◌, suc, ◌+◌, ◌-◌, take, ap, ◌∙◌, arith}
use Rattle.soar_goals.specs.Stack.{with_change, with_selected}
use Rattle.decision_walk.proofs.stepping.end_with.Goals as goal

pub returns-then-above-len : goal.returns-then-above-len
returns-then-above-len c =
    let here : c.args.above + 1 - 1 ≡ c.args.above = omega (arith) in
    let next : c.args.above + 2 - 1 ≡ suc c.args.above = omega (arith) in
    c.cut.ensures ∙ ap (λ n. take n c.select.new.self) next
    ∙ ap (take (suc c.args.above)) (c.select.ensures.goals ∙ ap (λ n. with_change n (with_selected c.args.selection) c.args.goals.now) here)
