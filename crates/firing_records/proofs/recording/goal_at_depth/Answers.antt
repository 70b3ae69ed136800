use Rattle.std.proofs.Common.{◌≡◌, ◌-◌, ◌∙◌, suc, sym, ap, arith}
use Rattle.defs_soar.specs.Support.{goal_at_depth}
use Rattle.soar_levels.proofs.DepthLemmas.{goal_at, goal_at_zero}
use Rattle.firing_records.proofs.recording.goal_at_depth.Goals as goal

pub returns-then-depth-eq0 : goal.returns-then-depth-eq0
returns-then-depth-eq0 c = sym (ap (λ d. goal_at_depth d c.args.goals.now) c.if-depth-eq0.true ∙ goal_at_zero c.args.goals.now)

pub returns : goal.returns
returns c =
    let depth : suc (c.args.depth - 1) ≡ c.args.depth = omega (arith, c.if-depth-eq0.false) in
    c.id_at.ensures ∙ sym (goal_at c.args.goals.now (c.args.depth - 1)) ∙ ap (λ d. goal_at_depth d c.args.goals.now) depth
