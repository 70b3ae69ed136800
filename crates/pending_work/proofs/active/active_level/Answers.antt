use Rattle.std.proofs.Common.{◌∙◌, ap, map, unwrap_or}
use Rattle.pending_work.specs.Active.{depth_at, least_from}
use Rattle.pending_work.proofs.LeastLemmas.{least_of_both}
use Rattle.pending_work.proofs.active.active_level.Goals as goal

pub returns : goal.returns
returns c =
    let depths = map (depth_at c.args.goals.now c.args.memory.now.elements) c.args.instances.now in
    c.unwrap_or.ensures
    ∙ ap (λ found. unwrap_or found 0) (c.least_of_instances.ensures ∙ ap (λ found. least_from found depths) c.least_of_gone.ensures)
    ∙ least_of_both (map (λ g. g.depth) c.args.gone.now) depths
