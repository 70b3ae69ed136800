use Rattle.std.proofs.Common.{◌∙◌, ap, sym, option_map}
use Rattle.defs_soar.specs.Held.{held}
use Rattle.level_change.specs.Labels.{as_told}
use Rattle.kept_triples.proofs.HeldLemmas.{same_links}
use Rattle.kept_triples.proofs.laws.kept_levels_are_levels.Goals as goal

pub returns : goal.returns
returns c = λ goals rows inputs k holds s.
    let all = held rows goals inputs in
    c.levels_are_told.ensures.levels k.graph k.triples goals holds.graph s
    ∙ ap (option_map as_told)
    (c.levels_are_local.ensures.links goals k.triples all (same_links k.triples all holds.members) (same_links all k.triples (λ t. sym (holds.members t))) s)
