use Rattle.std.proofs.Common.{◌∙◌, sym, ap}
use Rattle.level_change.specs.Graph.{level_in_graph}
use Rattle.level_change.specs.Links.{id_of, level_place, placed}
use Rattle.level_change.proofs.HoldLemmas.{get_number}
use Rattle.level_change.proofs.graph.LevelGraph.level_of.Goals as goal

pub returns : goal.returns
returns c = c.level_of.ensures ∙ sym (get_number (placed c.self.inside.told.base.entries) (placed c.self.inside.told.late.entries) (level_place (id_of c.args.id))) ∙ ap (λ g. level_in_graph g c.args.id) c.self.view_is
