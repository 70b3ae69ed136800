use Rattle.std.proofs.Common.{◌≡◌, drop}
use Rattle.std.specs.List.{list_all}
use Rattle.learning_laws.specs.Replay.{is_known}
use Rattle.chunk_replay.specs.LookedUp.{of_tags}
use Rattle.chunk_replay.proofs.elements.are_known.Given as goal

abbrev pub invariant-tags : goal.invariant-tags
invariant-tags l = list_all (is_known l.rows l.made) (of_tags l.used (drop l.tag-index l.tags)) ≡ list_all (is_known l.rows l.made) (of_tags l.used l.tags)
