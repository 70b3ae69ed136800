use Rattle.std.proofs.Common.{◌≡◌, drop}
use Rattle.std.specs.List.{list_any}
use Rattle.learning_laws.specs.Replay.{wish_makes}
use Rattle.chunk_replay.proofs.known.is_made.Given as goal

abbrev pub invariant-wishes : goal.invariant-wishes
invariant-wishes l = list_any (wish_makes l.element) (drop l.wish-index l.made) ≡ list_any (wish_makes l.element) l.made
