use Rattle.std.proofs.Common.{◌≡◌, filter, is_some, not, take}
use Rattle.kept_triples.specs.Kept.{level_in_kept}
use Rattle.settle_changes.proofs.looking.unreached.Given as goal

abbrev pub invariant-ids : goal.invariant-ids
invariant-ids l = l.found ≡ filter (λ id. not (is_some (level_in_kept l.kept id))) (take l.id-index l.ids)
