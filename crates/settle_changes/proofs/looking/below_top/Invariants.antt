use Rattle.std.proofs.Common.{◌≡◌, filter, not, take}
use Rattle.defs_soar.specs.Levels.{is_level_one}
use Rattle.kept_triples.specs.Kept.{level_in_kept}
use Rattle.settle_changes.proofs.looking.below_top.Given as goal

abbrev pub invariant-ids : goal.invariant-ids
invariant-ids l = l.below ≡ filter (λ id. not (is_level_one (level_in_kept l.kept id))) (take l.id-index l.ids)
