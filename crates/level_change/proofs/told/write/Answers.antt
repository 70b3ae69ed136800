use Rattle.std.proofs.Common.{Some}
use Rattle.level_change.specs.Links.{placed}
use Rattle.level_change.proofs.LevelLemmas.{put_placed}
use Rattle.level_change.proofs.LinkLemmas.{put_late}
use Rattle.level_change.proofs.told.write.Goals as goal

pub returns : goal.returns
returns c = λ levels. put_late (placed levels) _ _ (c.args.id, (0, 0)) c.args.level (put_placed _ _ c.args.id (Some c.args.level) c.in_ok-insert.ensures.updates.0)
