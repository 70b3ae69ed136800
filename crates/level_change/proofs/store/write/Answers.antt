use Rattle.level_change.proofs.LinkLemmas.{put_late}
use Rattle.level_change.proofs.store.write.Goals as goal

pub returns : goal.returns
returns c = λ base. put_late base _ _ c.args.place c.args.value c.in_ok-insert.ensures.updates.0
