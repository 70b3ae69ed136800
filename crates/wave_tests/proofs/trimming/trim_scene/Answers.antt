use Rattle.wave_tests.proofs.TrackedLemmas.{all_tracked}
use Rattle.wave_tests.proofs.trimming.trim_scene.Goals as goal

pub trim-requires-clause-tracked : goal.trim-requires-clause-tracked
trim-requires-clause-tracked c =
    all_tracked c.changes_are_tracked.ensures.nothing c.args.scene.now.prefs c.args.scene.now.inputs c.in_ok-changed.changed c.in_ok-kept.kept c.in_ok-kept.ensures.holds c.in_ok-kept.ensures.own c.requires.settled c.in_ok-changed.ensures

pub trim-requires-clause-doubted : goal.trim-requires-clause-doubted
trim-requires-clause-doubted c = λ tag i lost. c.requires.doubted tag i
