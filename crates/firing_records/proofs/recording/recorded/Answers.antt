use Rattle.std.proofs.Common.{◌≡◌, length, ap, arith}
use Rattle.defs_soar.specs.Pending.{elements_of_tags}
use Rattle.soar_levels.proofs.DepthLemmas.{match_within}
use Rattle.firing_records.proofs.recording.recorded.Goals as goal

pub firing_of-requires : goal.firing_of-requires
firing_of-requires c =
    let goals : length c.as_slice.result.now ≡ length c.args.before.now.goals.now = ap length c.as_slice.ensures in
    record {
      few = omega (arith, c.match_depth-depth.ensures, goals, c.requires.few, match_within c.as_slice.result.now (elements_of_tags c.args.before.now.memory.now.elements c.as_slice-tags.result.now));
    }
