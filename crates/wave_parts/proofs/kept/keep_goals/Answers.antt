use Rattle.std.proofs.Common.{ap}
use Rattle.soar_prefs.specs.Memory.{PreferenceMemory}
use Rattle.wave_parts.proofs.KeptUpLemmas.{first_rest_ok, nothing_tracked}
use Rattle.wave_parts.proofs.kept.keep_goals.Goals as goal

pub settle_changes-requires : goal.settle_changes-requires
settle_changes-requires c = record {
  tracked = nothing_tracked c.changes_are_tracked.ensures.nothing c.in_ok-prefs.prefs c.new-inputs.result c.new-changed.result c.args.kept.now c.requires.holds c.requires.own
      (ap (λ (p : PreferenceMemory). p.settled) c.in_ok-prefs.ensures) c.new-inputs.ensures;
}

pub returns : goal.returns
returns c =
    let answer = c.settle_changes.ensures in
    first_rest_ok c.settle_changes.result c.args.goals.now c.in_ok-prefs.prefs c.settle_changes.new.prefs c.new-inputs.result c.settle_changes.new.inputs c.settle_changes.new.kept
    (ap (λ (p : PreferenceMemory). p.rows) c.in_ok-prefs.ensures) c.new-inputs.ensures answer.prefs answer.inputs answer.rest
