use Rattle.defs_match.specs.Rules.{rule_seen}
use Rattle.firing_records.specs.Recorded.{standing}
use Rattle.wave_firings.proofs.AtHandLemmas.{at_hand_is, holds_made}
use Rattle.wave_firings.proofs.gathering.at_hand.Goals as goal

pub invariant_of-result : goal.invariant_of-result
invariant_of-result c = record {
  same =
      let made = c.args.made.now in
      holds_made (standing c.args.scene.now.before.now) (rule_seen c.args.rule.now) c.args.instance.now c.args.number c.args.goals made.wishes made.dropped made.texts c.in_ok-recorded.recorded c.in_ok-told.told
      (rw (c.as_slice-wishes.ensures) at c.in_ok-recorded.ensures) c.in_ok-told.ensures;
}

pub returns : goal.returns
returns c =
    let made = c.args.made.now in
    at_hand_is (standing c.args.scene.now.before.now) (rule_seen c.args.rule.now) c.args.instance.now c.args.number c.args.goals made.wishes made.dropped made.texts c.in_ok-recorded.recorded c.in_ok-told.told
    (rw (c.as_slice-wishes.ensures) at c.in_ok-recorded.ensures) c.in_ok-told.ensures
