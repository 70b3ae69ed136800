use Rattle.std.proofs.Common.{◌∙◌, ap, map, sym, subst}
use Rattle.std.specs.Option.{option_copied, option_map}
use Rattle.defs_match.specs.Rules.{rule_seen}
use Rattle.defs_soar.specs.Pending.{firable_of}
use Rattle.firing_records.specs.Recorded.{standing}
use Rattle.pending_work.proofs.FirableLemmas.{binds_by_rule, rule_alone, rule_there}
use Rattle.wave_firings.specs.FiringOutcome.{gathered, LeavesOne}
use Rattle.wave_firings.specs.Held.{against}
use Rattle.wave_firings.proofs.FiringKnown.{rule_known}
use Rattle.wave_firings.proofs.turns.fire_one.Goals as goal

pub fire_rule-requires-clause-binds : goal.fire_rule-requires-clause-binds
fire_rule-requires-clause-binds c =
    binds_by_rule (map rule_seen c.args.scene.now.rules.now) c.args.instance.now (rule_seen c.in-Some.rule.now) c.requires.bound
    (sym c.get.ensures ∙ ap (λ r. option_map rule_seen (option_copied r)) c.in-Some.is)

pub fire_rule-requires-clause-known : goal.fire_rule-requires-clause-known
fire_rule-requires-clause-known c =
    let rules = map rule_seen c.args.scene.now.rules.now in
    let i = c.args.instance.now in
    let alone = rule_alone rules i (rule_seen c.in-Some.rule.now) c.requires.bound (sym c.get.ensures ∙ ap (λ r. option_map rule_seen (option_copied r)) c.in-Some.is) in
    record {
      rule_known = rule_known c.args.table.now rules i.rule (rule_seen c.in-Some.rule.now) c.requires.rules alone;
      instance_known = c.requires.known;
    }

pub unreachable-requires : goal.unreachable-requires
unreachable-requires c =
    rule_there (map rule_seen c.args.scene.now.rules.now) c.args.instance.now c.requires.bound (sym c.get.ensures ∙ ap (λ r. option_map rule_seen (option_copied r)) c.in-None.is)

pub returns-clause-answer : goal.returns-clause-answer
returns-clause-answer c =
    let s = standing c.args.scene.now.before.now in
    let rules = map rule_seen c.args.scene.now.rules.now in
    let i = c.args.instance.now in
    let alone = rule_alone rules i (rule_seen c.in-Some.rule.now) c.requires.bound (sym c.get.ensures ∙ ap (λ r. option_map rule_seen (option_copied r)) c.in-Some.is) in
    let after = gathered c.fire_rule.new.table c.fire_rule.new.letters c.args.number c.fire_rule.new.fired in
    subst (λ found. LeavesOne (against s) c.args.number (gathered c.args.table.now c.args.letters.now c.args.number c.args.fired.now) (map (λ rule. firable_of s.elements rule i) found) after c.fire_rule.result)
    (sym alone) c.fire_rule.ensures.answer
