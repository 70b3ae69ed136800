use Rattle.soar_rule.specs.Checking.{lone_variable}
use Rattle.soar_rule.specs.Productions.{preference_seen, value_seen}
use Rattle.soar_rule.specs.Variables.{of_referent, referent_value}
use Rattle.rule_check.proofs.LinkingLemmas.{joined_then}
use Rattle.rule_check.proofs.linking.link_to.Goals as goal

pub returns-then-is_new_value-clause-joined : goal.returns-then-is_new_value-clause-joined
returns-then-is_new_value-clause-joined c =
    joined_then c.args.linked.now.marks c.join_lone.new.marks.marks c.join_referent.new.marks.marks (lone_variable (value_seen c.args.value.now)) (of_referent lone_variable (referent_value (preference_seen c.args.pref.now)))
    c.in_ok-is_new_value.ensures.joined c.in_ok-is_new_referent.ensures.joined

pub returns-else-is_new_value-clause-joined : goal.returns-else-is_new_value-clause-joined
returns-else-is_new_value-clause-joined c =
    joined_then c.args.linked.now.marks c.join_lone.new.marks.marks c.join_referent.new.marks.marks (lone_variable (value_seen c.args.value.now)) (of_referent lone_variable (referent_value (preference_seen c.args.pref.now)))
    c.in_ok-is_new_value.ensures.joined c.in_ok-is_new_referent.ensures.joined
