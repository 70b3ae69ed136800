use Rattle.std.proofs.Common.{◌++◌}
use Rattle.std.proofs.lemmas.Result.{on_ok_weaker}
use Rattle.soar_rule.specs.Variables.{plain_in}
use Rattle.rule_check.proofs.BindingLemmas.{joined_then}
use Rattle.rule_check.proofs.binding.join_pattern.Goals as goal

pub returns : goal.returns
returns c =
    let id = plain_in c.args.pattern.now.id in
    let attr = plain_in c.args.pattern.now.attr in
    let value = plain_in c.args.pattern.now.value in
    on_ok_weaker c.join_field-3.result
    (λ joined.
    joined_then c.args.marks.now.marks c.join_field.new.marks.marks c.join_field-3.new.marks.marks id (attr ++ value) c.in_ok-join_field.ensures
    (joined_then c.join_field.new.marks.marks c.join_field-2.new.marks.marks c.join_field-3.new.marks.marks attr value c.in_ok-join_field-2.ensures joined))
    c.join_field-3.ensures
