use Rattle.std.proofs.Common.{◌∙◌, ◌++◌, ap}
use Rattle.defs_run.specs.CommandLine.{rules_text}
use Rattle.generator.proofs.ItemLemmas.{script_is}
use Rattle.generator.proofs.whole.script.Goals as goal

pub returns : goal.returns
returns c =
    script_is c.args.items c.push_str.new.self c.add_items.new.script c.push_str-2.new.self c.add_removals.new.script c.push_str-3.new.self
    (c.in_ok-push_str.ensures.ok ∙ ap (λ x. x ++ rules_text) c.new-script.ensures) c.in_ok-add_items.ensures c.in_ok-push_str-2.ensures.ok c.in_ok-add_removals.ensures c.in_ok-push_str-3.ensures.ok
