use Rattle.std.proofs.Common.{◌∙◌, ◌||◌, ap, false}
use Rattle.std.specs.HashMap as table
use Rattle.std.specs.List.{list_any}
use Rattle.open_instances.specs.Keys.{alike}
use Rattle.open_instances.proofs.KeptLemmas.{renewed}
use Rattle.open_instances.proofs.telling.renew.Goals as goal

pub returns-clause-kept : goal.returns-clause-kept
returns-clause-kept c =
    let old = c.args.kept.now in
    renewed c.args.instances.now (record old { free = c.new.result; gone = c.new-2.result; touched = c.add_counted.new.keys; stale = false })
    c.new.ensures.empty c.new-2.ensures.empty
    (λ q. c.in_ok-add_counted.ensures q ∙ ap (λ b. b || list_any (λ k. alike k q) (table.keys old.counts)) (c.in_ok-touched.ensures q))
