use Rattle.std.proofs.Common.{◌∙◌, sym}
use Rattle.std.specs.BTreeMap as map
use Rattle.std.specs.HashMap as table
use Rattle.std.specs.List.{list_any}
use Rattle.open_instances.specs.Keeping.{live_test, open_test}
use Rattle.open_instances.proofs.LeavingLemmas.{leaves, neither}
use Rattle.open_instances.proofs.leaving.leave_rule.Goals as goal

pub returns-else-has_any-clause-kept : goal.returns-else-has_any-clause-kept
returns-else-has_any-clause-kept c before after loses fits fresh =
    let kept = c.args.kept.now in
    let apart = neither (list_any (open_test kept c.args.number) (map.keys kept.free)) (list_any (live_test kept c.args.number) (table.keys kept.counts)) (sym c.has_any.ensures ∙ c.if-has_any.false) in
    leaves kept c.args.number apart.0 apart.1 before after loses (fits fresh)
