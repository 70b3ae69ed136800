use Rattle.std.proofs.Common.{sym, subst}
use Rattle.settle_changes.specs.Naming.{CoversGoals}
use Rattle.settle_changes.proofs.CoverLemmas.{all_of_goals}
use Rattle.settle_changes.proofs.naming.changes_of_goals.Goals as goal

pub returns : goal.returns
returns c =
    let kept = c.args.kept.now in
    let own = c.args.own.now in
    let rows = c.args.prefs.now.rows in
    subst (CoversGoals kept.own own.triples kept.ids own.ids rows) (sym c.in_ok-names.ensures) (all_of_goals kept.own own.triples kept.ids own.ids rows)
