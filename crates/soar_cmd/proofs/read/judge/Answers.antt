use Rattle.std.proofs.Common.{Ok, refl}
use Rattle.soar_rule.specs.Productions.{ProductionOf, production_seen}
use Rattle.defs_run.specs.declared.form.Order.TheVariants.{Load}
use Rattle.soar_cmd.proofs.CheckedLemmas.{names_known, ordered_known, ordered_unlearned}
use Rattle.soar_cmd.proofs.NameLemmas.{some_words}
use Rattle.soar_cmd.proofs.ReadingLemmas.{ordered_judged}
use Rattle.soar_cmd.proofs.read.judge.Goals as goal

pub returns-in-Ok-clause-judged : goal.returns-in-Ok-clause-judged
returns-in-Ok-clause-judged c =
    ordered_judged c.args.table.now (production_seen c.args.production.now) (production_seen c.in-Ok.ordered) (Ok (Load c.in-Ok.ordered)) c.in-Ok.ensures refl

pub returns-in-Ok-clause-known : goal.returns-in-Ok-clause-known
returns-in-Ok-clause-known c =
    let p : ProductionOf = production_seen c.args.production.now in
    let q : ProductionOf = production_seen c.in-Ok.ordered in (
      ordered_known c.args.table.now p q c.in-Ok.ensures c.requires.known,
      ordered_unlearned p q c.in-Ok.ensures c.requires.unlearned,
      c.checked_is_in_order.ensures.bound p q c.in-Ok.ensures,
    )

pub returns-in-Err-clause-judged : goal.returns-in-Err-clause-judged
returns-in-Err-clause-judged c =
    c.of_check.ensures c.args.table.now (some_words c.args.table.now c.law.ensures) (names_known c.args.table.now (production_seen c.args.production.now) c.requires.known)
