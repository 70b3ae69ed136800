use Rattle.std.proofs.Common.{◌≡◌, ◌∙◌, List, Err, ap, refl, sym, subst}
use Rattle.soar_sym.specs.declared.symbol.Sym.{Sym}
use Rattle.soar_rule.specs.Checked.{IsChecked}
use Rattle.soar_rule.specs.Checking.{unbound}
use Rattle.soar_rule.specs.Productions.{ProductionOf, production_seen}
use Rattle.soar_rule.specs.declared.fault.CheckFault.{CheckFault}
use Rattle.defs_read.specs.PrintingConditions.{name_at}
use Rattle.defs_run.specs.WholeReading.{checked}
use Rattle.soar_cmd.specs.Answers.{IsJudged}
use Rattle.soar_cmd.specs.declared.fault.CmdFault.TheVariants as faults
use Rattle.soar_cmd.specs.declared.fault.Shown.TheVariants as shown
use Rattle.soar_cmd.proofs.NameLemmas.{name_known}
use Rattle.soar_cmd.proofs.ReadingLemmas.{faulty_judged}
use Rattle.soar_cmd.proofs.refused.of_check.Goals as goal

pub returns-in-Unbound : goal.returns-in-Unbound
returns-in-Unbound c = λ words first known.
    let p : ProductionOf = production_seen c.args.production.now in
    let name : c.name_at.result ≡ name_at p.vars c.in-Unbound.variable = c.name_at.ensures ∙ ap (λ (vars : List Sym). name_at vars c.in-Unbound.variable) c.as_slice.ensures in
    subst (λ (n : Sym). IsJudged words (checked words p) (Err (faults.Refused 21 (shown.Variable n)))) (sym name)
    (faulty_judged words p (unbound c.in-Unbound.variable) (Err (faults.Refused 21 (shown.Variable (name_at p.vars c.in-Unbound.variable))))
    (subst (λ (fault : CheckFault). IsChecked p (Err fault)) c.in-Unbound.is c.requires) (refl, name_known words p.vars c.in-Unbound.variable first known))
