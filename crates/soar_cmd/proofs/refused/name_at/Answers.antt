use Rattle.std.proofs.Common.{◌∙◌, sym, arith}
use Rattle.soar_sym.specs.declared.symbol.Sym.TheVariants.{Word}
use Rattle.soar_cmd.proofs.NameLemmas.{name_at_is}
use Rattle.soar_cmd.proofs.refused.name_at.Goals as goal

pub returns-in-Some : goal.returns-in-Some
returns-in-Some c = c.in-Some.ensures.lookup.3.1 (Word 0) ∙ sym (name_at_is c.args.vars.now c.args.variable)

pub returns-in-None : goal.returns-in-None
returns-in-None c = c.in-None.ensures.lookup.4 (omega arith) (Word 0) ∙ sym (name_at_is c.args.vars.now c.args.variable)
