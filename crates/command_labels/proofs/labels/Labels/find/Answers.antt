use Rattle.std.proofs.Common.{◌∙◌, IfSome, sym, subst}
use Rattle.soar_sym.specs.Words.{IsKnown}
use Rattle.command_labels.specs.Found.{all_of}
use Rattle.command_labels.proofs.FoundLemmas.{label_known}
use Rattle.command_labels.proofs.labels.Labels.find.Goals as goal

pub returns-clause-known : goal.returns-clause-known
returns-clause-known c = λ words.
    subst (λ symbol. IfSome symbol (IsKnown words)) (sym (c.found.ensures ∙ c.self.invariant.first c.args.name.now))
    (label_known words (all_of c.self.inside.first.entries c.self.inside.again) c.args.name.now)
