use Rattle.std.proofs.Common.{◌∙◌, ◌||◌, ap}
use Rattle.soar_sym.specs.Equality.{symbol_eq}
use Rattle.defs_soar.specs.Sorted.{has_symbol}
use Rattle.symbol_sets.proofs.SetLemmas.{added_same}
use Rattle.symbol_sets.proofs.set.SymbolSet.add.Goals as goal

pub returns : goal.returns
returns c = λ s.
    added_same c.self.inside.tree.keys c.insert.new.self.keys c.args.symbol c.in_ok-insert.ensures.updates.0 s
    ∙ ap (λ l. symbol_eq s c.args.symbol || has_symbol l s) c.self.view_is
