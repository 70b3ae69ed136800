use Rattle.std.proofs.Common.{◌∙◌, ap}
use Rattle.defs_soar.specs.Sorted.{has_symbol}
use Rattle.symbol_sets.proofs.SetLemmas.{found_same}
use Rattle.symbol_sets.proofs.set.SymbolSet.has.Goals as goal

pub returns : goal.returns
returns c = c.contains.ensures ∙ found_same _ c.args.symbol ∙ ap (λ l. has_symbol l c.args.symbol) c.self.view_is
