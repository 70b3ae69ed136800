use Rattle.std.proofs.Common.{◌≡◌, drop}
use Rattle.body_marks.specs.Fingerprint.{after_each, after_symbol}
use Rattle.body_marks.proofs.symbols.after_symbols.Given as goal

abbrev pub invariant-symbols : goal.invariant-symbols
invariant-symbols l = after_each after_symbol (drop l.symbol-index l.symbols) l.last ≡ after_each after_symbol l.symbols l.mark
