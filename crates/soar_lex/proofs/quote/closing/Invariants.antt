use Rattle.std.proofs.Common.{◌≡◌, drop}
use Rattle.defs_text.specs.Quotes.{closing, closing_from}
use Rattle.soar_lex.proofs.QuoteLemmas.{counted_from}
use Rattle.soar_lex.proofs.quote.closing.Given as goal

abbrev pub invariant-bytes : goal.invariant-bytes
invariant-bytes l = closing l.quote l.bytes ≡ counted_from l.at (closing_from l.quote l.behind (drop l.at l.bytes))
