use Rattle.std.proofs.Common.{◌≡◌, ◌++◌, drop}
use Rattle.defs_text.specs.Quotes.{meant, meant_from}
use Rattle.soar_lex.proofs.quote.unescaped.Given as goal

abbrev pub invariant-bytes : goal.invariant-bytes
invariant-bytes l = l.out.items ++ meant_from l.behind (drop l.byte-index l.inside) ≡ meant l.inside
