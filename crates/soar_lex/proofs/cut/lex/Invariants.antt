use Rattle.std.proofs.Common.{length}
use Rattle.soar_lex.proofs.CutLemmas.{Cutting}
use Rattle.soar_lex.proofs.cut.lex.Given as goal

abbrev pub invariant-pieces : goal.invariant-pieces
invariant-pieces l = Cutting l.initial.table l.table l.text l.rest l.place l.tokens

abbrev pub decreases-pieces : goal.decreases-pieces
decreases-pieces l = length l.rest
