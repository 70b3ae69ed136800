use Rattle.std.proofs.Common.{length}
use Rattle.random_words.proofs.CutLemmas.{Cutting}
use Rattle.random_words.proofs.cut.lex_random.Given as goal

abbrev pub invariant-pieces : goal.invariant-pieces
invariant-pieces l = Cutting l.initial.table l.table l.text l.rest l.place l.numbers

abbrev pub decreases-pieces : goal.decreases-pieces
decreases-pieces l = length l.rest
