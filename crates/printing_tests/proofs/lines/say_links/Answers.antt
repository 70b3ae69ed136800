use Rattle.std.proofs.Common.{[], ◌∷◌, arith}
use Rattle.std.specs.List.{All}
use Rattle.std.proofs.lemmas.List.Elements.{All-cons, All-nil}
use Rattle.soar_sym.specs.Words.{Texts}
use Rattle.soar_sym.specs.declared.symbol.Triple.{Triple}
use Rattle.trace_lines.specs.Saying.{IsTripleKnown}
use Rattle.printing_tests.proofs.lines.say_links.Goals as goal

one : (words : Texts) (t : Triple) → IsTripleKnown words t → All (IsTripleKnown words) (t ∷ [])
one words t known = All-cons (IsTripleKnown words) t [] known (All-nil (IsTripleKnown words))

pub say_outputs-requires-clause-gone : goal.say_outputs-requires-clause-gone
say_outputs-requires-clause-gone c = one c.args.table.now _ ((omega arith, omega arith), omega (arith, c.requires), (omega arith, omega arith))

pub say_outputs-requires-clause-new : goal.say_outputs-requires-clause-new
say_outputs-requires-clause-new c = one c.args.table.now _ ((omega arith, omega arith), c.requires, tt)
