use Rattle.std.proofs.Common.{◌≡◌, ◌++◌}
use lib.Utf8.{encodes}
use Rattle.defs_text.specs.Quotes.{escaped}
use Rattle.soar_show.proofs.word.push_escaped.Given as goal

abbrev pub invariant-letters : goal.invariant-letters
invariant-letters l = l.out ≡ l.initial.out ++ escaped l.quote (encodes l.yielded)
