use Rattle.std.proofs.Common.{◌≡◌, ◌+◌, drop}
use Rattle.soar_rule.specs.Canonical.{place_among}
use Rattle.chunk_negations.proofs.own.place_among.Given as goal

abbrev pub invariant-order : goal.invariant-order
invariant-order l = l.at + place_among (drop l.at l.order) l.variable ≡ place_among l.order l.variable
