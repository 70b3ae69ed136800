use Rattle.std.proofs.Common.{drop}
use Rattle.defs_read.specs.Sayings.{AreTokensKnown}
use Rattle.decision_tests.proofs.firing.production.are_known.Given as goal

abbrev pub invariant-tokens : goal.invariant-tokens
invariant-tokens l = AreTokensKnown l.table (drop l.token-index l.tokens) → AreTokensKnown l.table l.tokens
