use Rattle.std.proofs.Common.{◌≡◌, ◌++◌, drop}
use Rattle.defs_read.specs.Expansion.{names_in}
use Rattle.defs_read.specs.Sayings.{sayings, AreTokensKnown}
use Rattle.read_parts.specs.Using.{AreUses}
use Rattle.read_parts.specs.Words.{texts_of}
use Rattle.read_parts.proofs.uses.uses_of.Given as goal

abbrev pub invariant-tokens : goal.invariant-tokens
invariant-tokens l = record {
  known : AreTokensKnown l.table (drop l.token-index l.tokens);
  are : AreUses l.table l.uses;
  used : texts_of l.table l.uses.used ++ names_in (sayings l.table (drop l.token-index l.tokens)) ≡ names_in (sayings l.table l.tokens);
}
