use Rattle.std.proofs.Common.{◌≡◌, map, take, drop}
use Rattle.soar_sym.specs.Words.{Texts}
use Rattle.defs_read.specs.Sayings.{AreTokensKnown}
use Rattle.command_orders.specs.Behind.{AreArgumentsKnown, argument_at, argument_seen}
use Rattle.command_orders.proofs.argument.arguments_of.Given as goal

abbrev pub invariant-tokens : goal.invariant-tokens
invariant-tokens l = record {
  arguments : (words : Texts) → map (argument_seen words) l.arguments ≡ map (argument_at words l.text) (take l.token-index l.tokens);
  known : (words : Texts) → AreTokensKnown words l.tokens → AreArgumentsKnown words l.arguments × AreTokensKnown words (drop l.token-index l.tokens);
}
