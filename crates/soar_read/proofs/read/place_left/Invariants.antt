use Rattle.std.proofs.Common.{◌≡◌, ◌-◌, drop, length}
use Rattle.soar_read.specs.Answers.{place_left}
use Rattle.soar_read.proofs.read.place_left.Given as goal

abbrev pub invariant-tokens : goal.invariant-tokens
invariant-tokens l = record {
  rest : l.rest ≡ length l.tokens - l.token-index;
  place : place_left l.behind (drop l.token-index l.tokens) l.left ≡ place_left 0 l.tokens l.left;
}
