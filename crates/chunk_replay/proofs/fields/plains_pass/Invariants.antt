use Rattle.std.proofs.Common.{◌≡◌, drop, map}
use Rattle.std.specs.List.{list_all}
use Rattle.soar_rule.specs.Conditions.{condition}
use Rattle.chunk_replay.specs.LookedUp.{known_at, of_tags, plain_passes, symbol_in}
use Rattle.chunk_replay.proofs.fields.plains_pass.Given as goal

abbrev pub invariant-tests : goal.invariant-tests
invariant-tests l = list_all (plain_passes (known_at l.part (symbol_in (map condition l.known.conds.now) (of_tags l.known.used.now l.known.tags.now)) l.known.pattern.now l.known.element) l.symbol) (drop l.test-index l.tests) ≡ list_all (plain_passes (known_at l.part (symbol_in (map condition l.known.conds.now) (of_tags l.known.used.now l.known.tags.now)) l.known.pattern.now l.known.element) l.symbol) l.tests
