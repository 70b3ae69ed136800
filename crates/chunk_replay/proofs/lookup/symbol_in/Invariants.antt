use Rattle.std.proofs.Common.{◌≡◌, drop, map}
use Rattle.soar_rule.specs.Conditions.{condition}
use Rattle.chunk_replay.specs.LookedUp.{of_tags, symbol_in}
use Rattle.chunk_replay.proofs.lookup.symbol_in.Given as goal

abbrev pub invariant-conds : goal.invariant-conds
invariant-conds l = symbol_in (map condition (drop l.cond-index l.conds)) (of_tags l.used l.rest) l.variable ≡ symbol_in (map condition l.conds) (of_tags l.used l.tags) l.variable
