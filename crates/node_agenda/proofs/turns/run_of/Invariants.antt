use Rattle.std.proofs.Common.{◌≡◌, ◌++◌, map}
use Rattle.node_memory.specs.Runs.{front_while}
use Rattle.node_agenda.specs.Turns.{is_under, least_under, from_least}
use Rattle.node_agenda.proofs.turns.run_of.Given as goal

abbrev pub invariant-run : goal.invariant-run
invariant-run l =
    l.out.items ++ map (λ e. e.0.turn) (front_while (λ e. is_under l.number e.0) l.key-iterator)
    ≡ map (λ e. e.0.turn) (front_while (λ e. is_under l.number e.0) (from_least (least_under l.number) l.keys.entries))
