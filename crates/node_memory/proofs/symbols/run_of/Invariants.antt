use Rattle.std.proofs.Common.{◌≡◌, ◌++◌, map}
use Rattle.node_memory.specs.Symbols.{is_of, least_of, from_least}
use Rattle.node_memory.specs.Runs.{front_while}
use Rattle.node_memory.proofs.symbols.run_of.Given as goal

abbrev pub invariant-run : goal.invariant-run
invariant-run l =
    l.out.items ++ map (λ e. e.0.tags) (front_while (λ e. is_of l.fn.joined l.fn.symbols e.0) l.key-iterator)
    ≡ map (λ e. e.0.tags) (front_while (λ e. is_of l.fn.joined l.fn.symbols e.0) (from_least (least_of l.fn.joined l.fn.symbols) l.keys.entries))
