use Rattle.std.proofs.Common.{◌≡◌, ℕ, None}
use Rattle.input_memory.specs.Store.{last_over, part_of, triple_at}
use Rattle.input_memory.proofs.index.gather.Given as goal

abbrev pub invariant-places : goal.invariant-places
invariant-places l = (n : ℕ) → last_over n (triple_at l.found.entries n) l.place-iterator ≡ last_over n None (part_of l.fn.id l.fn.index.places.entries)
