-- What the parts of a graph hold.
use Rattle.std.specs.Prelude.{ℕ, List, [], Option}
use Rattle.soar_sym.specs.declared.symbol.Sym.{Sym}
use Rattle.soar_sym.specs.declared.symbol.Triple.{Triple}
use Rattle.level_graph.specs.Spreading.{Spreads}
use Rattle.level_change.specs.Counts.{edge_count}
use Rattle.level_change.specs.declared.levels.Told.{Told}
use Rattle.level_change.specs.declared.store.Store.{Store}
use Rattle.level_change.specs.Links.{level_at, is_linked, IsCounted, turned}

-- the levels that are told
abbrev pub told_in : Told → Sym → Option ℕ
told_in told s = level_at told.base.entries told.late.entries s

-- links out and in are counted, and levels have spread along them
pub record Holds (told : Told) (out : Store) (into : Store) (triples : List Triple) (goals : List Sym) : Type 0 where
  pub out_is : IsCounted (edge_count triples) out.base.entries out.late.entries
  pub into_is : IsCounted (turned (edge_count triples)) into.base.entries into.late.entries
  pub levels : Spreads (is_linked out) goals (told_in told) []
