use Rattle.std.proofs.Common.{◌≡◌, ◌∷◌, map, take}
use Rattle.defs_read.specs.FieldExpansion.{symbol_of}
use Rattle.tree_parts.specs.Seen.{constant_seen}
use Rattle.read_parts.proofs.fields.symbols.Given as goal

abbrev pub invariant-others : goal.invariant-others
invariant-others l =
    l.symbols ≡ symbol_of l.source.table.now (constant_seen l.source.table.now l.fn.first) ∷ map (symbol_of l.source.table.now) (map (constant_seen l.source.table.now) (take l.constant-index l.others))
