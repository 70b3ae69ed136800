-- Numbers of links, with triples more and less.
use Rattle.std.specs.Prelude.{suc, ◌+◌, ◌-◌, List, if◌then◌else◌}
use Rattle.soar_sym.specs.declared.symbol.Triple.{Triple}
use Rattle.level_laws.specs.Labels.{leads}
use Rattle.level_change.specs.Counts.{edge_count}
use Rattle.level_change.specs.Links.{Counts}

abbrev pub with_triple : Triple → Counts → Counts
with_triple t counts x y = if leads x y t then suc (counts x y) else counts x y

abbrev pub without_triple : Triple → Counts → Counts
without_triple t counts x y = if leads x y t then counts x y - 1 else counts x y

abbrev pub with_all : List Triple → Counts → Counts
with_all triples counts x y = counts x y + edge_count triples x y

abbrev pub without_all : List Triple → Counts → Counts
without_all triples counts x y = counts x y - edge_count triples x y
