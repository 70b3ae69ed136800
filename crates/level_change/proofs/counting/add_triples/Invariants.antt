use Rattle.std.proofs.Common.{take}
use Rattle.level_change.specs.Edges.{with_all}
use Rattle.level_change.specs.Links.{Counts, Facts, IsCounted, turned}
use Rattle.level_change.proofs.counting.add_triples.Given as goal

abbrev pub invariant-triples : goal.invariant-triples
invariant-triples l =
    ((counts : Counts) → IsCounted counts l.out.entries l.initial.out_late.entries → IsCounted (with_all (take l.triple-index l.triples) counts) l.out.entries l.out_late.entries)
    × ((into : Facts) (counts : Counts) → IsCounted counts l.out.entries l.initial.out_late.entries → IsCounted (turned counts) into l.initial.into_late.entries
    → IsCounted (turned (with_all (take l.triple-index l.triples) counts)) into l.into_late.entries)
