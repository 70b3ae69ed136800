use Rattle.std.proofs.Common.{take}
use Rattle.level_change.specs.Edges.{without_all}
use Rattle.level_change.specs.Links.{Counts, Facts, IsCounted, turned}
use Rattle.level_change.proofs.counting.take_triples.Given as goal

abbrev pub invariant-triples : goal.invariant-triples
invariant-triples l =
    ((counts : Counts) → IsCounted counts l.out.entries l.initial.out_late.entries → IsCounted (without_all (take l.triple-index l.triples) counts) l.out.entries l.out_late.entries)
    × ((into : Facts) (counts : Counts) → IsCounted counts l.out.entries l.initial.out_late.entries → IsCounted (turned counts) into l.initial.into_late.entries
    → IsCounted (turned (without_all (take l.triple-index l.triples) counts)) into l.into_late.entries)
