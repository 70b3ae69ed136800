use Rattle.std.proofs.Common.{◌≡◌, [], drop, filter, filter_map, take}
use Rattle.touched_tags.specs.Looked.{comes, gone_of, with_elements}
use Rattle.touched_tags.proofs.judging.judge_all.Given as goal

abbrev pub invariant-looked : goal.invariant-looked
invariant-looked g l = record {
  gone : with_elements (filter_map (gone_of l.goals (g.K.KeptSet.triples l.kept) l.memory.elements) (drop l.triple-index l.looked)) l.gone.entries
      ≡ with_elements (filter_map (gone_of l.goals (g.K.KeptSet.triples l.kept) l.memory.elements) l.looked) [];
  come : l.come ≡ filter (comes l.goals (g.K.KeptSet.triples l.kept) l.memory.elements) (take l.triple-index l.looked);
}
