use Rattle.std.specs.Map.{values_of}
use Rattle.rete_beta.specs.Joins.{node_at}
use Rattle.rete_net.proofs.LoadLemmas.{on_ok_both, whole_same}
use Rattle.rete_net.proofs.loaded.remove.Goals as goal

pub returns-clause-loaded : goal.returns-clause-loaded
returns-clause-loaded c =
    on_ok_both c.remove.result
    (λ works same. record {
      works = works.works;
      numbered = c.requires.loaded.numbered;
      whole = whole_same (values_of c.args.loaded.now.chains.entries) (node_at c.args.loaded.now.joins) (node_at c.remove.new.self) same c.requires.loaded.whole;
      ends = c.requires.loaded.ends;
    })
    c.remove.ensures.works c.remove.ensures.nodes
