use Rattle.std.proofs.Common.{◌-◌, refl}
use Rattle.std.specs.BTreeMap as numbers_of
use Rattle.slab.specs.Slab.{get}
use Rattle.node_table.specs.Nodes.{key_cmp, key_at, with_requests}
use Rattle.node_table.proofs.NumberLemmas.{numbered_same}
use Rattle.node_table.proofs.NodeLemmas.{key_stays}
use Rattle.node_table.proofs.requests.release_at.Goals as goal

pub returns-then-requests-gt1-clause-numbered : goal.returns-then-requests-gt1-clause-numbered
returns-then-requests-gt1-clause-numbered c =
    numbered_same (numbers_of.get key_cmp c.args.numbers.now) (key_at (get c.args.nodes.now)) (key_at (get c.set_requests.new.nodes)) c.requires.numbered
    (key_stays (get c.args.nodes.now) (get c.set_requests.new.nodes) c.args.n (with_requests (c.in-Some.node.now.requests - 1)) c.set_requests.ensures (λ s. refl))
