use Rattle.rete_beta.specs.Joins.{node_at}
use Rattle.rete_net.proofs.ReadLemmas.{last_live, none_there, one_there}
use Rattle.rete_net.proofs.reading.instance.Goals as goal

pub row-requires : goal.row-requires
row-requires c = record { live = λ _. last_live (node_at c.args.joins.now) c.args.chain.now c.requires.root c.requires.served }

pub returns-in_default : goal.returns-in_default
returns-in_default c =
    none_there c.canonical_forms_match.ensures.instances (node_at c.args.joins.now) c.args.chain.now c.args.joins.now.elements c.args.tags.now c.requires.root c.requires.served
    c.in_ok-row.field-0 c.in_default.is c.in_ok-row.ensures.row

pub returns : goal.returns
returns c =
    one_there c.canonical_forms_match.ensures.instances (node_at c.args.joins.now) c.args.chain.now c.args.joins.now.elements c.args.tags.now c.requires.root c.requires.served
    c.in_ok-row.field-0 c.in-Some.row c.in-Some.is c.in_ok-row.ensures.row
