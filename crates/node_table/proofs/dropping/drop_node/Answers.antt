use Rattle.std.proofs.Common.{◌∙◌, sym}
use Rattle.slab.specs.Slab.{get}
use Rattle.node_table.specs.Nodes.{one_less}
use Rattle.node_table.proofs.DropLemmas.{freed_live, freed_asked, counted_asked, cond_here, cond_others}
use Rattle.node_table.proofs.dropping.drop_node.Goals as goal

pub release-requires : goal.release-requires
release-requires c = record { live = λ works. freed_live c.args.nodes.now.slots c.args.alpha.now c.args.n c.in-Some.number c.requires.asked (sym c.freed-number.ensures ∙ c.in-Some.is) }

pub returns-in-Some-clause-asked : goal.returns-in-Some-clause-asked
returns-in-Some-clause-asked c =
    freed_asked c.args.nodes.now.slots c.release_at.new.nodes.slots c.args.alpha.now c.release.new.self c.args.n c.in-Some.number c.requires.asked (sym c.freed-number.ensures ∙ c.in-Some.is)
    (cond_here (get c.args.nodes.now) (get c.release_at.new.nodes) one_less c.args.n c.release_at.ensures.nodes) (cond_others (get c.args.nodes.now) (get c.release_at.new.nodes) one_less c.args.n c.release_at.ensures.nodes)
    (c.release.ensures.releases c.requires.works)

pub returns-in_default-clause-asked : goal.returns-in_default-clause-asked
returns-in_default-clause-asked c =
    counted_asked c.args.nodes.now.slots c.release_at.new.nodes.slots c.args.alpha.now c.args.n c.requires.asked (sym c.freed-number.ensures ∙ c.in_default.is)
    (cond_here (get c.args.nodes.now) (get c.release_at.new.nodes) one_less c.args.n c.release_at.ensures.nodes) (cond_others (get c.args.nodes.now) (get c.release_at.new.nodes) one_less c.args.n c.release_at.ensures.nodes)
