use Rattle.std.proofs.Common.{inl, inr, sym, subst, List, [], ◌∷◌}
use Rattle.soar_wm.specs.declared.element.Element.{Element}
use Rattle.slab.specs.Slab.{get}
use Rattle.node_memory.specs.Changes.{ElementsChange}
use Rattle.node_agenda.specs.Agenda.{AllTell}
use Rattle.rete_beta.proofs.ElementLemmas.{none_same, more_same, more_change, patterns_asked, rising_differ}
use Rattle.rete_beta.proofs.ToldLemmas.{told_rows}
use Rattle.rete_beta.proofs.changing.plus.Goals as goal

pub add-requires-2 : goal.add-requires-2
add-requires-2 c = none_same c.args.e.tag c.args.net.now.index c.args.net.now.alpha.elements c.requires.network.elements c.requires.new

pub react-requires-clause-behind : goal.react-requires-clause-behind
react-requires-clause-behind c =
    let net = c.args.net.now in
    let n = c.requires.network in
    record {
      before = net.alpha.elements;
      network = record {
        works = c.in_ok-add.ensures.works.works;
        whole = record {
          numbered = n.whole.numbered;
          table = n.whole.table;
          asked = patterns_asked net.nodes.slots net.alpha c.add.new.self n.whole.asked c.in_ok-add.ensures.patterns;
        };
        links = n.links;
        takers = n.takers;
        stamps = n.stamps;
        elements = more_same net.index c.add-2.new.self net.alpha.elements c.add.new.self.elements c.args.e n.elements c.in_ok-add.ensures.elements c.in_ok-add-2.ensures.ok;
        rising = c.law.ensures.rising;
        hear = n.hear;
        holds = n.holds;
        root = n.root;
      };
      change = subst (λ (w : List Element). ElementsChange net.alpha.elements w (c.args.e ∷ []) []) (sym c.in_ok-add.ensures.elements) (more_change net.alpha.elements c.args.e);
    }

pub react-requires-clause-one : goal.react-requires-clause-one
react-requires-clause-one c = record { comes = λ x i. elim i [ inl a ↦ a | inr k ↦ absurd k ]; leaves = λ x i. absurd i }

pub returns-clause-told : goal.returns-clause-told
returns-clause-told c =
    let old = c.args.net.now in
    let new = c.react.new.net in
    let n = c.requires.network in
    told_rows c.negation_keeps.ensures (get old.nodes) (get new.nodes) new.made old.stamp c.in_ok-served.served old.alpha.elements new.alpha.elements c.in_ok-served.ensures.network.whole.table c.in_ok-served.ensures.nodes
    (rising_differ old.alpha.elements n.rising) (rising_differ new.alpha.elements c.in_ok-served.ensures.network.rising) c.in_ok-served.ensures.served
    (subst (AllTell (get new.nodes) old.stamp old.alpha.elements) (sym c.in_ok-served.ensures.elements)
    (c.in_ok-served.ensures.tell old.alpha.elements n.holds
    (subst (λ (w : List Element). ElementsChange old.alpha.elements w (c.args.e ∷ []) []) (sym c.in_ok-add.ensures.elements) (more_change old.alpha.elements c.args.e))))
