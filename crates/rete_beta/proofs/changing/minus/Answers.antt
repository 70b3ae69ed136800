use Rattle.std.proofs.Common.{◌∙◌, inl, inr, sym, subst, List, [], ◌∷◌}
use Rattle.soar_wm.specs.declared.element.Element.{Element}
use Rattle.slab.specs.Slab.{get}
use Rattle.node_memory.specs.Changes.{ElementsChange}
use Rattle.node_agenda.specs.Agenda.{AllTell}
use Rattle.rete_beta.proofs.ElementLemmas.{only_one, less_same, less_change, patterns_asked, rising_differ}
use Rattle.rete_beta.proofs.ToldLemmas.{told_rows}
use Rattle.rete_beta.proofs.changing.minus.Goals as goal

pub remove-requires-2 : goal.remove-requires-2
remove-requires-2 c =
    let net = c.args.net.now in
    let n = c.requires.network in
    only_one net.index net.alpha.elements c.args.tag c.in-Some.e n.rising (sym (c.in-Some.ensures.found n.works)) n.elements

pub react-requires-clause-behind : goal.react-requires-clause-behind
react-requires-clause-behind c =
    let net = c.args.net.now in
    let n = c.requires.network in
    let at = sym (c.in-Some.ensures.found n.works) in
    record {
      before = net.alpha.elements;
      network = record {
        works = c.remove.ensures.works ∙ n.works;
        whole = record {
          numbered = n.whole.numbered;
          table = n.whole.table;
          asked = patterns_asked net.nodes.slots net.alpha c.remove.new.self n.whole.asked (c.remove.ensures.patterns n.works);
        };
        links = n.links;
        takers = n.takers;
        stamps = n.stamps;
        elements = less_same net.index c.remove-2.new.self net.alpha.elements c.remove.new.self.elements c.args.tag c.in-Some.e n.rising at n.elements (c.remove.ensures.elements n.works) c.remove-2.ensures;
        rising = c.law.ensures.rising;
        hear = n.hear;
        holds = n.holds;
        root = n.root;
      };
      change = subst (λ (w : List Element). ElementsChange net.alpha.elements w [] (c.in-Some.e ∷ [])) (sym (c.remove.ensures.elements n.works)) (less_change net.alpha.elements c.args.tag c.in-Some.e n.rising at);
    }

pub react-requires-clause-one : goal.react-requires-clause-one
react-requires-clause-one c = record { comes = λ x i. absurd i; leaves = λ x i. elim i [ inl a ↦ a | inr k ↦ absurd k ] }

pub returns-clause-told : goal.returns-clause-told
returns-clause-told c =
    let old = c.args.net.now in
    let new = c.react.new.net in
    let n = c.requires.network in
    told_rows c.negation_keeps.ensures (get old.nodes) (get new.nodes) new.made old.stamp c.in_ok-served.served old.alpha.elements new.alpha.elements c.in_ok-served.ensures.network.whole.table c.in_ok-served.ensures.nodes
    (rising_differ old.alpha.elements n.rising) (rising_differ new.alpha.elements c.in_ok-served.ensures.network.rising) c.in_ok-served.ensures.served
    (subst (AllTell (get new.nodes) old.stamp old.alpha.elements) (sym c.in_ok-served.ensures.elements)
    (c.in_ok-served.ensures.tell old.alpha.elements n.holds
    (subst (λ (w : List Element). ElementsChange old.alpha.elements w [] (c.in-Some.e ∷ [])) (sym (c.remove.ensures.elements n.works))
    (less_change old.alpha.elements c.args.tag c.in-Some.e n.rising (sym (c.in-Some.ensures.found n.works))))))
