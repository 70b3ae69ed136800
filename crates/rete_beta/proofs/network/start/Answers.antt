use Rattle.std.proofs.Common.{◌≡◌, sym, subst, ap, ℕ, List, []}
use Rattle.std.specs.Map.{lookup}
use Rattle.std.specs.Ordering.{is_eq}
use Rattle.std.specs.BTreeMap as numbers_of
use Rattle.slab.specs.Slab.{get}
use Rattle.soar_wm.specs.declared.element.Element.{Element}
use Rattle.soar_wm.specs.WorkingMemory.{IsRising}
use Rattle.defs_match.specs.Laws.{IsIn}
use Rattle.rete_alpha.specs.Alphas.{AlphaOf}
use Rattle.node_table.specs.Nodes.{KeyOf, key_cmp}
use Rattle.node_table.specs.Asked.{IsAsked}
use Rattle.node_table.specs.Making.{seen_at}
use Rattle.node_agenda.specs.Links.{links_of, takers_of, IsSpread}
use Rattle.rete_beta.proofs.StartLemmas.{start_table, start_numbered, start_asked, start_links, start_takers, start_stamps, start_hear, start_holds, start_root, starts_with}
use Rattle.rete_beta.proofs.network.start.Goals as goal

pub returns-clause-network : goal.returns-clause-network
returns-clause-network c =
    let r = c.in_ok-nodes.ensures in
    let slots = c.in_ok-nodes.nodes.slots in
    let alpha : c.in_ok-alpha.alpha.elements ≡ [] = ap (λ (a : AlphaOf). a.elements) c.in_ok-alpha.ensures in
    record {
      works = ap (λ (a : AlphaOf). a.failed) c.in_ok-alpha.ensures;
      whole = record {
        numbered = start_numbered slots r.root r.is r.here r.others (numbers_of.get key_cmp c.new-numbers.result) (λ key. ap (λ (es : List (KeyOf × ℕ)). lookup (λ q. is_eq (key_cmp key q)) es) c.new-numbers.ensures.empty);
        table = start_table slots r.root r.is r.here r.others;
        asked = subst (IsAsked slots) (sym c.in_ok-alpha.ensures) (start_asked slots r.root r.is r.here r.others);
      };
      links = subst (λ l. IsSpread links_of (seen_at (get c.in_ok-nodes.nodes)) l) (sym c.new-below.ensures) (start_links slots r.root r.is r.here r.others);
      takers = subst (λ l. IsSpread takers_of (seen_at (get c.in_ok-nodes.nodes)) l) (sym c.new-takers.ensures) (start_takers slots r.root r.is r.here r.others);
      stamps = start_stamps slots r.root r.is r.here r.others;
      elements = λ e. ((λ i. absurd (subst (λ (l : List Element). IsIn e l) c.new-index.ensures i)), (λ i. absurd (subst (λ (l : List Element). IsIn e l) alpha i)));
      rising = subst IsRising (sym alpha) tt;
      hear = start_hear slots r.root r.is r.here r.others c.in_ok-alpha.alpha.elements;
      holds = start_holds slots r.root r.is r.here r.others c.in_ok-alpha.alpha.elements;
      root = start_root slots r.root r.is r.here r.others;
    }

pub returns-clause-starts : goal.returns-clause-starts
returns-clause-starts c = (let r = c.in_ok-nodes.ensures in starts_with c.in_ok-nodes.nodes.slots r.root r.is r.here r.others)
