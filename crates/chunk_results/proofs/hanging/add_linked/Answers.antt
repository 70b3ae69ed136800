use Rattle.std.proofs.Common.{rules, ◌≡◌, ◌∙◌, ◌+◌, ◌<◌, sym, ap, subst, List, length, get_or, filter}
use Rattle.soar_sym.specs.declared.symbol.Sym.{Sym}
use Rattle.soar_sym.specs.declared.symbol.Sym.TheVariants.{Ident}
use Rattle.defs_soar.specs.History.{firing_seen}
use Rattle.defs_soar.specs.Results.{with_each_symbol}
use Rattle.defs_soar.specs.Sorted.{has_symbol}
use Rattle.level_graph.specs.Listed.{linked, listed}
use Rattle.chunk_results.specs.Held.{Walk}
use Rattle.chunk_results.specs.Told.{hangs_as_told}
use Rattle.chunk_results.proofs.HeldSteps.{step_less}
use Rattle.chunk_results.proofs.WalkLemmas.{goes_on}
use Rattle.chunk_results.proofs.hanging.add_linked.Goals as goal

pub order-preserved : goal.order-preserved
order-preserved g c =
    let hangs = hangs_as_told (g.L.Leveled.told c.args.before.now.levels.now) c.args.before.now.goals.now (firing_seen c.args.before.now.firing.now) in
    let links = c.args.links.now in
    let first : List Sym = c.args.held.now.order in
    let order : List Sym = c.order.held.order in
    let at = c.order.at in
    let no_symbol : Sym = Ident 0 0 in
    let less : at < length order = search rules in
    let is : c.of.result.now ≡ listed links (get_or order at no_symbol) = c.of.ensures ∙ ap (λ l. listed links (get_or l at no_symbol)) c.as_slice.ensures in
    record {
      same = c.in_ok-add_each.ensures.same;
      walk =
          subst (λ l. Walk hangs (linked links) first l (at + 1)) (sym c.in_ok-add_each.ensures.order)
          (goes_on hangs (linked links) first order c.of.result.now at no_symbol c.order.invariant.walk less (λ y. ap (λ l. has_symbol l y) (sym is)));
    }

pub order-smaller : goal.order-smaller
order-smaller g c =
    let hangs = hangs_as_told (g.L.Leveled.told c.args.before.now.levels.now) c.args.before.now.goals.now (firing_seen c.args.before.now.firing.now) in
    let links = c.args.links.now in
    let order : List Sym = c.order.held.order in
    let at = c.order.at in
    let no_symbol : Sym = Ident 0 0 in
    let less : at < length order = search rules in
    let is : c.of.result.now ≡ listed links (get_or order at no_symbol) = c.of.ensures ∙ ap (λ l. listed links (get_or l at no_symbol)) c.as_slice.ensures in
    step_less hangs links (get_or order at no_symbol) order c.add_each.new.held.order at (c.in_ok-add_each.ensures.order ∙ ap (λ l. with_each_symbol order (filter hangs l)) is) less
