use Rattle.std.proofs.Common.{◌≡◌, ◌+◌, ◌<◌, ◌≤◌, ◌-◌, inl, refl, sym, subst, List, [], ◌∷◌, true, false, arith}
use Rattle.std.specs.declared.cmp.Ordering.TheVariants.{Less}
use Rattle.slab.specs.Slab.{get}
use Rattle.node_agenda.specs.declared.turns.Turn.{Turn}
use Rattle.node_agenda.specs.Turns.{turn_cmp}
use Rattle.node_agenda.specs.Agenda.{IsLoop, AreServed}
use Rattle.node_agenda.proofs.LoopLemmas.{turn_keyed, turn_early, all_in, loop_on, stands_on, settles_on, served_on}
use Rattle.node_agenda.proofs.EndLemmas.{settles_first, none_served, all_tell, all_hold, all_hear, empty_of, ask_on}
use Rattle.node_agenda.proofs.SpreadLemmas.{linked}
use Rattle.node_agenda.proofs.RelinkLemmas.{linked_on}
use Rattle.node_agenda.proofs.agenda.settle.Goals as goal

pub serve-requires-clause-keyed : goal.serve-requires-clause-keyed
serve-requires-clause-keyed c =
    turn_keyed (get c.turns.nodes) (c.in-Some.turn ∷ c.pop_first.new.self.keys) c.turns.below c.args.alpha.now.elements c.args.stamp c.turns.floor c.args.end c.args.come c.args.goes
    (subst (λ (ts : List Turn). IsLoop (get c.turns.nodes) ts c.turns.below c.args.alpha.now.elements c.args.stamp c.turns.floor c.args.end c.args.come c.args.goes) c.in-Some.ensures.removal c.turns.invariant.loops) c.in-Some.turn (inl refl)

pub serve-requires-clause-asked : goal.serve-requires-clause-asked
serve-requires-clause-asked c = ask_on (get c.args.nodes.now) (get c.turns.nodes) c.args.stamp c.args.alpha.now c.turns.invariant.settles c.requires.asked

pub overflow_add-floor : goal.overflow_add-floor
overflow_add-floor c =
    let early = turn_early (get c.turns.nodes) (c.in-Some.turn ∷ c.pop_first.new.self.keys) c.turns.below c.args.alpha.now.elements c.args.stamp c.turns.floor c.args.end c.args.come c.args.goes
    (subst (λ (ts : List Turn). IsLoop (get c.turns.nodes) ts c.turns.below c.args.alpha.now.elements c.args.stamp c.turns.floor c.args.end c.args.come c.args.goes) c.in-Some.ensures.removal c.turns.invariant.loops) c.in-Some.turn (inl refl) in
    let past : c.in-Some.turn.made < c.args.end = early.1 in
    omega (arith, past, c.ranges.end.fits)

pub turns-smaller : goal.turns-smaller
turns-smaller c =
    let early = turn_early (get c.turns.nodes) (c.in-Some.turn ∷ c.pop_first.new.self.keys) c.turns.below c.args.alpha.now.elements c.args.stamp c.turns.floor c.args.end c.args.come c.args.goes
    (subst (λ (ts : List Turn). IsLoop (get c.turns.nodes) ts c.turns.below c.args.alpha.now.elements c.args.stamp c.turns.floor c.args.end c.args.come c.args.goes) c.in-Some.ensures.removal c.turns.invariant.loops) c.in-Some.turn (inl refl) in
    let past : c.in-Some.turn.made < c.args.end = early.1 in
    let from : c.turns.floor ≤ c.in-Some.turn.made = early.0 in
    let less : c.args.end - (c.in-Some.turn.made + 1) < c.args.end - c.turns.floor = omega (arith, past, from) in
    less

pub turns-preserved : goal.turns-preserved
turns-preserved c =
    let old = get c.turns.nodes in
    let new = get c.serve.new.nodes in
    let t = c.in-Some.turn in
    let rest = c.pop_first.new.self.keys in
    let below = c.turns.below in
    let elements = c.args.alpha.now.elements in
    let l = subst (λ (ts : List Turn). IsLoop old ts below elements c.args.stamp c.turns.floor c.args.end c.args.come c.args.goes) c.in-Some.ensures.removal c.turns.invariant.loops in
    let above = all_in (λ (u : Turn). turn_cmp t u ≡ Less) rest c.in-Some.ensures.all_above in
    let past : t.made < c.args.end = (turn_early old (t ∷ rest) below elements c.args.stamp c.turns.floor c.args.end c.args.come c.args.goes l t (inl refl)).1 in
    let after = c.go_on.new.agenda.keys in
    let keyed = turn_keyed old (t ∷ rest) below elements c.args.stamp c.turns.floor c.args.end c.args.come c.args.goes l t (inl refl) in
    let links = linked_on old new t.node c.args.stamp c.args.index.now c.args.come c.args.goes c.in_ok-serve.ensures.served keyed c.heard-was.result below c.turns.takers c.relink.new.below c.relink.new.takers
    c.heard-was.ensures c.turns.invariant.linked c.in_ok-relink.ensures.links c.in_ok-relink.ensures.takers in
    record {
      loops = loop_on old new rest t below elements c.args.stamp c.turns.floor c.args.end c.args.index.now c.args.come c.args.goes l above c.requires.same c.in_ok-serve.ensures.served c.in_ok-serve.ensures.hears after c.in_ok-go_on.ensures
          c.relink.new.below (linked new c.relink.new.below links.rows);
      linked = links;
      settles = settles_on old new rest t below elements c.args.stamp c.turns.floor c.args.end c.args.index.now c.args.come c.args.goes l above c.requires.same c.in_ok-serve.ensures.served c.in_ok-serve.ensures.hears after c.in_ok-go_on.ensures
          (get c.args.nodes.now) c.turns.invariant.settles;
      served = subst (AreServed new c.args.stamp) (sym c.in_ok-push.ensures.ok)
          (served_on old new rest t below elements c.args.stamp c.turns.floor c.args.end c.args.index.now c.args.come c.args.goes l above c.requires.same c.in_ok-serve.ensures.served c.in_ok-serve.ensures.hears after c.in_ok-go_on.ensures c.turns.served c.turns.invariant.served);
      within = omega (arith, past);
      stands = λ w0 w1 first ec same differ.
          stands_on old new rest t below elements c.args.stamp c.turns.floor c.args.end c.args.index.now c.args.come c.args.goes l above c.requires.same c.in_ok-serve.ensures.served c.in_ok-serve.ensures.hears after c.in_ok-go_on.ensures w0 w1
          (c.turns.invariant.stands w0 w1 first ec same differ) ec same differ;
    }

pub returns-clause-tell : goal.returns-clause-tell
returns-clause-tell c w0 w1 first ec same differ =
    let none : c.turns.agenda.keys ≡ [] = empty_of c.turns.agenda.keys (λ lt. (let bad : false ≡ true = c.in_default.ensures.variant.1 lt in cc)) in
    all_tell (get c.turns.nodes) c.turns.below c.args.alpha.now.elements c.args.stamp c.turns.floor c.args.end c.args.come c.args.goes
    (subst (λ (ts : List Turn). IsLoop (get c.turns.nodes) ts c.turns.below c.args.alpha.now.elements c.args.stamp c.turns.floor c.args.end c.args.come c.args.goes) none c.turns.invariant.loops) w0 w1
    (c.turns.invariant.stands w0 w1 first ec same differ) ec (λ e. ((λ i. (same e).0 ((c.requires.same e).1 i)), λ i. (c.requires.same e).0 ((same e).1 i)))

pub returns-clause-hold : goal.returns-clause-hold
returns-clause-hold c w0 w1 first ec same differ =
    let none : c.turns.agenda.keys ≡ [] = empty_of c.turns.agenda.keys (λ lt. (let bad : false ≡ true = c.in_default.ensures.variant.1 lt in cc)) in
    all_hold (get c.turns.nodes) c.turns.below c.args.alpha.now.elements c.args.stamp c.turns.floor c.args.end c.args.come c.args.goes
    (subst (λ (ts : List Turn). IsLoop (get c.turns.nodes) ts c.turns.below c.args.alpha.now.elements c.args.stamp c.turns.floor c.args.end c.args.come c.args.goes) none c.turns.invariant.loops) w0 w1
    (c.turns.invariant.stands w0 w1 first ec same differ) ec (λ e. ((λ i. (same e).0 ((c.requires.same e).1 i)), λ i. (c.requires.same e).0 ((same e).1 i)))

pub returns-clause-hear : goal.returns-clause-hear
returns-clause-hear c =
    let none : c.turns.agenda.keys ≡ [] = empty_of c.turns.agenda.keys (λ lt. (let bad : false ≡ true = c.in_default.ensures.variant.1 lt in cc)) in
    all_hear (get c.turns.nodes) c.turns.below c.args.alpha.now.elements c.args.stamp c.turns.floor c.args.end c.args.come c.args.goes
    (subst (λ (ts : List Turn). IsLoop (get c.turns.nodes) ts c.turns.below c.args.alpha.now.elements c.args.stamp c.turns.floor c.args.end c.args.come c.args.goes) none c.turns.invariant.loops)

pub turns-init : goal.turns-init
turns-init c = record {
  loops = c.requires.loops;
  linked = c.requires.linked;
  settles = settles_first (get c.args.nodes.now) c.args.stamp;
  served = subst (AreServed (get c.args.nodes.now) c.args.stamp) (sym c.new-served.ensures)
      (none_served (get c.args.nodes.now) c.args.agenda.now.keys c.args.below.now c.args.alpha.now.elements c.args.stamp c.args.end c.args.come c.args.goes c.requires.loops);
  within = omega arith;
  stands = λ w0 w1 first ec same differ. first;
}
