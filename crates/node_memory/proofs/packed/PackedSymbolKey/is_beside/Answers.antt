use Rattle.std.proofs.Common.{◌≡◌, ◌∙◌, sym, ap, ◌&&◌, true, false}
use Rattle.node_memory.specs.Sides.{side_eq}
use Rattle.node_memory.proofs.SideLemmas.{told_by_key}
use Rattle.node_memory.proofs.packed.PackedSymbolKey.is_beside.Goals as goal

pub returns-then-eq : goal.returns-then-eq
returns-then-eq c =
    let p = c.self.inside in
    let r = c.other.inside in
    let id : side_eq p.id r.id ≡ true = sym c.eq.ensures ∙ c.if-eq.true in
    c.eq-then-eq.ensures ∙ ap (λ b. b && side_eq p.value r.value) (sym id)
    ∙ told_by_key c.args.other.now c.args.self.now p.id p.value r.id r.value p.tags r.tags c.self.view_is c.other.view_is c.self.invariant.0 c.self.invariant.1 c.other.invariant.0 c.other.invariant.1

pub returns-else-eq : goal.returns-else-eq
returns-else-eq c =
    let p = c.self.inside in
    let r = c.other.inside in
    let id : side_eq p.id r.id ≡ false = sym c.eq.ensures ∙ c.if-eq.false in
    c.if-eq.false ∙ ap (λ b. b && side_eq p.value r.value) (sym id)
    ∙ told_by_key c.args.other.now c.args.self.now p.id p.value r.id r.value p.tags r.tags c.self.view_is c.other.view_is c.self.invariant.0 c.self.invariant.1 c.other.invariant.0 c.other.invariant.1
