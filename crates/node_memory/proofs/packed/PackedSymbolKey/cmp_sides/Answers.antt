use Rattle.std.proofs.Common.{◌≡◌, ◌∙◌, sym, ap₂}
use Rattle.std.specs.Cmp.Lexicographic.{slice_cmp}
use Rattle.std.specs.Ordering.{nat_cmp, ordering_then}
use Rattle.std.specs.declared.cmp.Ordering.TheVariants.{Equal}
use Rattle.node_memory.specs.Sides.{side_cmp}
use Rattle.node_memory.proofs.SideLemmas.{keys_by_sides}
use Rattle.node_memory.proofs.packed.PackedSymbolKey.cmp_sides.Goals as goal

pub returns-in-Equal-cmp : goal.returns-in-Equal-cmp
returns-in-Equal-cmp c =
    let p = c.self.inside in
    let q = c.other.inside in
    let id : side_cmp p.id q.id ≡ Equal = sym c.cmp.ensures ∙ c.in-Equal.is in
    let value : side_cmp p.value q.value ≡ Equal = sym c.cmp-in-Equal.ensures ∙ c.in-Equal-cmp.is in
    c.cmp-in-Equal-cmp.ensures ∙ sym (ap₂ (λ o w. ordering_then o (ordering_then w (slice_cmp nat_cmp p.tags q.tags))) id value)
    ∙ keys_by_sides c.args.self.now c.args.other.now p.id p.value q.id q.value p.tags q.tags c.self.view_is c.other.view_is c.self.invariant.0 c.self.invariant.1 c.other.invariant.0 c.other.invariant.1
