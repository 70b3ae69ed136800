use Rattle.std.proofs.Common.{◌≡◌, ◌∙◌, None, Some, is_some, sym, ap, subst, true≢false}
use Rattle.slab.specs.Slab.{get}
use Rattle.soar_wm.specs.WorkingMemory.{element_of, without_tag, IsRising, IsDistinct}
use Rattle.soar_wm.specs.Shelf.{listed, cell_of}
use Rattle.soar_wm.proofs.ShelfLemmas.{found, stored_at}
use Rattle.soar_wm.proofs.GoneLemmas.{missed, Gone, shelf_gone}
use Rattle.soar_wm.proofs.shelf.Shelf.remove.Goals as goal

none : (c : goal.After-from_residual) → element_of c.args.tag c.args.self.now ≡ None
none c = sym (ap (element_of c.args.tag) c.self.view_is) ∙ sym (found _ _ c.args.tag c.self.invariant.stored) ∙ ap (cell_of (get c.self.inside.cells)) (sym c.in_err-key.ensures.value)

pub returns-in_err-key-clause-removed : goal.returns-in_err-key-clause-removed
returns-in_err-key-clause-removed c = c.from_residual.ensures ∙ sym (none c)

pub returns-in_err-key-clause-rest : goal.returns-in_err-key-clause-rest
returns-in_err-key-clause-rest c = ap (listed (get c.self.inside.cells)) c.in_err-key.ensures.unchanged ∙ c.self.view_is ∙ sym (missed c.args.tag c.args.self.now (none c))

never : (c : goal.After-from_residual-in_err-taken) → ⊥
never c = true≢false (sym (stored_at _ _ c.args.tag c.in_ok-key.key c.self.invariant.stored (sym c.in_ok-key.ensures.value)).0 ∙ ap is_some (sym c.in_err-taken.ensures.value))

pub invariant_of-self-in_err-taken : goal.invariant_of-self-in_err-taken
invariant_of-self-in_err-taken c = absurd (never c)

pub returns-in_err-taken-clause-removed : goal.returns-in_err-taken-clause-removed
returns-in_err-taken-clause-removed c = absurd (never c)

pub returns-in_err-taken-clause-rest : goal.returns-in_err-taken-clause-rest
returns-in_err-taken-clause-rest c = absurd (never c)

gone : (c : goal.After-remove-2) → Gone (get c.self.inside.cells) (get c.try_remove.new.self) c.self.inside.tags.entries c.remove.new.self.entries c.remove-2.new.self.triples.entries c.remove-2.new.self.ids.entries c.args.tag c.element-element.result
gone c =
    shelf_gone _ _ _ _ _ _ _ _ c.args.tag c.in_ok-key.key c.element-element.result c.self.invariant (subst IsRising (sym c.self.view_is) c.requires.rising) (subst IsDistinct (sym c.self.view_is) c.requires.distinct)
    c.in_ok-key.ensures.value (ap Some c.element-element.ensures ∙ c.in_ok-taken.ensures.value) c.try_remove.ensures.updates.others c.remove.ensures.entries c.remove-2.ensures

pub invariant_of-self-2 : goal.invariant_of-self-2
invariant_of-self-2 c = (gone c).shelf

pub returns-clause-removed : goal.returns-clause-removed
returns-clause-removed c = (gone c).removed ∙ ap (element_of c.args.tag) c.self.view_is

pub returns-clause-rest : goal.returns-clause-rest
returns-clause-rest c = (gone c).list ∙ ap (without_tag c.args.tag) c.self.view_is
