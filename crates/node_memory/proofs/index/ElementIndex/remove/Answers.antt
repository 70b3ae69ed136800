use Rattle.std.proofs.Common.{◌∙◌, sym, ap, subst, List}
use Rattle.std.specs.Map.{remove_entry}
use Rattle.std.specs.BTreeMap.{is_at}
use Rattle.soar_wm.specs.declared.element.Element.{Element}
use Rattle.defs_match.specs.Laws.{IsIn}
use Rattle.node_memory.specs.Entries.{elements_in}
use Rattle.node_memory.specs.Keys.{key_cmp, key_of}
use Rattle.node_memory.proofs.IndexLemmas.{Keyed, stays, left}
use Rattle.node_memory.proofs.index.ElementIndex.remove.Goals as goal

pub returns : goal.returns
returns c x =
    let es = c.self.inside.by_key.entries in
    let after = c.remove.ensures.entries ∙ ap (λ k. remove_entry (is_at (key_cmp k)) es) c.key_of.ensures in (
      (λ h.
          let l = left es c.args.e.now x c.len-count.ensures.ordered (subst (λ (fs : Keyed). IsIn x (elements_in fs)) after h) in
          let there = subst (λ (ws : List Element). IsIn x ws) c.self.view_is l.0 in
          (there, λ same. l.1 (ap key_of (c.requires x there same)))),
      (λ h. subst (λ (fs : Keyed). IsIn x (elements_in fs)) (sym after) (stays es c.args.e.now x (subst (λ (ws : List Element). IsIn x ws) (sym c.self.view_is) h.0) h.1)),
    )
