use Rattle.std.proofs.Common.{◌≡◌, ◌↔◌, ◌⊎◌, ◌∙◌, sym, ap, ap₂, subst, List}
use Rattle.std.specs.List.{list_any}
use Rattle.std.specs.BTreeMap.{insert_entry}
use Rattle.soar_wm.specs.declared.element.Element.{Element}
use Rattle.soar_wm.specs.WorkingMemory.{has_tag}
use Rattle.defs_match.specs.Laws.{IsIn}
use Rattle.node_memory.specs.Entries.{elements_in}
use Rattle.node_memory.specs.Keys.{key_cmp}
use Rattle.node_memory.proofs.IndexLemmas.{in_inserted}
use Rattle.node_memory.proofs.index.ElementIndex.add.Goals as goal

pub returns-clause-ok : goal.returns-clause-ok
returns-clause-ok c x =
    subst (λ (es : List Element). IsIn x (elements_in c.insert.new.self.entries) ↔ ((c.args.e ≡ x) ⊎ IsIn x es)) c.self.view_is
    (subst (λ es. IsIn x (elements_in es) ↔ ((c.args.e ≡ x) ⊎ IsIn x (elements_in c.self.inside.by_key.entries)))
    (sym (c.in_ok-insert.ensures.entries ∙ ap₂ (λ k m. insert_entry key_cmp c.self.inside.by_key.entries k m) c.key_of.ensures c.marks_of.ensures))
    (in_inserted c.self.inside.by_key.entries c.args.e (ap (list_any (has_tag c.args.e.tag)) c.self.view_is ∙ c.requires) x))
