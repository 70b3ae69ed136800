-- A plan can be carried out, and then memory is what tagging says.
use Rattle.std.proofs.Common.{◌≡◌, ◌+◌, ◌≤◌, ◌++◌, List, length, sym, subst, ◌∙◌, ap, ap₂, arith}
use Rattle.soar_sym.specs.Words.{Texts}
use Rattle.soar_sym.specs.declared.symbol.Triple.{Triple}
use Rattle.soar_wm.specs.declared.element.Element.{Element}
use Rattle.soar_wm.specs.WorkingMemory.{WorkingMemory}
use Rattle.defs_soar.specs.declared.goal.Goal.{Goal}
use Rattle.defs_soar.specs.Settling.{tagged}
use Rattle.soar_settle.specs.declared.changes.Changes.{Changes}
use Rattle.touched_tags.specs.declared.planning.Plan.{Plan}
use Rattle.soar_settle.specs.Plans.{coming, staying}
use Rattle.touched_tags.specs.Plans.{IsPlan}
use Rattle.soar_settle.specs.Settles.{Retagged, after_of}
use Rattle.soar_settle.specs.Tagging.{AreAddable, without_each}
use Rattle.soar_settle.proofs.AddingLemmas.{new_are_addable}
use Rattle.soar_settle.proofs.TaggingLemmas.{gone_are, last_is, left_are, new_are}

module _ (words : Texts) (goals : List Goal) (kept : List Triple) (m : WorkingMemory) (plan : Plan) (is : IsPlan words goals kept m plan) where
  stay_are : without_each m.elements plan.going ≡ staying goals kept m
  stay_are = ap (without_each m.elements) is.sought.going_are ∙ left_are words goals kept m is.sought.lawful

  pub addable : (triples : List Triple) → triples ≡ plan.triples → AreAddable goals m.last (without_each m.elements plan.going) triples
  addable triples same =
      let P : List Element → Type 0 = λ elements. AreAddable goals m.last elements triples in
      let Q : List Triple → Type 0 = AreAddable goals m.last (staying goals kept m) in
      subst P (sym stay_are) (subst Q (sym (same ∙ is.sought.triples_are)) (new_are_addable words goals m.last (staying goals kept m) kept))

  pub room : (triples : List Triple) → triples ≡ plan.triples → m.limit ≡ 4000000 → length (without_each m.elements plan.going) + length triples ≤ m.limit
  room triples same limit = omega (arith, is.room, ap length stay_are, ap length same, limit)

  pub retagged : (triples : List Triple) (new : WorkingMemory) (changes : Changes) → triples ≡ plan.triples
      → new ≡ record m { elements = without_each m.elements plan.going ++ tagged goals m.last triples; last = m.last + length triples }
      → changes.gone ≡ plan.going → changes.new ≡ tagged goals m.last triples → Retagged (after_of words goals kept m) m new changes
  retagged triples new changes same memory gone come =
      let coming_are : triples ≡ coming words goals kept m = same ∙ is.sought.triples_are in record {
        lawful = is.sought.lawful;
        memory_is =
            memory
            ∙ ap₂ (λ elements last. record m { elements = elements; last = last })
            (ap₂ (λ elements more. elements ++ tagged goals m.last more) stay_are coming_are)
            (ap (λ more. m.last + length more) coming_are ∙ sym (last_is words goals kept m is.sought.lawful));
        gone_are = gone ∙ is.sought.going_are ∙ sym (gone_are words goals kept m is.sought.lawful);
        new_are = come ∙ ap (tagged goals m.last) coming_are ∙ sym (new_are words goals kept m is.sought.lawful);
        within = is.within;
      }
