-- The elements after tagging are those that stay and those that come.
use Rattle.std.proofs.Common.{◌≡◌, ℕ, ◌+◌, ◌-◌, ◌≤◌, Bool, not, List, [], ◌∷◌, length, filter, refl, sym, ◌∙◌, ap, ap₂, arith, length-append}
use Rattle.std.proofs.lemmas.List.Filters.{length-filter_both}
use Rattle.soar_sym.specs.Words.{Texts}
use Rattle.soar_sym.specs.declared.symbol.Triple.{Triple}
use Rattle.soar_wm.specs.declared.element.Element.{Element}
use Rattle.soar_wm.specs.WorkingMemory.{WorkingMemory, IsLawful}
use Rattle.defs_soar.specs.declared.goal.Goal.{Goal}
use Rattle.defs_soar.specs.Limits.{elements_to, first_passed, tags_to}
use Rattle.defs_soar.specs.Resettling.{without_elements}
use Rattle.defs_soar.specs.Settling.{stays, tagged}
use Rattle.soar_settle.specs.Plans.{coming, staying}
use Rattle.soar_settle.specs.Settles.{after_of, last_of, passed_by}
use Rattle.soar_settle.specs.Tagging.{without_each}
use Rattle.soar_settle.proofs.RemovingLemmas.{gone_elements, new_elements, length-tagged, without_each-filter}

-- ---- what the steps leave

-- how many stay, where it is known how many go
pub count_staying : (p : Element → Bool) (elements going : List Element) (all gone : ℕ) → going ≡ filter (λ e. not (p e)) elements → all ≡ length elements → gone ≡ length going
    → (gone ≤ all) × (all - gone ≡ length (filter p elements))
count_staying p elements going all gone going_are all_is gone_is =
    let both = length-filter_both p (λ e. not (p e)) (λ e. refl) elements in
    (omega (arith, both, ap length going_are, all_is, gone_is), omega (arith, both, ap length going_are, all_is, gone_is))

module _ (words : Texts) (goals : List Goal) (kept : List Triple) (m : WorkingMemory) (lawful : IsLawful m) where
  pub gone_are : without_elements (after_of words goals kept m) m.elements ≡ filter (λ e. not (stays goals kept e)) m.elements
  gone_are = gone_elements (stays goals kept) goals m.last (coming words goals kept m) m.elements lawful.rising lawful.given

  pub new_are : without_elements m.elements (after_of words goals kept m) ≡ tagged goals m.last (coming words goals kept m)
  new_are = new_elements (stays goals kept) goals m.last (coming words goals kept m) m.elements lawful.given

  pub last_is : last_of (after_of words goals kept m) m ≡ m.last + length (coming words goals kept m)
  last_is = ap (λ n. m.last + n) (ap length new_are ∙ length-tagged goals m.last (coming words goals kept m))

  length_is : length (after_of words goals kept m) ≡ length (staying goals kept m) + length (coming words goals kept m)
  length_is = length-append (staying goals kept m) (tagged goals m.last (coming words goals kept m)) ∙ ap (λ n. length (staying goals kept m) + n) (length-tagged goals m.last (coming words goals kept m))

  pub passed_is : (count new last : ℕ) → count ≡ length (staying goals kept m) → new ≡ length (coming words goals kept m) → last ≡ m.last
      → passed_by (after_of words goals kept m) m ≡ first_passed (elements_to (count + new) ∷ tags_to (last + new) ∷ [])
  passed_is count new last count_is new_is before_is =
      ap₂ (λ elements tags. first_passed (elements_to elements ∷ tags_to tags ∷ []))
      (length_is ∙ sym (ap₂ (λ a b. a + b) count_is new_is)) (last_is ∙ sym (ap₂ (λ a b. a + b) before_is new_is))

  pub left_are : without_each m.elements (filter (λ e. not (stays goals kept e)) m.elements) ≡ staying goals kept m
  left_are = without_each-filter (stays goals kept) m.elements lawful.rising
