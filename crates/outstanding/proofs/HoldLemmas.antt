-- What is kept beside a matcher stays so with each of its calls.
use Rattle.std.proofs.Common.{◌≡◌, sym, ◌∙◌, subst, true, false, ℕ, List, []}
use Rattle.soar_wm.specs.declared.element.Element.{Element}
use Rattle.soar_wm.specs.WorkingMemory.{IsRising, without_tag}
use Rattle.defs_match.specs.Conflict.{conflict}
use Rattle.defs_match.specs.Contents.{with_element, with_rule, without_rule, IsNewElement, IsNewRule}
use Rattle.defs_match.specs.Rules.{RuleOf}
use Rattle.defs_match.specs.declared.instance.Instance.{Instance}
use Rattle.match_changes.specs.Told.{AreTold}
use Rattle.match_changes.specs.declared.key.MatchKey.{MatchKey}
use Rattle.conflict_order.specs.Order.{Ordered, RuleLess}
use Rattle.conflict_order.proofs.ContentOrder.{with_element_rising, with_rule_order, without_rule_order, without_tag_rising}
use Rattle.conflict_order.proofs.InstanceOrder.{leaves_own}
use Rattle.open_instances.specs.Keeping.{Fits, LosesRule}
use Rattle.open_instances.specs.declared.kept.Kept.{Kept}
use Rattle.outstanding.specs.Holding.{Holds}

module _ (rules : List RuleOf) (elements : List Element) (old new : Kept) (held : Holds rules elements old) where
  -- of a change that is told the keys are noted
  abbrev pub Noted : List MatchKey → Type 0
  Noted keys = (before after : List Instance) → AreTold before after keys → Fits before old → Fits after new

  pub element_added : (keys : List MatchKey) → Noted keys → (e : Element) → IsNewElement elements e → (rules1 : List RuleOf) → rules1 ≡ rules → (elements1 : List Element) → elements1 ≡ with_element elements e
      → AreTold (conflict rules elements) (conflict rules1 elements1) keys → Holds rules1 elements1 new
  element_added keys noted e is_new rules1 rs elements1 es told = record {
    rules_rise = subst (Ordered RuleLess) (sym rs) held.rules_rise;
    elements_rise = subst IsRising (sym es) (with_element_rising elements e held.elements_rise is_new.new_tag);
    fits = noted (conflict rules elements) (conflict rules1 elements1) told held.fits;
  }

  pub element_removed : (keys : List MatchKey) → Noted keys → (tag : ℕ) → (rules1 : List RuleOf) → rules1 ≡ rules → (elements1 : List Element) → elements1 ≡ without_tag tag elements
      → AreTold (conflict rules elements) (conflict rules1 elements1) keys → Holds rules1 elements1 new
  element_removed keys noted tag rules1 rs elements1 es told = record {
    rules_rise = subst (Ordered RuleLess) (sym rs) held.rules_rise;
    elements_rise = subst IsRising (sym es) (without_tag_rising elements tag held.elements_rise);
    fits = noted (conflict rules elements) (conflict rules1 elements1) told held.fits;
  }

  pub rule_added : (keys : List MatchKey) → Noted keys → (r : RuleOf) → IsNewRule rules r → (rules1 : List RuleOf) → rules1 ≡ with_rule rules r → (elements1 : List Element) → elements1 ≡ elements
      → AreTold (conflict rules elements) (conflict rules1 elements1) keys → Holds rules1 elements1 new
  rule_added keys noted r is_new rules1 rs elements1 es told = record {
    rules_rise = subst (Ordered RuleLess) (sym rs) (with_rule_order rules r held.rules_rise is_new.new_number);
    elements_rise = subst IsRising (sym es) held.elements_rise;
    fits = noted (conflict rules elements) (conflict rules1 elements1) told held.fits;
  }

  pub rule_removed : (number : ℕ) → ((before after : List Instance) → LosesRule before after number → Fits before old → Fits after new)
      → (rules1 : List RuleOf) → rules1 ≡ without_rule rules number → (elements1 : List Element) → elements1 ≡ elements → Holds rules1 elements1 new
  rule_removed number left rules1 rs elements1 es =
      subst (λ r. Holds r elements1 new) (sym rs)
      (subst (λ w. Holds (without_rule rules number) w new) (sym es) (record {
        rules_rise = without_rule_order rules number held.rules_rise;
        elements_rise = held.elements_rise;
        fits = left (conflict rules elements) (conflict (without_rule rules number) elements) (leaves_own rules elements number) held.fits;
      }))

-- a first matcher, of which nothing is kept yet
pub first_holds : (rules : List RuleOf) (elements : List Element) (kept : Kept) → rules ≡ [] → elements ≡ [] → kept.stale ≡ true → Holds rules elements kept
first_holds rules elements kept rs es stale = record {
  rules_rise = subst (Ordered RuleLess) (sym rs) tt;
  elements_rise = subst IsRising (sym es) tt;
  fits = λ fresh. (let bad : true ≡ false = sym stale ∙ fresh in absurd (cc));
}
