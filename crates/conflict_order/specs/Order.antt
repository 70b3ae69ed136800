-- The order of the conflict set: by the number of the rule, and then by the tags.
use Rattle.std.specs.Prelude.{◌≡◌, ◌≢◌, ◌↔◌, ℕ, ◌<◌, List, [], ◌∷◌}
use Rattle.std.specs.Ordering.{nat_cmp, ordering_then}
use Rattle.std.specs.declared.cmp.Ordering.{Ordering}
use Rattle.std.specs.declared.cmp.Ordering.TheVariants.{Less}
use Rattle.std.specs.Cmp.Lexicographic.{slice_cmp}
use Rattle.soar_wm.specs.declared.element.Element.{Element}
use Rattle.soar_wm.specs.WorkingMemory.{IsRising}
use Rattle.defs_match.specs.Conflict.{conflict}
use Rattle.defs_match.specs.Contents.{without_rule}
use Rattle.defs_match.specs.Laws.{IsIn}
use Rattle.defs_match.specs.Rules.{RuleOf}
use Rattle.defs_match.specs.declared.instance.Instance.{Instance}

-- each stands before all that come after it
abbrev pub Ordered : {A : Type 0} → (A → A → Type 0) → List A → Type 0
Ordered less [] = Unit {0}
Ordered {A = A} less (x ∷ xs) = ((y : A) → IsIn y xs → less x y) × Ordered less xs

abbrev pub instance_cmp : Instance → Instance → Ordering
instance_cmp i j = ordering_then (nat_cmp i.rule j.rule) (slice_cmp nat_cmp i.tags j.tags)

abbrev pub InstanceLess : Instance → Instance → Type 0
InstanceLess i j = instance_cmp i j ≡ Less

abbrev pub RuleLess : RuleOf → RuleOf → Type 0
RuleLess q r = q.number < r.number

-- The instances of rules in order of number, over elements in order of tag, are in order.
abbrev pub ConflictIsOrdered : Type 0
ConflictIsOrdered = (rules : List RuleOf) (elements : List Element) → Ordered RuleLess rules → IsRising elements → Ordered InstanceLess (conflict rules elements)

-- With a rule go its instances, and no others.
abbrev pub RuleLeavesItsOwn : Type 0
RuleLeavesItsOwn = (rules : List RuleOf) (elements : List Element) (number : ℕ) (i : Instance)
    → IsIn i (conflict (without_rule rules number) elements) ↔ (IsIn i (conflict rules elements) × (i.rule ≢ number))
