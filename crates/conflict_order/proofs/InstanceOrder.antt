-- The instances of rules are in order of rule and tags.
use Rattle.std.proofs.Common.{◌≡◌, ◌≢◌, ◌⊎◌, inl, inr, refl, sym, ap, ap₂, subst, ◌∙◌, Bool, true, false, cond, not, eqb-true, eq-eqb, ℕ, ◌<◌, List, [], ◌∷◌}
use Rattle.std.specs.Ordering.{nat_cmp, ordering_then, ordering_reverse}
use Rattle.std.specs.declared.cmp.Ordering.{Ordering}
use Rattle.std.specs.declared.cmp.Ordering.TheVariants.{Less, Equal, Greater}
use Rattle.std.specs.Cmp.{tied_itself, nat_cmp_is}
use Rattle.std.specs.Cmp.Lexicographic.{slice_cmp}
use Rattle.std.proofs.lemmas.Cmp.{nat_cmp_total, nat_list_cmp_total}
use Rattle.soar_wm.specs.declared.element.Element.{Element}
use Rattle.soar_wm.specs.WorkingMemory.{IsRising}
use Rattle.defs_match.specs.Conflict.{conflict, instance_of, instances_of}
use Rattle.defs_match.specs.Contents.{is_numbered, without_rule}
use Rattle.defs_match.specs.Laws.{IsIn}
use Rattle.defs_match.specs.Rows.{Row, rows}
use Rattle.defs_match.specs.Rules.{RuleOf}
use Rattle.defs_match.specs.declared.instance.Instance.{Instance}
use Rattle.conflict_order.specs.Order.{ConflictIsOrdered, InstanceLess, Ordered, RuleLeavesItsOwn}
use Rattle.conflict_order.proofs.ListOrder.{append_order, in_append, in_flat_map, in_left, in_map, in_right, map_order}
use Rattle.conflict_order.proofs.RowOrder.{RowLess, rows_order}

-- ---- two instances

-- no two stand each before the other
pub never_both : (i j : Instance) → InstanceLess i j → InstanceLess j i → ⊥
never_both i j a b = by (nat_cmp i.rule j.rule) (nat_cmp j.rule i.rule) (slice_cmp nat_cmp i.tags j.tags) (slice_cmp nat_cmp j.tags i.tags) (nat_cmp_total.antisymm i.rule j.rule) (nat_list_cmp_total.antisymm i.tags j.tags) a b
  where
    by : (m n s t : Ordering) → m ≡ ordering_reverse n → s ≡ ordering_reverse t → ordering_then m s ≡ Less → ordering_then n t ≡ Less → ⊥
    by Less Less s t e f a b = (let bad : Less ≡ Greater = e in cc)
    by Less Equal s t e f a b = (let bad : Less ≡ Equal = e in cc)
    by Less Greater s t e f a b = (let bad : Greater ≡ Less = b in cc)
    by Equal Less s t e f a b = (let bad : Equal ≡ Greater = e in cc)
    by Equal Equal s t e f a b = (let bad : Less ≡ Greater = sym a ∙ f ∙ ap ordering_reverse b in cc)
    by Equal Greater s t e f a b = (let bad : Equal ≡ Less = e in cc)
    by Greater n s t e f a b = (let bad : Greater ≡ Less = a in cc)

-- one does not stand before itself, nor before one with its rule and tags
pub never_alike : (i j : Instance) → i.rule ≡ j.rule → i.tags ≡ j.tags → InstanceLess i j → ⊥
never_alike i j e f a = never_both i j a (sym (ap₂ ordering_then (ap₂ nat_cmp e (sym e)) (ap₂ (slice_cmp nat_cmp) f (sym f))) ∙ a)

-- in order, instances with the same rule and tags are one
pub one_each : (is : List Instance) → Ordered InstanceLess is → (i j : Instance) → IsIn i is → IsIn j is → i.rule ≡ j.rule → i.tags ≡ j.tags → i ≡ j
one_each [] o i j h k e f = absurd h
one_each (x ∷ is) o i j (inl h) (inl k) e f = sym h ∙ k
one_each (x ∷ is) o i j (inl h) (inr k) e f = absurd (never_alike x j (ap (λ (y : Instance). y.rule) h ∙ e) (ap (λ (y : Instance). y.tags) h ∙ f) (o.0 j k))
one_each (x ∷ is) o i j (inr h) (inl k) e f = absurd (never_alike x i (ap (λ (y : Instance). y.rule) k ∙ sym e) (ap (λ (y : Instance). y.tags) k ∙ sym f) (o.0 i h))
one_each (x ∷ is) o i j (inr h) (inr k) e f = one_each is o.1 i j h k e f

-- ---- the instances of a rule

own_number : (rule : RuleOf) (w : List Element) (i : Instance) → IsIn i (instances_of w rule) → i.rule ≡ rule.number
own_number rule w i h = (let from = in_map (instance_of rule.number) i (rows rule.production.conditions w) h in ap (λ (y : Instance). y.rule) (sym from.2))

own_less : (number : ℕ) (r s : Row) → RowLess r s → InstanceLess (instance_of number r) (instance_of number s)
own_less number r s h = ap (λ o. ordering_then o (slice_cmp nat_cmp r.tags s.tags)) (tied_itself nat_cmp_total number) ∙ h

own_order : (rule : RuleOf) (w : List Element) → IsRising w → Ordered InstanceLess (instances_of w rule)
own_order rule w up = map_order RowLess InstanceLess (instance_of rule.number) (own_less rule.number) (rows rule.production.conditions w) (rows_order rule.production.conditions w up)

-- ---- those of all rules

less_by_rule : (i j : Instance) → i.rule < j.rule → InstanceLess i j
less_by_rule i j h = ap (λ o. ordering_then o (slice_cmp nat_cmp i.tags j.tags)) (sym (nat_cmp_is i.rule j.rule Less h))

pub conflict_order : ConflictIsOrdered
conflict_order [] w o up = tt
conflict_order (rule ∷ rules) w o up =
    append_order InstanceLess (instances_of w rule) (conflict rules w) (own_order rule w up) (conflict_order rules w o.1 up) across
  where
    across : (i j : Instance) → IsIn i (instances_of w rule) → IsIn j (conflict rules w) → InstanceLess i j
    across i j h k =
        let from = in_flat_map (instances_of w) j rules k in
        let above : rule.number < from.0.number = o.0 from.0 from.1 in
        less_by_rule i j (subst (λ n. n < j.rule) (sym (own_number rule w i h)) (subst (λ n. rule.number < n) (sym (own_number from.0 w j from.2)) above))

-- ---- without a rule

pub leaves_own : RuleLeavesItsOwn
leaves_own rules w number i = (to rules, λ h. from rules h.0 h.1)
  where
    apart : (rule : RuleOf) → (b : Bool) → is_numbered number rule ≡ b → IsIn i (instances_of w rule) → b ≡ false → i.rule ≢ number
    apart rule b is h differ e = (let bad : true ≡ false = sym (eq-eqb rule.number number (sym (own_number rule w i h) ∙ e)) ∙ is ∙ differ in cc)

    to : (rules : List RuleOf) → IsIn i (conflict (without_rule rules number) w) → IsIn i (conflict rules w) × (i.rule ≢ number)
    to [] h = absurd h
    to (rule ∷ rules) h = by (is_numbered number rule) refl (to rules) h
      where
        by : (b : Bool) → is_numbered number rule ≡ b → (IsIn i (conflict (without_rule rules number) w) → IsIn i (conflict rules w) × (i.rule ≢ number))
            → IsIn i (conflict (cond (not b) (rule ∷ without_rule rules number) (without_rule rules number)) w) → IsIn i (conflict (rule ∷ rules) w) × (i.rule ≢ number)
        by true is deep h = (let d = deep h in (in_right i (instances_of w rule) (conflict rules w) d.0, d.1))
        by false is deep h =
            elim (in_append i (instances_of w rule) (conflict (without_rule rules number) w) h) [
              | inl k ↦ (in_left i (instances_of w rule) (conflict rules w) k, apart rule false is k refl)
              | inr k ↦ (let d = deep k in (in_right i (instances_of w rule) (conflict rules w) d.0, d.1))
            ]

    from : (rules : List RuleOf) → IsIn i (conflict rules w) → i.rule ≢ number → IsIn i (conflict (without_rule rules number) w)
    from [] h ne = absurd h
    from (rule ∷ rules) h ne = by (is_numbered number rule) refl (from rules) (in_append i (instances_of w rule) (conflict rules w) h)
      where
        by : (b : Bool) → is_numbered number rule ≡ b → (IsIn i (conflict rules w) → i.rule ≢ number → IsIn i (conflict (without_rule rules number) w))
            → IsIn i (instances_of w rule) ⊎ IsIn i (conflict rules w) → IsIn i (conflict (cond (not b) (rule ∷ without_rule rules number) (without_rule rules number)) w)
        by true is deep (inl k) = absurd (ne (own_number rule w i k ∙ eqb-true rule.number number is))
        by true is deep (inr k) = deep k ne
        by false is deep (inl k) = in_left i (instances_of w rule) (conflict (without_rule rules number) w) k
        by false is deep (inr k) = in_right i (instances_of w rule) (conflict (without_rule rules number) w) (deep k ne)
