-- What a matcher's calls do to its rules and elements keeps their order.
use Rattle.std.proofs.Common.{◌≡◌, inl, inr, refl, subst, Bool, true, false, cond, ◌||◌, ◌==◌, nat_lt, not, ℕ, ◌<◌, List, [], ◌∷◌, arith}
use Rattle.std.specs.List.{list_any}
use Rattle.std.proofs.lemmas.Bool.{ltb-true}
use Rattle.soar_wm.specs.declared.element.Element.{Element}
use Rattle.soar_wm.specs.WorkingMemory.{IsBelow, IsRising, has_tag, without_tag}
use Rattle.defs_match.specs.Contents.{is_numbered, with_element, with_rule, without_rule}
use Rattle.defs_match.specs.Laws.{IsIn}
use Rattle.defs_match.specs.Rules.{RuleOf}
use Rattle.conflict_order.specs.Order.{Ordered, RuleLess}
use Rattle.conflict_order.proofs.ListOrder.{filter_order}

neither : (a b : Bool) → (a || b) ≡ false → (a ≡ false) × (b ≡ false)
neither true b h = absurd (cc)
neither false b h = (refl, h)

before : (m n : ℕ) → nat_lt m n ≡ true → m < n
before m n h = ltb-true m n h

after : (m n : ℕ) → nat_lt m n ≡ false → (n == m) ≡ false → n < m
after m n h k = grind arith

under : (m n k : ℕ) → m < n → n < k → m < k
under m n k h l = omega arith

-- ---- rules

rule_in_with : (rules : List RuleOf) (r q : RuleOf) → IsIn q (with_rule rules r) → (P : RuleOf → Type 0) → P r → ((x : RuleOf) → IsIn x rules → P x) → P q
rule_in_with [] r q (inl e) P own all = subst P e own
rule_in_with [] r q (inr h) P own all = absurd h
rule_in_with (x ∷ rules) r q h P own all = by (nat_lt r.number x.number) (λ k. rule_in_with rules r q k P own (λ y i. all y (inr i))) h
  where
    by : (b : Bool) → (IsIn q (with_rule rules r) → P q) → IsIn q (cond b (r ∷ x ∷ rules) (x ∷ with_rule rules r)) → P q
    by true deep (inl e) = subst P e own
    by true deep (inr i) = all q i
    by false deep (inl e) = all q (inl e)
    by false deep (inr i) = deep i

pub with_rule_order : (rules : List RuleOf) (r : RuleOf) → Ordered RuleLess rules → list_any (is_numbered r.number) rules ≡ false → Ordered RuleLess (with_rule rules r)
with_rule_order [] r o new = ((λ y i. absurd i), tt)
with_rule_order (q ∷ rules) r o new = by (nat_lt r.number q.number) refl (with_rule_order rules r o.1 differ.1)
  where
    differ : (is_numbered r.number q ≡ false) × (list_any (is_numbered r.number) rules ≡ false)
    differ = neither (is_numbered r.number q) (list_any (is_numbered r.number) rules) new

    above : r.number < q.number → (y : RuleOf) → IsIn y (q ∷ rules) → r.number < y.number
    above less y (inl e) = subst (λ (x : RuleOf). r.number < x.number) e less
    above less y (inr i) = under r.number q.number y.number less (o.0 y i)

    by : (b : Bool) → nat_lt r.number q.number ≡ b → Ordered RuleLess (with_rule rules r) → Ordered RuleLess (cond b (r ∷ q ∷ rules) (q ∷ with_rule rules r))
    by true is deep = (above (before r.number q.number is), o)
    by false is deep = ((λ y i. rule_in_with rules r y i (RuleLess q) (after r.number q.number is differ.0) o.0), deep)

pub without_rule_order : (rules : List RuleOf) (number : ℕ) → Ordered RuleLess rules → Ordered RuleLess (without_rule rules number)
without_rule_order rules number o = filter_order RuleLess (λ rule. not (is_numbered number rule)) rules o

-- ---- elements

below_with : (low : ℕ) (es : List Element) (e : Element) → IsBelow low es → low < e.tag → IsBelow low (with_element es e)
below_with low [] e h l = (l, tt)
below_with low (f ∷ es) e h l = by (nat_lt e.tag f.tag) (below_with low es e h.1 l)
  where
    by : (b : Bool) → IsBelow low (with_element es e) → IsBelow low (cond b (e ∷ f ∷ es) (f ∷ with_element es e))
    by true deep = (l, h)
    by false deep = (h.0, deep)

lower : (m n : ℕ) (es : List Element) → m < n → IsBelow n es → IsBelow m es
lower m n [] h k = tt
lower m n (e ∷ es) h k = (under m n e.tag h k.0, lower m n es h k.1)

pub with_element_rising : (es : List Element) (e : Element) → IsRising es → list_any (has_tag e.tag) es ≡ false → IsRising (with_element es e)
with_element_rising [] e up new = (tt, tt)
with_element_rising (f ∷ es) e up new = by (nat_lt e.tag f.tag) refl (with_element_rising es e up.1 differ.1)
  where
    differ : (has_tag e.tag f ≡ false) × (list_any (has_tag e.tag) es ≡ false)
    differ = neither (has_tag e.tag f) (list_any (has_tag e.tag) es) new

    by : (b : Bool) → nat_lt e.tag f.tag ≡ b → IsRising (with_element es e) → IsRising (cond b (e ∷ f ∷ es) (f ∷ with_element es e))
    by true is deep = ((before e.tag f.tag is, lower e.tag f.tag es (before e.tag f.tag is) up.0), up)
    by false is deep = (below_with f.tag es e up.0 (after e.tag f.tag is differ.0), deep)

below_without : (low tag : ℕ) (es : List Element) → IsBelow low es → IsBelow low (without_tag tag es)
below_without low tag [] below = tt
below_without low tag (e ∷ es) below = by (has_tag tag e) (below_without low tag es below.1)
  where
    by : (b : Bool) → IsBelow low (without_tag tag es) → IsBelow low (cond b es (e ∷ without_tag tag es))
    by true later = below.1
    by false later = (below.0, later)

pub without_tag_rising : (es : List Element) (tag : ℕ) → IsRising es → IsRising (without_tag tag es)
without_tag_rising [] tag up = tt
without_tag_rising (e ∷ es) tag up = by (has_tag tag e) (without_tag_rising es tag up.1)
  where
    by : (b : Bool) → IsRising (without_tag tag es) → IsRising (cond b es (e ∷ without_tag tag es))
    by true later = up.1
    by false later = (below_without e.tag tag es up.0, later)
