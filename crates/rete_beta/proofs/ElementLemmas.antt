-- Elements as one comes or goes.
use Rattle.std.proofs.Common.{◌≡◌, ◌≢◌, ◌↔◌, ◌⊎◌, inl, inr, refl, sym, ap, subst, ◌∙◌, Bool, true, false, cond, ◌||◌, nat_lt, eqb-true, eq-eqb, ℕ, ◌<◌, List, [], ◌∷◌, Option, Some, arith}
use Rattle.std.specs.List.{list_any}
use Rattle.std.proofs.lemmas.Option.{same_Some}
use Rattle.std.proofs.lemmas.Bool.{cases_eq}
use Rattle.soar_wm.specs.declared.element.Element.{Element}
use Rattle.soar_wm.specs.WorkingMemory.{IsBelow, IsRising, element_of, has_tag, without_tag}
use Rattle.defs_match.specs.Contents.{with_element}
use Rattle.defs_match.specs.Laws.{IsIn, ElementsDiffer}
use Rattle.rete_alpha.specs.Alphas.{AlphaOf, SamePatterns}
use Rattle.node_memory.specs.Changes.{ElementsChange}
use Rattle.node_memory.specs.Held.{SameElements}
use Rattle.node_table.specs.declared.node.Node.{Node}
use Rattle.node_table.specs.Asked.{IsAsked, requests_at}

-- ---- rising tags differ

below_told : (t : ℕ) (w : List Element) → IsBelow t w → (e : Element) → IsIn e w → t < e.tag
below_told t [] h e i = absurd i
below_told t (d ∷ w) h e (inl same) = subst (λ (x : Element). t < x.tag) same h.0
below_told t (d ∷ w) h e (inr i) = below_told t w h.1 e i

pub rising_differ : (w : List Element) → IsRising w → ElementsDiffer w
rising_differ [] up = tt
rising_differ (e ∷ w) up = ((λ x i same. (let less : e.tag < x.tag = below_told e.tag w up.0 x i in omega (arith, less, same))), rising_differ w up.1)

one_tag : (w : List Element) → IsRising w → (d e : Element) → IsIn d w → IsIn e w → d.tag ≡ e.tag → d ≡ e
one_tag [] up d e i j same = absurd i
one_tag (f ∷ w) up d e (inl a) (inl b) same = sym a ∙ b
one_tag (f ∷ w) up d e (inl a) (inr j) same =
    (let less : f.tag < e.tag = below_told f.tag w up.0 e j in let is : f.tag ≡ d.tag = ap (λ (x : Element). x.tag) a in absurd (omega (arith, less, is, same)))
one_tag (f ∷ w) up d e (inr i) (inl b) same =
    (let less : f.tag < d.tag = below_told f.tag w up.0 d i in let is : f.tag ≡ e.tag = ap (λ (x : Element). x.tag) b in absurd (omega (arith, less, is, same)))
one_tag (f ∷ w) up d e (inr i) (inr j) same = one_tag w up.1 d e i j same

-- ---- tests of tags

any_told : (t : ℕ) (w : List Element) → list_any (has_tag t) w ≡ true → (x : Element) × IsIn x w × (x.tag ≡ t)
any_told t [] h = absurd (cc)
any_told t (e ∷ w) h = by (has_tag t e) refl h (any_told t w)
  where
    by : (b : Bool) → has_tag t e ≡ b → (b || list_any (has_tag t) w) ≡ true → (list_any (has_tag t) w ≡ true → (x : Element) × IsIn x w × (x.tag ≡ t)) → (x : Element) × IsIn x (e ∷ w) × (x.tag ≡ t)
    by true is h deep = (e, inl refl, eqb-true e.tag t is)
    by false is h deep = (let d = deep h in (d.0, inr d.1, d.2))

any_back : (t : ℕ) (w : List Element) (x : Element) → IsIn x w → x.tag ≡ t → list_any (has_tag t) w ≡ true
any_back t [] x i is = absurd i
any_back t (e ∷ w) x (inl same) is = ap (λ (b : Bool). b || list_any (has_tag t) w) (eq-eqb e.tag t (ap (λ (y : Element). y.tag) same ∙ is))
any_back t (e ∷ w) x (inr i) is = by (has_tag t e) (any_back t w x i is)
  where
    by : (b : Bool) → list_any (has_tag t) w ≡ true → (b || list_any (has_tag t) w) ≡ true
    by true h = refl
    by false h = h

-- a tag that is new to a list is new to another of the same elements
pub none_same : (t : ℕ) (v w : List Element) → SameElements v w → list_any (has_tag t) w ≡ false → list_any (has_tag t) v ≡ false
none_same t v w same none = by (list_any (has_tag t) v) refl
  where
    by : (b : Bool) → list_any (has_tag t) v ≡ b → list_any (has_tag t) v ≡ false
    by false is = is
    by true is =
        let x = any_told t v is in
        let bad : true ≡ false = sym (any_back t w x.0 ((same x.0).0 x.1) x.2) ∙ none in
        absurd (cc)

-- ---- one more

pub in_more : (w : List Element) (e x : Element) → IsIn x (with_element w e) ↔ ((e ≡ x) ⊎ IsIn x w)
in_more [] e x = ((λ h. h), λ h. h)
in_more (f ∷ w) e x = by (nat_lt e.tag f.tag) (in_more w e x)
  where
    by : (b : Bool) → IsIn x (with_element w e) ↔ ((e ≡ x) ⊎ IsIn x w) → IsIn x (cond b (e ∷ f ∷ w) (f ∷ with_element w e)) ↔ ((e ≡ x) ⊎ IsIn x (f ∷ w))
    by true deep = ((λ h. h), λ h. h)
    by false deep = (
      (λ h. elim h [ inl a ↦ inr (inl a) | inr i ↦ elim (deep.0 i) [ inl a ↦ inl a | inr k ↦ inr (inr k) ] ]),
      (λ h. elim h [ inl a ↦ inr (deep.1 (inl a)) | inr i ↦ elim i [ inl a ↦ inl a | inr k ↦ inr (deep.1 (inr k)) ] ]),
    )

pub more_change : (w : List Element) (e : Element) → ElementsChange w (with_element w e) (e ∷ []) []
more_change w e = record {
  fresh = λ x h. elim ((in_more w e x).0 h) [ inl a ↦ inr (inl a) | inr i ↦ inl i ];
  here = λ x h. elim h [ inl a ↦ (in_more w e x).1 (inl a) | inr i ↦ absurd i ];
  lost = λ x h. inl ((in_more w e x).1 (inr h));
  away = λ x d h g same. g;
}

pub more_same : (v v1 w w1 : List Element) (e : Element) → SameElements v w → w1 ≡ with_element w e → ((x : Element) → IsIn x v1 ↔ ((e ≡ x) ⊎ IsIn x v)) → SameElements v1 w1
more_same v v1 w w1 e same is all x = (
  (λ i. subst (λ (l : List Element). IsIn x l) (sym is) ((in_more w e x).1 (elim ((all x).0 i) [ inl a ↦ inl a | inr k ↦ inr ((same x).0 k) ]))),
  (λ i. (all x).1 (elim ((in_more w e x).0 (subst (λ (l : List Element). IsIn x l) is i)) [ inl a ↦ inl a | inr k ↦ inr ((same x).1 k) ])),
)

-- ---- one less

pub there_of : (w : List Element) (t : ℕ) (e : Element) → element_of t w ≡ Some e → IsIn e w × (e.tag ≡ t)
there_of [] t e h = absurd (cc)
there_of (f ∷ w) t e h = by (has_tag t f) refl h (there_of w t e)
  where
    by : (b : Bool) → has_tag t f ≡ b → cond b (Some f) (element_of t w) ≡ Some e → (element_of t w ≡ Some e → IsIn e w × (e.tag ≡ t)) → IsIn e (f ∷ w) × (e.tag ≡ t)
    by true is h deep = (let same : f ≡ e = same_Some f e h in (inl same, ap (λ (x : Element). x.tag) (sym same) ∙ eqb-true f.tag t is))
    by false is h deep = (let d = deep h in (inr d.0, d.1))

pub in_less : (w : List Element) (t : ℕ) → IsRising w → (x : Element) → IsIn x (without_tag t w) ↔ (IsIn x w × (x.tag ≢ t))
in_less [] t up x = ((λ h. absurd h), λ h. absurd (h.0))
in_less (f ∷ w) t up x = by (has_tag t f) refl (in_less w t up.1 x)
  where
    by : (b : Bool) → has_tag t f ≡ b → IsIn x (without_tag t w) ↔ (IsIn x w × (x.tag ≢ t)) → IsIn x (cond b w (f ∷ without_tag t w)) ↔ (IsIn x (f ∷ w) × (x.tag ≢ t))
    by true is deep = (
      (λ i. (inr i, λ same. (let less : f.tag < x.tag = below_told f.tag w up.0 x i in let own : f.tag ≡ t = eqb-true f.tag t is in omega (arith, less, own, same)))),
      (λ h. elim (h.0) [ inl e ↦ absurd (h.1 (ap (λ (y : Element). y.tag) (sym e) ∙ eqb-true f.tag t is)) | inr i ↦ i ]),
    )
    by false is deep = (
      (λ h. elim h [
        | inl e ↦ (inl e, λ same. (let bad : true ≡ false = sym (eq-eqb f.tag t (ap (λ (y : Element). y.tag) e ∙ same)) ∙ is in cc))
        | inr i ↦ (let d = deep.0 i in (inr d.0, d.1))
      ]),
      (λ h. elim (h.0) [ inl e ↦ inl e | inr i ↦ inr (deep.1 (i, h.1)) ]),
    )

pub less_change : (w : List Element) (t : ℕ) (e : Element) → IsRising w → element_of t w ≡ Some e → ElementsChange w (without_tag t w) [] (e ∷ [])
less_change w t e up is =
    let own = there_of w t e is in
    record {
      fresh = λ x h. inl ((in_less w t up x).0 h).0;
      here = λ x h. absurd h;
      lost = λ x h. lost x h own (cases_eq x.tag t);
      away = λ x d h g same. elim g [
        | inl a ↦ ((in_less w t up x).0 h).1 (same ∙ ap (λ (y : Element). y.tag) (sym a) ∙ own.1)
        | inr i ↦ absurd i
      ];
    }
  where
    lost : (x : Element) → IsIn x w → IsIn e w × (e.tag ≡ t) → (x.tag ≡ t) ⊎ (x.tag ≢ t) → IsIn x (without_tag t w) ⊎ IsIn x (e ∷ [])
    lost x h own (inl same) = inr (inl (one_tag w up e x own.0 h (own.1 ∙ sym same)))
    lost x h own (inr ne) = inl ((in_less w t up x).1 (h, ne))

pub less_same : (v v1 w w1 : List Element) (t : ℕ) (e : Element) → IsRising w → element_of t w ≡ Some e → SameElements v w → w1 ≡ without_tag t w → ((x : Element) → IsIn x v1 ↔ (IsIn x v × (x.tag ≢ e.tag))) → SameElements v1 w1
less_same v v1 w w1 t e up at same is all x =
    let own = there_of w t e at in (
      (λ i. (let k = (all x).0 i in subst (λ (l : List Element). IsIn x l) (sym is) ((in_less w t up x).1 ((same x).0 k.0, λ f. k.1 (f ∙ sym own.1))))),
      (λ i. (let k = (in_less w t up x).0 (subst (λ (l : List Element). IsIn x l) is i) in (all x).1 ((same x).1 k.0, λ f. k.1 (f ∙ own.1)))),
    )

-- an element of the index that has the tag is the one
pub only_one : (v w : List Element) (t : ℕ) (e : Element) → IsRising w → element_of t w ≡ Some e → SameElements v w → (x : Element) → IsIn x v → x.tag ≡ e.tag → e ≡ x
only_one v w t e up at same x i tag = one_tag w up e x (there_of w t e at).0 ((same x).0 i) (sym tag)

-- ---- requests for patterns as elements change

pub patterns_asked : (slots : List (Option Node)) (old new : AlphaOf) → IsAsked slots old → SamePatterns old new → IsAsked slots new
patterns_asked slots old new asked same = record {
  counted = λ a. asked.counted a ∙ ap requests_at (sym (same a));
  patterned = λ k q there. (let r = asked.patterned k q there in (r.0, same q.0 ∙ r.1, r.2));
}
