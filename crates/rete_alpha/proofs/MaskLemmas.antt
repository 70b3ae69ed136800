-- The masks of an element are the patterns that take it.
use Rattle.std.proofs.Common.{◌≡◌, ◌↔◌, refl, sym, ap, ap₂, subst, ◌∙◌, Bool, true, false, cond, ◌&&◌, ◌||◌, ◌==◌, nat_lt, eq-eqb, not, ℕ, List, [], ◌∷◌, take, Option, Some, None, inl, inr, if◌then◌else◌}
use Rattle.std.specs.List.{list_any}
use Rattle.std.proofs.lemmas.Bool.{and_parts}
use Rattle.soar_sym.specs.Equality.{mark_eq}
use Rattle.soar_sym.specs.declared.symbol.Sym.{Sym}
use Rattle.soar_wm.specs.declared.element.Element.{Element}
use Rattle.defs_match.specs.Laws.{IsIn}
use Rattle.rete_alpha.specs.declared.pattern.ConstPattern.{ConstPattern}
use Rattle.rete_alpha.specs.declared.slots.Slot.{Slot}
use Rattle.rete_alpha.specs.Taking.{fits, takes, mask, masks, all_masks}
use Rattle.rete_alpha.specs.Slots.{pattern_eq, with_tag, without_tag, noted_by, forgot_by}
use Rattle.rete_alpha.specs.Numbers.{with_number, without_number}
use Rattle.rete_alpha.proofs.EqualityLemmas.{equal_patterns, pattern_itself}
use Rattle.soar_sym.proofs.KeyLemmas.{symbol_same, symbol_self}

-- a field that fits is the element's, or free
field_is : (o : Option Sym) (s : Sym) → fits o s ≡ true → (b : Bool) × ((if b then Some s else None) ≡ o)
field_is None s h = (false, refl)
field_is (Some c) s h = (true, (let e : s ≡ c = symbol_same s c h in λ i. Some (e i)))

field_fits : (b : Bool) (s : Sym) → fits (if b then Some s else None) s ≡ true
field_fits true s = symbol_self s
field_fits false s = refl

same_mark : (a b : Bool) → mark_eq a b ≡ true → b ≡ a
same_mark true true h = refl
same_mark false false h = refl
same_mark true false h = absurd (cc)
same_mark false true h = absurd (cc)

mark_itself : (a : Bool) → mark_eq a a ≡ true
mark_itself true = refl
mark_itself false = refl

both : (a b : Bool) → a ≡ true → b ≡ true → (a && b) ≡ true
both a b h k = ap₂ (λ p q. p && q) h k

mask_takes : (e : Element) (state id attr value : Bool) → (not state || e.of_state) ≡ true → takes (mask e state id attr value) e ≡ true
mask_takes e state id attr value h =
    both (mark_eq e.accept e.accept) _ (mark_itself e.accept)
    (both (not state || e.of_state) _ h (both (fits (if id then Some e.id else None) e.id) _ (field_fits id e.id)
    (both (fits (if attr then Some e.attr else None) e.attr) _ (field_fits attr e.attr) (field_fits value e.value))))

-- a pattern that takes the element is one of its masks
pub mask_of : (p : ConstPattern) (e : Element) → takes p e ≡ true → (id : Bool) × (attr : Bool) × (value : Bool) × (mask e p.state id attr value ≡ p) × ((not p.state || e.of_state) ≡ true)
mask_of p e h =
    let a = and_parts (mark_eq p.accept e.accept) _ h in
    let b = and_parts (not p.state || e.of_state) _ a.1 in
    let c = and_parts (fits p.id e.id) _ b.1 in
    let d = and_parts (fits p.attr e.attr) (fits p.value e.value) c.1 in
    let id = field_is p.id e.id c.0 in
    let attr = field_is p.attr e.attr d.0 in
    let value = field_is p.value e.value d.1 in
    let accept = same_mark p.accept e.accept a.0 in
    let same : mask e p.state id.0 attr.0 value.0 ≡ p = λ i. record { state = p.state; id = id.1 i; attr = attr.1 i; value = value.1 i; accept = accept i } in
    (id.0, attr.0, value.0, same, b.0)

in_all : (e : Element) (state id attr value : Bool) → IsIn (mask e state id attr value) (all_masks e)
in_all e false false false false = inl refl
in_all e false false false true = inr (inl refl)
in_all e false false true false = inr (inr (inl refl))
in_all e false false true true = inr (inr (inr (inl refl)))
in_all e false true false false = inr (inr (inr (inr (inl refl))))
in_all e false true false true = inr (inr (inr (inr (inr (inl refl)))))
in_all e false true true false = inr (inr (inr (inr (inr (inr (inl refl))))))
in_all e false true true true = inr (inr (inr (inr (inr (inr (inr (inl refl)))))))
in_all e true false false false = inr (inr (inr (inr (inr (inr (inr (inr (inl refl))))))))
in_all e true false false true = inr (inr (inr (inr (inr (inr (inr (inr (inr (inl refl)))))))))
in_all e true false true false = inr (inr (inr (inr (inr (inr (inr (inr (inr (inr (inl refl))))))))))
in_all e true false true true = inr (inr (inr (inr (inr (inr (inr (inr (inr (inr (inr (inl refl)))))))))))
in_all e true true false false = inr (inr (inr (inr (inr (inr (inr (inr (inr (inr (inr (inr (inl refl))))))))))))
in_all e true true false true = inr (inr (inr (inr (inr (inr (inr (inr (inr (inr (inr (inr (inr (inl refl)))))))))))))
in_all e true true true false = inr (inr (inr (inr (inr (inr (inr (inr (inr (inr (inr (inr (inr (inr (inl refl))))))))))))))
in_all e true true true true = inr (inr (inr (inr (inr (inr (inr (inr (inr (inr (inr (inr (inr (inr (inr (inl refl)))))))))))))))

in_front : (e : Element) (id attr value : Bool) → IsIn (mask e false id attr value) (take 8 (all_masks e))
in_front e false false false = inl refl
in_front e false false true = inr (inl refl)
in_front e false true false = inr (inr (inl refl))
in_front e false true true = inr (inr (inr (inl refl)))
in_front e true false false = inr (inr (inr (inr (inl refl))))
in_front e true false true = inr (inr (inr (inr (inr (inl refl)))))
in_front e true true false = inr (inr (inr (inr (inr (inr (inl refl))))))
in_front e true true true = inr (inr (inr (inr (inr (inr (inr (inl refl)))))))

in_masks : (e : Element) (state id attr value : Bool) → (not state || e.of_state) ≡ true → IsIn (mask e state id attr value) (masks e)
in_masks e state id attr value h = by state h e.of_state refl
  where
    by : (s : Bool) → (not s || e.of_state) ≡ true → (o : Bool) → e.of_state ≡ o → IsIn (mask e s id attr value) (if o then all_masks e else take 8 (all_masks e))
    by s h true is = in_all e s id attr value
    by false h false is = in_front e id attr value
    by true h false is = (let bad : true ≡ false = sym h ∙ is in absurd (cc))

-- what holds of each
abbrev AllTake : Element → List ConstPattern → Type 0
AllTake e ps = (q : ConstPattern) → IsIn q ps → takes q e ≡ true

all_take : (e : Element) → e.of_state ≡ true → AllTake e (all_masks e)
all_take e is q h = go h
  where
    one : (s id attr value : Bool) → mask e s id attr value ≡ q → takes q e ≡ true
    one s id attr value same = subst (λ r. takes r e ≡ true) same (mask_takes e s id attr value (by s))
      where
        by : (s : Bool) → (not s || e.of_state) ≡ true
        by true = is
        by false = refl

    go : IsIn q (all_masks e) → takes q e ≡ true
    go (inl same) = one false false false false same
    go (inr (inl same)) = one false false false true same
    go (inr (inr (inl same))) = one false false true false same
    go (inr (inr (inr (inl same)))) = one false false true true same
    go (inr (inr (inr (inr (inl same))))) = one false true false false same
    go (inr (inr (inr (inr (inr (inl same)))))) = one false true false true same
    go (inr (inr (inr (inr (inr (inr (inl same))))))) = one false true true false same
    go (inr (inr (inr (inr (inr (inr (inr (inl same)))))))) = one false true true true same
    go (inr (inr (inr (inr (inr (inr (inr (inr (inl same))))))))) = one true false false false same
    go (inr (inr (inr (inr (inr (inr (inr (inr (inr (inl same)))))))))) = one true false false true same
    go (inr (inr (inr (inr (inr (inr (inr (inr (inr (inr (inl same))))))))))) = one true false true false same
    go (inr (inr (inr (inr (inr (inr (inr (inr (inr (inr (inr (inl same)))))))))))) = one true false true true same
    go (inr (inr (inr (inr (inr (inr (inr (inr (inr (inr (inr (inr (inl same))))))))))))) = one true true false false same
    go (inr (inr (inr (inr (inr (inr (inr (inr (inr (inr (inr (inr (inr (inl same)))))))))))))) = one true true false true same
    go (inr (inr (inr (inr (inr (inr (inr (inr (inr (inr (inr (inr (inr (inr (inl same))))))))))))))) = one true true true false same
    go (inr (inr (inr (inr (inr (inr (inr (inr (inr (inr (inr (inr (inr (inr (inr (inl same)))))))))))))))) = one true true true true same
    go (inr (inr (inr (inr (inr (inr (inr (inr (inr (inr (inr (inr (inr (inr (inr (inr h)))))))))))))))) = absurd h

front_take : (e : Element) → AllTake e (take 8 (all_masks e))
front_take e q h = go h
  where
    one : (id attr value : Bool) → mask e false id attr value ≡ q → takes q e ≡ true
    one id attr value same = subst (λ r. takes r e ≡ true) same (mask_takes e false id attr value refl)

    go : IsIn q (take 8 (all_masks e)) → takes q e ≡ true
    go (inl same) = one false false false same
    go (inr (inl same)) = one false false true same
    go (inr (inr (inl same))) = one false true false same
    go (inr (inr (inr (inl same)))) = one false true true same
    go (inr (inr (inr (inr (inl same))))) = one true false false same
    go (inr (inr (inr (inr (inr (inl same)))))) = one true false true same
    go (inr (inr (inr (inr (inr (inr (inl same))))))) = one true true false same
    go (inr (inr (inr (inr (inr (inr (inr (inl same)))))))) = one true true true same
    go (inr (inr (inr (inr (inr (inr (inr (inr h)))))))) = absurd h

masks_take : (e : Element) → AllTake e (masks e)
masks_take e = by e.of_state refl
  where
    by : (o : Bool) → e.of_state ≡ o → AllTake e (if o then all_masks e else take 8 (all_masks e))
    by true is = all_take e is
    by false is = front_take e

pub masks_are : (e : Element) (p : ConstPattern) → IsIn p (masks e) ↔ (takes p e ≡ true)
masks_are e p = (masks_take e p, λ h. (let m = mask_of p e h in subst (λ q. IsIn q (masks e)) m.3 (in_masks e p.state m.0 m.1 m.2 m.4)))

-- ---- the change of a slot by all masks

any_in : (p : ConstPattern) (ps : List ConstPattern) → IsIn p ps → list_any (λ q. pattern_eq q p) ps ≡ true
any_in p [] h = absurd h
any_in p (q ∷ ps) (inl same) = ap (λ b. b || list_any (λ r. pattern_eq r p) ps) (ap (λ r. pattern_eq r p) same ∙ pattern_itself p)
any_in p (q ∷ ps) (inr h) = ap (λ b. pattern_eq q p || b) (any_in p ps h) ∙ or_true (pattern_eq q p)
  where
    or_true : (b : Bool) → (b || true) ≡ true
    or_true true = refl
    or_true false = refl

in_any : (p : ConstPattern) (ps : List ConstPattern) → list_any (λ q. pattern_eq q p) ps ≡ true → IsIn p ps
in_any p [] h = absurd (cc)
in_any p (q ∷ ps) h = by (pattern_eq q p) refl (in_any p ps) h
  where
    by : (b : Bool) → pattern_eq q p ≡ b → (list_any (λ r. pattern_eq r p) ps ≡ true → IsIn p ps) → (b || list_any (λ r. pattern_eq r p) ps) ≡ true → IsIn p (q ∷ ps)
    by true same deep h = inl (equal_patterns q p same)
    by false same deep h = inr (deep h)

pub any_takes : (e : Element) (p : ConstPattern) → list_any (λ q. pattern_eq q p) (masks e) ≡ takes p e
any_takes e p = by (list_any (λ q. pattern_eq q p) (masks e)) refl (takes p e) refl
  where
    by : (a : Bool) → list_any (λ q. pattern_eq q p) (masks e) ≡ a → (b : Bool) → takes p e ≡ b → a ≡ b
    by true any true taken = refl
    by false any false taken = refl
    by true any false taken = (let bad : true ≡ false = sym ((masks_are e p).0 (in_any p (masks e) any)) ∙ taken in absurd (cc))
    by false any true taken = (let bad : true ≡ false = sym (any_in p (masks e) ((masks_are e p).1 taken)) ∙ any in absurd (cc))

with_twice : (x : ℕ) (ns : List ℕ) → with_number x (with_number x ns) ≡ with_number x ns
with_twice x [] = ap (λ b. cond b (x ∷ []) (cond (nat_lt x x) (x ∷ x ∷ []) (x ∷ x ∷ []))) (eq-eqb x x refl)
with_twice x (n ∷ ns) = by (x == n) refl (nat_lt x n) refl (with_twice x ns)
  where
    by : (b : Bool) → (x == n) ≡ b → (d : Bool) → nat_lt x n ≡ d → with_number x (with_number x ns) ≡ with_number x ns
        → with_number x (cond b (n ∷ ns) (cond d (x ∷ n ∷ ns) (n ∷ with_number x ns))) ≡ cond b (n ∷ ns) (cond d (x ∷ n ∷ ns) (n ∷ with_number x ns))
    by true same d less deep = ap (λ c. cond c (n ∷ ns) (cond (nat_lt x n) (x ∷ n ∷ ns) (n ∷ with_number x ns))) same
    by false same true less deep = ap (λ c. cond c (x ∷ n ∷ ns) (cond (nat_lt x x) (x ∷ x ∷ n ∷ ns) (x ∷ with_number x (n ∷ ns)))) (eq-eqb x x refl)
    by false same false less deep =
        ap (λ c. cond c (n ∷ with_number x ns) (cond (nat_lt x n) (x ∷ n ∷ with_number x ns) (n ∷ with_number x (with_number x ns)))) same
        ∙ ap (λ c. cond c (x ∷ n ∷ with_number x ns) (n ∷ with_number x (with_number x ns))) less ∙ ap (λ l. n ∷ l) deep

pub noted_by_any : (ps : List ConstPattern) (tag : ℕ) (s : Slot) → noted_by ps tag s ≡ cond (list_any (λ q. pattern_eq q s.pattern) ps) (with_tag tag s) s
noted_by_any [] tag s = refl
noted_by_any (p ∷ ps) tag s = by (pattern_eq p s.pattern) (noted_by_any ps tag s) (noted_by_any ps tag (with_tag tag s))
  where
    twice : (c : Bool) → cond c (with_tag tag (with_tag tag s)) (with_tag tag s) ≡ with_tag tag s
    twice true = ap (λ ns. let t : Slot = record s { members = ns } in t) (with_twice tag s.members)
    twice false = refl

    by : (b : Bool) → noted_by ps tag s ≡ cond (list_any (λ q. pattern_eq q s.pattern) ps) (with_tag tag s) s
        → noted_by ps tag (with_tag tag s) ≡ cond (list_any (λ q. pattern_eq q s.pattern) ps) (with_tag tag (with_tag tag s)) (with_tag tag s)
        → noted_by ps tag (cond b (with_tag tag s) s) ≡ cond (b || list_any (λ q. pattern_eq q s.pattern) ps) (with_tag tag s) s
    by true plain again = again ∙ twice (list_any (λ q. pattern_eq q s.pattern) ps)
    by false plain again = plain

-- a tag that is taken away twice is taken away once
pub forgot_by_any : (ps : List ConstPattern) (tag : ℕ) (s : Slot) → without_number tag (without_number tag s.members) ≡ without_number tag s.members
    → forgot_by ps tag s ≡ cond (list_any (λ q. pattern_eq q s.pattern) ps) (without_tag tag s) s
forgot_by_any [] tag s once = refl
forgot_by_any (p ∷ ps) tag s once = by (pattern_eq p s.pattern) (forgot_by_any ps tag s once) (forgot_by_any ps tag (without_tag tag s) (ap (without_number tag) once))
  where
    twice : (c : Bool) → cond c (without_tag tag (without_tag tag s)) (without_tag tag s) ≡ without_tag tag s
    twice true = ap (λ ns. let t : Slot = record s { members = ns } in t) once
    twice false = refl

    by : (b : Bool) → forgot_by ps tag s ≡ cond (list_any (λ q. pattern_eq q s.pattern) ps) (without_tag tag s) s
        → forgot_by ps tag (without_tag tag s) ≡ cond (list_any (λ q. pattern_eq q s.pattern) ps) (without_tag tag (without_tag tag s)) (without_tag tag s)
        → forgot_by ps tag (cond b (without_tag tag s) s) ≡ cond (b || list_any (λ q. pattern_eq q s.pattern) ps) (without_tag tag s) s
    by true plain again = again ∙ twice (list_any (λ q. pattern_eq q s.pattern) ps)
    by false plain again = plain
