-- Elements that a known identifier, attribute or value leaves out make no rows.
use Rattle.std.proofs.Common.{◌≡◌, refl, sym, ap, ap₂, subst, ◌∙◌, Bool, true, false, cond, ◌&&◌, ◌||◌, not, ℕ, ◌==◌, List, [], ◌∷◌, ◌++◌, filter, flat_map, Option, Some, None, option_and_then, if◌then◌else◌}
use Rattle.std.proofs.lemmas.Option.{same_Some}
use Rattle.soar_sym.specs.Equality.{symbol_eq, mark_eq}
use Rattle.soar_sym.specs.declared.symbol.Sym.{Sym}
use Rattle.soar_rule.specs.declared.cond.Atom.TheVariants.{Const, Var}
use Rattle.soar_rule.specs.declared.cond.Test.{Test}
use Rattle.soar_rule.specs.declared.cond.Test.TheVariants.{Plain, Rel, OneOf}
use Rattle.soar_rule.specs.declared.cond.Pattern.{Pattern}
use Rattle.soar_wm.specs.declared.element.Element.{Element}
use Rattle.defs_match.specs.Testing.{Bindings, after_plain, others_pass, passes, bind, symbol_of}
use Rattle.defs_match.specs.Rows.{Row, by_element, extend, with_matched, takes_marks, bindings_at}
use Rattle.soar_sym.proofs.KeyLemmas.{symbol_same}
use Rattle.node_memory.specs.Keys.{meets, is_other, value_beside}
use Rattle.rete_alpha.specs.Taking.{takes, fits}
use Rattle.join_parts.specs.Known.{known, known_constant, constants_of}

pub narrowed : {A B : Type 0} (f : A → List B) (q : A → Bool) (xs : List A) → ((x : A) → q x ≡ false → f x ≡ []) → flat_map f (filter q xs) ≡ flat_map f xs
narrowed f q [] h = refl
narrowed {A = A} f q (x ∷ xs) h = go (q x) refl (narrowed f q xs h)
  where
    go : (b : Bool) → q x ≡ b → flat_map f (filter q xs) ≡ flat_map f xs → flat_map f (cond b (x ∷ filter q xs) (filter q xs)) ≡ f x ++ flat_map f xs
    go true e deep = ap (λ l. f x ++ l) deep
    go false e deep = deep ∙ ap (λ l. l ++ flat_map f xs) (sym (h x e))

none_then : {A B : Type 0} (f : A → Option B) (x : Option A) → ((a : A) → f a ≡ None) → option_and_then f x ≡ None
none_then f None h = refl
none_then f (Some a) h = h a

-- a field whose first test wants another symbol takes none
other_first : (ts : List Test) (s t : Sym) (bs : Bindings) → known ts bs ≡ Some s → symbol_eq t s ≡ false → passes ts t bs ≡ None
other_first [] s t bs h differ = absurd (cc)
other_first (Rel r a ∷ ts) s t bs h differ = absurd (cc)
other_first (OneOf cs ∷ ts) s t bs h differ = absurd (cc)
other_first (Plain (Const c) ∷ ts) s t bs h differ =
    let same : c ≡ s = cc in
    let none : after_plain (Plain (Const c) ∷ ts) t bs ≡ None = ap (λ b. let o : Option Bindings = (if b then after_plain ts t bs else None) in o) (ap (symbol_eq t) same ∙ differ) in
    ap (option_and_then (λ after. let o : Option Bindings = (if others_pass (Plain (Const c) ∷ ts) t after then Some after else None) in o)) none
other_first (Plain (Var v) ∷ ts) s t bs h differ =
    let none : after_plain (Plain (Var v) ∷ ts) t bs ≡ None =
    ap (λ (o : Option Sym). option_and_then (after_plain ts t) (bind v t bs o)) h ∙ ap (λ b. option_and_then (after_plain ts t) (let o : Option Bindings = (if b then Some bs else None) in o)) differ in
    ap (option_and_then (λ after. let o : Option Bindings = (if others_pass (Plain (Var v) ∷ ts) t after then Some after else None) in o)) none

constant_known : (ts : List Test) (c : Sym) (bs : Bindings) → known_constant ts ≡ Some c → known ts bs ≡ Some c
constant_known [] c bs h = absurd (cc)
constant_known (Rel r a ∷ ts) c bs h = absurd (cc)
constant_known (OneOf cs ∷ ts) c bs h = absurd (cc)
constant_known (Plain (Const d) ∷ ts) c bs h = h
constant_known (Plain (Var v) ∷ ts) c bs h = absurd (cc)

turned : (a b : Sym) → symbol_eq a b ≡ false → symbol_eq b a ≡ false
turned a b h = by (symbol_eq b a) refl
  where
    by : (c : Bool) → symbol_eq b a ≡ c → symbol_eq b a ≡ false
    by true same = (let bad : true ≡ false = sym (subst (λ x. symbol_eq x b ≡ true) (symbol_same b a same) (subst (λ x. symbol_eq b x ≡ true) (sym (symbol_same b a same)) same)) ∙ h in absurd (cc))
    by false differ = differ

no_row : (p : Pattern) (r : Row) (e : Element) → bindings_at p e r.bindings ≡ None → by_element p r e ≡ []
no_row p r e none = ap (λ o. if takes_marks p e then with_matched r e o else []) none ∙ by (takes_marks p e)
  where
    by : (b : Bool) → (if b then (let l : List Row = [] in l) else []) ≡ []
    by true = refl
    by false = refl

-- an element of another identifier makes no row
pub other_id : (p : Pattern) (r : Row) (s : Sym) (e : Element) → known p.id.tests r.bindings ≡ Some s → symbol_eq s e.id ≡ false → by_element p r e ≡ []
other_id p r s e is differ = no_row p r e (ap (λ (o : Option Bindings). option_and_then (passes p.value.tests e.value) (option_and_then (passes p.attr.tests e.attr) o)) (other_first p.id.tests s e.id r.bindings is (turned s e.id differ)))

-- ---- what is bound stays bound

bound_more : (v : ℕ) (s : Sym) (bs more : Bindings) → symbol_of v bs ≡ Some s → symbol_of v (bs ++ more) ≡ Some s
bound_more v s [] more h = absurd (cc)
bound_more v s (b ∷ bs) more h = by (b.0 == v) h (bound_more v s bs more)
  where
    by : (q : Bool) → cond q (Some b.1) (symbol_of v bs) ≡ Some s → (symbol_of v bs ≡ Some s → symbol_of v (bs ++ more) ≡ Some s) → cond q (Some b.1) (symbol_of v (bs ++ more)) ≡ Some s
    by true is deep = is
    by false is deep = deep is

plain_keeps : (v : ℕ) (s : Sym) (ts : List Test) (t : Sym) (bs after : Bindings) → after_plain ts t bs ≡ Some after → symbol_of v bs ≡ Some s → symbol_of v after ≡ Some s
plain_keeps v s [] t bs after h at = ap (symbol_of v) (sym (same_Some bs after h)) ∙ at
plain_keeps v s (Rel r a ∷ ts) t bs after h at = plain_keeps v s ts t bs after h at
plain_keeps v s (OneOf cs ∷ ts) t bs after h at = plain_keeps v s ts t bs after h at
plain_keeps v s (Plain (Const c) ∷ ts) t bs after h at = by (symbol_eq t c) h (λ is. plain_keeps v s ts t bs after is at)
  where
    by : (q : Bool) → (let o : Option Bindings = cond q (after_plain ts t bs) None in o) ≡ Some after → (after_plain ts t bs ≡ Some after → symbol_of v after ≡ Some s) → symbol_of v after ≡ Some s
    by true is deep = deep is
    by false is deep = absurd (cc)
plain_keeps v s (Plain (Var u) ∷ ts) t bs after h at =
    by (symbol_of u bs) h (λ is. plain_keeps v s ts t bs after is at) (λ is. plain_keeps v s ts t (bs ++ (u, t) ∷ []) after is (bound_more v s bs ((u, t) ∷ []) at))
  where
    same : (q : Bool) → option_and_then (after_plain ts t) (let o : Option Bindings = cond q (Some bs) None in o) ≡ Some after → (after_plain ts t bs ≡ Some after → symbol_of v after ≡ Some s) → symbol_of v after ≡ Some s
    same true is deep = deep is
    same false is deep = absurd (cc)

    by : (o : Option Sym) → option_and_then (after_plain ts t) (bind u t bs o) ≡ Some after → (after_plain ts t bs ≡ Some after → symbol_of v after ≡ Some s)
        → (after_plain ts t (bs ++ (u, t) ∷ []) ≡ Some after → symbol_of v after ≡ Some s) → symbol_of v after ≡ Some s
    by None is deep more = more is
    by (Some x) is deep more = same (symbol_eq t x) is deep

field_keeps : (v : ℕ) (s : Sym) (ts : List Test) (t : Sym) (bs after : Bindings) → passes ts t bs ≡ Some after → symbol_of v bs ≡ Some s → symbol_of v after ≡ Some s
field_keeps v s ts t bs after h at = by (after_plain ts t bs) refl h
  where
    held : (mid : Bindings) → after_plain ts t bs ≡ Some mid → (q : Bool) → (let o : Option Bindings = cond q (Some mid) None in o) ≡ Some after → symbol_of v after ≡ Some s
    held mid is true same = ap (symbol_of v) (sym (same_Some mid after same)) ∙ plain_keeps v s ts t bs mid is at
    held mid is false same = absurd (cc)

    by : (o : Option Bindings) → after_plain ts t bs ≡ o → option_and_then (λ mid. let o : Option Bindings = (if others_pass ts t mid then Some mid else None) in o) o ≡ Some after → symbol_of v after ≡ Some s
    by None is same = absurd (cc)
    by (Some mid) is same = held mid is (others_pass ts t mid) same

-- what a field must be, it must be behind another field too
known_keeps : (us : List Test) (s : Sym) (ts : List Test) (t : Sym) (bs after : Bindings) → passes ts t bs ≡ Some after → known us bs ≡ Some s → known us after ≡ Some s
known_keeps [] s ts t bs after h is = absurd (cc)
known_keeps (Rel r a ∷ us) s ts t bs after h is = absurd (cc)
known_keeps (OneOf cs ∷ us) s ts t bs after h is = absurd (cc)
known_keeps (Plain (Const c) ∷ us) s ts t bs after h is = is
known_keeps (Plain (Var v) ∷ us) s ts t bs after h is = field_keeps v s ts t bs after h is

none_where : {A B : Type 0} (f : A → Option B) (x : Option A) → ((a : A) → x ≡ Some a → f a ≡ None) → option_and_then f x ≡ None
none_where f None h = refl
none_where f (Some a) h = h a refl

some_then : {A B : Type 0} (f : A → Option B) (x : Option A) (b : B) → option_and_then f x ≡ Some b → (a : A) × (x ≡ Some a) × (f a ≡ Some b)
some_then f None b h = absurd (cc)
some_then f (Some a) b h = (a, refl, h)

-- an element of another attribute makes no row
other_attr : (p : Pattern) (r : Row) (s : Sym) (e : Element) → known p.attr.tests r.bindings ≡ Some s → symbol_eq s e.attr ≡ false → by_element p r e ≡ []
other_attr p r s e is differ =
    no_row p r e (ap (option_and_then (passes p.value.tests e.value)) (none_where (passes p.attr.tests e.attr) (passes p.id.tests e.id r.bindings)
    (λ bs at. other_first p.attr.tests s e.attr bs (known_keeps p.attr.tests s p.id.tests e.id r.bindings bs at is) (turned s e.attr differ))))

-- an element of another value makes no row
pub other_value : (p : Pattern) (r : Row) (s : Sym) (e : Element) → known p.value.tests r.bindings ≡ Some s → symbol_eq s e.value ≡ false → by_element p r e ≡ []
other_value p r s e is differ =
    no_row p r e (none_where (passes p.value.tests e.value) (option_and_then (passes p.attr.tests e.attr) (passes p.id.tests e.id r.bindings))
    (λ bs at.
    let mid = some_then (passes p.attr.tests e.attr) (passes p.id.tests e.id r.bindings) bs at in
    let behind = known_keeps p.value.tests s p.id.tests e.id r.bindings mid.0 mid.1 is in
    other_first p.value.tests s e.value bs (known_keeps p.value.tests s p.attr.tests e.attr mid.0 bs mid.2 behind) (turned s e.value differ)))

-- ---- what is looked up

-- what is asked for is known, and is another
asked_other : (o : Option Sym) (t : Sym) → is_other o (Some t) ≡ true → (s : Sym) × (o ≡ Some s) × (symbol_eq s t ≡ false)
asked_other None t h = absurd (cc)
asked_other (Some s) t h = (s, refl, by (symbol_eq s t) h)
  where
    by : (b : Bool) → not b ≡ true → b ≡ false
    by true h = absurd (cc)
    by false h = refl

beside_told : (attr value : Option Sym) (s : Sym) → value_beside attr value ≡ Some s → value ≡ Some s
beside_told None value s h = absurd (cc)
beside_told (Some a) value s h = h

unmet : (p : Pattern) (r : Row) (id : Sym) (e : Element) (attr value : Option Sym) → known p.id.tests r.bindings ≡ Some id → known p.attr.tests r.bindings ≡ attr → value_beside attr (known p.value.tests r.bindings) ≡ value
    → meets id attr value e ≡ false → by_element p r e ≡ []
unmet p r id e attr value is attr_is value_is fails = by (symbol_eq id e.id) refl (is_other attr (Some e.attr)) refl (is_other value (Some e.value)) refl fails
  where
    by : (b : Bool) → symbol_eq id e.id ≡ b → (c : Bool) → is_other attr (Some e.attr) ≡ c → (d : Bool) → is_other value (Some e.value) ≡ d → (b && (not c && not d)) ≡ false → by_element p r e ≡ []
    by false differ c at d of fails = other_id p r id e is differ
    by true same true at d of fails = (let other = asked_other attr e.attr at in other_attr p r other.0 e (attr_is ∙ other.1) other.2)
    by true same false at true of fails = (let other = asked_other value e.value of in other_value p r other.0 e (beside_told attr (known p.value.tests r.bindings) other.0 (value_is ∙ other.1)) other.2)
    by true same false at false of fails = absurd (cc)

-- an element that does not meet what is known makes no row
pub not_met : (p : Pattern) (r : Row) (id : Sym) (e : Element) → known p.id.tests r.bindings ≡ Some id
    → meets id (known p.attr.tests r.bindings) (value_beside (known p.attr.tests r.bindings) (known p.value.tests r.bindings)) e ≡ false → by_element p r e ≡ []
not_met p r id e is fails = unmet p r id e (known p.attr.tests r.bindings) (value_beside (known p.attr.tests r.bindings) (known p.value.tests r.bindings)) is refl refl fails

pub extend_by_index : (p : Pattern) (r : Row) (id : Sym) (w : List Element) → known p.id.tests r.bindings ≡ Some id
    → extend p (filter (meets id (known p.attr.tests r.bindings) (value_beside (known p.attr.tests r.bindings) (known p.value.tests r.bindings))) w) r ≡ extend p w r
extend_by_index p r id w is =
    narrowed (by_element p r) (meets id (known p.attr.tests r.bindings) (value_beside (known p.attr.tests r.bindings) (known p.value.tests r.bindings))) w (λ e fails. not_met p r id e is fails)

-- ---- pattern memories and joins

-- a field whose constant does not fit takes no symbol
unfit : (ts : List Test) (s : Sym) (bs : Bindings) → fits (known_constant ts) s ≡ false → passes ts s bs ≡ None
unfit ts s bs h = by (known_constant ts) refl h
  where
    by : (o : Option Sym) → known_constant ts ≡ o → fits o s ≡ false → passes ts s bs ≡ None
    by None is h = absurd (cc)
    by (Some c) is h = other_first ts c s bs (constant_known ts c bs is) h

-- An element that the pattern's constants leave out makes no row.
pub not_taken : (p : Pattern) (r : Row) (e : Element) → takes (constants_of p) e ≡ false → by_element p r e ≡ []
not_taken p r e h =
    by (mark_eq p.accept e.accept) refl (not p.state || e.of_state) refl (fits (known_constant p.id.tests) e.id) refl (fits (known_constant p.attr.tests) e.attr) refl (fits (known_constant p.value.tests) e.value) refl h
  where
    no_marks : takes_marks p e ≡ false → by_element p r e ≡ []
    no_marks none = ap (λ b. let l : List Row = (if b then with_matched r e (bindings_at p e r.bindings) else []) in l) none

    by : (a : Bool) → mark_eq p.accept e.accept ≡ a → (b : Bool) → (not p.state || e.of_state) ≡ b → (c : Bool) → fits (known_constant p.id.tests) e.id ≡ c → (d : Bool) → fits (known_constant p.attr.tests) e.attr ≡ d
        → (f : Bool) → fits (known_constant p.value.tests) e.value ≡ f → (a && (b && (c && (d && f)))) ≡ false → by_element p r e ≡ []
    by false am b bm c cm d dm f fm h = no_marks (ap (λ x. x && (not p.state || e.of_state)) am)
    by true am false bm c cm d dm f fm h = no_marks (ap₂ (λ x y. x && y) am bm)
    by true am true bm false cm d dm f fm h = no_row p r e (ap (λ (o : Option Bindings). option_and_then (passes p.value.tests e.value) (option_and_then (passes p.attr.tests e.attr) o)) (unfit p.id.tests e.id r.bindings cm))
    by true am true bm true cm false dm f fm h = no_row p r e (ap (option_and_then (passes p.value.tests e.value)) (none_then (passes p.attr.tests e.attr) (passes p.id.tests e.id r.bindings) (λ bs. unfit p.attr.tests e.attr bs dm)))
    by true am true bm true cm true dm false fm h = no_row p r e (none_then (passes p.value.tests e.value) (option_and_then (passes p.attr.tests e.attr) (passes p.id.tests e.id r.bindings)) (λ bs. unfit p.value.tests e.value bs fm))
    by true am true bm true cm true dm true fm h = absurd (cc)
