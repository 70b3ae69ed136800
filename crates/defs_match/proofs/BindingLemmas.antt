-- The variables that a row binds are those that its conditions bind, in their order, so an instance tells its bindings.
use Rattle.std.proofs.Common.{◌≡◌, refl, sym, ◌∙◌, ap, true, false, [], ◌∷◌, List, ℕ, ◌==◌, ◌||◌, ◌++◌, Bool, flat_map, map, cond, Option, Some, None, option_and_then, inl, inr, arith}
use Rattle.std.specs.Bool.{⊤}
use Rattle.soar_wm.specs.Equality.{symbol_eq}
use Rattle.soar_wm.specs.Sym.{Sym}
use Rattle.soar_rule.specs.declared.cond.Atom.TheVariants.{Const, Var}
use Rattle.soar_rule.specs.declared.cond.Test.{Test}
use Rattle.soar_rule.specs.declared.cond.Test.TheVariants.{Plain, Rel, OneOf}
use Rattle.soar_rule.specs.declared.cond.Pattern.{Pattern}
use Rattle.soar_rule.specs.Conditions.{Condition, positive, negated, conjunctive, Conditions, no_more, condition_and}
use Rattle.soar_rule.specs.Productions.{ProductionOf}
use Rattle.soar_rule.specs.Variables.{is_among, with_each, plain_in_test, plain_in, plain_of_pattern, bound_by, plain_outside}
use Rattle.soar_wm.specs.declared.element.Element.{Element}
use Rattle.defs_match.specs.Conflict.{paired, instance_of, bindings_of}
use Rattle.defs_match.specs.Laws.{IsIn}
use Rattle.defs_match.specs.Rows.{rows, rows_with, rows_from, Row, extend, by_element, with_matched, bindings_at, takes_marks, empty_row}
use Rattle.defs_match.specs.Testing.{Bindings, symbol_of, bind, after_plain, others_pass, passes}
use Rattle.defs_match.proofs.RowLemmas.{in_flat_map, from_only, if_in}

abbrev pub variables_in : Bindings → List ℕ
variables_in bs = map (λ b. b.0) bs

-- the bindings, where there are any, are of these variables
abbrev pub AreOf : List ℕ → Option Bindings → Type 0
AreOf vs None = ⊤
AreOf vs (Some bs) = variables_in bs ≡ vs

-- ---- one variable

eq_flip : (m n : ℕ) → (m == n) ≡ (n == m)
eq_flip m n = grind arith

-- it is among the variables of the bindings where it has a symbol
abbrev pub Has : Bool → Option Sym → Type 0
Has b None = b ≡ false
Has b (Some s) = b ≡ true

has_first : (b rest : Bool) (s : Sym) (o : Option Sym) → Has rest o → Has (b || rest) (cond b (Some s) o)
has_first true rest s o h = refl
has_first false rest s o h = h

has_symbol : (v : ℕ) (bs : Bindings) → Has (is_among (variables_in bs) v) (symbol_of v bs)
has_symbol v [] = refl
has_symbol v (b ∷ bs) = rw (eq_flip v b.0) (has_first (b.0 == v) (is_among (variables_in bs) v) b.1 (symbol_of v bs) (has_symbol v bs))

variables_push : (bs : Bindings) (v : ℕ) (s : Sym) → variables_in (bs ++ (v, s) ∷ []) ≡ variables_in bs ++ v ∷ []
variables_push [] v s = refl
variables_push (b ∷ bs) v s = ap (λ l. b.0 ∷ l) (variables_push bs v s)

same_or_none : (b : Bool) (bs : Bindings) (vs : List ℕ) → variables_in bs ≡ vs → AreOf vs (cond b (Some bs) None)
same_or_none true bs vs h = h
same_or_none false bs vs h = tt

after_bind : (v : ℕ) (s : Sym) (bs : Bindings) (b : Bool) (o : Option Sym) → Has b o
    → AreOf (cond b (variables_in bs) (variables_in bs ++ v ∷ [])) (bind v s bs o)
after_bind v s bs b None h = rw h (variables_push bs v s)
after_bind v s bs b (Some t) h = rw h (same_or_none (symbol_eq s t) bs (variables_in bs) refl)

-- ---- fields

-- a step from any bindings of the variables before, after those that came
then_of : (f : Bindings → Option Bindings) (o : Option Bindings) (before after : List ℕ)
    → AreOf before o → ((bs : Bindings) → variables_in bs ≡ before → AreOf after (f bs)) → AreOf after (option_and_then f o)
then_of f None before after h step = tt
then_of f (Some bs) before after h step = step bs h

if_of : (b : Bool) (o : Option Bindings) (vs : List ℕ) → AreOf vs o → AreOf vs (cond b o None)
if_of true o vs h = h
if_of false o vs h = tt

plain_of : (ts : List Test) (s : Sym) (bs : Bindings) (vs : List ℕ) → variables_in bs ≡ vs
    → AreOf (with_each vs (flat_map plain_in_test ts)) (after_plain ts s bs)
plain_of [] s bs vs h = h
plain_of (Plain (Const c) ∷ ts) s bs vs h = if_of (symbol_eq s c) (after_plain ts s bs) (with_each vs (flat_map plain_in_test ts)) (plain_of ts s bs vs h)
plain_of (Plain (Var v) ∷ ts) s bs vs h = rw (← h)
    (then_of (after_plain ts s) (bind v s bs (symbol_of v bs))
    (cond (is_among (variables_in bs) v) (variables_in bs) (variables_in bs ++ v ∷ []))
    (with_each (cond (is_among (variables_in bs) v) (variables_in bs) (variables_in bs ++ v ∷ [])) (flat_map plain_in_test ts))
    (after_bind v s bs (is_among (variables_in bs) v) (symbol_of v bs) (has_symbol v bs))
    (λ mid. plain_of ts s mid (cond (is_among (variables_in bs) v) (variables_in bs) (variables_in bs ++ v ∷ []))))
plain_of (Rel r a ∷ ts) s bs vs h = plain_of ts s bs vs h
plain_of (OneOf cs ∷ ts) s bs vs h = plain_of ts s bs vs h

passes_of : (ts : List Test) (s : Sym) (bs : Bindings) (vs : List ℕ) → variables_in bs ≡ vs
    → AreOf (with_each vs (flat_map plain_in_test ts)) (passes ts s bs)
passes_of ts s bs vs h =
    then_of (λ after. cond (others_pass ts s after) (Some after) None) (after_plain ts s bs)
    (with_each vs (flat_map plain_in_test ts)) (with_each vs (flat_map plain_in_test ts))
    (plain_of ts s bs vs h)
    (λ after. same_or_none (others_pass ts s after) after (with_each vs (flat_map plain_in_test ts)))

each_append : (seen vs ws : List ℕ) → with_each seen (vs ++ ws) ≡ with_each (with_each seen vs) ws
each_append seen [] ws = refl
each_append seen (v ∷ vs) ws = each_append (cond (is_among seen v) seen (seen ++ v ∷ [])) vs ws

-- ---- elements and conditions

element_of : (p : Pattern) (e : Element) (bs : Bindings) → AreOf (with_each (variables_in bs) (plain_of_pattern p)) (bindings_at p e bs)
element_of p e bs =
    let in_id = with_each (variables_in bs) (plain_in p.id) in
    let in_attr = with_each in_id (plain_in p.attr) in
    let in_value = with_each in_attr (plain_in p.value) in
    rw (each_append (variables_in bs) (plain_in p.id) (plain_in p.attr ++ plain_in p.value), each_append in_id (plain_in p.attr) (plain_in p.value))
    (then_of (passes p.value.tests e.value) (option_and_then (passes p.attr.tests e.attr) (passes p.id.tests e.id bs)) in_attr in_value
    (then_of (passes p.attr.tests e.attr) (passes p.id.tests e.id bs) in_id in_attr
    (passes_of p.id.tests e.id bs (variables_in bs) refl)
    (λ mid. passes_of p.attr.tests e.attr mid in_id))
    (λ mid. passes_of p.value.tests e.value mid in_attr))

-- the row binds what the other binds, and these variables
abbrev pub BindsAlso : List ℕ → Row → Row → Type 0
BindsAlso vs r x = variables_in x.bindings ≡ with_each (variables_in r.bindings) vs

from_element : (r x : Row) (e : Element) (o : Option Bindings) (vs : List ℕ) → AreOf vs o → IsIn x (with_matched r e o) → variables_in x.bindings ≡ vs
from_element r x e None vs h i = absurd i
from_element r x e (Some bs) vs h (inl q) = ap (λ (s : Row). variables_in s.bindings) (sym q) ∙ h
from_element r x e (Some bs) vs h (inr i) = absurd i

after_of : (c : Condition) (w : List Element) (r x : Row) → IsIn x (rows_with c w r) → BindsAlso (bound_by c) r x
after_of (positive p) w r x h =
    let found = in_flat_map (by_element p r) x w h in
    let e = found.0 in
    from_element r x e (bindings_at p e r.bindings) (with_each (variables_in r.bindings) (plain_of_pattern p))
    (element_of p e r.bindings) (if_in (takes_marks p e) x (with_matched r e (bindings_at p e r.bindings)) found.2)
after_of (negated p) w r x h = ap (λ (s : Row). variables_in s.bindings) (from_only r x (extend p w r) h).0
after_of (conjunctive cs) w r x h = ap (λ (s : Row). variables_in s.bindings) (from_only r x (rows_from cs w (r ∷ [])) h).0

from_of : (cs : Conditions) (w : List Element) (rs : List Row) (x : Row) → IsIn x (rows_from cs w rs) → (s : Row) × IsIn s rs × BindsAlso (plain_outside cs) s x
from_of no_more w rs x h = (x, h, refl)
from_of (condition_and c cs) w rs x h =
    let deep = from_of cs w (flat_map (rows_with c w) rs) x h in
    let from = in_flat_map (rows_with c w) deep.0 rs deep.1 in
    let near : BindsAlso (bound_by c) from.0 deep.0 = after_of c w from.0 deep.0 from.2 in (
      from.0,
      from.1,
      deep.2 ∙ ap (λ vs. with_each vs (plain_outside cs)) near ∙ sym (each_append (variables_in from.0.bindings) (bound_by c) (plain_outside cs)),
    )

-- ---- instances

paired_back : (bs : Bindings) → paired (variables_in bs) (map (λ b. b.1) bs) ≡ bs
paired_back [] = refl
paired_back (b ∷ bs) = ap (λ l. b ∷ l) (paired_back bs)

-- An instance tells the bindings of its row.
pub tells_bindings : (p : ProductionOf) (number : ℕ) (w : List Element) (r : Row) → IsIn r (rows p.conditions w) → bindings_of p (instance_of number r) ≡ r.bindings
tells_bindings p number w r h =
    let g = from_of p.conditions w (empty_row ∷ []) r h in
    let all : variables_in r.bindings ≡ with_each [] (plain_outside p.conditions) =
    elim (g.1) [
      | inl e ↦ g.2 ∙ ap (λ (s : Row). with_each (variables_in s.bindings) (plain_outside p.conditions)) (sym e)
      | inr e ↦ absurd e
    ] in
    ap (λ vs. paired vs (map (λ b. b.1) r.bindings)) (sym all) ∙ paired_back r.bindings
