-- Conditions pass with variables looked up exactly where they pass with bindings.
use Rattle.std.proofs.Common.{◌≡◌, refl, ◌∙◌, sym, ap, ap₂, subst, ℕ, Bool, true, false, ◌&&◌, ◌||◌, ◌==◌, cond, List, [], ◌∷◌, ◌++◌, Option, Some, None, option_and_then, arith}
use Rattle.std.specs.List.{list_all}
use Rattle.std.proofs.lemmas.Bool.Decides.{nat_tests}
use Rattle.soar_sym.specs.Equality.{symbol_eq}
use Rattle.soar_sym.specs.declared.symbol.Sym.{Sym}
use Rattle.soar_sym.proofs.KeyLemmas.{symbol_self}
use Rattle.soar_rule.specs.declared.cond.Atom.{Atom}
use Rattle.soar_rule.specs.declared.cond.Atom.TheVariants.{Const, Var}
use Rattle.soar_rule.specs.declared.cond.Pattern.{Pattern}
use Rattle.soar_rule.specs.declared.cond.Test.{Test}
use Rattle.soar_rule.specs.declared.cond.Test.TheVariants.{Plain, Rel, OneOf}
use Rattle.soar_rule.specs.Conditions.{Conditions, no_more, condition_and, positive, negated, conjunctive}
use Rattle.soar_wm.specs.declared.element.Element.{Element}
use Rattle.defs_match.specs.Rows.{takes_marks, bindings_at}
use Rattle.defs_match.specs.Testing.{Bindings, symbol_of, symbol_at, bind, after_plain, others_pass, passes, contains_symbol, stands_to}
use Rattle.defs_soar.specs.Ungrounded.{or_else}
use Rattle.learning_laws.specs.Replay.{if_taken, is_there, passed_on}
use Rattle.chunk_replay.specs.LookedUp.{LookUp, nothing, is_plain_in, within, known_after, symbol_for, is_or_free, plain_passes, other_passes, field_passes, fields_pass, pass}

-- ---- look-ups

or_none : (o : Option Sym) → or_else o None ≡ o
or_none None = refl
or_none (Some s) = refl

or_false : (b : Bool) → b || false ≡ b
or_false true = refl
or_false false = refl

or_assoc : (a b c : Bool) → (a || b) || c ≡ a || (b || c)
or_assoc true b c = refl
or_assoc false b c = refl

and_assoc : (a b c : Bool) → (a && b) && c ≡ a && (b && c)
and_assoc true b c = refl
and_assoc false b c = refl

-- by what was known, or by the tests that are done
abbrev done : LookUp → (ℕ → Bool) → Sym → LookUp
done known d s v = or_else (known v) (cond (d v) (Some s) None)

joined : (o : Option Sym) (b c : Bool) (s : Sym) → or_else (or_else o (cond b (Some s) None)) (cond c (Some s) None) ≡ or_else o (cond (b || c) (Some s) None)
joined (Some t) b c s = refl
joined None true c s = refl
joined None false c s = refl

-- one binding more
pushed : (bs : Bindings) (w : ℕ) (s : Sym) (v : ℕ) → symbol_of v (bs ++ (w, s) ∷ []) ≡ or_else (symbol_of v bs) (cond (w == v) (Some s) None)
pushed [] w s v = refl
pushed (b ∷ bs) w s v = go (b.0 == v) (pushed bs w s v)
  where
    go : (same : Bool) → symbol_of v (bs ++ (w, s) ∷ []) ≡ or_else (symbol_of v bs) (cond (w == v) (Some s) None)
        → cond same (Some b.1) (symbol_of v (bs ++ (w, s) ∷ [])) ≡ or_else (cond same (Some b.1) (symbol_of v bs)) (cond (w == v) (Some s) None)
    go true later = refl
    go false later = later

-- a variable that has a symbol keeps it
stays : (known : LookUp) (d : ℕ → Bool) (s : Sym) (w : ℕ)
    → or_else (known w) (cond (d w) (Some s) None) ≡ or_else (known w) (cond (d w || true) (Some s) None)
    → (v : ℕ) (same : Bool) → (w == v) ≡ same → done known d s v ≡ or_else (known v) (cond (d v || same) (Some s) None)
stays known d s w held v false q = ap (λ b. or_else (known v) (cond b (Some s) None)) (sym (or_false (d v)))
stays known d s w held v true q =
    let e : w ≡ v = grind (arith, nat_tests, q) in
    subst (λ u. or_else (known u) (cond (d u) (Some s) None) ≡ or_else (known u) (cond (d u || true) (Some s) None)) e held

-- ---- one after the other

-- bindings that a test left, whether it passed, and a look-up that agrees with them
abbrev Agrees : Option Bindings → Bool → LookUp → Type 0
Agrees (Some bs) true known = (v : ℕ) → symbol_of v bs ≡ known v
Agrees None false known = Unit {0}
Agrees (Some bs) false known = ⊥
Agrees None true known = ⊥

then_agrees : (x : Option Bindings) (b : Bool) (known : LookUp) (f : Bindings → Option Bindings) (c : Bool) (after : LookUp) → Agrees x b known
    → ((bs : Bindings) → ((v : ℕ) → symbol_of v bs ≡ known v) → Agrees (f bs) c after) → Agrees (option_and_then f x) (b && c) after
then_agrees (Some bs) true known f c after h g = g bs h
then_agrees (Some bs) false known f c after h g = absurd h
then_agrees None true known f c after h g = absurd h
then_agrees None false known f c after h g = tt

then_there : (x : Option Bindings) (b : Bool) (known : LookUp) (f : Bindings → Option Bindings) (c : Bool) → Agrees x b known
    → ((bs : Bindings) → ((v : ℕ) → symbol_of v bs ≡ known v) → is_there (f bs) ≡ c) → is_there (option_and_then f x) ≡ b && c
then_there (Some bs) true known f c h g = g bs h
then_there (Some bs) false known f c h g = absurd h
then_there None true known f c h g = absurd h
then_there None false known f c h g = refl

where_true : (b : Bool) (bs : Bindings) (known : LookUp) → ((v : ℕ) → symbol_of v bs ≡ known v) → Agrees (cond b (Some bs) None) b known
where_true true bs known h = h
where_true false bs known h = tt

-- ---- plain tests

bound_before : (known : LookUp) (d : ℕ → Bool) (s : Sym) (w : ℕ) (bs : Bindings) → ((v : ℕ) → symbol_of v bs ≡ done known d s v)
    → (o : Option Sym) → known w ≡ o → (b : Bool) → d w ≡ b
    → Agrees (bind w s bs (or_else o (cond b (Some s) None))) (is_or_free s o) (done known (λ v. d v || (w == v)) s)
bound_before known d s w bs h (Some t) e b q =
    where_true (symbol_eq s t) bs (done known (λ v. d v || (w == v)) s)
    (λ v. h v ∙ stays known d s w (ap (λ o. or_else o (cond (d w) (Some s) None)) e ∙ sym (ap (λ o. or_else o (cond (d w || true) (Some s) None)) e)) v (w == v) refl)
bound_before known d s w bs h None e true q =
    let same : symbol_eq s s ≡ true = symbol_self s in
    subst (λ x. Agrees (cond x (Some bs) None) true (done known (λ v. d v || (w == v)) s)) (sym same)
    (λ v. h v ∙ stays known d s w (ap (λ c. or_else (known w) (cond c (Some s) None)) q ∙ sym (ap (λ c. or_else (known w) (cond (c || true) (Some s) None)) q)) v (w == v) refl)
bound_before known d s w bs h None e false q =
    λ v. pushed bs w s v ∙ (ap (λ o. or_else o (cond (w == v) (Some s) None)) (h v) ∙ joined (known v) (d v) (w == v) s)

bind_agrees : (known : LookUp) (d : ℕ → Bool) (s : Sym) (w : ℕ) (bs : Bindings) → ((v : ℕ) → symbol_of v bs ≡ done known d s v)
    → Agrees (bind w s bs (symbol_of w bs)) (is_or_free s (known w)) (done known (λ v. d v || (w == v)) s)
bind_agrees known d s w bs h =
    subst (λ o. Agrees (bind w s bs o) (is_or_free s (known w)) (done known (λ v. d v || (w == v)) s)) (sym (h w)) (bound_before known d s w bs h (known w) refl (d w) refl)

-- the tests that are done, and these
abbrev with_tests : (ℕ → Bool) → List Test → ℕ → Bool
with_tests d tests v = d v || is_plain_in v tests

same_done : (known : LookUp) (d e : ℕ → Bool) (s : Sym) → ((v : ℕ) → d v ≡ e v) → (x : Option Bindings) (b : Bool) → Agrees x b (done known d s) → Agrees x b (done known e s)
same_done known d e s h x b a = subst (λ f. Agrees x b (done known f s)) (λ i v. h v i) a

if_agrees : (b c : Bool) (x : Option Bindings) (known : LookUp) → Agrees x c known → Agrees (cond b x None) (b && c) known
if_agrees true c x known a = a
if_agrees false c x known a = tt

plain_agrees : (known : LookUp) (d : ℕ → Bool) (s : Sym) (tests : List Test) (bs : Bindings) → ((v : ℕ) → symbol_of v bs ≡ done known d s v)
    → Agrees (after_plain tests s bs) (list_all (plain_passes known s) tests) (done known (with_tests d tests) s)
plain_agrees known d s [] bs h = λ v. h v ∙ ap (λ b. or_else (known v) (cond b (Some s) None)) (sym (or_false (d v)))
plain_agrees known d s (Plain (Const c) ∷ tests) bs h =
    if_agrees (symbol_eq s c) (list_all (plain_passes known s) tests) (after_plain tests s bs) (done known (with_tests d tests) s) (plain_agrees known d s tests bs h)
plain_agrees known d s (Plain (Var w) ∷ tests) bs h =
    same_done known (with_tests (λ v. d v || (w == v)) tests) (with_tests d (Plain (Var w) ∷ tests)) s (λ v. or_assoc (d v) (w == v) (is_plain_in v tests))
    (option_and_then (after_plain tests s) (bind w s bs (symbol_of w bs))) (is_or_free s (known w) && list_all (plain_passes known s) tests)
    (then_agrees (bind w s bs (symbol_of w bs)) (is_or_free s (known w)) (done known (λ v. d v || (w == v)) s) (after_plain tests s) (list_all (plain_passes known s) tests)
    (done known (with_tests (λ v. d v || (w == v)) tests) s) (bind_agrees known d s w bs h) (λ after g. plain_agrees known (λ v. d v || (w == v)) s tests after g))
plain_agrees known d s (Rel r a ∷ tests) bs h = plain_agrees known d s tests bs h
plain_agrees known d s (OneOf symbols ∷ tests) bs h = plain_agrees known d s tests bs h

-- ---- the other tests

atom_is : (known : LookUp) (bs : Bindings) → ((v : ℕ) → symbol_of v bs ≡ known v) → (a : Atom) → symbol_at a bs ≡ symbol_for known a
atom_is known bs h (Const c) = refl
atom_is known bs h (Var v) = h v

others_are : (known : LookUp) (bs : Bindings) → ((v : ℕ) → symbol_of v bs ≡ known v) → (s : Sym) (tests : List Test) → others_pass tests s bs ≡ list_all (other_passes known s) tests
others_are known bs h s [] = refl
others_are known bs h s (Plain a ∷ tests) = others_are known bs h s tests
others_are known bs h s (Rel r a ∷ tests) = ap₂ (λ o later. stands_to r s o && later) (atom_is known bs h a) (others_are known bs h s tests)
others_are known bs h s (OneOf symbols ∷ tests) = ap (λ later. contains_symbol symbols s && later) (others_are known bs h s tests)

-- ---- fields and patterns

field_agrees : (known : LookUp) (tests : List Test) (s : Sym) (bs : Bindings) → ((v : ℕ) → symbol_of v bs ≡ known v)
    → Agrees (passes tests s bs) (field_passes known tests s) (within known tests s)
field_agrees known tests s bs h =
    then_agrees (after_plain tests s bs) (list_all (plain_passes known s) tests) (within known tests s) (λ after. cond (others_pass tests s after) (Some after) None)
    (list_all (other_passes (within known tests s) s) tests) (within known tests s)
    (plain_agrees known (λ v. false) s tests bs (λ v. h v ∙ sym (or_none (known v))))
    (λ after g. subst (λ b. Agrees (cond (others_pass tests s after) (Some after) None) b (within known tests s)) (others_are (within known tests s) after g s tests)
    (where_true (others_pass tests s after) after (within known tests s) g))

pattern_agrees : (known : LookUp) (p : Pattern) (e : Element) (bs : Bindings) → ((v : ℕ) → symbol_of v bs ≡ known v)
    → Agrees (bindings_at p e bs) (fields_pass known p e) (known_after known p e)
pattern_agrees known p e bs h =
    let id_known : LookUp = within known p.id.tests e.id in
    let attr_known : LookUp = within id_known p.attr.tests e.attr in
    let id_passes : Bool = field_passes known p.id.tests e.id in
    let attr_passes : Bool = field_passes id_known p.attr.tests e.attr in
    let value_passes : Bool = field_passes attr_known p.value.tests e.value in
    subst (λ b. Agrees (bindings_at p e bs) b (known_after known p e)) (and_assoc id_passes attr_passes value_passes)
    (then_agrees (option_and_then (passes p.attr.tests e.attr) (passes p.id.tests e.id bs)) (id_passes && attr_passes) attr_known (passes p.value.tests e.value) value_passes
    (known_after known p e)
    (then_agrees (passes p.id.tests e.id bs) id_passes id_known (passes p.attr.tests e.attr) attr_passes attr_known (field_agrees known p.id.tests e.id bs h)
    (λ after g. field_agrees id_known p.attr.tests e.attr after g))
    (λ after g. field_agrees attr_known p.value.tests e.value after g))

-- ---- conditions

with_marks : (m : Bool) (x : Option Bindings) (f : Bindings → Option Bindings) (b c : Bool) → is_there (option_and_then f x) ≡ b && c → is_there (option_and_then f (if_taken m x)) ≡ (m && b) && c
with_marks true x f b c h = h
with_marks false x f b c h = refl

passed_from : (cs : Conditions) (elements : List Element) (known : LookUp) (bs : Bindings) → ((v : ℕ) → symbol_of v bs ≡ known v)
    → is_there (passed_on cs elements bs) ≡ pass known cs elements
passed_from no_more [] known bs h = refl
passed_from no_more (e ∷ elements) known bs h = refl
passed_from (condition_and (positive p) cs) [] known bs h = refl
passed_from (condition_and (positive p) cs) (e ∷ elements) known bs h =
    with_marks (takes_marks p e) (bindings_at p e bs) (passed_on cs elements) (fields_pass known p e) (pass (known_after known p e) cs elements)
    (then_there (bindings_at p e bs) (fields_pass known p e) (known_after known p e) (passed_on cs elements) (pass (known_after known p e) cs elements) (pattern_agrees known p e bs h)
    (λ after g. passed_from cs elements (known_after known p e) after g))
passed_from (condition_and (negated p) cs) elements known bs h = passed_from cs elements known bs h
passed_from (condition_and (conjunctive inside) cs) elements known bs h = passed_from cs elements known bs h

pub passed : (cs : Conditions) (elements : List Element) → is_there (passed_on cs elements []) ≡ pass nothing cs elements
passed cs elements = passed_from cs elements nothing [] (λ v. refl)
