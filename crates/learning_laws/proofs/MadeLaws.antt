-- What a firing makes can be made.
use Rattle.std.proofs.Common.{◌≡◌, refl, sym, ◌∙◌, ap, subst, ℕ, suc, Bool, true, false, cond, inl, inr, List, [], ◌∷◌, Option, Some, None, Result, Ok, Err}
use Rattle.soar_sym.specs.declared.symbol.Sym.{Sym}
use Rattle.soar_sym.specs.declared.symbol.Sym.TheVariants.{Ident, Int, Word}
use Rattle.soar_rule.specs.declared.cond.Atom.{Atom}
use Rattle.soar_rule.specs.Productions.{ValueOf, PreferenceOf, accepts, rejects, requires_it, prohibits, is_best, is_worst, is_indifferent, is_better_than, is_worse_than, is_indifferent_to, ActionOf, makes, writes, halts}
use Rattle.defs_soar.specs.declared.firing.DropCause.{DropCause}
use Rattle.defs_soar.specs.declared.firing.DropCause.TheVariants as cause
use Rattle.defs_soar.specs.declared.goal.Goal.{Goal}
use Rattle.defs_soar.specs.declared.preference.Wish.{Wish}
use Rattle.defs_soar.specs.Firing.{evaluated_referent, identifier_only, indifferent_kind, is_for_operator, is_in_range, judged, kind_of, MadeSoFar, referent_of, values_of_list, with_action, with_actions, with_wish, with_writing, wished}
use Rattle.defs_soar.specs.Laws.{IsIn}
use Rattle.defs_soar.specs.Naming.{atom_of_action, done, evaluated, evaluated_all, Evaluated, Naming, then_with}
use Rattle.defs_soar.specs.Values.{is_identifier}
use Rattle.learning_laws.specs.BeforeWave.{CanBeMade, MadeCanBeMade, RefFits}
use Rattle.learning_laws.proofs.Lists.{in_append}

-- a later part has a value only where the earlier one has
then_ok : {A B : Type 0} (e : Evaluated A) (f : A → Naming → Evaluated B) (b : B) → (then_with e f).value ≡ Ok b → (a : A) × (e.value ≡ Ok a) × ((f a e.naming).value ≡ Ok b)
then_ok {A} {B} e f b h = go (e.value) refl h
  where
    go : (r : Result A DropCause) → e.value ≡ r → (then_with {A = A} {B = B} (record { value = r; naming = e.naming }) f).value ≡ Ok b → (a : A) × (e.value ≡ Ok a) × ((f a e.naming).value ≡ Ok b)
    go (Ok a) q k = (a, q, k)
    go (Err why) q k = absurd (cc)

judged_same : (goals : List Goal) (x y : Wish) → judged goals x ≡ Ok y → (x ≡ y) × (judged goals y ≡ Ok y)
judged_same goals x y h = let same = go (is_for_operator goals x) (is_in_range x) h in (same, subst (λ z. judged goals z ≡ Ok y) same h)
  where
    go : (a b : Bool) → cond a (cond b (Ok x) (Err cause.OutOfRange)) (Err cause.NotAnOperator) ≡ Ok y → x ≡ y
    go true true k = cc
    go true false k = absurd (cc)
    go false b k = absurd (cc)

none_or_some : (p : PreferenceOf) (n : Naming) (r : Option Sym) → (evaluated_referent (referent_of p) n).value ≡ Ok r → RefFits (kind_of p r) r
none_or_some p n r h = by p h
  where
    nothing : (evaluated_referent None n).value ≡ Ok r → (r ≡ None)
    nothing k = inside r k
      where
        inside : (r : Option Sym) → ◌≡◌ {A = Result (Option Sym) DropCause} (Ok None) (Ok r) → r ≡ None
        inside None k = refl
        inside (Some s) k = absurd (cc)

    something : (v : ValueOf) → (evaluated_referent (Some v) n).value ≡ Ok r → (s : Sym) × (r ≡ Some s)
    something v k =
        let e = then_ok (evaluated v n) (λ s after. done (Some s) after) r k in (e.0, inside r e.0 e.2)
      where
        inside : (r : Option Sym) (s : Sym) → ◌≡◌ {A = Result (Option Sym) DropCause} (Ok (Some s)) (Ok r) → r ≡ Some s
        inside r s k = cc

    indifferent : (s : Sym) → RefFits (indifferent_kind (Some s)) (Some s)
    indifferent (Ident l m) = tt
    indifferent (Word x) = tt
    indifferent (Int z) = tt

    by : (p : PreferenceOf) → (evaluated_referent (referent_of p) n).value ≡ Ok r → RefFits (kind_of p r) r
    by accepts k = subst (λ x. RefFits (kind_of accepts x) x) (sym (nothing k)) tt
    by rejects k = subst (λ x. RefFits (kind_of rejects x) x) (sym (nothing k)) tt
    by requires_it k = subst (λ x. RefFits (kind_of requires_it x) x) (sym (nothing k)) tt
    by prohibits k = subst (λ x. RefFits (kind_of prohibits x) x) (sym (nothing k)) tt
    by is_best k = subst (λ x. RefFits (kind_of is_best x) x) (sym (nothing k)) tt
    by is_worst k = subst (λ x. RefFits (kind_of is_worst x) x) (sym (nothing k)) tt
    by is_indifferent k = subst (λ x. RefFits (kind_of is_indifferent x) x) (sym (nothing k)) tt
    by (is_better_than v) k = let s = something v k in subst (λ x. RefFits (kind_of (is_better_than v) x) x) (sym s.1) tt
    by (is_worse_than v) k = let s = something v k in subst (λ x. RefFits (kind_of (is_worse_than v) x) x) (sym s.1) tt
    by (is_indifferent_to v) k = let s = something v k in subst (λ x. RefFits (kind_of (is_indifferent_to v) x) x) (sym s.1) (indifferent s.0)

id_is : (e : Evaluated Sym) (s : Sym) → (identifier_only e).value ≡ Ok s → is_identifier s ≡ true
id_is e s h = go (e.value) h
  where
    by : (t : Sym) (b : Bool) → is_identifier t ≡ b → ◌≡◌ {A = Result Sym DropCause} (cond b (Ok t) (Err cause.NotAnIdentifier)) (Ok s) → is_identifier s ≡ true
    by t true q k = let same : t ≡ s = cc in ap is_identifier (sym same) ∙ q
    by t false q k = absurd (cc)

    go : (r : Result Sym DropCause) → (identifier_only (record { value = r; naming = e.naming })).value ≡ Ok s → is_identifier s ≡ true
    go (Ok t) k = by t (is_identifier t) refl k
    go (Err why) k = absurd (cc)

judged_can : (goals : List Goal) (w x : Wish) → judged goals w ≡ Ok x → is_identifier w.id ≡ true → RefFits w.kind w.referent → CanBeMade goals x
judged_can goals w x h identifier fits =
    let same = judged_same goals w x h in
    record {
      identifier = ap (λ (y : Wish). is_identifier y.id) (sym same.0) ∙ identifier;
      referent = subst (λ (y : Wish). RefFits y.kind y.referent) same.0 fits;
      allowed = same.1;
    }

wished_can : (goals : List Goal) (id : Atom) (attr value : ValueOf) (p : PreferenceOf) (n : Naming) (x : Wish) → (wished goals id attr value p n).value ≡ Ok x → CanBeMade goals x
wished_can goals id attr value p n x h =
    let i = then_ok (identifier_only (atom_of_action id n))
    (λ i n1. then_with (evaluated attr n1) (λ a n2. then_with (evaluated value n2) (λ v n3. then_with (evaluated_referent (referent_of p) n3) (λ r n4.
    record { value = judged goals (record { id = i; attr = a; value = v; kind = kind_of p r; referent = r }); naming = n4 })))) x h in
    let n1 = (identifier_only (atom_of_action id n)).naming in
    let a = then_ok (evaluated attr n1)
    (λ a n2. then_with (evaluated value n2) (λ v n3. then_with (evaluated_referent (referent_of p) n3) (λ r n4.
    record { value = judged goals (record { id = i.0; attr = a; value = v; kind = kind_of p r; referent = r }); naming = n4 }))) x i.2 in
    let n2 = (evaluated attr n1).naming in
    let v = then_ok (evaluated value n2)
    (λ v n3. then_with (evaluated_referent (referent_of p) n3) (λ r n4. record { value = judged goals (record { id = i.0; attr = a.0; value = v; kind = kind_of p r; referent = r }); naming = n4 })) x a.2 in
    let n3 = (evaluated value n2).naming in
    let r = then_ok (evaluated_referent (referent_of p) n3) (λ r n4. record { value = judged goals (record { id = i.0; attr = a.0; value = v.0; kind = kind_of p r; referent = r }); naming = n4 }) x v.2 in
    judged_can goals (record { id = i.0; attr = a.0; value = v.0; kind = kind_of p r.0; referent = r.0 }) x r.2 (id_is (atom_of_action id n) i.0 i.1) (none_or_some p n3 r.0 r.1)

-- ---- all actions

abbrev AllCan : List Goal → MadeSoFar → Type 0
AllCan goals made = (x : Wish) → IsIn x made.wishes → CanBeMade goals x

action_can : (goals : List Goal) (place : ℕ) (a : ActionOf) (made : MadeSoFar) → AllCan goals made → AllCan goals (with_action goals place a made)
action_can goals place (makes id attr value p) made h = go ((wished goals id attr value p made.naming).value) refl
  where
    go : (r : Result Wish DropCause) → (wished goals id attr value p made.naming).value ≡ r → AllCan goals (with_wish place made (record { value = r; naming = (wished goals id attr value p made.naming).naming }))
    go (Ok w) q = λ x i. elim (in_append x made.wishes (w ∷ []) i) [
      | inl j ↦ h x j
      | inr j ↦ elim j [ inl e ↦ subst (CanBeMade goals) e (wished_can goals id attr value p made.naming w q) | inr k ↦ absurd k ]
    ]
    go (Err why) q = h
action_can goals place (writes values) made h = go ((evaluated_all (values_of_list values) made.naming).value)
  where
    go : (r : Result (List Sym) DropCause) → AllCan goals (with_writing place made (record { value = r; naming = (evaluated_all (values_of_list values) made.naming).naming }))
    go (Ok symbols) = h
    go (Err why) = h
action_can goals place halts made h = h

actions_can : (goals : List Goal) (place : ℕ) (actions : List ActionOf) (made : MadeSoFar) → AllCan goals made → AllCan goals (with_actions goals place actions made)
actions_can goals place [] made h = h
actions_can goals place (a ∷ actions) made h = actions_can goals (suc place) actions (with_action goals place a made) (action_can goals place a made h)

pub made_can_be_made : MadeCanBeMade
made_can_be_made goals actions n = actions_can goals 1 actions (record { wishes = []; text = []; halted = false; dropped = []; naming = n }) (λ x i. absurd i)
