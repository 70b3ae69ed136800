-- Actions without functions make the same over each table that spells the names of their variables alike.
use Rattle.std.proofs.Common.{◌≡◌, refl, sym, ◌∙◌, ap, subst, ℕ, suc, ◌+◌, false, cond, List, [], ◌∷◌, ◌++◌, map, Option, Some, None, Result, Ok, Err}
use Rattle.soar_sym.specs.Letters.{last_of, with_last}
use Rattle.soar_sym.specs.Words.{Texts}
use Rattle.soar_sym.specs.declared.symbol.Sym.{Sym}
use Rattle.soar_sym.specs.declared.symbol.Sym.TheVariants.{Ident}
use Rattle.soar_rule.specs.declared.cond.Atom.{Atom}
use Rattle.soar_rule.specs.declared.cond.Atom.TheVariants.{Const, Var}
use Rattle.soar_rule.specs.Productions.{ValueOf, atom_value, PreferenceOf}
use Rattle.soar_rule.specs.Renaming.{action_with, preference_with}
use Rattle.defs_match.specs.Testing.{Bindings, symbol_of}
use Rattle.defs_soar.specs.declared.firing.DropCause.{DropCause}
use Rattle.defs_soar.specs.declared.firing.DropCause.TheVariants as cause
use Rattle.defs_soar.specs.declared.goal.Goal.{Goal}
use Rattle.defs_soar.specs.declared.preference.PrefKind.{PrefKind}
use Rattle.defs_soar.specs.declared.preference.PrefKind.TheVariants as kind
use Rattle.defs_soar.specs.declared.preference.Wish.{Wish}
use Rattle.defs_soar.specs.Candidate.{action_of, preference_of}
use Rattle.defs_soar.specs.Firing.{evaluated_referent, identifier_only, judged, kind_of, made_by, MadeSoFar, referent_of, with_action, with_actions, with_wish, wished}
use Rattle.defs_soar.specs.Naming.{Naming, Evaluated, atom_of_action, done, letter_from, name_at, text_of_name, then_with, variable_value}
use Rattle.defs_soar.specs.Values.{is_identifier}

module _ (goals : List Goal) (words table : Texts) (vars : List Sym) (spelled : (v : ℕ) → text_of_name table (name_at vars v) ≡ text_of_name words (name_at vars v)) where
  record IsOver (n m : Naming) : Type 0 where
    bindings : m.bindings ≡ n.bindings
    letters : m.letters ≡ n.letters
    vars_are : n.vars ≡ vars
    vars_too : m.vars ≡ vars
    words_are : n.words ≡ words
    words_too : m.words ≡ table

  record AreOver {A : Type 0} (e d : Evaluated A) : Type 0 where
    value : d.value ≡ e.value
    over : IsOver e.naming d.naming

  then_over : {A B : Type 0} (e d : Evaluated A) (f : A → Naming → Evaluated B) → AreOver e d → ((a : A) (n m : Naming) → IsOver n m → AreOver (f a n) (f a m)) → AreOver (then_with e f) (then_with d f)
  then_over {A} {B} e d f h next = go (e.value) refl
    where
      go : (r : Result A DropCause) → e.value ≡ r → AreOver (then_with {A = A} {B = B} (record { value = r; naming = e.naming }) f) (then_with d f)
      go (Ok a) q =
          subst (λ (r : Result A DropCause). AreOver (f a e.naming) (then_with {A = A} {B = B} (record { value = r; naming = d.naming }) f)) (sym (h.value ∙ q)) (next a e.naming d.naming h.over)
      go (Err why) q =
          subst (λ (r : Result A DropCause). AreOver {A = B} (record { value = Err why; naming = e.naming }) (then_with {A = A} {B = B} (record { value = r; naming = d.naming }) f)) (sym (h.value ∙ q))
          (record { value = refl; over = h.over })

  atom_over : (a : Atom) (n m : Naming) → IsOver n m → AreOver (atom_of_action a n) (atom_of_action a m)
  atom_over (Const s) n m h = record { value = refl; over = h }
  atom_over (Var v) n m h = subst (λ (o : Option Sym). AreOver (variable_value v n (symbol_of v n.bindings)) (variable_value v m o)) (sym (ap (symbol_of v) h.bindings)) (go (symbol_of v n.bindings))
    where
      name : text_of_name m.words (name_at m.vars v) ≡ text_of_name n.words (name_at n.vars v)
      name = (λ i. text_of_name (h.words_too i) (name_at (h.vars_too i) v)) ∙ spelled v ∙ (λ i. text_of_name (sym h.words_are i) (name_at (sym h.vars_are i) v))

      go : (o : Option Sym) → AreOver (variable_value v n o) (variable_value v m o)
      go (Some s) = record { value = refl; over = h }
      go None =
          let letters_are : letter_from (text_of_name m.words (name_at m.vars v)) ≡ letter_from (text_of_name n.words (name_at n.vars v)) = ap letter_from name in
          let last_is : last_of m.letters (letter_from (text_of_name m.words (name_at m.vars v))) + 1 ≡ last_of n.letters (letter_from (text_of_name n.words (name_at n.vars v))) + 1 = λ i. last_of (h.letters i) (letters_are i) + 1 in
          record {
            value = λ i. Ok (Ident (letters_are i) (last_is i));
            over = record {
              bindings = λ i. h.bindings i ++ (v, Ident (letters_are i) (last_is i)) ∷ [];
              letters = λ i. with_last (h.letters i) (letters_are i) (last_is i);
              vars_are = h.vars_are;
              vars_too = h.vars_too;
              words_are = h.words_are;
              words_too = h.words_too;
            };
          }

  id_over : (e d : Evaluated Sym) → AreOver e d → AreOver (identifier_only e) (identifier_only d)
  id_over e d h =
      then_over e d (λ s naming. record { value = cond (is_identifier s) (Ok s) (Err cause.NotAnIdentifier); naming = naming }) h (λ s n m k. record { value = refl; over = k })

  abbrev IsPlain : Option ValueOf → Type 0
  IsPlain None = Unit {0}
  IsPlain (Some v) = (a : Atom) × (v ≡ atom_value a)

  referent_over : (o : Option ValueOf) (n m : Naming) → IsPlain o → IsOver n m → AreOver (evaluated_referent o n) (evaluated_referent o m)
  referent_over None n m p h = record { value = refl; over = h }
  referent_over (Some v) n m p h =
      subst (λ u. AreOver (evaluated_referent (Some u) n) (evaluated_referent (Some u) m)) (sym p.1)
      (then_over (atom_of_action p.0 n) (atom_of_action p.0 m) (λ s after. done (Some s) after) (atom_over p.0 n m h) (λ s a b k. record { value = refl; over = k }))

  module _ (F : Atom → Atom) where
    plain_referent : (k : PrefKind) (r : Option Sym) → IsPlain (referent_of (preference_with F (preference_of k r)))
    plain_referent kind.Accept r = tt
    plain_referent kind.Require r = tt
    plain_referent kind.Reject r = tt
    plain_referent kind.Prohibit r = tt
    plain_referent kind.Best r = tt
    plain_referent kind.Worst r = tt
    plain_referent kind.Indifferent r = tt
    plain_referent kind.Better (Some s) = (F (Const s), refl)
    plain_referent kind.Worse (Some s) = (F (Const s), refl)
    plain_referent kind.Numeric (Some s) = (F (Const s), refl)
    plain_referent kind.IndifferentTo (Some s) = (F (Const s), refl)
    plain_referent kind.Better None = (_, refl)
    plain_referent kind.Worse None = (_, refl)
    plain_referent kind.Numeric None = (_, refl)
    plain_referent kind.IndifferentTo None = (_, refl)

    wished_over : (id attr value : Atom) (p : PreferenceOf) (n m : Naming) → IsPlain (referent_of p) → IsOver n m
        → AreOver (wished goals id (atom_value attr) (atom_value value) p n) (wished goals id (atom_value attr) (atom_value value) p m)
    wished_over id attr value p n m q h =
        then_over (identifier_only (atom_of_action id n)) (identifier_only (atom_of_action id m)) (λ i n1. then_with (atom_of_action attr n1) (λ a n2. then_with (atom_of_action value n2) (λ v n3. then_with (evaluated_referent (referent_of p) n3) (λ r n4.
        record { value = judged goals (record { id = i; attr = a; value = v; kind = kind_of p r; referent = r }); naming = n4 })))) (id_over (atom_of_action id n) (atom_of_action id m) (atom_over id n m h))
        (λ i n1 m1 h1. then_over (atom_of_action attr n1) (atom_of_action attr m1) (λ a n2. then_with (atom_of_action value n2) (λ v n3. then_with (evaluated_referent (referent_of p) n3) (λ r n4.
        record { value = judged goals (record { id = i; attr = a; value = v; kind = kind_of p r; referent = r }); naming = n4 }))) (atom_over attr n1 m1 h1)
        (λ a n2 m2 h2. then_over (atom_of_action value n2) (atom_of_action value m2) (λ v n3. then_with (evaluated_referent (referent_of p) n3) (λ r n4.
        record { value = judged goals (record { id = i; attr = a; value = v; kind = kind_of p r; referent = r }); naming = n4 })) (atom_over value n2 m2 h2)
        (λ v n3 m3 h3. then_over (evaluated_referent (referent_of p) n3) (evaluated_referent (referent_of p) m3) (λ r n4.
        record { value = judged goals (record { id = i; attr = a; value = v; kind = kind_of p r; referent = r }); naming = n4 }) (referent_over (referent_of p) n3 m3 q h3)
        (λ r n4 m4 h4. record { value = refl; over = h4 }))))

    record IsMade (e d : MadeSoFar) : Type 0 where
      wishes : d.wishes ≡ e.wishes
      over : IsOver e.naming d.naming

    wish_over : (place : ℕ) (made other : MadeSoFar) (e d : Evaluated Wish) → other.wishes ≡ made.wishes → AreOver e d → IsMade (with_wish place made e) (with_wish place other d)
    wish_over place made other e d q h = go (e.value) refl
      where
        go : (r : Result Wish DropCause) → e.value ≡ r → IsMade (with_wish place made (record { value = r; naming = e.naming })) (with_wish place other d)
        go (Ok w) z =
            subst (λ (r : Result Wish DropCause). IsMade (with_wish place made (record { value = Ok w; naming = e.naming })) (with_wish place other (record { value = r; naming = d.naming }))) (sym (h.value ∙ z))
            (record { wishes = ap (λ l. l ++ w ∷ []) q; over = h.over })
        go (Err why) z =
            subst (λ (r : Result Wish DropCause). IsMade (with_wish place made (record { value = Err why; naming = e.naming })) (with_wish place other (record { value = r; naming = d.naming }))) (sym (h.value ∙ z))
            (record { wishes = q; over = h.over })

    actions_over : (place : ℕ) (xs : List Wish) (made other : MadeSoFar) → IsMade made other
        → IsMade (with_actions goals place (map (λ x. action_with F (action_of x)) xs) made) (with_actions goals place (map (λ x. action_with F (action_of x)) xs) other)
    actions_over place [] made other h = h
    actions_over place (x ∷ xs) made other h =
        actions_over (suc place) xs (with_action goals place (action_with F (action_of x)) made) (with_action goals place (action_with F (action_of x)) other)
        (wish_over place made other
        (wished goals (F (Const x.id)) (atom_value (F (Const x.attr))) (atom_value (F (Const x.value))) (preference_with F (preference_of x.kind x.referent)) made.naming)
        (wished goals (F (Const x.id)) (atom_value (F (Const x.attr))) (atom_value (F (Const x.value))) (preference_with F (preference_of x.kind x.referent)) other.naming) h.wishes
        (wished_over (F (Const x.id)) (F (Const x.attr)) (F (Const x.value)) (preference_with F (preference_of x.kind x.referent)) made.naming other.naming (plain_referent x.kind x.referent) h.over))

pub plain_made : (goals : List Goal) (F : Atom → Atom) (xs : List Wish) (bindings : Bindings) (words table : Texts) (letters : List ℕ) (vars : List Sym)
    → ((v : ℕ) → text_of_name table (name_at vars v) ≡ text_of_name words (name_at vars v))
    → (made_by goals (map (λ x. action_with F (action_of x)) xs) (record { bindings = bindings; words = table; letters = letters; vars = vars; totals = [] })).wishes
    ≡ (made_by goals (map (λ x. action_with F (action_of x)) xs) (record { bindings = bindings; words = words; letters = letters; vars = vars; totals = [] })).wishes
plain_made goals F xs bindings words table letters vars spelled =
    (actions_over goals words table vars spelled F 1 xs
    (record { wishes = []; text = []; halted = false; dropped = []; naming = record { bindings = bindings; words = words; letters = letters; vars = vars; totals = [] } })
    (record { wishes = []; text = []; halted = false; dropped = []; naming = record { bindings = bindings; words = table; letters = letters; vars = vars; totals = [] } })
    (record { wishes = refl; over = record { bindings = refl; letters = refl; vars_are = refl; vars_too = refl; words_are = refl; words_too = refl } })).wishes
