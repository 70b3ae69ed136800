-- The actions of a learned rule make the results of its explanation, with other numbers for new identifiers.
use Rattle.std.proofs.Common.{◌≡◌, refl, sym, ◌∙◌, ap, subst, ℕ, suc, Bool, true, false, cond, inl, inr, List, [], ◌∷◌, ◌++◌, map, flat_map, Option, Some, None, Ok, Err, append_assoc}
use Rattle.std.proofs.lemmas.List.{append-nil}
use Rattle.soar_sym.specs.declared.symbol.Sym.{Sym}
use Rattle.soar_sym.specs.declared.symbol.Sym.TheVariants.{Ident, Word, Int}
use Rattle.soar_rule.specs.declared.cond.Atom.{Atom}
use Rattle.soar_rule.specs.declared.cond.Atom.TheVariants.{Const}
use Rattle.soar_rule.specs.Productions.{ValueOf, atom_value, PreferenceOf}
use Rattle.soar_rule.specs.Renaming.{action_with, preference_with}
use Rattle.defs_match.specs.Testing.{symbol_of}
use Rattle.defs_soar.specs.declared.firing.DropCause.TheVariants as cause
use Rattle.defs_soar.specs.declared.goal.Goal.{Goal}
use Rattle.defs_soar.specs.declared.preference.PrefKind.{PrefKind}
use Rattle.defs_soar.specs.declared.preference.PrefKind.TheVariants as kind
use Rattle.defs_soar.specs.declared.preference.Wish.{Wish}
use Rattle.defs_soar.specs.Candidate.{action_of, preference_of, with_variables}
use Rattle.defs_soar.specs.Dependencies.{symbols_of_referent, symbols_of_wish}
use Rattle.defs_soar.specs.Firing.{evaluated_referent, identifier_only, indifferent_kind, judged, kind_of, MadeSoFar, referent_of, with_action, with_actions, with_wish, wished}
use Rattle.defs_soar.specs.Laws.{IsIn}
use Rattle.defs_soar.specs.Naming.{Naming, Evaluated, atom_of_action, done, evaluated, then_with}
use Rattle.defs_soar.specs.Variablized.{of_identifier}
use Rattle.defs_soar.specs.Values.{is_identifier}
use Rattle.learning_laws.specs.BeforeWave.{RefFits}
use Rattle.learning_laws.specs.Replay.{referent_with, wish_with}
use Rattle.learning_laws.proofs.Lists.{in_append}
use Rattle.learning_laws.proofs.SlotLaws.{number_of}
use Rattle.learning_laws.proofs.NewIdentifiers.{Evaluates, evaluates, Extends, IsSetting, look, looks, Named, Setting}

-- ---- one wish, where its parts are known

pub wished_is : (goals : List Goal) (id : Atom) (attr value : ValueOf) (p : PreferenceOf) (n n1 n2 n3 n4 : Naming) (i a v : Sym) (r : Option Sym)
    → atom_of_action id n ≡ record { value = Ok i; naming = n1 } → is_identifier i ≡ true → evaluated attr n1 ≡ record { value = Ok a; naming = n2 }
    → evaluated value n2 ≡ record { value = Ok v; naming = n3 } → evaluated_referent (referent_of p) n3 ≡ record { value = Ok r; naming = n4 }
    → wished goals id attr value p n ≡ record { value = judged goals (record { id = i; attr = a; value = v; kind = kind_of p r; referent = r }); naming = n4 }
wished_is goals id attr value p n n1 n2 n3 n4 i a v r at_id is_id at_attr at_value at_referent =
    ap (λ e. then_with (identifier_only e) after_id) at_id
    ∙ ap (λ (b : Bool). then_with (record { value = cond b (Ok i) (Err cause.NotAnIdentifier); naming = n1 }) after_id) is_id
    ∙ ap (λ e. then_with e (after_attr i)) at_attr ∙ ap (λ e. then_with e (after_value i a)) at_value ∙ ap (λ e. then_with e (after_referent i a v)) at_referent
  where
    after_referent : Sym → Sym → Sym → Option Sym → Naming → Evaluated Wish
    after_referent i a v r n4 = record { value = judged goals (record { id = i; attr = a; value = v; kind = kind_of p r; referent = r }); naming = n4 }

    after_value : Sym → Sym → Sym → Naming → Evaluated Wish
    after_value i a v n3 = then_with (evaluated_referent (referent_of p) n3) (after_referent i a v)

    after_attr : Sym → Sym → Naming → Evaluated Wish
    after_attr i a n2 = then_with (evaluated value n2) (after_value i a)

    after_id : Sym → Naming → Evaluated Wish
    after_id i n1 = then_with (evaluated attr n1) (after_attr i)

-- with its kind
pub wished_as : (goals : List Goal) (id : Atom) (attr value : ValueOf) (p : PreferenceOf) (n n1 n2 n3 n4 : Naming) (i a v : Sym) (r : Option Sym) (k : PrefKind)
    → atom_of_action id n ≡ record { value = Ok i; naming = n1 } → is_identifier i ≡ true → evaluated attr n1 ≡ record { value = Ok a; naming = n2 }
    → evaluated value n2 ≡ record { value = Ok v; naming = n3 } → evaluated_referent (referent_of p) n3 ≡ record { value = Ok r; naming = n4 } → kind_of p r ≡ k
    → wished goals id attr value p n ≡ record { value = judged goals (record { id = i; attr = a; value = v; kind = k; referent = r }); naming = n4 }
wished_as goals id attr value p n n1 n2 n3 n4 i a v r k at_id is_id at_attr at_value at_referent at_kind =
    wished_is goals id attr value p n n1 n2 n3 n4 i a v r at_id is_id at_attr at_value at_referent
    ∙ ap (λ (x : PrefKind). record { value = judged goals (record { id = i; attr = a; value = v; kind = x; referent = r }); naming = n4 }) at_kind

-- ---- kinds and their referents

module _ (g : Setting) (ok : IsSetting g) where
  abbrev F : Atom → Atom
  F = with_variables true g.variablized

  abbrev pub HasSlot : Sym → Type 0
  HasSlot s = is_identifier s ≡ true → IsIn (of_identifier s) g.variablized × IsIn s g.wished

  abbrev pub ReferentSlot : Option Sym → Type 0
  ReferentSlot None = Unit {0}
  ReferentSlot (Some s) = HasSlot s

  -- the variable of an identifier stands for something
  abbrev pub IsBound : Sym → Naming → Type 0
  IsBound s n = (t : Sym) × (symbol_of (number_of g.variablized s) n.bindings ≡ Some t)

  found_of : (s : Sym) (n : Naming) (e : Evaluates g ok s n) (t : Sym) → IsIn t (s ∷ []) → is_identifier t ≡ true → IsBound t e.after
  found_of s n e t (inl q) k = subst (λ x. IsBound x e.after) q (e.symbol, e.found (ap is_identifier q ∙ k))
  found_of s n e t (inr j) k = absurd j

  -- the referent of a wish, evaluated
  record Refers (k : PrefKind) (r : Option Sym) (n : Naming) : Type 0 where
    referent : Option Sym
    after : Naming
    is : evaluated_referent (referent_of (preference_with F (preference_of k r))) n ≡ record { value = Ok referent; naming = after }
    named : Named g after
    extends : Extends n after
    looks : (last : Naming) → Extends after last → referent ≡ referent_with (look g ok last) r
    bound : (s : Sym) → IsIn s (symbols_of_referent r) → is_identifier s ≡ true → IsBound s after
    kind : kind_of (preference_with F (preference_of k r)) referent ≡ k

  nothing_refers : (n : Naming) → Named g n → (p : PreferenceOf) (k : PrefKind) → referent_of p ≡ None → kind_of p None ≡ k
      → (referent : Option Sym) × (after : Naming) × (evaluated_referent (referent_of p) n ≡ record { value = Ok referent; naming = after }) × Named g after × Extends n after × (referent ≡ None) × (kind_of p referent ≡ k)
  nothing_refers n h p k q e = (None, n, ap (λ o. evaluated_referent o n) q, h, (λ v t f. f), refl, e)

  referred : (n : Naming) (s : Sym) (e : Evaluates g ok s n) → evaluated_referent (Some (atom_value (F (Const s)))) n ≡ record { value = Ok (Some e.symbol); naming = e.after }
  referred n s e = ap (λ (x : Evaluated Sym). then_with x (λ s after. done (Some s) after)) e.is

  plain_kind : (s t : Sym) → is_identifier t ≡ is_identifier s → (is_identifier s ≡ false → t ≡ s) → RefFits kind.IndifferentTo (Some s) → indifferent_kind (Some t) ≡ kind.IndifferentTo
  plain_kind (Ident l n) (Ident m k) q same h = refl
  plain_kind (Ident l n) (Word x) q same h = refl
  plain_kind (Ident l n) (Int z) q same h = absurd (cc)
  plain_kind (Word x) t q same h = ap (λ y. indifferent_kind (Some y)) (same refl)
  plain_kind (Int z) t q same h = absurd h

  refers : (k : PrefKind) (r : Option Sym) (n : Naming) → Named g n → ReferentSlot r → RefFits k r → Refers k r n
  refers kind.Accept None n h i f = record { referent = None; after = n; is = refl; named = h; extends = λ v t e. e; looks = λ last x. refl; bound = λ s j. absurd j; kind = refl }
  refers kind.Require None n h i f = record { referent = None; after = n; is = refl; named = h; extends = λ v t e. e; looks = λ last x. refl; bound = λ s j. absurd j; kind = refl }
  refers kind.Reject None n h i f = record { referent = None; after = n; is = refl; named = h; extends = λ v t e. e; looks = λ last x. refl; bound = λ s j. absurd j; kind = refl }
  refers kind.Prohibit None n h i f = record { referent = None; after = n; is = refl; named = h; extends = λ v t e. e; looks = λ last x. refl; bound = λ s j. absurd j; kind = refl }
  refers kind.Best None n h i f = record { referent = None; after = n; is = refl; named = h; extends = λ v t e. e; looks = λ last x. refl; bound = λ s j. absurd j; kind = refl }
  refers kind.Worst None n h i f = record { referent = None; after = n; is = refl; named = h; extends = λ v t e. e; looks = λ last x. refl; bound = λ s j. absurd j; kind = refl }
  refers kind.Indifferent None n h i f = record { referent = None; after = n; is = refl; named = h; extends = λ v t e. e; looks = λ last x. refl; bound = λ s j. absurd j; kind = refl }
  refers kind.Better (Some s) n h i f =
      let e = evaluates g ok s n h i in
      record { referent = Some e.symbol; after = e.after; is = referred n s e; named = e.named; extends = e.extends; looks = λ last x. ap Some (looks g ok s n last e x); bound = found_of s n e; kind = refl }
  refers kind.Worse (Some s) n h i f =
      let e = evaluates g ok s n h i in
      record { referent = Some e.symbol; after = e.after; is = referred n s e; named = e.named; extends = e.extends; looks = λ last x. ap Some (looks g ok s n last e x); bound = found_of s n e; kind = refl }
  refers kind.Numeric (Some (Int z)) n h i f =
      let e = evaluates g ok (Int z) n h i in
      record {
        referent = Some e.symbol;
        after = e.after;
        is = referred n (Int z) e;
        named = e.named;
        extends = e.extends;
        looks = λ last x. ap Some (looks g ok (Int z) n last e x);
        bound = found_of (Int z) n e;
        kind = ap (λ y. indifferent_kind (Some y)) (e.same refl);
      }
  refers kind.IndifferentTo (Some s) n h i f =
      let e = evaluates g ok s n h i in
      record {
        referent = Some e.symbol;
        after = e.after;
        is = referred n s e;
        named = e.named;
        extends = e.extends;
        looks = λ last x. ap Some (looks g ok s n last e x);
        bound = found_of s n e;
        kind = plain_kind s e.symbol e.kind e.same f;
      }
  refers kind.Numeric (Some (Ident l m)) n h i f = absurd f
  refers kind.Numeric (Some (Word x)) n h i f = absurd f
  refers kind.Better None n h i f = absurd f
  refers kind.Worse None n h i f = absurd f
  refers kind.Numeric None n h i f = absurd f
  refers kind.IndifferentTo None n h i f = absurd f
  refers kind.Accept (Some s) n h i f = absurd f
  refers kind.Require (Some s) n h i f = absurd f
  refers kind.Reject (Some s) n h i f = absurd f
  refers kind.Prohibit (Some s) n h i f = absurd f
  refers kind.Best (Some s) n h i f = absurd f
  refers kind.Worst (Some s) n h i f = absurd f
  refers kind.Indifferent (Some s) n h i f = absurd f

  -- ---- a wish

  pub record HasSlots (w : Wish) : Type 0 where
    pub id : HasSlot w.id
    pub attr : HasSlot w.attr
    pub value : HasSlot w.value
    pub referent : ReferentSlot w.referent
    pub fits : RefFits w.kind w.referent
    pub identifier : is_identifier w.id ≡ true

  -- the action of a wish, evaluated
  pub record Wishes (goals : List Goal) (w : Wish) (n : Naming) : Type 0 where
    pub wish : Wish
    pub after : Naming
    pub is : wished goals (F (Const w.id)) (atom_value (F (Const w.attr))) (atom_value (F (Const w.value))) (preference_with F (preference_of w.kind w.referent)) n
        ≡ record { value = judged goals wish; naming = after }
    pub named : Named g after
    pub extends : Extends n after
    pub looks : (last : Naming) → Extends after last → wish ≡ wish_with (look g ok last) w
    pub bound : (s : Sym) → IsIn s (symbols_of_wish w) → is_identifier s ≡ true → IsBound s after

  pub wishes : (goals : List Goal) (w : Wish) (n : Naming) → Named g n → HasSlots w → Wishes goals w n
  wishes goals w n h s =
      let id = evaluates g ok w.id n h s.id in
      let attr = evaluates g ok w.attr id.after id.named s.attr in
      let value = evaluates g ok w.value attr.after attr.named s.value in
      let r = refers w.kind w.referent value.after value.named s.referent s.fits in
      record {
        wish = record { id = id.symbol; attr = attr.symbol; value = value.symbol; kind = w.kind; referent = r.referent };
        after = r.after;
        is = wished_as goals (F (Const w.id)) (atom_value (F (Const w.attr))) (atom_value (F (Const w.value))) (preference_with F (preference_of w.kind w.referent))
            n id.after attr.after value.after r.after id.symbol attr.symbol value.symbol r.referent w.kind id.is (id.kind ∙ s.identifier) attr.is value.is r.is r.kind;
        named = r.named;
        extends = λ v t e. r.extends v t (value.extends v t (attr.extends v t (id.extends v t e)));
        looks = λ last x. λ i. record {
          id = looks g ok w.id n last id (λ v t e. x v t (r.extends v t (value.extends v t (attr.extends v t e)))) i;
          attr = looks g ok w.attr id.after last attr (λ v t e. x v t (r.extends v t (value.extends v t e))) i;
          value = looks g ok w.value attr.after last value (λ v t e. x v t (r.extends v t e)) i;
          kind = w.kind;
          referent = r.looks last x i;
        };
        bound = λ t i k. elim i [
          | inl q ↦ subst (λ x. IsBound x r.after) q (id.symbol, r.extends (number_of g.variablized w.id) id.symbol (value.extends (number_of g.variablized w.id) id.symbol (attr.extends (number_of g.variablized w.id) id.symbol (id.found (ap is_identifier q ∙ k)))))
          | inr j ↦ elim j [
            | inl q ↦ subst (λ x. IsBound x r.after) q (attr.symbol, r.extends (number_of g.variablized w.attr) attr.symbol (value.extends (number_of g.variablized w.attr) attr.symbol (attr.found (ap is_identifier q ∙ k))))
            | inr l ↦ elim l [
              | inl q ↦ subst (λ x. IsBound x r.after) q (value.symbol, r.extends (number_of g.variablized w.value) value.symbol (value.found (ap is_identifier q ∙ k)))
              | inr m ↦ r.bound t m k
            ]
          ]
        ];
      }

  -- ---- all actions

  -- each wish is allowed with the symbols that it comes to
  abbrev pub Allowed : List Goal → Wish → Type 0
  Allowed goals w = (n : Naming) → Named g n → judged goals (wish_with (look g ok n) w) ≡ Ok (wish_with (look g ok n) w)

  pub record Makes (goals : List Goal) (place : ℕ) (ws : List Wish) (made : MadeSoFar) : Type 0 where
    pub last : Naming
    pub named : Named g last
    pub extends : Extends made.naming last
    pub bound : (s : Sym) → IsIn s (flat_map symbols_of_wish ws) → is_identifier s ≡ true → IsBound s last
    pub is : with_actions goals place (map (λ w. action_with F (action_of w)) ws) made ≡ record made { wishes = made.wishes ++ map (wish_with (look g ok last)) ws; naming = last }

  pub makes : (goals : List Goal) (place : ℕ) (ws : List Wish) (made : MadeSoFar) → Named g made.naming → ((w : Wish) → IsIn w ws → HasSlots w) → ((w : Wish) → IsIn w ws → Allowed goals w)
      → Makes goals place ws made
  makes goals place [] made h s a = record {
    last = made.naming;
    named = h;
    extends = λ v t e. e;
    bound = λ t i. absurd i;
    is = λ i. record made { wishes = sym (append-nil made.wishes) i };
  }
  makes goals place (w ∷ ws) made h s a =
      let one = wishes goals w made.naming h (s w (inl refl)) in
      let here : one.wish ≡ wish_with (look g ok one.after) w = one.looks one.after (λ v t e. e) in
      let good : judged goals one.wish ≡ Ok one.wish = subst (λ x. judged goals x ≡ Ok x) (sym here) (a w (inl refl) one.after one.named) in
      let next : MadeSoFar = record made { wishes = made.wishes ++ one.wish ∷ []; naming = one.after } in
      let rest = makes goals (suc place) ws next one.named (λ x i. s x (inr i)) (λ x i. a x (inr i)) in
      let first : with_action goals place (action_with F (action_of w)) made ≡ next = ap (with_wish place made) one.is ∙ ap (λ r. with_wish place made (record { value = r; naming = one.after })) good in
      record {
        last = rest.last;
        named = rest.named;
        extends = λ v t e. rest.extends v t (one.extends v t e);
        bound = λ t i k. elim (in_append t (symbols_of_wish w) (flat_map symbols_of_wish ws) i) [
          | inl j ↦ let b = one.bound t j k in (b.0, rest.extends (number_of g.variablized t) b.0 b.1)
          | inr j ↦ rest.bound t j k
        ];
        is = ap (with_actions goals (suc place) (map (λ w. action_with F (action_of w)) ws)) first ∙ rest.is
            ∙ (λ i. record made {
              wishes = (append_assoc made.wishes (one.wish ∷ []) (map (wish_with (look g ok rest.last)) ws) ∙ ap (λ x. made.wishes ++ x ∷ map (wish_with (look g ok rest.last)) ws) (one.looks rest.last rest.extends)) i;
              naming = rest.last;
            });
      }
