-- What a firing makes is the same over a longer table in which all its computed words already stand.
use Rattle.std.proofs.Common.{◌≡◌, refl, sym, ◌∙◌, ap, subst, ℕ, suc, ◌+◌, Bool, true, false, cond, inl, inr, List, [], ◌∷◌, ◌++◌, flat_map, Option, Some, None, Result, Ok, Err}
use Rattle.soar_sym.specs.Letters.{last_of, with_last}
use Rattle.soar_sym.specs.Words.{Texts, with_text}
use Rattle.soar_sym.specs.declared.symbol.Sym.{Sym}
use Rattle.soar_sym.specs.declared.symbol.Sym.TheVariants.{Ident}
use Rattle.soar_rule.specs.declared.action.Func.{Func}
use Rattle.soar_rule.specs.declared.cond.Atom.{Atom}
use Rattle.soar_rule.specs.declared.cond.Atom.TheVariants.{Const, Var}
use Rattle.soar_rule.specs.Productions.{ValueOf, atom_value, call_value, ValuesOf, no_values, value_and, PreferenceOf, accepts, rejects, requires_it, prohibits, is_best, is_worst, is_indifferent, is_better_than, is_worse_than, is_indifferent_to, ActionOf, makes, writes, halts}
use Rattle.soar_rule.specs.Symbols.{constants_of_action, constants_of_atom, constants_of_referent, constants_of_value, constants_of_values}
use Rattle.soar_rule.specs.Variables.{referent_value}
use Rattle.defs_text.specs.Numbered.{word_in}
use Rattle.defs_match.specs.Testing.{Bindings, symbol_of}
use Rattle.defs_soar.specs.declared.firing.DropCause.{DropCause}
use Rattle.defs_soar.specs.declared.firing.DropCause.TheVariants as cause
use Rattle.defs_soar.specs.declared.goal.Goal.{Goal}
use Rattle.defs_soar.specs.declared.preference.Wish.{Wish}
use Rattle.defs_soar.specs.Firing.{evaluated_referent, identifier_only, judged, kind_of, made_by, MadeSoFar, referent_of, values_of_list, with_action, with_actions, with_wish, with_writing, wished}
use Rattle.defs_soar.specs.Functions.{Computed, gives, spells, fails, computed}
use Rattle.defs_soar.specs.Laws.{IsIn}
use Rattle.defs_soar.specs.Naming.{Naming, Evaluated, as_evaluated, atom_of_action, done, evaluated, evaluated_all, letter_from, name_at, text_of_name, then_with, variable_value}
use Rattle.defs_soar.specs.Values.{is_identifier}
use Rattle.learning_laws.specs.Lawful.{Grown}
use Rattle.learning_laws.proofs.Lists.{in_left, in_right}
use Rattle.learning_laws.proofs.NewIdentifiers.{found_more}
use Rattle.learning_laws.proofs.TableGrowth.{computed_given, computed_later, grown_by_text, grown_twice, has_read, has_word_later, HasWord, HaveWords, name_later, not_grown, not_read, same_place}
use Rattle.learning_laws.proofs.ActionGrowth.{values_grow, actions_grow, atom_grows, computed_grows, from_attr, from_attr_grows, from_referent, from_referent_grows, from_value, from_value_grows, id_grows, then_grows, wish_within, writing_within}

-- ---- the same over a longer table

module _ (goals : List Goal) (table : Texts) (vars : List Sym) (before : Texts) (named : (v : ℕ) → HasWord before (name_at vars v)) where
  -- all but the table is the same
  pub record AreSame (n m : Naming) : Type 0 where
    pub bindings : m.bindings ≡ n.bindings
    pub letters : m.letters ≡ n.letters
    pub vars_are : n.vars ≡ vars
    pub vars_too : m.vars ≡ vars
    pub words : m.words ≡ table

  pub record Knows (n : Naming) : Type 0 where
    pub since : Grown before n.words
    pub bound : (v : ℕ) (s : Sym) → symbol_of v n.bindings ≡ Some s → HasWord n.words s

  record AreStep {A : Type 0} (fits : Texts → A → Type 0) (e d : Evaluated A) : Type 0 where
    value : d.value ≡ e.value
    same : AreSame e.naming d.naming
    knows : Knows e.naming
    known : (a : A) → e.value ≡ Ok a → fits e.naming.words a

  abbrev AreKnown : List Sym → Type 0
  AreKnown symbols = (s : Sym) → IsIn s symbols → HasWord before s

  then_same : {A B : Type 0} (fits : Texts → A → Type 0) (suits : Texts → B → Type 0) (e d : Evaluated A) (f : A → Naming → Evaluated B) → (Grown e.naming.words table → AreStep fits e d)
      → ((a : A) (n : Naming) → Grown n.words (f a n).naming.words)
      → ((a : A) (n m : Naming) → AreSame n m → Knows n → fits n.words a → Grown (f a n).naming.words table → AreStep suits (f a n) (f a m)) → Grown (then_with e f).naming.words table
      → AreStep suits (then_with e f) (then_with d f)
  then_same {A} {B} fits suits e d f first grows next g = go (e.value) refl g
    where
      go : (r : Result A DropCause) → e.value ≡ r → Grown (then_with {A = A} {B = B} (record { value = r; naming = e.naming }) f).naming.words table
          → AreStep suits (then_with {A = A} {B = B} (record { value = r; naming = e.naming }) f) (then_with d f)
      go (Ok a) q k =
          let h = first (grown_twice e.naming.words (f a e.naming).naming.words table (grows a e.naming) k) in
          subst (λ (r : Result A DropCause). AreStep suits (f a e.naming) (then_with {A = A} {B = B} (record { value = r; naming = d.naming }) f)) (sym (h.value ∙ q)) (next a e.naming d.naming h.same h.knows (h.known a q) k)
      go (Err why) q k =
          let h = first k in
          subst (λ (r : Result A DropCause). AreStep suits (record { value = Err why; naming = e.naming }) (then_with {A = A} {B = B} (record { value = r; naming = d.naming }) f)) (sym (h.value ∙ q))
          (record { value = refl; same = h.same; knows = h.knows; known = λ b z. absurd (cc) })

  -- ---- atoms

  atom_same : (a : Atom) (n m : Naming) → AreSame n m → Knows n → AreKnown (constants_of_atom a) → Grown n.words table → AreStep HasWord (atom_of_action a n) (atom_of_action a m)
  atom_same (Const s) n m h k c g = record { value = refl; same = h; knows = k; known = λ t q. let e : s ≡ t = cc in subst (HasWord n.words) e (has_word_later before n.words s k.since (c s (inl refl))) }
  atom_same (Var v) n m h k c g =
      subst (λ (o : Option Sym). AreStep HasWord (variable_value v n (symbol_of v n.bindings)) (variable_value v m o)) (sym (ap (symbol_of v) h.bindings)) (go (symbol_of v n.bindings) refl)
    where
      name : text_of_name m.words (name_at m.vars v) ≡ text_of_name n.words (name_at n.vars v)
      name =
          (λ i. text_of_name (h.words i) (name_at (h.vars_too i) v)) ∙ name_later n.words table (name_at vars v) g (has_word_later before n.words (name_at vars v) k.since (named v))
          ∙ (λ i. text_of_name n.words (name_at (sym h.vars_are i) v))

      new : AreStep HasWord (variable_value v n None) (variable_value v m None)
      new =
          let letters_are : letter_from (text_of_name m.words (name_at m.vars v)) ≡ letter_from (text_of_name n.words (name_at n.vars v)) = ap letter_from name in
          let last_is : last_of m.letters (letter_from (text_of_name m.words (name_at m.vars v))) + 1 ≡ last_of n.letters (letter_from (text_of_name n.words (name_at n.vars v))) + 1 = λ i. last_of (h.letters i) (letters_are i) + 1 in
          record {
            value = λ i. Ok (Ident (letters_are i) (last_is i));
            same = record {
              bindings = λ i. h.bindings i ++ (v, Ident (letters_are i) (last_is i)) ∷ [];
              letters = λ i. with_last (h.letters i) (letters_are i) (last_is i);
              vars_are = h.vars_are;
              vars_too = h.vars_too;
              words = h.words;
            };
            knows = record {
              since = k.since;
              bound = λ u s q. elim (found_more u v n.bindings (Ident (letter_from (text_of_name n.words (name_at n.vars v))) (last_of n.letters (letter_from (text_of_name n.words (name_at n.vars v))) + 1)) s q) [
                | inl j ↦ k.bound u s j
                | inr j ↦ subst (HasWord n.words) j.1 tt
              ];
            };
            known = λ t q. new_known t (letter_from (text_of_name n.words (name_at n.vars v))) (last_of n.letters (letter_from (text_of_name n.words (name_at n.vars v))) + 1) q;
          }
        where
          new_known : (t : Sym) (l k : ℕ) → ◌≡◌ {A = Result Sym DropCause} (Ok (Ident l k)) (Ok t) → HasWord n.words t
          new_known t l k q = let e : Ident l k ≡ t = cc in subst (HasWord n.words) e tt

      go : (o : Option Sym) → symbol_of v n.bindings ≡ o → AreStep HasWord (variable_value v n o) (variable_value v m o)
      go (Some s) q = record { value = refl; same = h; knows = k; known = λ t z. let e : s ≡ t = cc in subst (HasWord n.words) e (k.bound v s q) }
      go None q = new

  -- ---- values

  computed_same : (n m : Naming) (f : Func) (symbols : List Sym) → AreSame n m → Knows n → HaveWords n.words symbols → Grown (as_evaluated n (computed n.words f symbols)).naming.words table
      → AreStep HasWord (as_evaluated n (computed n.words f symbols)) (as_evaluated m (computed m.words f symbols))
  computed_same n m f symbols h k known g =
      let within : Grown n.words table = grown_twice n.words (as_evaluated n (computed n.words f symbols)).naming.words table (computed_grows n (computed n.words f symbols)) g in
      let same : computed m.words f symbols ≡ computed n.words f symbols = ap (λ l. computed l f symbols) h.words ∙ computed_later n.words table f symbols within known in
      subst (λ (x : Computed). AreStep HasWord (as_evaluated n (computed n.words f symbols)) (as_evaluated m x)) (sym same) (go (computed n.words f symbols) refl g)
    where
      go : (x : Computed) → computed n.words f symbols ≡ x → Grown (as_evaluated n x).naming.words table → AreStep HasWord (as_evaluated n x) (as_evaluated m x)
      go (gives s) q z = record { value = refl; same = h; knows = k; known = λ t y. let e : s ≡ t = cc in subst (HasWord n.words) e (computed_given n.words f symbols s known q) }
      go (fails why) q z = record { value = refl; same = h; knows = k; known = λ t y. absurd (cc) }
      go (spells text) q z =
          let read = with_text n.words text in
          let place = same_place read table text z (has_read n.words text) in
          let stays = not_read read table text z (has_read n.words text) in
          let table_is : with_text m.words text ≡ table = ap (λ l. with_text l text) h.words ∙ stays in
          record {
            value = ap Ok (ap (λ l. word_in l text) table_is ∙ place.0);
            same = record { bindings = h.bindings; letters = h.letters; vars_are = h.vars_are; vars_too = h.vars_too; words = table_is };
            knows = record {
              since = grown_twice before n.words read k.since (grown_by_text n.words text);
              bound = λ v s y. has_word_later n.words read s (grown_by_text n.words text) (k.bound v s y);
            };
            known = λ t y. let e : word_in read text ≡ t = cc in subst (HasWord read) e place.1;
          }

  -- the symbols, and one more in front
  abbrev FitsWith : Sym → Texts → List Sym → Type 0
  FitsWith s words symbols = HaveWords words symbols × HasWord words s

  with_first : (s : Sym) (e d : Evaluated (List Sym)) → AreStep HaveWords e d → HasWord e.naming.words s → AreStep (FitsWith s) e d
  with_first s e d h k = record { value = h.value; same = h.same; knows = h.knows; known = λ symbols q. (h.known symbols q, k) }

  all_known : (s : Sym) (symbols all : List Sym) (words : Texts) → FitsWith s words symbols → ◌≡◌ {A = Result (List Sym) DropCause} (Ok (s ∷ symbols)) (Ok all) → HaveWords words all
  all_known s symbols all words h q t i = let e : s ∷ symbols ≡ all = cc in go (subst (IsIn t) (sym e) i)
    where
      go : IsIn t (s ∷ symbols) → HasWord words t
      go (inl e) = subst (HasWord words) e h.1
      go (inr j) = h.0 t j

  mutual
    value_same : (v : ValueOf) (n m : Naming) → AreSame n m → Knows n → AreKnown (constants_of_value v) → Grown (evaluated v n).naming.words table → AreStep HasWord (evaluated v n) (evaluated v m)
    value_same (atom_value a) n m h k c g = atom_same a n m h k c (grown_twice n.words (atom_of_action a n).naming.words table (atom_grows a n) g)
    value_same (call_value f values) n m h k c g =
        then_same HaveWords HasWord (evaluated_all values n) (evaluated_all values m) (λ symbols after. as_evaluated after (computed after.words f symbols)) (values_same values n m h k c)
        (λ symbols after. computed_grows after (computed after.words f symbols)) (λ symbols a b same knows known grown. computed_same a b f symbols same knows known grown) g

    values_same : (vs : ValuesOf) (n m : Naming) → AreSame n m → Knows n → AreKnown (constants_of_values vs) → Grown (evaluated_all vs n).naming.words table
        → AreStep HaveWords (evaluated_all vs n) (evaluated_all vs m)
    values_same no_values n m h k c g = record { value = refl; same = h; knows = k; known = λ symbols q s i. let none : [] ≡ symbols = cc in absurd (subst (IsIn s) (sym none) i) }
    values_same (value_and v vs) n m h k c g =
        then_same HasWord HaveWords (evaluated v n) (evaluated v m) (λ s after. then_with (evaluated_all vs after) (λ symbols last. done (s ∷ symbols) last))
        (value_same v n m h k (λ s i. c s (in_left s (constants_of_value v) (constants_of_values vs) i)))
        (λ s after. then_grows after.words (evaluated_all vs after) (λ symbols last. done (s ∷ symbols) last) (values_grow vs after) (λ symbols last. not_grown last.words))
        (λ s a b same knows known grown. then_same (FitsWith s) HaveWords (evaluated_all vs a) (evaluated_all vs b) (λ symbols last. done (s ∷ symbols) last)
        (λ within. with_first s (evaluated_all vs a) (evaluated_all vs b) (values_same vs a b same knows (λ t i. c t (in_right t (constants_of_value v) (constants_of_values vs) i)) within) (has_word_later a.words (evaluated_all vs a).naming.words s (values_grow vs a) known))
        (λ symbols last. not_grown last.words)
        (λ symbols x y alike knowing fits more. record { value = refl; same = alike; knows = knowing; known = λ all q. all_known s symbols all x.words fits q }) grown) g

  -- ---- one wish

  AreAny : {A : Type 0} → Texts → A → Type 0
  AreAny words a = Unit {0}

  referent_same : (o : Option ValueOf) (n m : Naming) → AreSame n m → Knows n → AreKnown (constants_of_referent o) → Grown (evaluated_referent o n).naming.words table
      → AreStep AreAny (evaluated_referent o n) (evaluated_referent o m)
  unfolding AreAny
  referent_same None n m h k c g = record { value = refl; same = h; knows = k; known = λ a q. tt }
  referent_same (Some v) n m h k c g =
      then_same HasWord AreAny (evaluated v n) (evaluated v m) (λ s after. done (Some s) after) (value_same v n m h k c) (λ s after. not_grown after.words)
      (λ s a b same knows known grown. record { value = refl; same = same; knows = knows; known = λ o q. tt }) g

  id_same : (e d : Evaluated Sym) → AreStep HasWord e d → AreStep HasWord (identifier_only e) (identifier_only d)
  id_same e d h = go (e.value) refl
    where
      by : (s t : Sym) (b : Bool) → HasWord e.naming.words s → ◌≡◌ {A = Result Sym DropCause} (cond b (Ok s) (Err cause.NotAnIdentifier)) (Ok t) → HasWord e.naming.words t
      by s t true k q = let same : s ≡ t = cc in subst (HasWord e.naming.words) same k
      by s t false k q = absurd (cc)

      only : Result Sym DropCause → Naming → Evaluated Sym
      only r n = identifier_only (record { value = r; naming = n })

      go : (r : Result Sym DropCause) → e.value ≡ r → AreStep HasWord (identifier_only (record { value = r; naming = e.naming })) (identifier_only d)
      go (Ok s) q =
          subst (λ (r : Result Sym DropCause). AreStep HasWord (identifier_only (record { value = Ok s; naming = e.naming })) (identifier_only (record { value = r; naming = d.naming }))) (sym (h.value ∙ q))
          (record { value = refl; same = h.same; knows = h.knows; known = λ t z. by s t (is_identifier s) (h.known s q) z })
      go (Err why) q =
          subst (λ (r : Result Sym DropCause). AreStep HasWord (identifier_only (record { value = Err why; naming = e.naming })) (identifier_only (record { value = r; naming = d.naming }))) (sym (h.value ∙ q))
          (record { value = refl; same = h.same; knows = h.knows; known = λ t z. absurd (cc) })

  from_referent_same : (p : PreferenceOf) (i a v : Sym) (n m : Naming) → AreSame n m → Knows n → AreKnown (constants_of_referent (referent_of p)) → Grown (from_referent goals p i a v n).naming.words table
      → AreStep AreAny (from_referent goals p i a v n) (from_referent goals p i a v m)
  unfolding AreAny
  from_referent_same p i a v n m h k c g =
      then_same AreAny AreAny (evaluated_referent (referent_of p) n) (evaluated_referent (referent_of p) m)
      (λ r n4. record { value = judged goals (record { id = i; attr = a; value = v; kind = kind_of p r; referent = r }); naming = n4 }) (referent_same (referent_of p) n m h k c)
      (λ r n4. not_grown n4.words) (λ r x y same knows known grown. record { value = refl; same = same; knows = knows; known = λ w q. tt }) g

  from_value_same : (value : ValueOf) (p : PreferenceOf) (i a : Sym) (n m : Naming) → AreSame n m → Knows n → AreKnown (constants_of_value value) → AreKnown (constants_of_referent (referent_of p))
      → Grown (from_value goals value p i a n).naming.words table → AreStep AreAny (from_value goals value p i a n) (from_value goals value p i a m)
  from_value_same value p i a n m h k c r g =
      then_same HasWord AreAny (evaluated value n) (evaluated value m) (from_referent goals p i a) (value_same value n m h k c) (from_referent_grows goals p i a)
      (λ v x y same knows known grown. from_referent_same p i a v x y same knows r grown) g

  from_attr_same : (attr value : ValueOf) (p : PreferenceOf) (i : Sym) (n m : Naming) → AreSame n m → Knows n → AreKnown (constants_of_value attr) → AreKnown (constants_of_value value)
      → AreKnown (constants_of_referent (referent_of p)) → Grown (from_attr goals attr value p i n).naming.words table → AreStep AreAny (from_attr goals attr value p i n) (from_attr goals attr value p i m)
  from_attr_same attr value p i n m h k b c r g =
      then_same HasWord AreAny (evaluated attr n) (evaluated attr m) (from_value goals value p i) (value_same attr n m h k b) (from_value_grows goals value p i)
      (λ a x y same knows known grown. from_value_same value p i a x y same knows c r grown) g

  wished_same : (id : Atom) (attr value : ValueOf) (p : PreferenceOf) (n m : Naming) → AreSame n m → Knows n → AreKnown (constants_of_atom id) → AreKnown (constants_of_value attr)
      → AreKnown (constants_of_value value) → AreKnown (constants_of_referent (referent_of p)) → Grown (wished goals id attr value p n).naming.words table
      → AreStep AreAny (wished goals id attr value p n) (wished goals id attr value p m)
  wished_same id attr value p n m h k a b c r g =
      then_same HasWord AreAny (identifier_only (atom_of_action id n)) (identifier_only (atom_of_action id m)) (from_attr goals attr value p)
      (λ within. id_same (atom_of_action id n) (atom_of_action id m) (atom_same id n m h k a (grown_twice n.words (identifier_only (atom_of_action id n)).naming.words table (id_grows n.words (atom_of_action id n) (atom_grows id n)) within)))
      (from_attr_grows goals attr value p) (λ i x y same knows known grown. from_attr_same attr value p i x y same knows b c r grown) g

  -- ---- all actions

  -- what was made so far is the same, and so are the namings but for their tables
  pub record AreMade (e d : MadeSoFar) : Type 0 where
    pub wishes : d.wishes ≡ e.wishes
    pub same : AreSame e.naming d.naming
    pub knows : Knows e.naming

  wish_same : (place : ℕ) (made other : MadeSoFar) (e d : Evaluated Wish) → other.wishes ≡ made.wishes → AreStep AreAny e d → AreMade (with_wish place made e) (with_wish place other d)
  wish_same place made other e d q h = go (e.value) refl
    where
      go : (r : Result Wish DropCause) → e.value ≡ r → AreMade (with_wish place made (record { value = r; naming = e.naming })) (with_wish place other d)
      go (Ok w) z =
          subst (λ (r : Result Wish DropCause). AreMade (with_wish place made (record { value = Ok w; naming = e.naming })) (with_wish place other (record { value = r; naming = d.naming }))) (sym (h.value ∙ z))
          (record { wishes = ap (λ l. l ++ w ∷ []) q; same = h.same; knows = h.knows })
      go (Err why) z =
          subst (λ (r : Result Wish DropCause). AreMade (with_wish place made (record { value = Err why; naming = e.naming })) (with_wish place other (record { value = r; naming = d.naming }))) (sym (h.value ∙ z))
          (record { wishes = q; same = h.same; knows = h.knows })

  writing_same : (place : ℕ) (made other : MadeSoFar) (e d : Evaluated (List Sym)) → other.wishes ≡ made.wishes → AreStep HaveWords e d → AreMade (with_writing place made e) (with_writing place other d)
  writing_same place made other e d q h = go (e.value) refl
    where
      go : (r : Result (List Sym) DropCause) → e.value ≡ r → AreMade (with_writing place made (record { value = r; naming = e.naming })) (with_writing place other d)
      go (Ok w) z =
          subst (λ (r : Result (List Sym) DropCause). AreMade (with_writing place made (record { value = Ok w; naming = e.naming })) (with_writing place other (record { value = r; naming = d.naming }))) (sym (h.value ∙ z))
          (record { wishes = q; same = h.same; knows = h.knows })
      go (Err why) z =
          subst (λ (r : Result (List Sym) DropCause). AreMade (with_writing place made (record { value = Err why; naming = e.naming })) (with_writing place other (record { value = r; naming = d.naming }))) (sym (h.value ∙ z))
          (record { wishes = q; same = h.same; knows = h.knows })

  one_referent : (p : PreferenceOf) → referent_of p ≡ referent_value p
  one_referent accepts = refl
  one_referent rejects = refl
  one_referent requires_it = refl
  one_referent prohibits = refl
  one_referent is_best = refl
  one_referent is_worst = refl
  one_referent is_indifferent = refl
  one_referent (is_better_than v) = refl
  one_referent (is_worse_than v) = refl
  one_referent (is_indifferent_to v) = refl

  written_constants : (values : List ValueOf) → flat_map constants_of_value values ≡ constants_of_values (values_of_list values)
  written_constants [] = refl
  written_constants (v ∷ values) = ap (λ l. constants_of_value v ++ l) (written_constants values)

  action_same : (place : ℕ) (a : ActionOf) (made other : MadeSoFar) → AreMade made other → AreKnown (constants_of_action a) → Grown (with_action goals place a made).naming.words table
      → AreMade (with_action goals place a made) (with_action goals place a other)
  action_same place (makes id attr value p) made other h c g =
      wish_same place made other (wished goals id attr value p made.naming) (wished goals id attr value p other.naming) h.wishes
      (wished_same id attr value p made.naming other.naming h.same h.knows (λ s i. c s (in_left s (constants_of_atom id) (constants_of_value attr ++ (constants_of_value value ++ constants_of_referent (referent_value p))) i))
      (λ s i. c s (in_right s (constants_of_atom id) (constants_of_value attr ++ (constants_of_value value ++ constants_of_referent (referent_value p))) (in_left s (constants_of_value attr) (constants_of_value value ++ constants_of_referent (referent_value p)) i)))
      (λ s i. c s (in_right s (constants_of_atom id) (constants_of_value attr ++ (constants_of_value value ++ constants_of_referent (referent_value p))) (in_right s (constants_of_value attr) (constants_of_value value ++ constants_of_referent (referent_value p)) (in_left s (constants_of_value value) (constants_of_referent (referent_value p)) i))))
      (λ s i. c s (in_right s (constants_of_atom id) (constants_of_value attr ++ (constants_of_value value ++ constants_of_referent (referent_value p))) (in_right s (constants_of_value attr) (constants_of_value value ++ constants_of_referent (referent_value p)) (in_right s (constants_of_value value) (constants_of_referent (referent_value p))
      (subst (λ o. IsIn s (constants_of_referent o)) (one_referent p) i)))))
      (wish_within place made (wished goals id attr value p made.naming) g))
  action_same place (writes values) made other h c g =
      writing_same place made other (evaluated_all (values_of_list values) made.naming) (evaluated_all (values_of_list values) other.naming) h.wishes
      (values_same (values_of_list values) made.naming other.naming h.same h.knows (λ s i. c s (subst (IsIn s) (sym (written_constants values)) i)) (writing_within place made (evaluated_all (values_of_list values) made.naming) g))
  action_same place halts made other h c g = record { wishes = h.wishes; same = h.same; knows = h.knows }

  actions_same : (place : ℕ) (actions : List ActionOf) (made other : MadeSoFar) → AreMade made other → AreKnown (flat_map constants_of_action actions)
      → Grown (with_actions goals place actions made).naming.words table → AreMade (with_actions goals place actions made) (with_actions goals place actions other)
  actions_same place [] made other h c g = h
  actions_same place (a ∷ actions) made other h c g =
      actions_same (suc place) actions (with_action goals place a made) (with_action goals place a other)
      (action_same place a made other h (λ s i. c s (in_left s (constants_of_action a) (flat_map constants_of_action actions) i))
      (grown_twice (with_action goals place a made).naming.words (with_actions goals (suc place) actions (with_action goals place a made)).naming.words table (actions_grow goals (suc place) actions (with_action goals place a made)) g))
      (λ s i. c s (in_right s (constants_of_action a) (flat_map constants_of_action actions) i)) g

-- What the actions make is the same over each table that begins with the one that they leave.
pub made_later : (goals : List Goal) (actions : List ActionOf) (bindings : Bindings) (words table : Texts) (letters : List ℕ) (vars : List Sym) → ((v : ℕ) → HasWord words (name_at vars v))
    → ((v : ℕ) (s : Sym) → symbol_of v bindings ≡ Some s → HasWord words s) → ((s : Sym) → IsIn s (flat_map constants_of_action actions) → HasWord words s)
    → Grown (made_by goals actions (record { bindings = bindings; words = words; letters = letters; vars = vars; totals = [] })).naming.words table
    → (made_by goals actions (record { bindings = bindings; words = table; letters = letters; vars = vars; totals = [] })).wishes
    ≡ (made_by goals actions (record { bindings = bindings; words = words; letters = letters; vars = vars; totals = [] })).wishes
made_later goals actions bindings words table letters vars named bound constants g =
    (actions_same goals table vars words named 1 actions
    (record { wishes = []; text = []; halted = false; dropped = []; naming = record { bindings = bindings; words = words; letters = letters; vars = vars; totals = [] } })
    (record { wishes = []; text = []; halted = false; dropped = []; naming = record { bindings = bindings; words = table; letters = letters; vars = vars; totals = [] } }) (record {
      wishes = refl;
      same = record { bindings = refl; letters = refl; vars_are = refl; vars_too = refl; words = refl };
      knows = record { since = not_grown words; bound = bound };
    }) constants g).wishes
