-- The actions that trees mean can be printed.
use Rattle.std.specs.Prelude.{if◌then◌else◌, flat_map}
use Rattle.std.proofs.Common.{◌≡◌, refl, sym, ◌∙◌, ap, ap₂, subst, true, false, [], ◌∷◌, ◌++◌, List, ℕ, suc, Bool, ◌==◌, ◌<◌, Option, Some, None, length, append_assoc, append-nil}
use Rattle.soar_sym.specs.Words.{Texts}
use Rattle.soar_rule.specs.declared.cond.Atom.{Atom}
use Rattle.soar_rule.specs.Productions.{ValueOf, atom_value, call_value, ValuesOf, no_values, value_and, PreferenceOf, accepts, rejects, requires_it, prohibits, is_best, is_worst, is_indifferent, is_better_than, is_worse_than, is_indifferent_to, ActionOf, makes}
use Rattle.soar_rule.specs.Variables.{variables_of_atom, variables_of_value, variables_of_values, referent_value, of_referent, variables_of_action}
use Rattle.defs_text.specs.Lexing.{mark}
use Rattle.defs_read.specs.ActionExpansion.{value_of, values_of, alone, referring, compared, preference_of, wishes_actions, wished_actions, items_actions}
use Rattle.defs_read.specs.FieldExpansion.{atom_of}
use Rattle.defs_read.specs.FreshNames.{Fresh, expanded, then_expand}
use Rattle.defs_read.specs.Grammar.{Term, simple, called, Terms, no_terms, term_and, WishTree, accepting, rejecting, requiring, prohibiting, comparing, ItemTree}
use Rattle.defs_read.specs.Spelling.{spelled_option, spelled_term, spelled_terms, spelled_wish, spelled_item}
use Rattle.reading_laws.specs.Lawful.{AllOf, IfThere, Takes, count_of, IsTerm, AreTerms, IsWish, IsItem}
use Rattle.reading_laws.specs.Printable.{IsAny, count_values, IsVariable, IsValue, AreValues, IsPreference, IsPrintedAction}
use Rattle.reading_laws.proofs.FineLaws.{Source, Fine, Given, IsVar, all_joined}
use Rattle.reading_laws.proofs.GivenConditions.{AreMet, given_behind, met_now, still_met}
use Rattle.reading_laws.proofs.GivenFields.{Later, IsOf, AreOf, all_front, all_behind, given_said, given_plain, given_made, given_then, IsAtomOf, single_given}

-- ---- values

abbrev pub IsValueOf : Texts → ValueOf → List ℕ → Type 0
IsValueOf after v vs = IsValue v after × (variables_of_value v ≡ vs)

-- so many values
pub record AreValuesOf (after : Texts) (n : ℕ) (values : ValuesOf) (vs : List ℕ) : Type 0 where
  pub each : AreValues values after
  pub variables : variables_of_values values ≡ vs
  pub count : count_values values ≡ n

mutual
  pub value_given : (t : Term) (s : Source) (after : Texts) (f : Fresh) → Later s.known after → IsTerm t → AreOf s (spelled_term t) → Fine s f → Given s f (value_of t s.known f) (IsValueOf after)
  value_given (simple x) s after f later lawful h fine = given_made s f (atom_of s.known x f) atom_value (IsAtomOf after) (IsValueOf after) (λ a vs k. k) (single_given s after x f later h.0 fine)
  value_given (called function ts) s after f later lawful h fine =
      given_made s f (values_of ts s.known f) (call_value function) (AreValuesOf after (count_of ts)) (IsValueOf after) (λ values vs k. ((subst (Takes function) (sym k.count) lawful.0, k.each), k.variables))
      (values_given ts s after f later lawful.1 (all_front (IsOf s) (spelled_terms ts) (mark 41 ∷ []) h.1.1) fine)

  pub values_given : (ts : Terms) (s : Source) (after : Texts) (f : Fresh) → Later s.known after → AreTerms ts → AreOf s (spelled_terms ts) → Fine s f → Given s f (values_of ts s.known f) (AreValuesOf after (count_of ts))
  values_given no_terms s after f later lawful h fine = given_plain s f no_values (AreValuesOf after 0) fine (record { each = tt; variables = refl; count = refl })
  values_given (term_and t ts) s after f later lawful h fine =
      let e = value_of t s.known f in
      let x = value_given t s after f later lawful.0 (all_front (IsOf s) (spelled_term t) (spelled_terms ts) h) fine in
      given_then s f e (λ v g. then_expand (values_of ts s.known g) (λ vs h. expanded (value_and v vs) h)) (IsValueOf after) (AreValuesOf after (suc (count_of ts))) x
      (given_made s e.names (values_of ts s.known e.names) (value_and e.value) (AreValuesOf after (count_of ts)) (λ values ws. AreValuesOf after (suc (count_of ts)) values (x.vs ++ ws))
      (λ values ws k. record { each = (x.is.0, k.each); variables = ap₂ (λ (a b : List ℕ). a ++ b) x.is.1 k.variables; count = ap suc k.count })
      (values_given ts s after e.names later lawful.1 (all_behind (IsOf s) (spelled_term t) (spelled_terms ts) h) x.fine))

-- ---- preferences

abbrev IsPreferenceOf : Texts → PreferenceOf → List ℕ → Type 0
IsPreferenceOf after p vs = IsPreference after p × (of_referent variables_of_value (referent_value p) ≡ vs)

alone_is : (after : Texts) (k : ℕ) → IsPreferenceOf after (alone k) []
alone_is after k = go (k == 0) (k == 1)
  where
    go : (a b : Bool) → IsPreferenceOf after (if a then is_worst else if b then is_best else is_indifferent) []
    go true b = (tt, refl)
    go false true = (tt, refl)
    go false false = (tt, refl)

referring_is : (after : Texts) (k : ℕ) (v : ValueOf) (vs : List ℕ) → IsValueOf after v vs → IsPreferenceOf after (referring k v) vs
referring_is after k v vs h = go (k == 0) (k == 1)
  where
    go : (a b : Bool) → IsPreferenceOf after (if a then is_worse_than v else if b then is_better_than v else is_indifferent_to v) vs
    go true b = h
    go false true = h
    go false false = h

compared_given : (s : Source) (after : Texts) (k : ℕ) (o : Option Term) (f : Fresh) → Later s.known after → IfThere IsTerm o → AreOf s (spelled_option spelled_term o) → Fine s f → Given s f (compared s.known k o f) (IsPreferenceOf after)
compared_given s after k None f later lawful h fine = given_plain s f (alone k) (IsPreferenceOf after) fine (alone_is after k)
compared_given s after k (Some t) f later lawful h fine = given_made s f (value_of t s.known f) (referring k) (IsValueOf after) (IsPreferenceOf after) (referring_is after k) (value_given t s after f later lawful h fine)

preference_given : (s : Source) (after : Texts) (w : WishTree) (f : Fresh) → Later s.known after → IsWish w → AreOf s (spelled_wish w) → Fine s f → Given s f (preference_of s.known w f) (IsPreferenceOf after)
preference_given s after accepting f later lawful h fine = given_plain s f accepts (IsPreferenceOf after) fine (tt, refl)
preference_given s after rejecting f later lawful h fine = given_plain s f rejects (IsPreferenceOf after) fine (tt, refl)
preference_given s after requiring f later lawful h fine = given_plain s f requires_it (IsPreferenceOf after) fine (tt, refl)
preference_given s after prohibiting f later lawful h fine = given_plain s f prohibits (IsPreferenceOf after) fine (tt, refl)
preference_given s after (comparing c) f later lawful h fine = compared_given s after c.sign c.referent f later lawful.1 h.1 fine

-- ---- actions

-- there are actions, they can be printed, and these are their variables
pub record AreDone (after : Texts) (actions : List ActionOf) (vs : List ℕ) : Type 0 where
  pub some : IsAny actions
  pub each : AllOf (IsPrintedAction after) actions
  pub variables : flat_map variables_of_action actions ≡ vs

abbrev pub AreBehind : Texts → List ℕ → List ActionOf → List ℕ → Type 0
AreBehind after front actions vs = AreDone after actions (front ++ vs)

is_variable : (a : Atom) (vs : List ℕ) → IsVar a vs → IsVariable a
is_variable a vs h = subst IsVariable (sym h.1) tt

pub one_made : (after : Texts) (id : Atom) (attr value : ValueOf) (p : PreferenceOf) (i a v vs : List ℕ) → IsVar id i → IsValueOf after attr a → IsValueOf after value v → IsPreferenceOf after p vs
    → AreDone after (makes id attr value p ∷ []) ((i ++ (a ++ v)) ++ vs)
one_made after id attr value p i a v vs h_id h_attr h_value h_p = record {
  some = tt;
  each = ((is_variable id i h_id, h_attr.0, h_value.0, h_p.0), tt);
  variables =
      append-nil (variables_of_action (makes id attr value p))
      ∙ ap₂ (λ (x y : List ℕ). x ++ y) (ap variables_of_atom h_id.1 ∙ sym h_id.2) (ap₂ (λ (x y : List ℕ). x ++ y) h_attr.1 (ap₂ (λ (x y : List ℕ). x ++ y) h_value.1 h_p.1))
      ∙ sym (append_assoc i (a ++ v) vs ∙ ap (λ l. i ++ l) (append_assoc a v vs));
}

pub both_done : (after : Texts) (here more : List ActionOf) (us vs : List ℕ) → AreDone after here us → AllOf (IsPrintedAction after) more → flat_map variables_of_action more ≡ vs → AreDone after (here ++ more) (us ++ vs)
both_done after [] more us vs x y z = absurd x.some
both_done after (c ∷ here) more us vs x y z = record {
  some = tt;
  each = all_joined (IsPrintedAction after) (c ∷ here) more x.each y;
  variables = joined (c ∷ here) ∙ ap₂ (λ (a b : List ℕ). a ++ b) x.variables z;
}
  where
    joined : (xs : List ActionOf) → flat_map variables_of_action (xs ++ more) ≡ flat_map variables_of_action xs ++ flat_map variables_of_action more
    joined [] = refl
    joined (x ∷ xs) = ap (λ l. variables_of_action x ++ l) (joined xs) ∙ sym (append_assoc (variables_of_action x) (flat_map variables_of_action xs) (flat_map variables_of_action more))

-- an action for each preference
wishes_given : (s : Source) (after : Texts) (id : Atom) (attr value : ValueOf) (i a v : List ℕ) (w : WishTree) (wishes : List WishTree) (f : Fresh) → Later s.known after → IsVar id i → IsValueOf after attr a → IsValueOf after value v
    → AreMet (length f.names) (i ++ (a ++ v)) → AllOf IsWish (w ∷ wishes) → AreOf s (flat_map spelled_wish (w ∷ wishes)) → Fine s f → Given s f (wishes_actions s.known id attr value (w ∷ wishes) f) (AreBehind after (i ++ (a ++ v)))
wishes_given s after id attr value i a v w [] f later h_id h_attr h_value met lawful h fine =
    given_made s f (preference_of s.known w f) (λ p. makes id attr value p ∷ []) (IsPreferenceOf after) (AreBehind after (i ++ (a ++ v))) (λ p vs k. one_made after id attr value p i a v vs h_id h_attr h_value k)
    (preference_given s after w f later lawful.0 (all_front (IsOf s) (spelled_wish w) [] h) fine)
wishes_given s after id attr value i a v w (u ∷ wishes) f later h_id h_attr h_value met lawful h fine =
    let e = preference_of s.known w f in
    let x = preference_given s after w f later lawful.0 (all_front (IsOf s) (spelled_wish w) (flat_map spelled_wish (u ∷ wishes)) h) fine in
    let now = still_met s f e (IsPreferenceOf after) (i ++ (a ++ v)) x met in
    given_then s f e (λ p g. then_expand (wishes_actions s.known id attr value (u ∷ wishes) g) (λ more h. expanded (makes id attr value p ∷ more) h)) (IsPreferenceOf after) (AreBehind after (i ++ (a ++ v))) x
    (given_made s e.names (wishes_actions s.known id attr value (u ∷ wishes) e.names) (λ more. makes id attr value e.value ∷ more) (AreDone after) (λ more ws. AreBehind after (i ++ (a ++ v)) more (x.vs ++ ws))
    (λ more ws k. subst (AreDone after (makes id attr value e.value ∷ more)) (append_assoc (i ++ (a ++ v)) x.vs ws)
    (both_done after (makes id attr value e.value ∷ []) more ((i ++ (a ++ v)) ++ x.vs) ws (one_made after id attr value e.value i a v x.vs h_id h_attr h_value x.is) k.each k.variables))
    (given_behind s e.names (wishes_actions s.known id attr value (u ∷ wishes) e.names) (i ++ (a ++ v)) (AreBehind after (i ++ (a ++ v))) (AreDone after) now (λ more vs k. k)
    (wishes_given s after id attr value i a v u wishes e.names later h_id h_attr h_value now lawful.1 (all_behind (IsOf s) (spelled_wish w) (flat_map spelled_wish (u ∷ wishes)) h) x.fine)))

-- an item without a preference is acceptable
wished_given : (s : Source) (after : Texts) (id : Atom) (attr value : ValueOf) (i a v : List ℕ) (wishes : List WishTree) (f : Fresh) → Later s.known after → IsVar id i → IsValueOf after attr a → IsValueOf after value v
    → AreMet (length f.names) (i ++ (a ++ v)) → AllOf IsWish wishes → AreOf s (flat_map spelled_wish wishes) → Fine s f → Given s f (wished_actions s.known id attr value wishes f) (AreBehind after (i ++ (a ++ v)))
wished_given s after id attr value i a v [] f later h_id h_attr h_value met lawful h fine =
    given_plain s f (makes id attr value accepts ∷ []) (AreBehind after (i ++ (a ++ v))) fine (one_made after id attr value accepts i a v [] h_id h_attr h_value (tt, refl))
wished_given s after id attr value i a v (w ∷ wishes) f later h_id h_attr h_value met lawful h fine = wishes_given s after id attr value i a v w wishes f later h_id h_attr h_value met lawful h fine

-- a value and its preferences
item_given : (s : Source) (after : Texts) (id : Atom) (attr : ValueOf) (i a : List ℕ) (t : ItemTree) (f : Fresh) → Later s.known after → IsVar id i → IsValueOf after attr a
    → AreMet (length f.names) (i ++ a) → IsItem t → AreOf s (spelled_item t) → Fine s f
    → Given s f (then_expand (value_of t.value s.known f) (λ v g. wished_actions s.known id attr v t.wishes g)) (AreBehind after (i ++ a))
item_given s after id attr i a t f later h_id h_attr met lawful h fine =
    let e = value_of t.value s.known f in
    let x = value_given t.value s after f later lawful.0 (all_front (IsOf s) (spelled_term t.value) (flat_map spelled_wish t.wishes) h) fine in
    let front = all_joined (λ v. v < length e.names.names) (i ++ a) x.vs (still_met s f e (IsValueOf after) (i ++ a) x met) (met_now s f e (IsValueOf after) x) in
    given_then s f e (λ v g. wished_actions s.known id attr v t.wishes g) (IsValueOf after) (AreBehind after (i ++ a)) x
    (given_said s e.names (wished_actions s.known id attr e.value t.wishes e.names) (AreBehind after (i ++ (a ++ x.vs))) (λ actions ws. AreBehind after (i ++ a) actions (x.vs ++ ws))
    (λ actions ws k. subst (AreDone after actions) (ap (λ l. l ++ ws) (sym (append_assoc i a x.vs)) ∙ append_assoc (i ++ a) x.vs ws) k)
    (wished_given s after id attr e.value i a x.vs t.wishes e.names later h_id h_attr x.is (subst (AreMet (length e.names.names)) (append_assoc i a x.vs) front) lawful.1
    (all_behind (IsOf s) (spelled_term t.value) (flat_map spelled_wish t.wishes) h) x.fine))

pub items_given : (s : Source) (after : Texts) (id : Atom) (attr : ValueOf) (i a : List ℕ) (t : ItemTree) (items : List ItemTree) (f : Fresh) → Later s.known after → IsVar id i → IsValueOf after attr a
    → AreMet (length f.names) (i ++ a) → AllOf IsItem (t ∷ items) → AreOf s (flat_map spelled_item (t ∷ items)) → Fine s f → Given s f (items_actions s.known id attr (t ∷ items) f) (AreBehind after (i ++ a))
items_given s after id attr i a t [] f later h_id h_attr met lawful h fine =
    let x = item_given s after id attr i a t f later h_id h_attr met lawful.0 (all_front (IsOf s) (spelled_item t) [] h) fine in
    record { vs = x.vs; is = subst (λ l. AreDone after l ((i ++ a) ++ x.vs)) (sym (append-nil _)) x.is; met = x.met; fine = x.fine }
items_given s after id attr i a t (u ∷ items) f later h_id h_attr met lawful h fine =
    let e = then_expand (value_of t.value s.known f) (λ v g. wished_actions s.known id attr v t.wishes g) in
    let x = item_given s after id attr i a t f later h_id h_attr met lawful.0 (all_front (IsOf s) (spelled_item t) (flat_map spelled_item (u ∷ items)) h) fine in
    let now = still_met s f e (AreBehind after (i ++ a)) (i ++ a) x met in
    given_then s f e (λ here g. then_expand (items_actions s.known id attr (u ∷ items) g) (λ more last. expanded (here ++ more) last)) (AreBehind after (i ++ a)) (AreBehind after (i ++ a)) x
    (given_made s e.names (items_actions s.known id attr (u ∷ items) e.names) (λ more. e.value ++ more) (AreDone after) (λ more ws. AreBehind after (i ++ a) more (x.vs ++ ws))
    (λ more ws k. subst (AreDone after (e.value ++ more)) (append_assoc (i ++ a) x.vs ws) (both_done after e.value more ((i ++ a) ++ x.vs) ws x.is k.each k.variables))
    (given_behind s e.names (items_actions s.known id attr (u ∷ items) e.names) (i ++ a) (AreBehind after (i ++ a)) (AreDone after) now (λ more vs k. k)
    (items_given s after id attr i a u items e.names later h_id h_attr now lawful.1 (all_behind (IsOf s) (spelled_item t) (flat_map spelled_item (u ∷ items)) h) x.fine)))
