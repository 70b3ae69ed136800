-- The conditions that trees mean can be printed.
use Rattle.std.specs.Prelude.{if◌then◌else◌, flat_map, codes, nat_lt}
use Rattle.std.proofs.Common.{◌≡◌, refl, sym, ◌∙◌, ap, ap₂, subst, true, false, [], ◌∷◌, ◌++◌, List, ℕ, suc, Bool, ◌==◌, ◌<◌, ◌≤◌, Option, Some, None, length, arith, append_assoc, append-nil}
use Rattle.std.proofs.lemmas.Bool.Decides.{nat_tests}
use Rattle.soar_sym.specs.Words.{Texts}
use Rattle.soar_sym.specs.declared.symbol.Sym.TheVariants.{Word}
use Rattle.soar_rule.specs.declared.cond.Atom.{Atom}
use Rattle.soar_rule.specs.declared.cond.Atom.TheVariants.{Const}
use Rattle.soar_rule.specs.declared.cond.Field.{Field}
use Rattle.soar_rule.specs.Conditions.{Condition, positive, negated, conjunctive, all_of}
use Rattle.soar_rule.specs.Variables.{variables_of_field, variables_of_condition, variables_of_conditions}
use Rattle.defs_text.specs.Lexing.{mark, sign}
use Rattle.defs_read.specs.ConditionExpansion.{triple_condition, negation_of, signed, with_values, valued, along, tests_conditions, group_field, group_tests, group_conditions, part_conditions, parts_conditions}
use Rattle.defs_read.specs.FieldExpansion.{field_of, plain_field}
use Rattle.defs_read.specs.FreshNames.{Fresh, Expanded, expanded, then_expand, fresh_variable}
use Rattle.defs_read.specs.Grammar.{FieldTree, ValueTest, AttributeTest, Group, Part, grouped, joined, Parts, no_parts, part_and}
use Rattle.defs_read.specs.Spelling.{spelled_flag, spelled_option, spelled_field, spelled_value, spelled_step, spelled_test, spelled_group, spelled_part, spelled_parts, bare_word}
use Rattle.reading_laws.specs.Lawful.{AllOf}
use Rattle.reading_laws.specs.Printable.{IsWord, IsAny, IsSome, IsCondition, AreConditions, met_after}
use Rattle.reading_laws.proofs.FineLaws.{Source, Fine, Given, IsVar, all_joined, all_said, fresh_given}
use Rattle.reading_laws.proofs.GivenFields.{Later, IsOf, AreOf, all_front, all_behind, given_said, given_plain, given_made, given_then, IsFieldOf, field_given}
use Rattle.reading_laws.proofs.NameLaws.{met_grows}

-- ---- variables that were met

abbrev pub AreMet : ℕ → List ℕ → Type 0
AreMet k vs = AllOf (λ v. v < k) vs

pub met_all : (k m : ℕ) (vs : List ℕ) → met_after k vs ≡ Some m → AreMet m vs
met_all k m [] e = tt
met_all k m (v ∷ vs) e = go (nat_lt v k) (v == k) refl refl (λ h. met_all k m vs h) (λ h. met_all (suc k) m vs h) e
  where
    go : (s t : Bool) → nat_lt v k ≡ s → (v == k) ≡ t → (met_after k vs ≡ Some m → AreMet m vs) → (met_after (suc k) vs ≡ Some m → AreMet m vs)
        → (if s then met_after k vs else if t then met_after (suc k) vs else None) ≡ Some m → (v < m) × AreMet m vs
    go true t f g old new h = let below : v < k = grind (arith, nat_tests) in (omega (arith, met_grows k m vs h), old h)
    go false true f g old new h = let equal : v ≡ k = grind (arith, nat_tests) in (omega (arith, met_grows (suc k) m vs h), new h)
    go false false f g old new h = absurd (cc)

pub met_more : (k m : ℕ) (vs : List ℕ) → k ≤ m → AreMet k vs → AreMet m vs
met_more k m vs l h = all_said (λ v. v < k) (λ v. v < m) vs (λ v b. omega (arith, b, l)) h

-- they count for nothing
met_known : (k : ℕ) (a b : List ℕ) → AreMet k a → met_after k (a ++ b) ≡ met_after k b
met_known k [] b h = refl
met_known k (v ∷ a) b h =
    ap (λ t. if t then met_after k (a ++ b) else if v == k then met_after (suc k) (a ++ b) else None) (let below : v < k = h.0 in let e : nat_lt v k ≡ true = grind (arith, nat_tests) in e) ∙ met_known k a b h.1

-- what is given, with variables in front that were met
pub given_behind : {A : Type 0} (s : Source) (f : Fresh) (e : Expanded A) (a : List ℕ) (ok other : A → List ℕ → Type 0) → AreMet (length f.names) a → ((x : A) (vs : List ℕ) → ok x vs → other x (a ++ vs)) → Given s f e ok → Given s f e other
given_behind s f e a ok other met h x = record { vs = a ++ x.vs; is = h e.value x.vs x.is; met = met_known (length f.names) a x.vs met ∙ x.met; fine = x.fine }

-- those of what was given are met then, and those from before still
pub met_now : {A : Type 0} (s : Source) (f : Fresh) (e : Expanded A) (ok : A → List ℕ → Type 0) → (x : Given s f e ok) → AreMet (length e.names.names) x.vs
met_now s f e ok x = met_all (length f.names) (length e.names.names) x.vs x.met

pub still_met : {A : Type 0} (s : Source) (f : Fresh) (e : Expanded A) (ok : A → List ℕ → Type 0) (a : List ℕ) → Given s f e ok → AreMet (length f.names) a → AreMet (length e.names.names) a
still_met s f e ok a x h = met_more (length f.names) (length e.names.names) a (met_grows (length f.names) (length e.names.names) x.vs x.met) h

-- ---- triples

-- there are conditions, they can be printed, and these are their variables
pub record AreGiven (after : Texts) (cs : List Condition) (vs : List ℕ) : Type 0 where
  pub some : IsAny cs
  pub each : AllOf (λ c. IsCondition c after) cs
  pub variables : flat_map variables_of_condition cs ≡ vs

-- the variables of a triple's front, and then more
abbrev AreBehind : Texts → List ℕ → List Condition → List ℕ → Type 0
AreBehind after front cs vs = AreGiven after cs (front ++ vs)

plain_var : (after : Texts) (a : Atom) (vs : List ℕ) → IsVar a vs → IsFieldOf after (plain_field a) vs
plain_var after a vs h = subst (λ b. IsFieldOf after (plain_field b) vs) (sym h.1) ((tt, (tt, tt)), sym h.2)

one_triple : (after : Texts) (state accept : Bool) (id attr value : Field) (i a vs : List ℕ) → IsFieldOf after id i → IsFieldOf after attr a → IsFieldOf after value vs
    → AreGiven after (triple_condition state id attr value accept ∷ []) ((i ++ a) ++ vs)
one_triple after state accept id attr value i a vs h_id h_attr h_value = record {
  some = tt;
  each = ((h_id.0, h_attr.0, h_value.0), tt);
  variables =
      append-nil (variables_of_field id ++ (variables_of_field attr ++ variables_of_field value))
      ∙ ap₂ (λ (x y : List ℕ). x ++ y) h_id.1 (ap₂ (λ (x y : List ℕ). x ++ y) h_attr.1 h_value.1) ∙ sym (append_assoc i a vs);
}

-- and more behind it
more_triples : (after : Texts) (c : Condition) (cs : List Condition) (us vs : List ℕ) → AreGiven after (c ∷ []) us → AreGiven after cs vs → AreGiven after (c ∷ cs) (us ++ vs)
more_triples after c cs us vs x y = record {
  some = tt;
  each = (x.each.0, y.each);
  variables = ap₂ (λ (a b : List ℕ). a ++ b) (sym (append-nil (variables_of_condition c)) ∙ x.variables) y.variables;
}

-- and others, of which there may be none
both_given : (after : Texts) (cs ds : List Condition) (us vs : List ℕ) → AreGiven after cs us → AllOf (λ c. IsCondition c after) ds → flat_map variables_of_condition ds ≡ vs → AreGiven after (cs ++ ds) (us ++ vs)
both_given after [] ds us vs x y z = absurd x.some
both_given after (c ∷ cs) ds us vs x y z = record {
  some = tt;
  each = all_joined (λ c. IsCondition c after) (c ∷ cs) ds x.each y;
  variables = joined (c ∷ cs) ∙ ap₂ (λ (a b : List ℕ). a ++ b) x.variables z;
}
  where
    joined : (xs : List Condition) → flat_map variables_of_condition (xs ++ ds) ≡ flat_map variables_of_condition xs ++ flat_map variables_of_condition ds
    joined [] = refl
    joined (x ∷ xs) = ap (λ l. variables_of_condition x ++ l) (joined xs) ∙ sym (append_assoc (variables_of_condition x) (flat_map variables_of_condition xs) (flat_map variables_of_condition ds))

-- a triple for each value
values_given : (s : Source) (after : Texts) (state : Bool) (id attr : Field) (i a : List ℕ) (v : ValueTest) (values : List ValueTest) (f : Fresh) → Later s.known after → IsFieldOf after id i → IsFieldOf after attr a
    → AreMet (length f.names) (i ++ a) → AreOf s (flat_map spelled_value (v ∷ values)) → Fine s f → Given s f (with_values s.known state id attr (v ∷ values) f) (AreBehind after (i ++ a))
values_given s after state id attr i a v [] f later h_id h_attr met h fine =
    given_made s f (field_of s.known v.value f) (λ value. triple_condition state id attr value v.accept ∷ []) (IsFieldOf after) (AreBehind after (i ++ a))
    (λ value vs k. one_triple after state v.accept id attr value i a vs h_id h_attr k)
    (field_given s after v.value f later (all_front (IsOf s) (spelled_field v.value) _ (all_front (IsOf s) (spelled_value v) _ h)) fine)
values_given s after state id attr i a v (w ∷ values) f later h_id h_attr met h fine =
    let e = field_of s.known v.value f in
    let x = field_given s after v.value f later (all_front (IsOf s) (spelled_field v.value) _ (all_front (IsOf s) (spelled_value v) (flat_map spelled_value (w ∷ values)) h)) fine in
    let now = still_met s f e (IsFieldOf after) (i ++ a) x met in
    given_then s f e (λ value g. then_expand (with_values s.known state id attr (w ∷ values) g) (λ cs h. expanded (triple_condition state id attr value v.accept ∷ cs) h)) (IsFieldOf after) (AreBehind after (i ++ a)) x
    (given_made s e.names (with_values s.known state id attr (w ∷ values) e.names) (λ cs. triple_condition state id attr e.value v.accept ∷ cs) (AreGiven after) (λ cs ws. AreBehind after (i ++ a) cs (x.vs ++ ws))
    (λ cs ws k. subst (AreGiven after (triple_condition state id attr e.value v.accept ∷ cs)) (append_assoc (i ++ a) x.vs ws)
    (more_triples after (triple_condition state id attr e.value v.accept) cs ((i ++ a) ++ x.vs) ws (one_triple after state v.accept id attr e.value i a x.vs h_id h_attr x.is) k))
    (given_behind s e.names (with_values s.known state id attr (w ∷ values) e.names) (i ++ a) (AreBehind after (i ++ a)) (AreGiven after) now (λ cs vs k. k)
    (values_given s after state id attr i a w values e.names later h_id h_attr now (all_behind (IsOf s) (spelled_value v) (flat_map spelled_value (w ∷ values)) h) x.fine)))

valued_given : (s : Source) (after : Texts) (state : Bool) (id attr : Field) (i a : List ℕ) (values : List ValueTest) (f : Fresh) → Later s.known after → IsFieldOf after id i → IsFieldOf after attr a
    → AreMet (length f.names) (i ++ a) → AreOf s (flat_map spelled_value values) → Fine s f → Given s f (valued s.known state id attr values f) (AreBehind after (i ++ a))
valued_given s after state id attr i a [] f later h_id h_attr met h fine =
    given_made s f (fresh_variable f) (λ v. triple_condition state id attr (plain_field v) false ∷ []) IsVar (AreBehind after (i ++ a))
    (λ v vs k. one_triple after state false id attr (plain_field v) i a vs h_id h_attr (plain_var after v vs k)) (fresh_given s f fine)
valued_given s after state id attr i a (v ∷ values) f later h_id h_attr met h fine = values_given s after state id attr i a v values f later h_id h_attr met h fine

-- over a path
along_given : (s : Source) (after : Texts) (state : Bool) (id : Field) (i : List ℕ) (attribute : FieldTree) (path : List FieldTree) (values : List ValueTest) (f : Fresh) → Later s.known after → IsFieldOf after id i
    → AreMet (length f.names) i → AreOf s (spelled_field attribute) → AreOf s (flat_map spelled_step path) → AreOf s (flat_map spelled_value values) → Fine s f
    → Given s f (along s.known state id attribute path values f) (AreBehind after i)
along_given s after state id i attribute [] values f later h_id met h_attr h_path h_values fine =
    let e = field_of s.known attribute f in
    let x = field_given s after attribute f later h_attr fine in
    given_then s f e (λ attr g. valued s.known state id attr values g) (IsFieldOf after) (AreBehind after i) x
    (given_said s e.names (valued s.known state id e.value values e.names) (AreBehind after (i ++ x.vs)) (λ cs ws. AreBehind after i cs (x.vs ++ ws)) (λ cs ws k. subst (AreGiven after cs) (append_assoc i x.vs ws) k)
    (valued_given s after state id e.value i x.vs values e.names later h_id x.is (all_joined (λ v. v < length e.names.names) i x.vs (still_met s f e (IsFieldOf after) i x met) (met_now s f e (IsFieldOf after) x)) h_values x.fine))
along_given s after state id i attribute (next ∷ path) values f later h_id met h_attr h_path h_values fine =
    let e = field_of s.known attribute f in
    let x = field_given s after attribute f later h_attr fine in
    let v = fresh_variable e.names in
    let y = fresh_given s e.names x.fine in
    let h_v = plain_var after v.value y.vs y.is in
    let first = triple_condition state id e.value (plain_field v.value) false in
    let one = one_triple after state false id e.value (plain_field v.value) i x.vs y.vs h_id x.is h_v in
    given_then s f e (λ attr g. then_expand (fresh_variable g) (λ v h. then_expand (along s.known false (plain_field v) next path values h) (λ cs last. expanded (triple_condition state id attr (plain_field v) false ∷ cs) last))) (IsFieldOf after) (AreBehind after i) x
    (given_then s e.names v (λ v h. then_expand (along s.known false (plain_field v) next path values h) (λ cs last. expanded (triple_condition state id e.value (plain_field v) false ∷ cs) last)) IsVar (λ cs ws. AreBehind after i cs (x.vs ++ ws)) y
    (given_made s v.names (along s.known false (plain_field v.value) next path values v.names) (λ cs. first ∷ cs) (AreGiven after) (λ cs ws. AreBehind after i cs (x.vs ++ (y.vs ++ ws)))
    (λ cs ws k. subst (AreGiven after (first ∷ cs)) (append_assoc (i ++ x.vs) y.vs ws ∙ append_assoc i x.vs (y.vs ++ ws)) (more_triples after first cs ((i ++ x.vs) ++ y.vs) ws one k))
    (given_behind s v.names (along s.known false (plain_field v.value) next path values v.names) y.vs (AreBehind after y.vs) (AreGiven after) (met_now s e.names v IsVar y) (λ cs vs k. k)
    (along_given s after false (plain_field v.value) y.vs next path values v.names later h_v (met_now s e.names v IsVar y) (all_front (IsOf s) (spelled_field next) (flat_map spelled_step path) h_path.1)
    (all_behind (IsOf s) (spelled_field next) (flat_map spelled_step path) h_path.1) h_values y.fine))))

-- ---- negations

pub some_of : (cs : List Condition) → IsAny cs → IsSome (all_of cs)
some_of [] h = absurd h
some_of (c ∷ cs) h = tt

pub conditions_of : (after : Texts) (cs : List Condition) → AllOf (λ c. IsCondition c after) cs → AreConditions (all_of cs) after
conditions_of after [] h = tt
conditions_of after (c ∷ cs) h = (h.0, conditions_of after cs h.1)

pub variables_of : (cs : List Condition) → variables_of_conditions (all_of cs) ≡ flat_map variables_of_condition cs
variables_of [] = refl
variables_of (c ∷ cs) = ap (λ l. variables_of_condition c ++ l) (variables_of cs)

whole_given : (after : Texts) (cs : List Condition) (vs : List ℕ) → AreGiven after cs vs → AreGiven after (conjunctive (all_of cs) ∷ []) vs
whole_given after cs vs x = record {
  some = tt;
  each = ((some_of cs x.some, conditions_of after cs x.each), tt);
  variables = append-nil (variables_of_conditions (all_of cs)) ∙ variables_of cs ∙ x.variables;
}

negation_given : (after : Texts) (cs : List Condition) (vs : List ℕ) → AreGiven after cs vs → AreGiven after (negation_of cs ∷ []) vs
negation_given after [] vs x = absurd x.some
negation_given after (positive p ∷ []) vs x = record { some = tt; each = x.each; variables = x.variables }
negation_given after (positive p ∷ c ∷ cs) vs x = whole_given after (positive p ∷ c ∷ cs) vs x
negation_given after (negated p ∷ cs) vs x = whole_given after (negated p ∷ cs) vs x
negation_given after (conjunctive ds ∷ cs) vs x = whole_given after (conjunctive ds ∷ cs) vs x

signed_given : (after : Texts) (negative : Bool) (cs : List Condition) (vs : List ℕ) → AreGiven after cs vs → AreGiven after (signed negative cs) vs
signed_given after true cs vs x = negation_given after cs vs x
signed_given after false cs vs x = x

-- ---- groups

test_given : (s : Source) (after : Texts) (state : Bool) (id : Field) (i : List ℕ) (t : AttributeTest) (f : Fresh) → Later s.known after → IsFieldOf after id i → AreMet (length f.names) i → AreOf s (spelled_test t) → Fine s f
    → Given s f (along s.known state id t.attribute t.path t.values f) (AreBehind after i)
test_given s after state id i t f later h_id met h fine =
    let l = (all_behind (IsOf s) (spelled_flag (sign 8) t.negative) (mark 94 ∷ (spelled_field t.attribute ++ (flat_map spelled_step t.path ++ flat_map spelled_value t.values))) h).1 in
    let m = all_behind (IsOf s) (spelled_field t.attribute) (flat_map spelled_step t.path ++ flat_map spelled_value t.values) l in
    along_given s after state id i t.attribute t.path t.values f later h_id met (all_front (IsOf s) (spelled_field t.attribute) (flat_map spelled_step t.path ++ flat_map spelled_value t.values) l)
    (all_front (IsOf s) (flat_map spelled_step t.path) (flat_map spelled_value t.values) m) (all_behind (IsOf s) (flat_map spelled_step t.path) (flat_map spelled_value t.values) m) fine

tests_given : (s : Source) (after : Texts) (state : Bool) (id : Field) (i : List ℕ) (t : AttributeTest) (tests : List AttributeTest) (f : Fresh) → Later s.known after → IsFieldOf after id i
    → AreMet (length f.names) i → AreOf s (flat_map spelled_test (t ∷ tests)) → Fine s f → Given s f (tests_conditions s.known state id (t ∷ tests) f) (AreBehind after i)
tests_given s after state id i t [] f later h_id met h fine =
    given_made s f (along s.known state id t.attribute t.path t.values f) (λ cs. signed t.negative cs ++ []) (AreBehind after i) (AreBehind after i)
    (λ cs vs k. subst (λ l. AreGiven after l (i ++ vs)) (sym (append-nil (signed t.negative cs))) (signed_given after t.negative cs (i ++ vs) k))
    (test_given s after state id i t f later h_id met (all_front (IsOf s) (spelled_test t) [] h) fine)
tests_given s after state id i t (u ∷ tests) f later h_id met h fine =
    let e = along s.known state id t.attribute t.path t.values f in
    let x = test_given s after state id i t f later h_id met (all_front (IsOf s) (spelled_test t) (flat_map spelled_test (u ∷ tests)) h) fine in
    let now = still_met s f e (AreBehind after i) i x met in
    given_then s f e (λ cs g. then_expand (tests_conditions s.known state id (u ∷ tests) g) (λ more h. expanded (signed t.negative cs ++ more) h)) (AreBehind after i) (AreBehind after i) x
    (given_made s e.names (tests_conditions s.known state id (u ∷ tests) e.names) (λ more. signed t.negative e.value ++ more) (AreGiven after) (λ cs ws. AreBehind after i cs (x.vs ++ ws))
    (λ more ws k. subst (AreGiven after (signed t.negative e.value ++ more)) (append_assoc i x.vs ws)
    (both_given after (signed t.negative e.value) more (i ++ x.vs) ws (signed_given after t.negative e.value (i ++ x.vs) x.is) k.each k.variables))
    (given_behind s e.names (tests_conditions s.known state id (u ∷ tests) e.names) i (AreBehind after i) (AreGiven after) now (λ cs vs k. k)
    (tests_given s after state id i u tests e.names later h_id now (all_behind (IsOf s) (spelled_test t) (flat_map spelled_test (u ∷ tests)) h) x.fine)))

id_given : (s : Source) (after : Texts) (o : Option FieldTree) (f : Fresh) → Later s.known after → AreOf s (spelled_option spelled_field o) → Fine s f → Given s f (group_field s.known o f) (IsFieldOf after)
id_given s after None f later h fine = given_made s f (fresh_variable f) plain_field IsVar (IsFieldOf after) (plain_var after) (fresh_given s f fine)
id_given s after (Some tree) f later h fine = field_given s after tree f later h fine

-- a group of no attribute asks for a superstate, whose word is the sixth
inside_given : (s : Source) (after : Texts) (state : Bool) (id : Field) (i : List ℕ) (tests : List AttributeTest) (f : Fresh) → Later s.known after → IsWord after (Word 5) → IsFieldOf after id i
    → AreMet (length f.names) i → AreOf s (flat_map spelled_test tests) → Fine s f → Given s f (group_tests s.known state id tests f) (AreBehind after i)
inside_given s after state id i [] f later super h_id met h fine =
    given_made s f (fresh_variable f) (λ v. triple_condition state id (plain_field (Const (Word 5))) (plain_field v) false ∷ []) IsVar (AreBehind after i)
    (λ v vs k. subst (λ l. AreGiven after (triple_condition state id (plain_field (Const (Word 5))) (plain_field v) false ∷ []) (l ++ vs)) (append-nil i)
    (one_triple after state false id (plain_field (Const (Word 5))) (plain_field v) i [] vs h_id ((tt, (super, tt)), refl) (plain_var after v vs k)))
    (fresh_given s f fine)
inside_given s after state id i (t ∷ tests) f later super h_id met h fine = tests_given s after state id i t tests f later h_id met h fine

group_given : (s : Source) (after : Texts) (g : Group) (f : Fresh) → Later s.known after → IsWord after (Word 5) → AreOf s (spelled_group g) → Fine s f → Given s f (group_conditions s.known g f) (AreGiven after)
group_given s after g f later super h fine =
    let a = all_behind (IsOf s) (spelled_flag (bare_word (codes "state")) g.state) (spelled_option spelled_field g.field ++ (flat_map spelled_test g.tests ++ (mark 41 ∷ []))) h.1 in
    let e = group_field s.known g.field f in
    let x = id_given s after g.field f later (all_front (IsOf s) (spelled_option spelled_field g.field) (flat_map spelled_test g.tests ++ (mark 41 ∷ [])) a) fine in
    given_then s f e (λ id h. group_tests s.known g.state id g.tests h) (IsFieldOf after) (AreGiven after) x
    (inside_given s after g.state e.value x.vs g.tests e.names later super x.is (met_now s f e (IsFieldOf after) x)
    (all_front (IsOf s) (flat_map spelled_test g.tests) (mark 41 ∷ []) (all_behind (IsOf s) (spelled_option spelled_field g.field) (flat_map spelled_test g.tests ++ (mark 41 ∷ [])) a)) x.fine)

-- ---- conditions

-- conditions in braces, with a negation or without
braced_given : (after : Texts) (negative : Bool) (cs : List Condition) (vs : List ℕ) → AreGiven after cs vs → AreGiven after (if negative then conjunctive (all_of cs) ∷ [] else cs) vs
braced_given after true cs vs x = whole_given after cs vs x
braced_given after false cs vs x = x

-- conditions, of which there may be none
pub record AreListed (after : Texts) (cs : List Condition) (vs : List ℕ) : Type 0 where
  pub each : AllOf (λ c. IsCondition c after) cs
  pub variables : flat_map variables_of_condition cs ≡ vs

mutual
  pub part_given : (p : Part) (s : Source) (after : Texts) (f : Fresh) → Later s.known after → IsWord after (Word 5) → AreOf s (spelled_part p) → Fine s f → Given s f (part_conditions p s.known f) (AreGiven after)
  part_given (grouped negative g) s after f later super h fine =
      given_made s f (group_conditions s.known g f) (signed negative) (AreGiven after) (AreGiven after) (signed_given after negative)
      (group_given s after g f later super (all_behind (IsOf s) (spelled_flag (sign 8) negative) (spelled_group g) h) fine)
  part_given (joined negative p ps) s after f later super h fine =
      let a = (all_behind (IsOf s) (spelled_flag (sign 8) negative) (mark 123 ∷ (spelled_part p ++ (spelled_parts ps ++ (mark 125 ∷ [])))) h).1 in
      let e = part_conditions p s.known f in
      let x = part_given p s after f later super (all_front (IsOf s) (spelled_part p) (spelled_parts ps ++ (mark 125 ∷ [])) a) fine in
      given_then s f e (λ cs g. then_expand (parts_conditions ps s.known g) (λ more h. expanded (if negative then conjunctive (all_of (cs ++ more)) ∷ [] else cs ++ more) h)) (AreGiven after) (AreGiven after) x
      (given_made s e.names (parts_conditions ps s.known e.names) (λ more. if negative then conjunctive (all_of (e.value ++ more)) ∷ [] else e.value ++ more) (AreListed after) (λ cs ws. AreGiven after cs (x.vs ++ ws))
      (λ more ws k. braced_given after negative (e.value ++ more) (x.vs ++ ws) (both_given after e.value more x.vs ws x.is k.each k.variables))
      (parts_given ps s after e.names later super (all_front (IsOf s) (spelled_parts ps) (mark 125 ∷ []) (all_behind (IsOf s) (spelled_part p) (spelled_parts ps ++ (mark 125 ∷ [])) a)) x.fine))

  pub parts_given : (ps : Parts) (s : Source) (after : Texts) (f : Fresh) → Later s.known after → IsWord after (Word 5) → AreOf s (spelled_parts ps) → Fine s f → Given s f (parts_conditions ps s.known f) (AreListed after)
  parts_given no_parts s after f later super h fine = given_plain s f [] (AreListed after) fine (record { each = tt; variables = refl })
  parts_given (part_and p ps) s after f later super h fine =
      let e = part_conditions p s.known f in
      let x = part_given p s after f later super (all_front (IsOf s) (spelled_part p) (spelled_parts ps) h) fine in
      given_then s f e (λ cs g. then_expand (parts_conditions ps s.known g) (λ more h. expanded (cs ++ more) h)) (AreGiven after) (AreListed after) x
      (given_made s e.names (parts_conditions ps s.known e.names) (λ more. e.value ++ more) (AreListed after) (λ cs ws. AreListed after cs (x.vs ++ ws))
      (λ more ws k. let both = both_given after e.value more x.vs ws x.is k.each k.variables in record { each = both.each; variables = both.variables })
      (parts_given ps s after e.names later super (all_behind (IsOf s) (spelled_part p) (spelled_parts ps) h) x.fine))
