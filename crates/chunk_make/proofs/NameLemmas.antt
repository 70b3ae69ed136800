-- The names of the literal form are among those of the general one. A negation's own variables come in the same order in both forms;
-- in the general one they share the numbers of x with identifiers of X, so that none of these numbers is left out.
use Rattle.std.proofs.Common.{◌≡◌, ◌∙◌, ◌<◌, ◌≤◌, ◌+◌, ◌++◌, ◌&&◌, ◌||◌, ◌==◌, inl, inr, ℕ, suc, Bool, true, false, cond, List, [], ◌∷◌, map, flat_map, filter, Option, Some, None, refl, ap, ap₂, sym, subst, arith, append_assoc}
use Rattle.std.proofs.Math.Dec.{eqb→eq}
use Rattle.std.proofs.lemmas.Bool.{cases_lt}
use Rattle.std.proofs.lemmas.List.{append-nil}
use Rattle.std.proofs.lemmas.List.Elements.{filter-append}
use Rattle.std.specs.Bool.{passes}
use Rattle.std.specs.Fmt.{decimal}
use Rattle.std.specs.List.{list_all, list_any}
use Rattle.soar_sym.specs.Words.{Texts, has_text}
use Rattle.soar_sym.specs.declared.symbol.Sym.{Sym}
use Rattle.soar_rule.specs.declared.cond.Atom.{Atom}
use Rattle.soar_rule.specs.declared.cond.Atom.TheVariants.{Const, Var}
use Rattle.soar_rule.specs.declared.cond.Field.{Field}
use Rattle.soar_rule.specs.declared.cond.Pattern.{Pattern}
use Rattle.soar_rule.specs.declared.cond.Test.{Test}
use Rattle.soar_rule.specs.declared.cond.Test.TheVariants.{Plain, Rel, OneOf}
use Rattle.soar_rule.specs.Conditions.{Condition, positive, negated, conjunctive, Conditions, no_more, condition_and, all_of}
use Rattle.soar_wm.specs.declared.element.Element.{Element}
use Rattle.defs_soar.specs.declared.preference.Wish.{Wish}
use Rattle.defs_soar.specs.Candidate.{condition_of, conditions_from, conditions_of, general_form, literal_form, plain_and}
use Rattle.defs_soar.specs.CarriedTests.{Placed, carried_tests, placed_tests, tests_at}
use Rattle.defs_soar.specs.ConditionOrder.{ordered_grounds}
use Rattle.defs_soar.specs.History.{ChainOf}
use Rattle.defs_soar.specs.Negations.{negations_taken_over}
use Rattle.defs_soar.specs.Values.{is_identifier}
use Rattle.defs_soar.specs.Variablized.{Variablized, of_identifier, of_own, count_with, each_variablized_once, letter_of, names_from, variablized_eq, variablized_in_atom, variablized_in_condition, variablized_in_conditions, variablized_in_field, variablized_in_referent, variablized_in_symbol, variablized_in_test, variablized_in_wish}

abbrev pub is_own : Variablized → Bool
is_own (of_own n) = true
is_own (of_identifier s) = false

-- ---- what is variablized in the literal form is, of that in the general form, what is a negation's own

own_of_both : (xs ys us vs : List Variablized) → filter is_own xs ≡ us → filter is_own ys ≡ vs → filter is_own (xs ++ ys) ≡ us ++ vs
own_of_both xs ys us vs p q = filter-append is_own xs ys ∙ ap₂ (λ (a b : List Variablized). a ++ b) p q

own_of_all : {A : Type 0} (f g : A → List Variablized) → ((x : A) → filter is_own (f x) ≡ g x) → (xs : List A) → filter is_own (flat_map f xs) ≡ flat_map g xs
own_of_all f g h [] = refl
own_of_all f g h (x ∷ xs) = own_of_both (f x) (flat_map f xs) (g x) (flat_map g xs) (h x) (own_of_all f g h xs)

own_in_atom : (a : Atom) → filter is_own (variablized_in_atom true a) ≡ variablized_in_atom false a
own_in_atom (Const s) = go (is_identifier s)
  where
    go : (b : Bool) → filter is_own (cond b (of_identifier s ∷ []) []) ≡ []
    go true = refl
    go false = refl
own_in_atom (Var n) = refl

own_in_test : (t : Test) → filter is_own (variablized_in_test true t) ≡ variablized_in_test false t
own_in_test (Plain a) = own_in_atom a
own_in_test (Rel r a) = own_in_atom a
own_in_test (OneOf symbols) = refl

own_in_field : (field : Field) → filter is_own (variablized_in_field true field) ≡ variablized_in_field false field
own_in_field field = own_of_all (variablized_in_test true) (variablized_in_test false) own_in_test field.tests

own_in_pattern : (p : Pattern)
    → filter is_own (variablized_in_field true p.id ++ (variablized_in_field true p.attr ++ variablized_in_field true p.value))
    ≡ variablized_in_field false p.id ++ (variablized_in_field false p.attr ++ variablized_in_field false p.value)
own_in_pattern p =
    own_of_both (variablized_in_field true p.id) (variablized_in_field true p.attr ++ variablized_in_field true p.value)
    (variablized_in_field false p.id) (variablized_in_field false p.attr ++ variablized_in_field false p.value)
    (own_in_field p.id)
    (own_of_both (variablized_in_field true p.attr) (variablized_in_field true p.value) (variablized_in_field false p.attr) (variablized_in_field false p.value) (own_in_field p.attr) (own_in_field p.value))

mutual
  own_in_condition : (c : Condition) → filter is_own (variablized_in_condition true c) ≡ variablized_in_condition false c
  own_in_condition (positive p) = own_in_pattern p
  own_in_condition (negated p) = own_in_pattern p
  own_in_condition (conjunctive inside) = own_in_conditions inside

  own_in_conditions : (cs : Conditions) → filter is_own (variablized_in_conditions true cs) ≡ variablized_in_conditions false cs
  own_in_conditions no_more = refl
  own_in_conditions (condition_and c cs) =
      own_of_both (variablized_in_condition true c) (variablized_in_conditions true cs) (variablized_in_condition false c) (variablized_in_conditions false cs) (own_in_condition c) (own_in_conditions cs)

own_in_referent : (o : Option Sym) → filter is_own (variablized_in_referent true o) ≡ variablized_in_referent false o
own_in_referent None = refl
own_in_referent (Some s) = own_in_atom (Const s)

own_in_wish : (w : Wish) → filter is_own (variablized_in_wish true w) ≡ variablized_in_wish false w
own_in_wish w =
    let value = own_of_both (variablized_in_symbol true w.value) (variablized_in_referent true w.referent) (variablized_in_symbol false w.value) (variablized_in_referent false w.referent)
    (own_in_atom (Const w.value)) (own_in_referent w.referent) in
    let attr = own_of_both (variablized_in_symbol true w.attr) (variablized_in_symbol true w.value ++ variablized_in_referent true w.referent)
    (variablized_in_symbol false w.attr) (variablized_in_symbol false w.value ++ variablized_in_referent false w.referent) (own_in_atom (Const w.attr)) value in
    own_of_both (variablized_in_symbol true w.id) (variablized_in_symbol true w.attr ++ (variablized_in_symbol true w.value ++ variablized_in_referent true w.referent))
    (variablized_in_symbol false w.id) (variablized_in_symbol false w.attr ++ (variablized_in_symbol false w.value ++ variablized_in_referent false w.referent)) (own_in_atom (Const w.id)) attr

-- ---- positive conditions have none

none_in_tests : (placed : List Placed) → flat_map (variablized_in_test false) (map (λ p. Rel p.relation (Const p.right)) placed) ≡ []
none_in_tests [] = refl
none_in_tests (p ∷ placed) = none_in_tests placed

none_in_field : (s : Sym) (placed : List Placed) (n : ℕ) → variablized_in_field false (plain_and s (tests_at placed n)) ≡ []
none_in_field s placed n = none_in_tests (filter (λ p. p.at == n) placed)

none_in_ground : (placed : List Placed) (first : ℕ) (e : Element) → variablized_in_condition false (condition_of placed first e) ≡ []
none_in_ground placed first e = λ i. none_in_field e.id placed first i ++ (none_in_field e.attr placed (first + 1) i ++ none_in_field e.value placed (first + 2) i)

none_in_grounds : (placed : List Placed) (first : ℕ) (elements : List Element) (negations : List Condition)
    → variablized_in_conditions false (all_of (conditions_from placed first elements ++ negations)) ≡ variablized_in_conditions false (all_of negations)
none_in_grounds placed first [] negations = refl
none_in_grounds placed first (e ∷ elements) negations =
    ap₂ (λ (a b : List Variablized). a ++ b) (none_in_ground placed first e) (none_in_grounds placed (first + 3) elements negations)

-- ---- each once

any_own : (n : ℕ) (seen : List Variablized) → list_any (variablized_eq (of_own n)) (filter is_own seen) ≡ list_any (variablized_eq (of_own n)) seen
any_own n [] = refl
any_own n (of_identifier s ∷ seen) = any_own n seen
any_own n (of_own m ∷ seen) = ap (λ b. (n == m) || b) (any_own n seen)

once_own : (vs seen : List Variablized) → filter is_own (each_variablized_once seen vs) ≡ each_variablized_once (filter is_own seen) (filter is_own vs)
once_own [] seen = refl
once_own (of_identifier s ∷ vs) seen =
    once_own vs (cond (list_any (variablized_eq (of_identifier s)) seen) seen (seen ++ of_identifier s ∷ []))
    ∙ ap (λ (l : List Variablized). each_variablized_once l (filter is_own vs)) (kept (list_any (variablized_eq (of_identifier s)) seen))
  where
    kept : (b : Bool) → filter is_own (cond b seen (seen ++ of_identifier s ∷ [])) ≡ filter is_own seen
    kept true = refl
    kept false = filter-append is_own seen (of_identifier s ∷ []) ∙ append-nil (filter is_own seen)
once_own (of_own n ∷ vs) seen =
    once_own vs (cond (list_any (variablized_eq (of_own n)) seen) seen (seen ++ of_own n ∷ []))
    ∙ ap (λ (l : List Variablized). each_variablized_once l (filter is_own vs))
    (kept (list_any (variablized_eq (of_own n)) seen) ∙ ap (λ (b : Bool). cond b (filter is_own seen) (filter is_own seen ++ of_own n ∷ [])) (sym (any_own n seen)))
  where
    kept : (b : Bool) → filter is_own (cond b seen (seen ++ of_own n ∷ [])) ≡ cond b (filter is_own seen) (filter is_own seen ++ of_own n ∷ [])
    kept true = refl
    kept false = filter-append is_own seen (of_own n ∷ [])

own_of_form : (cs ds : Conditions) (results : List Wish) → variablized_in_conditions false cs ≡ variablized_in_conditions false ds
    → filter is_own (each_variablized_once [] (variablized_in_conditions true cs ++ flat_map (variablized_in_wish true) results))
    ≡ each_variablized_once [] (variablized_in_conditions false ds ++ flat_map (variablized_in_wish false) results)
own_of_form cs ds results same =
    once_own (variablized_in_conditions true cs ++ flat_map (variablized_in_wish true) results) []
    ∙ ap (each_variablized_once [])
    (own_of_both (variablized_in_conditions true cs) (flat_map (variablized_in_wish true) results) (variablized_in_conditions false ds) (flat_map (variablized_in_wish false) results)
    (own_in_conditions cs ∙ same) (own_of_all (variablized_in_wish true) (variablized_in_wish false) own_in_wish results))

-- ---- numbers

count_both : (letter : ℕ) (xs ys : List Variablized) → count_with letter (xs ++ ys) ≡ count_with letter xs + count_with letter ys
count_both letter [] ys = omega arith
count_both letter (x ∷ xs) ys = go (letter_of x == letter) (count_both letter xs ys)
  where
    go : (b : Bool) → count_with letter (xs ++ ys) ≡ count_with letter xs + count_with letter ys
        → cond b (suc (count_with letter (xs ++ ys))) (count_with letter (xs ++ ys)) ≡ cond b (suc (count_with letter xs)) (count_with letter xs) + count_with letter ys
    go true later = omega arith
    go false later = later

count_last : (before : List Variablized) (v : Variablized) (b : Bool) → (letter_of v == 120) ≡ b → count_with 120 (before ++ v ∷ []) ≡ count_with 120 before + cond b (suc 0) 0
count_last before v b e = count_both 120 before (v ∷ []) ∙ ap (λ (b : Bool). count_with 120 before + cond b (suc 0) 0) e

own_fewer : (vs : List Variablized) → count_with 120 (filter is_own vs) ≤ count_with 120 vs
own_fewer [] = omega arith
own_fewer (of_own n ∷ vs) = omega (arith, own_fewer vs)
own_fewer (of_identifier s ∷ vs) = go (letter_of (of_identifier s) == 120) (own_fewer vs)
  where
    go : (b : Bool) → count_with 120 (filter is_own vs) ≤ count_with 120 vs → count_with 120 (filter is_own vs) ≤ cond b (suc (count_with 120 vs)) (count_with 120 vs)
    go true fewer = omega arith
    go false fewer = fewer

and_first : (a b : Bool) → (a && b) ≡ true → a ≡ true
and_first true b e = refl
and_first false b e = e

and_second : (a b : Bool) → (a && b) ≡ true → b ≡ true
and_second true b e = e
and_second false b e = absurd (cc)

module _ (words : Texts) where
  -- all numbers up to the count of x are in use
  numbers_known : (vs before : List Variablized) → list_all (has_text words) (names_from before vs) ≡ true → (k : ℕ) → count_with 120 before ≤ k → k < count_with 120 (before ++ vs)
      → has_text words (120 ∷ decimal (suc k)) ≡ true
  numbers_known [] before h k low high = absurd (omega (arith, count_both 120 before []))
  numbers_known (v ∷ vs) before h k low high =
      go (letter_of v == 120) refl
      (numbers_known vs (before ++ v ∷ []) (and_second (has_text words (letter_of v ∷ decimal (suc (count_with (letter_of v) before)))) (list_all (has_text words) (names_from (before ++ v ∷ []) vs)) h) k)
    where
      rest : k < count_with 120 ((before ++ v ∷ []) ++ vs)
      rest = subst (λ (l : List Variablized). k < count_with 120 l) (sym (append_assoc before (v ∷ []) vs)) high

      here : has_text words (letter_of v ∷ decimal (suc (count_with (letter_of v) before))) ≡ true
      here = and_first (has_text words (letter_of v ∷ decimal (suc (count_with (letter_of v) before)))) (list_all (has_text words) (names_from (before ++ v ∷ []) vs)) h

      own : letter_of v ≡ 120 → k ≡ count_with 120 before → has_text words (120 ∷ decimal (suc k)) ≡ true
      own e at =
          subst (λ n. has_text words (120 ∷ decimal (suc n)) ≡ true) (sym at)
          (subst (λ letter. has_text words (letter ∷ decimal (suc (count_with letter before))) ≡ true) e here)

      go : (b : Bool) → (letter_of v == 120) ≡ b
          → (count_with 120 (before ++ v ∷ []) ≤ k → k < count_with 120 ((before ++ v ∷ []) ++ vs) → has_text words (120 ∷ decimal (suc k)) ≡ true)
          → has_text words (120 ∷ decimal (suc k)) ≡ true
      go true e later =
          let last : count_with 120 (before ++ v ∷ []) ≡ count_with 120 before + 1 = count_last before v true e in
          elim (cases_lt (count_with 120 before) k) [
            | inl less ↦ later (omega arith) rest
            | inr most ↦ own (eqb→eq (letter_of v) 120 (passes (letter_of v == 120) e)) (omega arith)
          ]
      go false e later =
          let last : count_with 120 (before ++ v ∷ []) ≡ count_with 120 before + 0 = count_last before v false e in
          later (omega arith) rest

  own_named : (vs before : List Variablized) → ((k : ℕ) → k < count_with 120 (before ++ filter is_own vs) → has_text words (120 ∷ decimal (suc k)) ≡ true)
      → list_all (has_text words) (names_from before (filter is_own vs)) ≡ true
  own_named [] before h = refl
  own_named (of_identifier s ∷ vs) before h = own_named vs before h
  own_named (of_own n ∷ vs) before h =
      ap (λ b. b && list_all (has_text words) (names_from (before ++ of_own n ∷ []) (filter is_own vs)))
      (h (count_with 120 before) (omega (arith, count_both 120 before (of_own n ∷ filter is_own vs))))
      ∙ own_named vs (before ++ of_own n ∷ []) (λ k less. h k (subst (λ (l : List Variablized). k < count_with 120 l) (append_assoc before (of_own n ∷ []) (filter is_own vs)) less))

  own_known : (vs : List Variablized) → list_all (has_text words) (names_from [] vs) ≡ true → list_all (has_text words) (names_from [] (filter is_own vs)) ≡ true
  own_known vs h = own_named vs [] (λ k less. numbers_known vs [] h k (omega arith) (omega (arith, own_fewer vs)))

-- ---- the forms

-- a table with the names of the general form has those of the literal one
pub literal_known : (table words : Texts) (c : ChainOf) (depth : ℕ) → list_all (has_text table) (general_form words c depth).names ≡ true → list_all (has_text table) (literal_form words c depth).names ≡ true
unfolding general_form literal_form
literal_known table words c depth h =
    let o = ordered_grounds words c.grounds in
    let same =
    none_in_grounds (placed_tests o.taken (carried_tests c depth)) 0 o.taken (negations_taken_over c depth)
    ∙ sym (none_in_grounds (placed_tests (o.taken ++ o.left) (carried_tests c depth)) 0 (o.taken ++ o.left) (negations_taken_over c depth)) in
    subst (λ (vs : List Variablized). list_all (has_text table) (names_from [] vs) ≡ true) (own_of_form (conditions_of c depth o.taken) (conditions_of c depth (o.taken ++ o.left)) c.results same)
    (own_known table (each_variablized_once [] (variablized_in_conditions true (conditions_of c depth o.taken) ++ flat_map (variablized_in_wish true) c.results)) h)
