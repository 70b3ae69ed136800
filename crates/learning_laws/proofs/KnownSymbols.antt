-- What holds of all symbols of an explanation holds of the constants of the rule that it gives.
use Rattle.std.proofs.Common.{◌≡◌, refl, subst, ℕ, ◌+◌, ◌==◌, nat_lt, Bool, true, false, ◌&&◌, cond, inl, inr, ◌⊎◌, List, [], ◌∷◌, ◌++◌, map, flat_map, filter, Option, Some, None}
use Rattle.soar_sym.specs.declared.symbol.Sym.{Sym}
use Rattle.soar_rule.specs.declared.cond.Atom.{Atom}
use Rattle.soar_rule.specs.declared.cond.Atom.TheVariants.{Const, Var}
use Rattle.soar_rule.specs.declared.cond.Pattern.{Pattern}
use Rattle.soar_rule.specs.declared.cond.Relation.{Relation}
use Rattle.soar_rule.specs.declared.cond.Test.{Test}
use Rattle.soar_rule.specs.declared.cond.Test.TheVariants.{Plain, Rel, OneOf}
use Rattle.soar_rule.specs.Conditions.{Condition, positive, negated, conjunctive, Conditions, no_more, condition_and, all_of}
use Rattle.soar_rule.specs.Renaming.{test_with, pattern_with, condition_with, conditions_with, action_with, preference_with, value_with}
use Rattle.soar_rule.specs.Symbols.{constants_of, constants_of_action, constants_of_atom, constants_of_condition, constants_of_conditions, constants_of_field, constants_of_pattern, constants_of_referent, constants_of_test, constants_of_value}
use Rattle.soar_rule.specs.Variables.{bound_variables, referent_value, with_each, variables_of_condition}
use Rattle.soar_wm.specs.declared.element.Element.{Element}
use Rattle.defs_match.specs.Testing.{Bindings, symbol_at, symbol_of}
use Rattle.defs_soar.specs.declared.firing.Used.{Used}
use Rattle.defs_soar.specs.declared.preference.PrefKind.{PrefKind}
use Rattle.defs_soar.specs.declared.preference.PrefKind.TheVariants as kind
use Rattle.defs_soar.specs.declared.preference.Wish.{Wish}
use Rattle.defs_soar.specs.Architecture.{nil_word}
use Rattle.defs_soar.specs.Candidate.{action_of, conditions_from, conditions_of, preference_of, referent_symbol, with_variables, as_variable}
use Rattle.defs_soar.specs.CarriedTests.{Carried, carried_by, carried_tests, is_carried, is_of_symbols, occurrence, Placed, placed_at, placed_by, placed_tests, tests_at, tests_in, tests_of_conditions, tests_of_firing, tests_of_pattern}
use Rattle.defs_soar.specs.ChainIdentifiers.{firings_of}
use Rattle.defs_soar.specs.Dependencies.{symbols_of_referent, symbols_of_wish}
use Rattle.defs_soar.specs.History.{ChainOf, FiringOf}
use Rattle.defs_soar.specs.Laws.{IsIn}
use Rattle.defs_soar.specs.Negations.{bindings_in, bound_atom, is_superstate_negation, negations_in, negations_of, negations_taken_over, own_count, renumbered_from, superstate_negations, with_own_from, with_own_variables, without_repeats}
use Rattle.defs_soar.specs.Variablized.{of_identifier, Variablized}
use Rattle.defs_soar.specs.Ungrounded.{symbols_of_element}
use Rattle.defs_soar.specs.Uses.{elements_matched}
use Rattle.defs_soar.specs.Values.{is_identifier}
use Rattle.learning_laws.proofs.BindLaws.{matched_within}
use Rattle.learning_laws.proofs.ConflictLaws.{once_among}
use Rattle.learning_laws.proofs.FiringLaws.{from_paired}
use Rattle.learning_laws.proofs.Lists.{filter_within, in_append, in_flat_map, in_left, in_map, in_right}
use Rattle.learning_laws.proofs.PlacedLaws as placed_laws

module _ (P : Sym → Type 0) where
  abbrev pub All : List Sym → Type 0
  All xs = (t : Sym) → IsIn t xs → P t

  all_both : (xs ys : List Sym) → All xs → All ys → All (xs ++ ys)
  all_both xs ys h k t i = elim (in_append t xs ys i) [ inl j ↦ h t j | inr j ↦ k t j ]

  all_left : (xs ys : List Sym) → All (xs ++ ys) → All xs
  all_left xs ys h t i = h t (in_left t xs ys i)

  all_right : (xs ys : List Sym) → All (xs ++ ys) → All ys
  all_right xs ys h t i = h t (in_right t xs ys i)

  all_one : (s : Sym) → P s → All (s ∷ [])
  all_one s p t (inl q) = subst P q p
  all_one s p t (inr i) = absurd i

  -- ---- conditions under a map

  module _ (f : Atom → Atom) (kept : (a : Atom) → All (constants_of_atom a) → All (constants_of_atom (f a))) where
    test_kept : (t : Test) → All (constants_of_test t) → All (constants_of_test (test_with f t))
    test_kept (Plain a) h = kept a h
    test_kept (Rel r a) h = kept a h
    test_kept (OneOf symbols) h = h

    tests_kept : (ts : List Test) → All (flat_map constants_of_test ts) → All (flat_map constants_of_test (map (test_with f) ts))
    tests_kept [] h = h
    tests_kept (t ∷ ts) h =
        all_both (constants_of_test (test_with f t)) (flat_map constants_of_test (map (test_with f) ts)) (test_kept t (all_left (constants_of_test t) (flat_map constants_of_test ts) h))
        (tests_kept ts (all_right (constants_of_test t) (flat_map constants_of_test ts) h))

    pattern_kept : (p : Pattern) → All (constants_of_pattern p) → All (constants_of_pattern (pattern_with f p))
    pattern_kept p h =
        let rest = all_right (constants_of_field p.id) (constants_of_field p.attr ++ constants_of_field p.value) h in
        all_both (constants_of_field (pattern_with f p).id) (constants_of_field (pattern_with f p).attr ++ constants_of_field (pattern_with f p).value)
        (tests_kept p.id.tests (all_left (constants_of_field p.id) (constants_of_field p.attr ++ constants_of_field p.value) h))
        (all_both (constants_of_field (pattern_with f p).attr) (constants_of_field (pattern_with f p).value) (tests_kept p.attr.tests (all_left (constants_of_field p.attr) (constants_of_field p.value) rest))
        (tests_kept p.value.tests (all_right (constants_of_field p.attr) (constants_of_field p.value) rest)))

    mutual
      condition_kept : (c : Condition) → All (constants_of_condition c) → All (constants_of_condition (condition_with f c))
      condition_kept (positive p) h = pattern_kept p h
      condition_kept (negated p) h = pattern_kept p h
      condition_kept (conjunctive cs) h = conditions_kept cs h

      conditions_kept : (cs : Conditions) → All (constants_of_conditions cs) → All (constants_of_conditions (conditions_with f cs))
      conditions_kept no_more h = h
      conditions_kept (condition_and c cs) h =
          all_both (constants_of_condition (condition_with f c)) (constants_of_conditions (conditions_with f cs)) (condition_kept c (all_left (constants_of_condition c) (constants_of_conditions cs) h))
          (conditions_kept cs (all_right (constants_of_condition c) (constants_of_conditions cs) h))

    referent_kept : P nil_word → (r : Option Sym) → All (symbols_of_referent r) → All (constants_of_value (value_with f (referent_symbol r)))
    referent_kept n (Some s) h = kept (Const s) h
    referent_kept n None h = kept (Const nil_word) (all_one nil_word n)

    preference_kept : P nil_word → (k : PrefKind) (r : Option Sym) → All (symbols_of_referent r) → All (constants_of_referent (referent_value (preference_with f (preference_of k r))))
    preference_kept n kind.Better r h = referent_kept n r h
    preference_kept n kind.Worse r h = referent_kept n r h
    preference_kept n kind.Numeric r h = referent_kept n r h
    preference_kept n kind.IndifferentTo r h = referent_kept n r h
    preference_kept n kind.Accept r h = λ t i. absurd i
    preference_kept n kind.Require r h = λ t i. absurd i
    preference_kept n kind.Reject r h = λ t i. absurd i
    preference_kept n kind.Prohibit r h = λ t i. absurd i
    preference_kept n kind.Best r h = λ t i. absurd i
    preference_kept n kind.Worst r h = λ t i. absurd i
    preference_kept n kind.Indifferent r h = λ t i. absurd i

    actions_kept : P nil_word → (ws : List Wish) → All (flat_map symbols_of_wish ws) → All (flat_map constants_of_action (map (λ w. action_with f (action_of w)) ws))
    actions_kept n [] h = h
    actions_kept n (w ∷ ws) h =
        let here = all_left (symbols_of_wish w) (flat_map symbols_of_wish ws) h in
        let referent = constants_of_referent (referent_value (preference_with f (preference_of w.kind w.referent))) in
        all_both (constants_of_action (action_with f (action_of w))) (flat_map constants_of_action (map (λ w. action_with f (action_of w)) ws))
        (all_both (constants_of_atom (f (Const w.id))) (constants_of_atom (f (Const w.attr)) ++ (constants_of_atom (f (Const w.value)) ++ referent)) (kept (Const w.id) (all_one w.id (here w.id (inl refl))))
        (all_both (constants_of_atom (f (Const w.attr))) (constants_of_atom (f (Const w.value)) ++ referent) (kept (Const w.attr) (all_one w.attr (here w.attr (inr (inl refl)))))
        (all_both (constants_of_atom (f (Const w.value))) referent (kept (Const w.value) (all_one w.value (here w.value (inr (inr (inl refl))))))
        (preference_kept n w.kind w.referent (λ t i. here t (inr (inr (inr i))))))))
        (actions_kept n ws (all_right (symbols_of_wish w) (flat_map symbols_of_wish ws) h))

  variables_kept : (general : Bool) (variablized : List Variablized) (a : Atom) → All (constants_of_atom a) → All (constants_of_atom (with_variables general variablized a))
  variables_kept general variablized (Var v) h = λ t i. absurd i
  variables_kept general variablized (Const s) h = go (general && is_identifier s)
    where
      go : (b : Bool) → All (constants_of_atom (as_variable variablized (Const s) (cond b (of_identifier s ∷ []) [])))
      go true = λ t i. absurd i
      go false = h

  bound_kept : (bs : Bindings) → ((v : ℕ) (s : Sym) → symbol_of v bs ≡ Some s → P s) → (a : Atom) → All (constants_of_atom a) → All (constants_of_atom (bound_atom bs a))
  bound_kept bs k (Const s) h = h
  bound_kept bs k (Var v) h = go (symbol_of v bs) refl
    where
      go : (o : Option Sym) → symbol_of v bs ≡ o → All (constants_of_atom (elim o [ Some s ↦ Const s | None ↦ Var v ]))
      go (Some s) q = all_one s (k v s q)
      go None q = λ t i. absurd i

  numbered_kept : (first : ℕ) (order : List ℕ) (a : Atom) → All (constants_of_atom a) → All (constants_of_atom (renumbered_from first order a))
  numbered_kept first order (Const s) h = h
  numbered_kept first order (Var v) h = h

  own_kept : (first : ℕ) (d : Condition) → All (constants_of_condition d) → All (constants_of_condition (with_own_from first d))
  own_kept first d h = condition_kept (renumbered_from first (with_each [] (variables_of_condition d))) (numbered_kept first (with_each [] (variables_of_condition d))) d h

  all_own_kept : (first : ℕ) (ds : List Condition) → ((e : Condition) → IsIn e ds → All (constants_of_condition e)) → (d : Condition) → IsIn d (with_own_variables first ds) → All (constants_of_condition d)
  all_own_kept first [] h d i = absurd i
  all_own_kept first (e ∷ ds) h d (inl q) = subst (λ x. All (constants_of_condition x)) q (own_kept first e (h e (inl refl)))
  all_own_kept first (e ∷ ds) h d (inr i) = all_own_kept (first + own_count e) ds (λ x j. h x (inr j)) d i

  negation_all : (cs : Conditions) (d : Condition) → IsIn d (negations_in cs) → All (constants_of_conditions cs) → All (constants_of_condition d)
  negation_all no_more d i h = absurd i
  negation_all (condition_and (positive p) cs) d i h = negation_all cs d i (all_right (constants_of_pattern p) (constants_of_conditions cs) h)
  negation_all (condition_and (negated p) cs) d (inl q) h = subst (λ x. All (constants_of_condition x)) q (all_left (constants_of_pattern p) (constants_of_conditions cs) h)
  negation_all (condition_and (negated p) cs) d (inr i) h = negation_all cs d i (all_right (constants_of_pattern p) (constants_of_conditions cs) h)
  negation_all (condition_and (conjunctive inside) cs) d (inl q) h = subst (λ x. All (constants_of_condition x)) q (all_left (constants_of_conditions inside) (constants_of_conditions cs) h)
  negation_all (condition_and (conjunctive inside) cs) d (inr i) h = negation_all cs d i (all_right (constants_of_conditions inside) (constants_of_conditions cs) h)

  -- ---- carried tests

  abbrev Both : List Carried → Type 0
  Both ts = (t : Carried) → IsIn t ts → P t.field × P t.referent

  both_both : (ts us : List Carried) → Both ts → Both us → Both (ts ++ us)
  both_both ts us h k t i = elim (in_append t ts us i) [ inl j ↦ h t j | inr j ↦ k t j ]

  carried_both : (r : Relation) (s t : Sym) → P s → P t → (b : Bool) → Both (cond b (record { relation = r; field = s; referent = t } ∷ []) [])
  carried_both r s t p q true x (inl e) = subst (λ (y : Carried). P y.field × P y.referent) e (p, q)
  carried_both r s t p q true x (inr i) = absurd i
  carried_both r s t p q false x i = absurd i

  module _ (bs : Bindings) (bound : (v : ℕ) (s : Sym) → symbol_of v bs ≡ Some s → P s) where
    one_both : (r : Relation) (s : Sym) (a : Atom) → P s → All (constants_of_atom a) → Both (carried_by r s (symbol_at a bs))
    one_both r s (Const t) p h = carried_both r s t p (h t (inl refl)) (is_of_symbols r)
    one_both r s (Var v) p h = go (symbol_of v bs) refl
      where
        go : (o : Option Sym) → symbol_of v bs ≡ o → Both (carried_by r s o)
        go None q = λ x i. absurd i
        go (Some t) q = carried_both r s t p (bound v t q) (is_of_symbols r)

    field_both : (ts : List Test) (s : Sym) → P s → All (flat_map constants_of_test ts) → Both (tests_in bs s ts)
    field_both [] s p h = λ x i. absurd i
    field_both (Plain a ∷ ts) s p h = field_both ts s p (all_right (constants_of_atom a) (flat_map constants_of_test ts) h)
    field_both (OneOf symbols ∷ ts) s p h = field_both ts s p (all_right symbols (flat_map constants_of_test ts) h)
    field_both (Rel r a ∷ ts) s p h =
        both_both (carried_by r s (symbol_at a bs)) (tests_in bs s ts) (one_both r s a p (all_left (constants_of_atom a) (flat_map constants_of_test ts) h))
        (field_both ts s p (all_right (constants_of_atom a) (flat_map constants_of_test ts) h))

    conditions_both : (cs : Conditions) (elements : List Element) → ((e : Element) → IsIn e elements → All (symbols_of_element e)) → All (constants_of_conditions cs) → Both (tests_of_conditions bs cs elements)
    conditions_both no_more elements h k = λ x i. absurd i
    conditions_both (condition_and (positive p) cs) [] h k = λ x i. absurd i
    conditions_both (condition_and (positive p) cs) (e ∷ elements) h k =
        let here = all_left (constants_of_pattern p) (constants_of_conditions cs) k in
        let rest = all_right (constants_of_field p.id) (constants_of_field p.attr ++ constants_of_field p.value) here in
        both_both (tests_of_pattern bs p e) (tests_of_conditions bs cs elements)
        (both_both (tests_in bs e.id p.id.tests) (tests_in bs e.attr p.attr.tests ++ tests_in bs e.value p.value.tests)
        (field_both p.id.tests e.id (h e (inl refl) e.id (inl refl)) (all_left (constants_of_field p.id) (constants_of_field p.attr ++ constants_of_field p.value) here))
        (both_both (tests_in bs e.attr p.attr.tests) (tests_in bs e.value p.value.tests)
        (field_both p.attr.tests e.attr (h e (inl refl) e.attr (inr (inl refl))) (all_left (constants_of_field p.attr) (constants_of_field p.value) rest))
        (field_both p.value.tests e.value (h e (inl refl) e.value (inr (inr (inl refl)))) (all_right (constants_of_field p.attr) (constants_of_field p.value) rest))))
        (conditions_both cs elements (λ x i. h x (inr i)) (all_right (constants_of_pattern p) (constants_of_conditions cs) k))
    conditions_both (condition_and (negated p) cs) elements h k = conditions_both cs elements h (all_right (constants_of_pattern p) (constants_of_conditions cs) k)
    conditions_both (condition_and (conjunctive inside) cs) elements h k = conditions_both cs elements h (all_right (constants_of_conditions inside) (constants_of_conditions cs) k)

  -- ---- placed tests

  placed_one : (t : Carried) (n m : Option ℕ) → P t.field → P t.referent → (p : Placed) → IsIn p (placed_by t n m) → P p.right
  placed_one t None None f r p i = absurd i
  placed_one t (Some n) None f r p (inl e) = subst (λ (x : Placed). P x.right) e r
  placed_one t (Some n) None f r p (inr i) = absurd i
  placed_one t None (Some m) f r p (inl e) = subst (λ (x : Placed). P x.right) e f
  placed_one t None (Some m) f r p (inr i) = absurd i
  placed_one t (Some n) (Some m) f r p i = go (nat_lt n m) i
    where
      go : (b : Bool) → IsIn p (cond b (placed_at m t.relation t.field ∷ []) (placed_at n t.relation t.referent ∷ [])) → P p.right
      go true (inl e) = subst (λ (x : Placed). P x.right) e f
      go true (inr j) = absurd j
      go false (inl e) = subst (λ (x : Placed). P x.right) e r
      go false (inr j) = absurd j

  placed_all : (elements : List Element) (tests : List Carried) → Both tests → (p : Placed) → IsIn p (placed_tests elements tests) → P p.right
  placed_all elements tests h p i =
      elim (placed_laws.once_among [] (flat_map (λ t. placed_by t (occurrence elements t.field) (occurrence elements t.referent)) tests) p i) [
        | inl j ↦ absurd j
        | inr j ↦ let found = in_flat_map (λ t. placed_by t (occurrence elements t.field) (occurrence elements t.referent)) p tests j in
            let k = h found.0 found.1 in placed_one found.0 (occurrence elements found.0.field) (occurrence elements found.0.referent) k.0 k.1 p found.2
      ]

  placed_constants : (ps : List Placed) → ((p : Placed) → IsIn p ps → P p.right) → All (flat_map constants_of_test (map (λ p. Rel p.relation (Const p.right)) ps))
  placed_constants [] h = λ t i. absurd i
  placed_constants (p ∷ ps) h = all_both (p.right ∷ []) (flat_map constants_of_test (map (λ p. Rel p.relation (Const p.right)) ps)) (all_one p.right (h p (inl refl))) (placed_constants ps (λ q i. h q (inr i)))

  each_all : (ds : List Condition) → ((d : Condition) → IsIn d ds → All (constants_of_condition d)) → All (constants_of_conditions (all_of ds))
  each_all [] h = λ t i. absurd i
  each_all (d ∷ ds) h = all_both (constants_of_condition d) (constants_of_conditions (all_of ds)) (h d (inl refl)) (each_all ds (λ e i. h e (inr i)))

  module _ (placed : List Placed) (rights : (p : Placed) → IsIn p placed → P p.right) where
    at_all : (n : ℕ) (s : Sym) → P s → All (s ∷ flat_map constants_of_test (tests_at placed n))
    at_all n s p = all_both (s ∷ []) (flat_map constants_of_test (tests_at placed n)) (all_one s p) (placed_constants (filter (λ p. p.at == n) placed) (λ q i. rights q (filter_within (λ p. p.at == n) placed q i).0))

    from_all : (first : ℕ) (elements : List Element) (ds : List Condition) → ((e : Element) → IsIn e elements → All (symbols_of_element e)) → ((d : Condition) → IsIn d ds → All (constants_of_condition d))
        → All (constants_of_conditions (all_of (conditions_from placed first elements ++ ds)))
    from_all first [] ds h k = each_all ds k
    from_all first (e ∷ elements) ds h k =
        let here = h e (inl refl) in
        let at_id = e.id ∷ flat_map constants_of_test (tests_at placed first) in
        let at_attr = e.attr ∷ flat_map constants_of_test (tests_at placed (first + 1)) in
        let at_value = e.value ∷ flat_map constants_of_test (tests_at placed (first + 2)) in
        all_both (at_id ++ (at_attr ++ at_value)) (constants_of_conditions (all_of (conditions_from placed (first + 3) elements ++ ds)))
        (all_both at_id (at_attr ++ at_value) (at_all first e.id (here e.id (inl refl)))
        (all_both at_attr at_value (at_all (first + 1) e.attr (here e.attr (inr (inl refl)))) (at_all (first + 2) e.value (here e.value (inr (inr (inl refl)))))))
        (from_all (first + 3) elements ds (λ x i. h x (inr i)) k)

  -- ---- the rule of an explanation

  pub record Holds (f : FiringOf) : Type 0 where
    pub own : All (f.instance.binds ++ constants_of f.rule.production)
    pub used : (e : Element) → IsIn e (map (λ (u : Used). u.element) f.used) → All (symbols_of_element e)

  module _ (c : ChainOf) (depth : ℕ) (firings : (f : FiringOf) → IsIn f (firings_of c) → Holds f) where
    bound_all : (f : FiringOf) → Holds f → (v : ℕ) (s : Sym) → symbol_of v (bindings_in f) ≡ Some s → P s
    bound_all f h v s q = h.own s (in_left s f.instance.binds (constants_of f.rule.production) (from_paired (bound_variables f.rule.production.conditions) f.instance.binds v s q))

    rule_all : (f : FiringOf) → Holds f → All (constants_of_conditions f.rule.production.conditions)
    rule_all f h =
        all_left (constants_of_conditions f.rule.production.conditions) (flat_map constants_of_action f.rule.production.actions) (all_right f.instance.binds (constants_of f.rule.production) h.own)

    carried_all : Both (carried_tests c depth)
    unfolding carried_tests
    carried_all t i =
        let among = filter_within (is_carried c depth) (flat_map tests_of_firing (firings_of c)) t i in
        let found = in_flat_map tests_of_firing t (firings_of c) among.0 in
        let f = found.0 in
        let h = firings f found.1 in
        conditions_both (bindings_in f) (bound_all f h) f.rule.production.conditions (elements_matched (map (λ u. u.element) f.used) f.instance.tags)
        (λ e j. h.used e (matched_within (map (λ u. u.element) f.used) f.instance.tags e j)) (rule_all f h) t found.2

    taken_all : (d : Condition) → IsIn d (negations_taken_over c depth) → All (constants_of_condition d)
    unfolding negations_taken_over
    taken_all d i =
        all_own_kept 0 (without_repeats [] (flat_map (superstate_negations c depth) (firings_of c)))
        (λ e j. each e (once_among [] (flat_map (superstate_negations c depth) (firings_of c)) e j)) d i
      where
        each : (e : Condition) → IsIn e [] ⊎ IsIn e (flat_map (superstate_negations c depth) (firings_of c)) → All (constants_of_condition e)
        each e (inl j) = absurd j
        each e (inr j) =
            let f = in_flat_map (superstate_negations c depth) e (firings_of c) j in
            let m = in_map (λ d. with_own_from 0 (condition_with (bound_atom (bindings_in f.0)) d)) e (filter (is_superstate_negation c depth f.0) (negations_of f.0)) f.2 in
            let among = filter_within (is_superstate_negation c depth f.0) (negations_of f.0) m.0 m.1 in
            let h = firings f.0 f.1 in
            subst (λ x. All (constants_of_condition x)) m.2
            (own_kept 0 (condition_with (bound_atom (bindings_in f.0)) m.0)
            (condition_kept (bound_atom (bindings_in f.0)) (bound_kept (bindings_in f.0) (bound_all f.0 h)) m.0 (negation_all f.0.rule.production.conditions m.0 among.0 (rule_all f.0 h))))

    pub form_all : (general : Bool) (variablized : List Variablized) (elements : List Element) → ((e : Element) → IsIn e elements → All (symbols_of_element e)) → All (flat_map symbols_of_wish c.results) → P nil_word
        → All (constants_of_conditions (conditions_with (with_variables general variablized) (conditions_of c depth elements)) ++ flat_map constants_of_action (map (λ w. action_with (with_variables general variablized) (action_of w)) c.results))
    form_all general variablized elements h r n =
        all_both (constants_of_conditions (conditions_with (with_variables general variablized) (conditions_of c depth elements))) (flat_map constants_of_action (map (λ w. action_with (with_variables general variablized) (action_of w)) c.results))
        (conditions_kept (with_variables general variablized) (variables_kept general variablized) (conditions_of c depth elements)
        (from_all (placed_tests elements (carried_tests c depth)) (placed_all elements (carried_tests c depth) carried_all) 0 elements (negations_taken_over c depth) h taken_all))
        (actions_kept (with_variables general variablized) (variables_kept general variablized) n c.results r)
