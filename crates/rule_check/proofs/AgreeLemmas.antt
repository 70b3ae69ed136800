-- Readiness and order see of the bound variables only whether a condition's own are among them.
use Rattle.std.proofs.Common.{◌≡◌, ℕ, zero, suc, Bool, true, false, ◌&&◌, ◌||◌, ◌==◌, not, List, [], ◌∷◌, ◌++◌, flat_map, refl, sym, ap, subst, ◌∙◌}
use Rattle.std.specs.Prelude.{Option, Some, if◌then◌else◌}
use Rattle.std.specs.List.{list_any}
use Rattle.soar_sym.specs.Equality.{mark_eq}
use Rattle.soar_rule.specs.declared.cond.Test.{Test}
use Rattle.soar_rule.specs.declared.cond.Pattern.{Pattern}
use Rattle.soar_rule.specs.Conditions.{Condition, positive, negated, conjunctive, Conditions, no_more, condition_and, all_of}
use Rattle.soar_rule.specs.MatchOrder.{or_else, first_unknown, missing_in, is_linked, waits_for, Readiness, is_ready, lacks, is_unlinked, Taken, nothing_taken, with_condition, unless_missing, is_positive, count_of, readiness, one_taken, first_lack}
use Rattle.soar_rule.specs.Repeat.{repeated}
use Rattle.soar_rule.specs.Variables.{is_among, plain_in_test, related_in_test, variables_of_test, plain_in, related_in, variables_of_field, variables_of_pattern, variables_of_condition, variables_of_conditions, bound_by, plain_outside}
use Rattle.soar_rule.proofs.VariableLemmas.{among_joined}
use Rattle.rule_check.specs.Agreeing.{AllHave, AgreeOn, SameMembers, Agree}

-- ---- properties of the variables of a list

pub have_front : (P : ℕ → Type 0) (vs ws : List ℕ) → AllHave P (vs ++ ws) → AllHave P vs
have_front P [] ws all = tt
have_front P (v ∷ vs) ws all = (all.0, have_front P vs ws all.1)

pub have_back : (P : ℕ → Type 0) (vs ws : List ℕ) → AllHave P (vs ++ ws) → AllHave P ws
have_back P [] ws all = all
have_back P (v ∷ vs) ws all = have_back P vs ws all.1

pub have_both : (P : ℕ → Type 0) (vs ws : List ℕ) → AllHave P vs → AllHave P ws → AllHave P (vs ++ ws)
have_both P [] ws one two = two
have_both P (v ∷ vs) ws one two = (one.0, have_both P vs ws one.1 two)

have_plain : (P : ℕ → Type 0) (tests : List Test) → AllHave P (flat_map variables_of_test tests) → AllHave P (flat_map plain_in_test tests)
have_plain P [] all = tt
have_plain P (t ∷ tests) all =
    have_both P (plain_in_test t) (flat_map plain_in_test tests)
    (have_front P (plain_in_test t) (related_in_test t) (have_front P (variables_of_test t) (flat_map variables_of_test tests) all))
    (have_plain P tests (have_back P (variables_of_test t) (flat_map variables_of_test tests) all))

have_related : (P : ℕ → Type 0) (tests : List Test) → AllHave P (flat_map variables_of_test tests) → AllHave P (flat_map related_in_test tests)
have_related P [] all = tt
have_related P (t ∷ tests) all =
    have_both P (related_in_test t) (flat_map related_in_test tests)
    (have_back P (plain_in_test t) (related_in_test t) (have_front P (variables_of_test t) (flat_map variables_of_test tests) all))
    (have_related P tests (have_back P (variables_of_test t) (flat_map variables_of_test tests) all))

-- ---- lists that agree

module _ (P : ℕ → Type 0) where
  pub agree_joined : (vs ws more : List ℕ) → AgreeOn P vs ws → AgreeOn P (vs ++ more) (ws ++ more)
  agree_joined vs ws more same v has = among_joined vs more v ∙ ap (λ b. b || is_among more v) (same v has) ∙ sym (among_joined ws more v)

  unknown_agrees : (known also : List ℕ) → AgreeOn P known also → (vs : List ℕ) → AllHave P vs → first_unknown known vs ≡ first_unknown also vs
  unknown_agrees known also same [] all = refl
  unknown_agrees known also same (v ∷ vs) all =
      by (is_among known v) (is_among also v) (same v all.0) (unknown_agrees known also same vs all.1)
    where
      by : (a b : Bool) → a ≡ b → first_unknown known vs ≡ first_unknown also vs → (if a then first_unknown known vs else Some v) ≡ (if b then first_unknown also vs else Some v)
      by true true e rest = rest
      by false false e rest = refl
      by true false e rest = cc
      by false true e rest = cc

  missing_agrees : (bound also : List ℕ) → AgreeOn P bound also → (p : Pattern) → AllHave P (variables_of_pattern p) → missing_in bound p ≡ missing_in also p
  missing_agrees bound also same p all =
      let ids = variables_of_field p.id in
      let attrs = variables_of_field p.attr in
      let values = variables_of_field p.value in
      let later = have_back P ids (attrs ++ values) all in
      let at_id = agree_joined bound also (plain_in p.id) same in
      let at_attr = agree_joined (bound ++ plain_in p.id) (also ++ plain_in p.id) (plain_in p.attr) at_id in
      let at_value = agree_joined ((bound ++ plain_in p.id) ++ plain_in p.attr) ((also ++ plain_in p.id) ++ plain_in p.attr) (plain_in p.value) at_attr in
      let one : first_unknown (bound ++ plain_in p.id) (related_in p.id) ≡ first_unknown (also ++ plain_in p.id) (related_in p.id) =
      unknown_agrees (bound ++ plain_in p.id) (also ++ plain_in p.id) at_id (related_in p.id) (have_related P p.id.tests (have_front P ids (attrs ++ values) all)) in
      let two : first_unknown ((bound ++ plain_in p.id) ++ plain_in p.attr) (related_in p.attr) ≡ first_unknown ((also ++ plain_in p.id) ++ plain_in p.attr) (related_in p.attr) =
      unknown_agrees ((bound ++ plain_in p.id) ++ plain_in p.attr) ((also ++ plain_in p.id) ++ plain_in p.attr) at_attr (related_in p.attr) (have_related P p.attr.tests (have_front P attrs values later)) in
      let three : first_unknown (((bound ++ plain_in p.id) ++ plain_in p.attr) ++ plain_in p.value) (related_in p.value) ≡ first_unknown (((also ++ plain_in p.id) ++ plain_in p.attr) ++ plain_in p.value) (related_in p.value) =
      unknown_agrees (((bound ++ plain_in p.id) ++ plain_in p.attr) ++ plain_in p.value) (((also ++ plain_in p.id) ++ plain_in p.attr) ++ plain_in p.value) at_value (related_in p.value) (have_related P p.value.tests (have_back P attrs values later)) in
      cc

  any_agrees : (bound also : List ℕ) → AgreeOn P bound also → (vs : List ℕ) → AllHave P vs → list_any (is_among bound) vs ≡ list_any (is_among also) vs
  any_agrees bound also same [] all = refl
  any_agrees bound also same (v ∷ vs) all = ap (λ b. b || list_any (is_among bound) vs) (same v all.0) ∙ ap (λ b. is_among also v || b) (any_agrees bound also same vs all.1)

  linked_agrees : (bound also : List ℕ) → AgreeOn P bound also → (p : Pattern) → AllHave P (variables_of_pattern p) → is_linked bound p ≡ is_linked also p
  linked_agrees bound also same p all =
      ap (λ b. p.state || b) (any_agrees bound also same (plain_in p.id) (have_plain P p.id.tests (have_front P (variables_of_field p.id) (variables_of_field p.attr ++ variables_of_field p.value) all)))

  pub waits_agrees : (outside beside bound also : List ℕ) → SameMembers outside beside → AgreeOn P bound also → (vs : List ℕ) → AllHave P vs → waits_for outside bound vs ≡ waits_for beside also vs
  waits_agrees outside beside bound also around same [] all = refl
  waits_agrees outside beside bound also around same (v ∷ vs) all =
      by (is_among outside v && not (is_among bound v)) (is_among beside v && not (is_among also v))
      (ap (λ b. b && not (is_among bound v)) (around v) ∙ ap (λ b. is_among beside v && not b) (same v all.0))
      (waits_agrees outside beside bound also around same vs all.1)
    where
      by : (a b : Bool) → a ≡ b → waits_for outside bound vs ≡ waits_for beside also vs
          → (if a then Some v else waits_for outside bound vs) ≡ (if b then Some v else waits_for beside also vs)
      by true true e rest = refl
      by false false e rest = rest
      by true false e rest = cc
      by false true e rest = cc

  pub with_agrees : (place : ℕ) (c d : Condition) (t u : Taken) → c ≡ d → Agree P t u → Agree P (with_condition place c t) (with_condition place d u)
  with_agrees place c d t u same agree = record {
    places = λ n. ap (λ b. (n == place) || b) (agree.places n);
    order = ap (λ cs. cs ++ c ∷ []) agree.order ∙ ap (λ e. u.order ++ e ∷ []) same;
    bound = λ v has. agree_joined t.bound u.bound (bound_by c) agree.bound v has ∙ ap (λ e. is_among (u.bound ++ bound_by e) v) same;
  }

  pub repeated_agrees : (f g : Taken → Taken) → ((t u : Taken) → Agree P t u → Agree P (f t) (g u)) → (n : ℕ) (t u : Taken) → Agree P t u → Agree P (repeated n f t) (repeated n g u)
  repeated_agrees f g step zero t u agree = agree
  repeated_agrees f g step (suc n) t u agree = repeated_agrees f g step n (f t) (g u) (step t u agree)

-- ---- one condition of a list, and the rest

-- what is taken where a condition's place is taken, or its readiness is this
abbrev pub one_or_rest : Bool → Readiness → ℕ → Taken → Taken → Taken
one_or_rest taken r place t rest = if taken then rest else elim r [ is_ready d ↦ with_condition place d t | lacks v ↦ rest | is_unlinked ↦ rest ]

-- what the first condition lacks, or the rest
abbrev pub lack_or_rest : Bool → Readiness → Option ℕ → Option ℕ
lack_or_rest passed r rest = if passed then rest else elim r [ is_ready d ↦ rest | lacks v ↦ Some v | is_unlinked ↦ rest ]

module _ (P : ℕ → Type 0) where
  one_agrees : (a b : Bool) → a ≡ b → (r s : Readiness) → r ≡ s → (place : ℕ) (t u rest also : Taken) → Agree P t u → Agree P rest also
      → Agree P (one_or_rest a r place t rest) (one_or_rest b s place u also)
  one_agrees a b e r s f place t u rest also agree later =
      subst (λ s. Agree P (one_or_rest a r place t rest) (one_or_rest b s place u also)) f
      (subst (λ b. Agree P (one_or_rest a r place t rest) (one_or_rest b r place u also)) e (by a r))
    where
      by : (a : Bool) (r : Readiness) → Agree P (one_or_rest a r place t rest) (one_or_rest a r place u also)
      by true r = later
      by false (is_ready d) = with_agrees P place d d t u refl agree
      by false (lacks v) = later
      by false is_unlinked = later

  mutual
    pub readiness_agrees : (c : Condition) → AllHave P (variables_of_condition c) → (inside : Bool) (outside beside bound also : List ℕ) → SameMembers outside beside → AgreeOn P bound also
        → readiness c inside outside bound ≡ readiness c inside beside also
    readiness_agrees (positive p) all inside outside beside bound also around same =
        ap (λ b. if inside || b then unless_missing (missing_in bound p) (positive p) else is_unlinked) (linked_agrees P bound also same p all)
        ∙ ap (λ m. if inside || is_linked also p then unless_missing m (positive p) else is_unlinked) (missing_agrees P bound also same p all)
    readiness_agrees (negated p) all inside outside beside bound also around same =
        ap (λ w. unless_missing (or_else w (missing_in bound p)) (negated p)) (waits_agrees P outside beside bound also around same (variables_of_pattern p) all)
        ∙ ap (λ m. unless_missing (or_else (waits_for beside also (variables_of_pattern p)) m) (negated p)) (missing_agrees P bound also same p all)
    readiness_agrees (conjunctive cs) all inside outside beside bound also around same =
        let step = λ (t : Taken). one_taken cs true (plain_outside cs) 0 t in
        let t = repeated (count_of cs) step (nothing_taken bound) in
        let u = repeated (count_of cs) step (nothing_taken also) in
        let start : Agree P (nothing_taken bound) (nothing_taken also) = record { places = λ n. refl; order = refl; bound = same } in
        let agree = repeated_agrees P step step (λ t u h. one_taken_agrees cs all true (plain_outside cs) (plain_outside cs) (λ n. refl) 0 t u h) (count_of cs) (nothing_taken bound) (nothing_taken also) start in
        let rest = λ (t : Taken). or_else (first_lack cs true true (plain_outside cs) 0 t) (first_lack cs false true (plain_outside cs) 0 t) in
        ap (λ w. unless_missing (or_else w (rest t)) (conjunctive (all_of t.order))) (waits_agrees P outside beside bound also around same (variables_of_conditions cs) all)
        ∙ ap (λ m. unless_missing (or_else (waits_for beside also (variables_of_conditions cs)) (or_else m (first_lack cs false true (plain_outside cs) 0 t))) (conjunctive (all_of t.order)))
        (first_lack_agrees cs all true true (plain_outside cs) (plain_outside cs) (λ n. refl) 0 t u agree)
        ∙ ap (λ m. unless_missing (or_else (waits_for beside also (variables_of_conditions cs)) (or_else (first_lack cs true true (plain_outside cs) 0 u) m)) (conjunctive (all_of t.order)))
        (first_lack_agrees cs all false true (plain_outside cs) (plain_outside cs) (λ n. refl) 0 t u agree)
        ∙ ap (λ ds. unless_missing (or_else (waits_for beside also (variables_of_conditions cs)) (rest u)) (conjunctive (all_of ds))) agree.order

    pub one_taken_agrees : (cs : Conditions) → AllHave P (variables_of_conditions cs) → (inside : Bool) (outside beside : List ℕ) → SameMembers outside beside → (place : ℕ) (t u : Taken) → Agree P t u
        → Agree P (one_taken cs inside outside place t) (one_taken cs inside beside place u)
    one_taken_agrees no_more all inside outside beside around place t u agree = agree
    one_taken_agrees (condition_and c cs) all inside outside beside around place t u agree =
        one_agrees (is_among t.places place) (is_among u.places place) (agree.places place)
        (readiness c inside outside t.bound) (readiness c inside beside u.bound)
        (readiness_agrees c (have_front P (variables_of_condition c) (variables_of_conditions cs) all) inside outside beside t.bound u.bound around agree.bound)
        place t u (one_taken cs inside outside (suc place) t) (one_taken cs inside beside (suc place) u) agree
        (one_taken_agrees cs (have_back P (variables_of_condition c) (variables_of_conditions cs) all) inside outside beside around (suc place) t u agree)

    pub first_lack_agrees : (cs : Conditions) → AllHave P (variables_of_conditions cs) → (among_positive inside : Bool) (outside beside : List ℕ) → SameMembers outside beside → (place : ℕ) (t u : Taken) → Agree P t u
        → first_lack cs among_positive inside outside place t ≡ first_lack cs among_positive inside beside place u
    first_lack_agrees no_more all among_positive inside outside beside around place t u agree = refl
    first_lack_agrees (condition_and c cs) all among_positive inside outside beside around place t u agree =
        ap (λ b. lack_or_rest (b || not (mark_eq (is_positive c) among_positive)) (readiness c inside outside t.bound) (first_lack cs among_positive inside outside (suc place) t)) (agree.places place)
        ∙ ap (λ r. lack_or_rest (is_among u.places place || not (mark_eq (is_positive c) among_positive)) r (first_lack cs among_positive inside outside (suc place) t))
        (readiness_agrees c (have_front P (variables_of_condition c) (variables_of_conditions cs) all) inside outside beside t.bound u.bound around agree.bound)
        ∙ ap (λ rest. lack_or_rest (is_among u.places place || not (mark_eq (is_positive c) among_positive)) (readiness c inside beside u.bound) rest)
        (first_lack_agrees cs (have_back P (variables_of_condition c) (variables_of_conditions cs) all) among_positive inside outside beside around (suc place) t u agree)
