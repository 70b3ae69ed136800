-- The first variable without a mark is the first that is not among those with one.
use Rattle.std.proofs.Common.{◌≡◌, ◌<◌, ℕ, ◌+◌, Bool, true, false, List, [], ◌∷◌, ◌++◌, Option, Some, length, get_or, drop, map, flat_map, cond, refl, ap, sym, ◌∙◌, add-one, drop-cons}
use Rattle.soar_rule.specs.MatchOrder.{first_unknown, or_else}
use Rattle.soar_rule.specs.Productions.{ValueOf, value_seen, values_of}
use Rattle.soar_rule.specs.declared.action.Value.{Value}
use Rattle.soar_rule.specs.Variables.{is_among, variables_of_value, variables_of_values}
use Rattle.rule_check.specs.Marking.{AreMarked, is_marked}
use Rattle.rule_check.specs.Unmarked.{first_unmarked}

either_first : (b : Bool) (later more : Option ℕ) (v : ℕ) → cond b (or_else later more) (Some v) ≡ or_else (cond b later (Some v)) more
either_first true later more v = refl
either_first false later more v = refl

pub first_unmarked_joined : (marks : List Bool) (vs ws : List ℕ) → first_unmarked marks (vs ++ ws) ≡ or_else (first_unmarked marks vs) (first_unmarked marks ws)
first_unmarked_joined marks [] ws = refl
first_unmarked_joined marks (v ∷ vs) ws =
    ap (λ o. cond (is_marked marks v) o (Some v)) (first_unmarked_joined marks vs ws)
    ∙ either_first (is_marked marks v) (first_unmarked marks vs) (first_unmarked marks ws) v

pub first_unmarked_is : (marks : List Bool) (known vs : List ℕ) → AreMarked marks known → first_unmarked marks vs ≡ first_unknown known vs
first_unmarked_is marks known [] marked = refl
first_unmarked_is marks known (v ∷ vs) marked =
    ap (λ b. cond b (first_unmarked marks vs) (Some v)) (marked v) ∙ ap (λ o. cond (is_among known v) o (Some v)) (first_unmarked_is marks known vs marked)

pub variables_of_list : (values : List ValueOf) → flat_map variables_of_value values ≡ variables_of_values (values_of values)
variables_of_list [] = refl
variables_of_list (v ∷ values) = ap (λ vs. variables_of_value v ++ vs) (variables_of_list values)

-- the item at a place, and those behind it
pub drop_item : {A : Type 0} (xs : List A) (i : ℕ) (x : A) → i < length xs → x ≡ get_or xs i x → drop i xs ≡ x ∷ drop (i + 1) xs
drop_item xs i x within at = drop-cons xs i x within ∙ rw (← at, add-one i) refl

-- one value more
pub first_unmarked_next : (marks : List Bool) (values : List Value) (i : ℕ) (x : Value) (here : Option ℕ) → i < length values → x ≡ get_or values i x
    → here ≡ first_unmarked marks (variables_of_value (value_seen x))
    → or_else here (first_unmarked marks (variables_of_values (values_of (map value_seen (drop (i + 1) values)))))
    ≡ first_unmarked marks (variables_of_values (values_of (map value_seen (drop i values))))
first_unmarked_next marks values i x here within at is =
    let rest : List ℕ = variables_of_values (values_of (map value_seen (drop (i + 1) values))) in
    ap (λ o. or_else o (first_unmarked marks rest)) is
    ∙ sym (first_unmarked_joined marks (variables_of_value (value_seen x)) rest)
    ∙ ap (λ vs. first_unmarked marks (variables_of_values (values_of (map value_seen vs)))) (sym (drop_item values i x within at))
