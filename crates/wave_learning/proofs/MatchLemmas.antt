-- As many bindings as a rule binds: of an instance, and none in a rule that has identifiers themselves.
use Rattle.std.proofs.Common.{◌≡◌, refl, sym, ◌∙◌, ap, ap₂, ℕ, ◌+◌, ◌==◌, false, inl, inr, List, [], ◌∷◌, ◌++◌, length, map, filter, flat_map}
use Rattle.std.proofs.lemmas.List.{length-map}
use Rattle.soar_sym.specs.Words.{Texts}
use Rattle.soar_sym.specs.declared.symbol.Sym.{Sym}
use Rattle.soar_rule.specs.declared.cond.Atom.TheVariants.{Const}
use Rattle.soar_rule.specs.declared.cond.Test.TheVariants.{Rel}
use Rattle.soar_rule.specs.Conditions.{Condition, all_of, conjunctive, negated, positive}
use Rattle.soar_rule.specs.Renaming.{conditions_with, test_with}
use Rattle.soar_rule.specs.Variables.{bound_variables, plain_in_test, plain_outside, with_each}
use Rattle.soar_wm.specs.declared.element.Element.{Element}
use Rattle.defs_match.specs.Conflict.{instance_of, instances_of}
use Rattle.defs_match.specs.Rows.{Row, rows}
use Rattle.defs_match.specs.Rules.{RuleOf}
use Rattle.defs_match.specs.declared.instance.Instance.{Instance}
use Rattle.defs_soar.specs.Candidate.{all_grounds, conditions_from, conditions_of, literal_form, with_variables}
use Rattle.defs_soar.specs.CarriedTests.{Placed, carried_tests, placed_tests, tests_at}
use Rattle.defs_soar.specs.ConditionOrder.{ordered_grounds}
use Rattle.defs_soar.specs.History.{ChainOf}
use Rattle.defs_soar.specs.Laws.{IsIn}
use Rattle.defs_soar.specs.Negations.{negations_taken_over}
use Rattle.defs_soar.specs.Variablized.{Variablized, each_variablized_once, variablized_in_conditions, variablized_in_wish}
use Rattle.learning_laws.proofs.ConflictLaws.{IsNegation, taken_over_negations}
use Rattle.learning_laws.proofs.Lists.{in_map}
use Rattle.pending_work.proofs.BindingLemmas.{HoldIn, RowsBind, rows_bind}

-- ---- instances

abbrev AnySymbol : Sym → Type 0
AnySymbol s = Unit {0}

any_elements : (elements : List Element) → HoldIn AnySymbol elements
any_elements [] = tt
any_elements (e ∷ elements) = ((tt, tt, tt), any_elements elements)

row_binds : (vs : List ℕ) (rs : List Row) (r : Row) → RowsBind AnySymbol vs rs → IsIn r rs → map (λ (b : ℕ × Sym). b.0) r.bindings ≡ vs
row_binds vs [] r h i = absurd i
row_binds vs (x ∷ rs) r h (inl q) = ap (λ (y : Row). map (λ (b : ℕ × Sym). b.0) y.bindings) (sym q) ∙ h.0.variables
row_binds vs (x ∷ rs) r h (inr i) = row_binds vs rs r h.1 i

pub instance_bound : (rule : RuleOf) (elements : List Element) (i : Instance) → IsIn i (instances_of elements rule) → length i.binds ≡ length (bound_variables rule.production.conditions)
instance_bound rule elements i j =
    let row = in_map (instance_of rule.number) i (rows rule.production.conditions elements) j in
    let binds = row_binds (bound_variables rule.production.conditions) (rows rule.production.conditions elements) row.0 (rows_bind AnySymbol rule.production.conditions elements (any_elements elements)) row.1 in
    ap (λ (x : Instance). length x.binds) (sym row.2) ∙ length-map row.0.bindings (λ (b : ℕ × Sym). b.1) ∙ sym (length-map row.0.bindings (λ (b : ℕ × Sym). b.0)) ∙ ap length binds

-- ---- rules that have identifiers themselves

module _ (variablized : List Variablized) where
  none_related : (ps : List Placed) → flat_map plain_in_test (map (test_with (with_variables false variablized)) (map (λ (p : Placed). Rel p.relation (Const p.right)) ps)) ≡ []
  none_related [] = refl
  none_related (p ∷ ps) = none_related ps

  none_negated : (ds : List Condition) → ((d : Condition) → IsIn d ds → IsNegation d) → plain_outside (conditions_with (with_variables false variablized) (all_of ds)) ≡ []
  none_negated [] h = refl
  none_negated (positive p ∷ ds) h = absurd (h (positive p) (inl refl))
  none_negated (negated p ∷ ds) h = none_negated ds (λ d i. h d (inr i))
  none_negated (conjunctive cs ∷ ds) h = none_negated ds (λ d i. h d (inr i))

  none_plain : (placed : List Placed) (first : ℕ) (elements : List Element) (ds : List Condition) → ((d : Condition) → IsIn d ds → IsNegation d)
      → plain_outside (conditions_with (with_variables false variablized) (all_of (conditions_from placed first elements ++ ds))) ≡ []
  none_plain placed first [] ds h = none_negated ds h
  none_plain placed first (e ∷ elements) ds h =
      ap₂ (λ (xs ys : List ℕ). xs ++ ys)
      (ap₂ (λ (xs ys : List ℕ). xs ++ ys) (none_at first) (ap₂ (λ (xs ys : List ℕ). xs ++ ys) (none_at (first + 1)) (none_at (first + 2)))) (none_plain placed (first + 3) elements ds h)
    where
      none_at : (n : ℕ) → flat_map plain_in_test (map (test_with (with_variables false variablized)) (tests_at placed n)) ≡ []
      none_at n = none_related (filter (λ (p : Placed). p.at == n) placed)

pub literal_binds_none : (words : Texts) (c : ChainOf) (depth : ℕ) → bound_variables (literal_form words c depth).production.conditions ≡ []
unfolding literal_form
literal_binds_none words c depth =
    let elements = all_grounds (ordered_grounds words c.grounds) in
    let variablized = each_variablized_once [] (variablized_in_conditions false (conditions_of c depth elements) ++ flat_map (variablized_in_wish false) c.results) in
    ap (with_each []) (none_plain variablized (placed_tests elements (carried_tests c depth)) 0 elements (negations_taken_over c depth) (taken_over_negations c depth))
