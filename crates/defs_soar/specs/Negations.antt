-- The negations of a chain that a learned rule takes over: those about higher goals (Soar manual, chapter 4, chunking; the reading is this engine's).
--
-- A negation is about higher goals where each identifier field in it is bound to a higher identifier, or bound earlier inside it as a value.
-- Any other is local. What is bound is taken over as its symbol; other variables are the negation's own.
use Rattle.std.specs.Prelude.{ℕ, ◌+◌, Bool, true, false, ◌&&◌, ◌==◌, not, List, [], ◌∷◌, ◌++◌, map, flat_map, filter, length, Some, None, if◌then◌else◌}
use Rattle.std.specs.List.{list_any, list_all}
use Rattle.soar_rule.specs.declared.cond.Atom.{Atom}
use Rattle.soar_rule.specs.declared.cond.Atom.TheVariants.{Const, Var}
use Rattle.soar_rule.specs.declared.cond.Pattern.{Pattern}
use Rattle.soar_rule.specs.declared.cond.Test.{Test}
use Rattle.soar_rule.specs.declared.cond.Test.TheVariants.{Plain, Rel, OneOf}
use Rattle.soar_rule.specs.Canonical.{place_among}
use Rattle.soar_rule.specs.Conditions.{Condition, positive, negated, conjunctive, Conditions, no_more, condition_and}
use Rattle.soar_rule.specs.Equality.{condition_eq}
use Rattle.soar_rule.specs.Renaming.{condition_with}
use Rattle.soar_rule.specs.Variables.{with_each, variables_of_condition, plain_in}
use Rattle.defs_match.specs.Conflict.{bindings_of}
use Rattle.defs_match.specs.Testing.{Bindings, symbol_of}
use Rattle.defs_soar.specs.ChainIdentifiers.{firings_of, is_higher}
use Rattle.defs_soar.specs.History.{FiringOf, ChainOf}

-- ---- negations about higher goals

-- a plain test of an identifier: of a higher one, or of a variable that is a value earlier inside
abbrev pub is_higher_test : ChainOf → ℕ → Bindings → List ℕ → Test → Bool
is_higher_test c depth bindings values (Plain (Const s)) = is_higher c depth s
is_higher_test c depth bindings values (Plain (Var v)) =
    elim (symbol_of v bindings) [ Some s ↦ is_higher c depth s | None ↦ list_any (λ w. w == v) values ]
is_higher_test c depth bindings values (Rel r a) = false
is_higher_test c depth bindings values (OneOf symbols) = false

abbrev pub is_higher_pattern : ChainOf → ℕ → Bindings → List ℕ → Pattern → Bool
is_higher_pattern c depth bindings values p = list_any (is_higher_test c depth bindings values) p.id.tests

-- the variables that a condition has as values
abbrev pub values_bound : Condition → List ℕ
values_bound (positive p) = plain_in p.value
values_bound (negated p) = []
values_bound (conjunctive inside) = []

abbrev mutual
  -- each identifier field is of a higher goal
  pub is_about_higher : ChainOf → ℕ → Bindings → List ℕ → Condition → Bool
  is_about_higher c depth bindings values (positive p) = is_higher_pattern c depth bindings values p
  is_about_higher c depth bindings values (negated p) = is_higher_pattern c depth bindings values p
  is_about_higher c depth bindings values (conjunctive inside) = are_about_higher c depth bindings values inside

  pub are_about_higher : ChainOf → ℕ → Bindings → List ℕ → Conditions → Bool
  are_about_higher c depth bindings values no_more = true
  are_about_higher c depth bindings values (condition_and d inside) =
      is_about_higher c depth bindings values d && are_about_higher c depth bindings (values ++ values_bound d) inside

abbrev pub negations_in : Conditions → List Condition
negations_in no_more = []
negations_in (condition_and (positive p) cs) = negations_in cs
negations_in (condition_and (negated p) cs) = negated p ∷ negations_in cs
negations_in (condition_and (conjunctive inside) cs) = conjunctive inside ∷ negations_in cs

abbrev pub negations_of : FiringOf → List Condition
negations_of f = negations_in f.rule.production.conditions

abbrev pub bindings_in : FiringOf → Bindings
bindings_in f = bindings_of f.rule.production f.instance

abbrev pub is_superstate_negation : ChainOf → ℕ → FiringOf → Condition → Bool
is_superstate_negation c depth f d = is_about_higher c depth (bindings_in f) [] d

-- the firing has a negation that is not about higher goals alone
abbrev pub has_local_negation : ChainOf → ℕ → FiringOf → Bool
has_local_negation c depth f = not (list_all (is_superstate_negation c depth f) (negations_of f))

-- ---- as conditions of a learned rule

-- a bound variable gives way to its symbol
abbrev pub bound_atom : Bindings → Atom → Atom
bound_atom bindings (Const s) = Const s
bound_atom bindings (Var v) = elim (symbol_of v bindings) [ Some s ↦ Const s | None ↦ Var v ]

abbrev pub renumbered_from : ℕ → List ℕ → Atom → Atom
renumbered_from first order (Const s) = Const s
renumbered_from first order (Var v) = Var (first + place_among order v)

-- with its own variables numbered from a number, by first occurrence
abbrev pub with_own_from : ℕ → Condition → Condition
with_own_from first d = condition_with (renumbered_from first (with_each [] (variables_of_condition d))) d

abbrev pub own_count : Condition → ℕ
own_count d = length (with_each [] (variables_of_condition d))

-- the negations of a firing about higher goals, with symbols in the places of bound variables
abbrev pub superstate_negations : ChainOf → ℕ → FiringOf → List Condition
superstate_negations c depth f =
    map (λ d. with_own_from 0 (condition_with (bound_atom (bindings_in f)) d)) (filter (is_superstate_negation c depth f) (negations_of f))

-- negations that differ in the names of their own variables alone are one
abbrev pub without_repeats : List Condition → List Condition → List Condition
without_repeats seen [] = seen
without_repeats seen (d ∷ negations) = without_repeats (if list_any (condition_eq d) seen then seen else seen ++ d ∷ []) negations

-- each with variables of its own
abbrev pub with_own_variables : ℕ → List Condition → List Condition
with_own_variables first [] = []
with_own_variables first (d ∷ negations) = with_own_from first d ∷ with_own_variables (first + own_count d) negations

-- in order of firing and condition, without repeats
unfoldable pub negations_taken_over : ChainOf → ℕ → List Condition
negations_taken_over c depth = with_own_variables 0 (without_repeats [] (flat_map (superstate_negations c depth) (firings_of c)))
