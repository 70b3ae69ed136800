-- Productions that differ in names alone.
use Rattle.std.specs.Prelude.{◌≡◌, ℕ, true, List, ◌++◌, map, flat_map}
use Rattle.soar_rule.specs.declared.cond.Atom.{Atom}
use Rattle.soar_rule.specs.declared.cond.Atom.TheVariants.{Const, Var}
use Rattle.soar_rule.specs.Productions.{ProductionOf}
use Rattle.soar_rule.specs.Renaming.{conditions_with, action_with}
use Rattle.soar_rule.specs.Variables.{is_among, variables_of_conditions, variables_of_action}

-- the variables as they stand in the text
abbrev pub variables_in : ProductionOf → List ℕ
variables_in p = variables_of_conditions p.conditions ++ flat_map variables_of_action p.actions

-- two of these variables never get one number
abbrev pub IsApart : (ℕ → ℕ) → List ℕ → Type 0
IsApart number variables = (v w : ℕ) → is_among variables v ≡ true → is_among variables w ≡ true → number v ≡ number w → v ≡ w

abbrev pub variable_with : (ℕ → ℕ) → Atom → Atom
variable_with number (Const s) = Const s
variable_with number (Var v) = Var (number v)

-- they differ only in name, documentation, kind, and names and numbers of variables
pub record DifferInNames (p : ProductionOf) (q : ProductionOf) : Type 0 where
  pub number : ℕ → ℕ
  pub apart : IsApart number (variables_in p)
  pub support : q.support ≡ p.support
  pub conditions : q.conditions ≡ conditions_with (variable_with number) p.conditions
  pub actions : q.actions ≡ map (action_with (variable_with number)) p.actions
