-- The form that two productions share exactly where they differ only in name, documentation, kind, and names and numbers of variables.
use Rattle.std.specs.Prelude.{ℕ, suc, ◌==◌, pos, List, [], ◌∷◌, ◌++◌, map, flat_map, None, if◌then◌else◌}
use Rattle.soar_sym.specs.declared.symbol.Sym.{Sym}
use Rattle.soar_sym.specs.declared.symbol.Sym.TheVariants.{Int}
use Rattle.soar_rule.specs.declared.cond.Atom.{Atom}
use Rattle.soar_rule.specs.declared.cond.Atom.TheVariants.{Const, Var}
use Rattle.soar_rule.specs.declared.production.Kind.TheVariants.{User}
use Rattle.soar_rule.specs.Conditions.{Conditions}
use Rattle.soar_rule.specs.Productions.{ActionOf, ProductionOf}
use Rattle.soar_rule.specs.Renaming.{conditions_with, action_with}
use Rattle.soar_rule.specs.Variables.{with_each, variables_of_conditions, variables_of_action}

-- the variables in order of their first occurrence, conditions before actions
abbrev pub in_order_of_occurrence : Conditions → List ActionOf → List ℕ
in_order_of_occurrence conditions actions = with_each [] (variables_of_conditions conditions ++ flat_map variables_of_action actions)

abbrev pub place_among : List ℕ → ℕ → ℕ
place_among [] v = 0
place_among (w ∷ ws) v = if v == w then 0 else suc (place_among ws v)

abbrev pub renumbered : List ℕ → Atom → Atom
renumbered order (Const s) = Const s
renumbered order (Var v) = Var (place_among order v)

-- as many names as variables: 1, 2 and so on
abbrev pub numbers_from : ℕ → List ℕ → List Sym
numbers_from n [] = []
numbers_from n (v ∷ vs) = Int (pos n) ∷ numbers_from (suc n) vs

-- variables are numbered by first occurrence and named so; name, documentation and kind are empty
unfoldable pub canonical : ProductionOf → ProductionOf
canonical p =
    let order = in_order_of_occurrence p.conditions p.actions in
    record {
      name = Int (pos 0);
      doc = None;
      kind = User;
      support = p.support;
      vars = numbers_from 1 order;
      conditions = conditions_with (renumbered order) p.conditions;
      actions = map (action_with (renumbered order)) p.actions;
    }
