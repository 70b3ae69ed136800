-- The matches of canonical forms, and conditions with which productions begin alike.
use Rattle.std.specs.Prelude.{◌≡◌, ℕ, List, [], map}
use Rattle.soar_rule.specs.Canonical.{canonical, renumbered}
use Rattle.soar_rule.specs.Conditions.{Conditions}
use Rattle.soar_rule.specs.Productions.{ProductionOf}
use Rattle.soar_rule.specs.Renaming.{conditions_with}
use Rattle.soar_rule.specs.Variables.{with_each, variables_of_conditions}
use Rattle.soar_wm.specs.declared.element.Element.{Element}
use Rattle.defs_match.specs.Conflict.{instance_of}
use Rattle.defs_match.specs.Laws.{followed_by}
use Rattle.defs_match.specs.Rows.{rows}

-- The rows of the canonical form tell the instances of the production.
abbrev pub CanonicalFormsMatch : Type 0
CanonicalFormsMatch = (p : ProductionOf) (number : ℕ) (w : List Element) → map (instance_of number) (rows (canonical p).conditions w) ≡ map (instance_of number) (rows p.conditions w)

-- the conditions, with their variables numbered by first occurrence
abbrev pub in_own_numbers : Conditions → Conditions
in_own_numbers cs = conditions_with (renumbered (with_each [] (variables_of_conditions cs))) cs

-- Conditions with which a production begins are numbered by themselves in its canonical form, whatever comes behind them.
abbrev pub FrontsAreNumbered : Type 0
FrontsAreNumbered = (p : ProductionOf) (front behind : Conditions) → p.conditions ≡ followed_by front behind
    → (later : Conditions) × ((canonical p).conditions ≡ followed_by (in_own_numbers front) later)
