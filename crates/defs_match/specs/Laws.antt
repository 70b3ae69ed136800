-- Laws of rows, in words that are apart from how rows are computed (Doorenbos 1995, tokens and negative nodes).
use Rattle.std.specs.Prelude.{◌≡◌, ◌≢◌, ℕ, List, [], ◌∷◌, ◌++◌, ◌⊎◌, ◌↔◌}
use Rattle.std.specs.Bool.{⊤}
use Rattle.soar_wm.specs.declared.element.Element.{Element}
use Rattle.soar_rule.specs.Conditions.{Condition, positive, negated, conjunctive, Conditions, no_more, condition_and}
use Rattle.soar_rule.specs.Productions.{ProductionOf}
use Rattle.defs_match.specs.Conflict.{instance_of, bindings_of}
use Rattle.defs_match.specs.Rows.{Row, rows}

-- the list holds it
abbrev pub IsIn : {A : Type 0} → A → List A → Type 0
IsIn x [] = ⊥
IsIn x (y ∷ ys) = (y ≡ x) ⊎ IsIn x ys

-- no row has these tags
abbrev pub NoneHas : List ℕ → List Row → Type 0
NoneHas t rs = (x : Row) → IsIn x rs → x.tags ≢ t

-- no two rows have the same tags, so each stands there once
abbrev pub TagsDiffer : List Row → Type 0
TagsDiffer [] = ⊤
TagsDiffer (r ∷ rs) = NoneHas r.tags rs × TagsDiffer rs

-- no two elements have the same tag
abbrev pub ElementsDiffer : List Element → Type 0
ElementsDiffer [] = ⊤
ElementsDiffer (e ∷ es) = ((x : Element) → IsIn x es → x.tag ≢ e.tag) × ElementsDiffer es

-- the conditions of a list, and behind them those of another
abbrev pub followed_by : Conditions → Conditions → Conditions
followed_by no_more ds = ds
followed_by (condition_and c cs) ds = condition_and c (followed_by cs ds)

-- what a negation forbids, as a list
abbrev pub inside : Condition → Conditions
inside (positive p) = no_more
inside (negated p) = condition_and (positive p) no_more
inside (conjunctive cs) = cs

abbrev pub IsNegation : Condition → Type 0
IsNegation (positive p) = ⊥
IsNegation _ = ⊤

abbrev pub StartsWith : List ℕ → List ℕ → Type 0
StartsWith front whole = (more : List ℕ) × (whole ≡ front ++ more)

-- A row of the list is a row of the list with the negation exactly where no row of the list with the inside begins with its tags.
abbrev pub NegationKeeps : Type 0
NegationKeeps = (cs : Conditions) (c : Condition) (w : List Element) (r : Row) → ElementsDiffer w → IsNegation c → IsIn r (rows cs w)
    → IsIn r (rows (followed_by cs (condition_and c no_more)) w) ↔ ((x : Row) → IsIn x (rows (followed_by cs (inside c)) w) → StartsWith r.tags x.tags → ⊥)

-- Rows with the same tags are one row, and it stands there once.
abbrev pub RowsDiffer : Type 0
RowsDiffer = (cs : Conditions) (w : List Element) → ElementsDiffer w → TagsDiffer (rows cs w)

-- An instance tells the bindings of its row.
abbrev pub InstancesTellBindings : Type 0
InstancesTellBindings = (p : ProductionOf) (number : ℕ) (w : List Element) (r : Row) → IsIn r (rows p.conditions w) → bindings_of p (instance_of number r) ≡ r.bindings
