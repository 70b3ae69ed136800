-- Matches that were worked out by hand. Word 24 is the attribute a, word 25 b, word 26 c and word 27 a value.
use Rattle.std.specs.Prelude.{◌≡◌, ℕ, Bool, true, false, pos, List, [], ◌∷◌, map}
use Rattle.soar_wm.specs.Sym.{Sym}
use Rattle.soar_wm.specs.SymVariants.{Ident, Word, Int}
use Rattle.soar_rule.specs.declared.cond.Atom.TheVariants.{Const, Var}
use Rattle.soar_rule.specs.declared.cond.Relation.TheVariants.{Differ, SameKind}
use Rattle.soar_rule.specs.declared.cond.Test.{Test}
use Rattle.soar_rule.specs.declared.cond.Test.TheVariants.{Plain, Rel}
use Rattle.soar_rule.specs.declared.cond.Pattern.{Pattern}
use Rattle.soar_wm.specs.declared.element.Element.{Element}
use Rattle.soar_rule.specs.Conditions.{Condition, positive, negated, conjunctive, all_of}
use Rattle.defs_match.specs.Rows.{rows}

abbrev pub pattern_of : Bool → ℕ → ℕ → List Test → Pattern
pattern_of state id attr value =
    record { state = state; id = record { tests = Plain (Var id) ∷ [] }; attr = record { tests = Plain (Const (Word attr)) ∷ [] }; value = record { tests = value }; accept = false }

abbrev pub of_top : ℕ → ℕ → Sym → Element
of_top tag attr value = record { tag = tag; id = Ident 83 1; attr = Word attr; value = value; accept = false; of_state = true }

abbrev pub tags_of : List Condition → List Element → List (List ℕ)
tags_of conditions elements = map (λ row. row.tags) (rows (all_of conditions) elements)

-- (state <s> ^a <x>) (<s> ^a <y>) over one element
abbrev pub GivesOneRow : Type 0
GivesOneRow =
    tags_of (positive (pattern_of true 0 24 (Plain (Var 1) ∷ [])) ∷ positive (pattern_of false 0 24 (Plain (Var 2) ∷ [])) ∷ []) (of_top 6 24 (Int (pos 1)) ∷ []) ≡ (6 ∷ 6 ∷ []) ∷ []

-- (state <s> ^a <x>) (<s> ^b { <y> <=> <x> <> <x> }) over a 1, b 1, b 2 and b w
abbrev pub PassesBoth : Type 0
PassesBoth =
    tags_of (positive (pattern_of true 0 24 (Plain (Var 1) ∷ [])) ∷ positive (pattern_of false 0 25 (Plain (Var 2) ∷ Rel SameKind (Var 1) ∷ Rel Differ (Var 1) ∷ [])) ∷ [])
    (of_top 6 24 (Int (pos 1)) ∷ of_top 7 25 (Int (pos 1)) ∷ of_top 8 25 (Int (pos 2)) ∷ of_top 9 25 (Word 27) ∷ [])
    ≡ (6 ∷ 8 ∷ []) ∷ []

-- (state <s> ^a <x>) -{(<s> ^b <y>) -(<s> ^c <y>)} over a 1 and b 1, and with c 1
abbrev pub nested : List Condition
nested =
    positive (pattern_of true 0 24 (Plain (Var 1) ∷ []))
    ∷ conjunctive (all_of (positive (pattern_of false 0 25 (Plain (Var 2) ∷ [])) ∷ negated (pattern_of false 0 26 (Plain (Var 2) ∷ [])) ∷ [])) ∷ []

abbrev pub BlocksNested : Type 0
BlocksNested =
    (tags_of nested (of_top 6 24 (Int (pos 1)) ∷ of_top 7 25 (Int (pos 1)) ∷ []) ≡ [])
    × (tags_of nested (of_top 6 24 (Int (pos 1)) ∷ of_top 7 25 (Int (pos 1)) ∷ of_top 8 26 (Int (pos 1)) ∷ []) ≡ (6 ∷ []) ∷ [])

-- (state <s> ^a <x>) (<s> ^a <y>) over two elements, by the first tag, then the second
abbrev pub TwoLeft : Type 0
TwoLeft =
    tags_of (positive (pattern_of true 0 24 (Plain (Var 1) ∷ [])) ∷ positive (pattern_of false 0 24 (Plain (Var 2) ∷ [])) ∷ []) (of_top 6 24 (Int (pos 1)) ∷ of_top 7 24 (Int (pos 2)) ∷ [])
    ≡ (6 ∷ 6 ∷ []) ∷ (6 ∷ 7 ∷ []) ∷ (7 ∷ 6 ∷ []) ∷ (7 ∷ 7 ∷ []) ∷ []
