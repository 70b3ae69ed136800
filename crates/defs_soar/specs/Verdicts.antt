-- What the choice at a goal comes to: operators that are left, or an impasse (Soar manual, chapter 2, decision procedure).
use Rattle.std.specs.Prelude.{ℕ, zero, suc, Bool, true, false, ◌&&◌, ◌==◌, nat_lt, List, [], ◌∷◌, map, length, Option, Some, None, if◌then◌else◌}
use Rattle.soar_sym.specs.Equality.{symbol_eq}
use Rattle.soar_sym.specs.declared.symbol.Sym.{Sym}
use Rattle.defs_match.specs.Element.{Element}
use Rattle.defs_soar.specs.declared.choice.Choice.{Choice}
use Rattle.defs_soar.specs.declared.choice.Choice.TheVariants as choice
use Rattle.defs_soar.specs.declared.choice.Mode.{Mode}
use Rattle.defs_soar.specs.declared.choice.Mode.TheVariants as mode
use Rattle.defs_soar.specs.declared.choice.Scored.{Scored}
use Rattle.defs_soar.specs.declared.goal.Impasse.{Impasse}
use Rattle.defs_soar.specs.declared.goal.Impasse.TheVariants as impasse
use Rattle.defs_soar.specs.declared.goal.Item.{Item}
use Rattle.defs_soar.specs.Architecture.{operator_word}
use Rattle.defs_soar.specs.Draw.{drawn}

-- ---- candidates and items

abbrev pub values_of_scored : List Scored → List Sym
values_of_scored scored = map (λ s. s.value) scored

abbrev pub is_marked_for : Sym → Sym → Element → Bool
is_marked_for goal operator e = symbol_eq e.id goal && (symbol_eq e.attr operator_word && (symbol_eq e.value operator && e.accept))

-- the tag of a goal's marked operator element, 0 without one
abbrev pub marked_tag : List Element → Sym → Sym → ℕ
marked_tag [] goal operator = 0
marked_tag (e ∷ elements) goal operator = if is_marked_for goal operator e then e.tag else marked_tag elements goal operator

abbrev pub item_for : List Element → Sym → Scored → Item
item_for elements goal s = record { value = s.value; numeric = s.numeric; tag = marked_tag elements goal s.value }

abbrev pub items_for : List Element → Sym → List Scored → List Item
items_for elements goal scored = map (item_for elements goal) scored

-- ---- what the choice of a goal comes to

-- operators that are left, or an impasse over some values
pub data Verdict : Type 0 where
  are_left : List Scored → Verdict
  is_impasse : Impasse → List Scored → Verdict

abbrev pub verdict_of : Choice → Verdict
verdict_of (choice.Left scored) = are_left scored
verdict_of (choice.Tie scored) = is_impasse impasse.Tie scored
verdict_of (choice.Conflict scored) = is_impasse impasse.Conflict scored
verdict_of (choice.Constraint scored) = is_impasse impasse.Constraint scored
verdict_of choice.NoCandidate = is_impasse impasse.StateNoChange []

abbrev pub impasse_place : Impasse → ℕ
impasse_place impasse.Top = 0
impasse_place impasse.Tie = 1
impasse_place impasse.Conflict = 2
impasse_place impasse.Constraint = 3
impasse_place impasse.StateNoChange = 4
impasse_place impasse.OperatorNoChange = 5

abbrev pub impasse_eq : Impasse → Impasse → Bool
impasse_eq a b = impasse_place a == impasse_place b

-- ---- draws

abbrev pub takes_word : Mode → Bool
takes_word mode.First = false
takes_word mode.Last = false
takes_word mode.Softmax = true
takes_word (mode.EpsilonGreedy p q) = true

-- a draw among two or more takes the next word of the queue, or 0
abbrev pub uses_word : Mode → List Scored → Bool
uses_word m left = takes_word m && nat_lt 1 (length left)

abbrev pub first_word : List ℕ → ℕ
first_word [] = 0
first_word (word ∷ words) = word

abbrev pub value_at : List Scored → ℕ → Option Sym
value_at [] n = None
value_at (s ∷ left) zero = Some s.value
value_at (s ∷ left) (suc n) = value_at left n

abbrev pub drawn_from : Mode → List ℕ → List Scored → Option Sym
drawn_from m words left = value_at left (drawn m left (if uses_word m left then first_word words else 0))
