-- Small cases, worked out by hand. A, B and C are identifiers in this order.
use Rattle.std.specs.Prelude.{◌≡◌, ℕ, Bool, true, false, ℤ, pos, negsuc, List, [], ◌∷◌, ◌++◌, map, Option, Some, None}
use Rattle.soar_sym.specs.Words.{architecture}
use Rattle.soar_sym.specs.declared.symbol.Sym.{Sym}
use Rattle.soar_sym.specs.declared.symbol.Sym.TheVariants.{Ident, Word, Int}
use Rattle.defs_soar.specs.declared.preference.PrefKind.{PrefKind}
use Rattle.defs_soar.specs.declared.preference.PrefKind.TheVariants as kind
use Rattle.defs_soar.specs.declared.preference.Preference.{Preference}
use Rattle.defs_soar.specs.declared.choice.Scored.{Scored}
use Rattle.defs_soar.specs.declared.choice.Choice.TheVariants as choice
use Rattle.defs_soar.specs.declared.choice.Mode.TheVariants as mode
use Rattle.defs_soar.specs.declared.goal.Goal.{Goal}
use Rattle.defs_soar.specs.declared.goal.Impasse.TheVariants as impasse
use Rattle.defs_soar.specs.Architecture.{operator_word}
use Rattle.defs_soar.specs.Choice.{choice_of}
use Rattle.defs_soar.specs.Draw.{drawn}
use Rattle.defs_soar.specs.Goals.{plain_triple}
use Rattle.defs_soar.specs.Levels.{level}
use Rattle.defs_soar.specs.Preferences.{rows_after}
use Rattle.defs_soar.specs.Settling.{settled}

abbrev pub s1 : Sym
s1 = Ident 83 1

abbrev pub s2 : Sym
s2 = Ident 83 2

abbrev pub a : Sym
a = Ident 65 1

abbrev pub b : Sym
b = Ident 66 1

abbrev pub c : Sym
c = Ident 67 1

abbrev pub row : ℕ → Sym → Sym → Sym → PrefKind → Option Sym → Bool → Preference
row firing id attr value k referent operator_support =
    record { firing = firing; wish = record { id = id; attr = attr; value = value; kind = k; referent = referent }; operator_support = operator_support }

-- a row of the operator slot of S1
abbrev pub of_operator : Sym → PrefKind → Option Sym → Preference
of_operator value k referent = row 1 s1 operator_word value k referent false

abbrev pub plain : Sym → Scored
plain value = record { value = value; numeric = false; sum = pos 0 }

-- ---- choices

abbrev pub two_better : List Preference
two_better =
    of_operator a kind.Accept None ∷ of_operator b kind.Accept None ∷ of_operator a kind.Better (Some b) ∷ of_operator b kind.Better (Some a) ∷ []

abbrev pub ConflictOfTwo : Type 0
ConflictOfTwo = choice_of architecture two_better ≡ choice.Conflict (plain a ∷ plain b ∷ [])

abbrev pub ConflictWithAThird : Type 0
ConflictWithAThird = choice_of architecture (two_better ++ of_operator c kind.Accept None ∷ []) ≡ choice.Left (plain c ∷ [])

abbrev pub RejectedDropsNone : Type 0
RejectedDropsNone =
    choice_of architecture (of_operator a kind.Accept None ∷ of_operator b kind.Accept None ∷ of_operator a kind.Reject None ∷ of_operator a kind.Better (Some b) ∷ [])
    ≡ choice.Left (plain b ∷ [])

abbrev pub AllWorst : Type 0
AllWorst =
    choice_of architecture (of_operator b kind.Accept None ∷ of_operator a kind.Accept None ∷ of_operator a kind.Worst None ∷ of_operator b kind.Worst None ∷ [])
    ≡ choice.Tie (plain a ∷ plain b ∷ [])

abbrev pub RequiredAndProhibited : Type 0
RequiredAndProhibited = choice_of architecture (of_operator a kind.Require None ∷ of_operator a kind.Prohibit None ∷ []) ≡ choice.Constraint (plain a ∷ [])

abbrev pub NoneLeft : Type 0
NoneLeft = choice_of architecture (of_operator a kind.Accept None ∷ of_operator a kind.Reject None ∷ []) ≡ choice.NoCandidate

-- ---- draws

abbrev pub summing : ℤ → Scored
summing z = record { value = a; numeric = true; sum = z }

abbrev pub two_three_five : List Scored
two_three_five = summing (pos 2) ∷ summing (pos 3) ∷ summing (pos 5) ∷ []

abbrev pub Draws : Type 0
Draws =
    (map (drawn mode.Softmax two_three_five) (0 ∷ 4 ∷ 9 ∷ 10 ∷ []) ≡ 0 ∷ 1 ∷ 2 ∷ 0 ∷ [])
    × (drawn mode.Softmax (summing (negsuc 0) ∷ summing (pos 3) ∷ []) 5 ≡ 1)
    × (map (drawn (mode.EpsilonGreedy 1 2) two_three_five) (4 ∷ 5 ∷ []) ≡ 2 ∷ 2 ∷ [])
    × (drawn (mode.EpsilonGreedy 1 2) (summing (pos 5) ∷ summing (pos 5) ∷ summing (pos 2) ∷ []) 5 ≡ 0)

-- ---- preference memory

-- (S1 ^24 1) twice with operator support is one row, and with instance support two
abbrev pub RepeatedRow : Type 0
RepeatedRow =
    (rows_after [] [] (row 1 s1 (Word 24) (Int (pos 1)) kind.Accept None true ∷ row 2 s1 (Word 24) (Int (pos 1)) kind.Accept None true ∷ [])
    ≡ row 1 s1 (Word 24) (Int (pos 1)) kind.Accept None true ∷ [])
    × (rows_after [] [] (row 1 s1 (Word 24) (Int (pos 1)) kind.Accept None false ∷ row 2 s1 (Word 24) (Int (pos 1)) kind.Accept None false ∷ [])
    ≡ row 1 s1 (Word 24) (Int (pos 1)) kind.Accept None false ∷ row 2 s1 (Word 24) (Int (pos 1)) kind.Accept None false ∷ [])

-- an operator-supported reject takes the rows of its triple away, those of its own wave too, and leaves those of other values
abbrev pub RejectTakesAll : Type 0
RejectTakesAll =
    rows_after (row 1 s1 (Word 24) (Int (pos 0)) kind.Accept None true ∷ [])
    []
    (row 2 s1 (Word 24) (Int (pos 0)) kind.Reject None true ∷ row 2 s1 (Word 24) (Int (pos 1)) kind.Accept None true ∷ row 3 s1 (Word 24) (Int (pos 0)) kind.Accept None false ∷ [])
    ≡ row 2 s1 (Word 24) (Int (pos 1)) kind.Accept None true ∷ []

-- ---- settling and levels

abbrev pub top_goal : Goal
top_goal = record { id = s1; impasse = impasse.Top; items = []; selected = None }

abbrev pub sub_goal : Goal
sub_goal = record { id = s2; impasse = impasse.StateNoChange; items = []; selected = None }

-- A1 hangs on B1, which nothing reaches, so both fall in one settling; C1 stays
abbrev pub ChainFalls : Type 0
ChainFalls =
    map (λ r. r.wish.id) (settled (top_goal ∷ []) (record {
      rows = row 1 b (Word 24) a kind.Accept None false ∷ row 2 a (Word 24) (Int (pos 1)) kind.Accept None false ∷ row 3 s1 (Word 24) c kind.Accept None false ∷ row 4 c (Word 24) (Int (pos 2)) kind.Accept None false ∷ [];
      inputs = [];
    })).rows
    ≡ s1 ∷ c ∷ []

-- C1 is reached from both goals, B1 from the lower one alone, A1 from none; a walk does not go on through another goal
abbrev pub LevelsOfTwoGoals : Type 0
LevelsOfTwoGoals =
    map (level (top_goal ∷ sub_goal ∷ []) (plain_triple s1 (Word 24) c ∷ plain_triple s2 (Word 24) c ∷ plain_triple s2 (Word 24) b ∷ plain_triple c (Word 24) s2 ∷ []))
    (s1 ∷ s2 ∷ c ∷ b ∷ a ∷ [])
    ≡ Some 1 ∷ Some 2 ∷ Some 1 ∷ Some 2 ∷ None ∷ []
