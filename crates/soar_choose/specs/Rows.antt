-- What is owed for rows and candidates.
use Rattle.std.specs.Prelude.{ℕ, ◌<◌, ◌≤◌, ℤ, pos, neg_ℤ, ◌≤ℤ◌, List, [], ◌∷◌, length, Option, Some, None}
use Rattle.soar_sym.specs.Words.{Texts, IsKnown}
use Rattle.soar_sym.specs.declared.symbol.Sym.{Sym}
use Rattle.soar_sym.specs.declared.symbol.Sym.TheVariants.{Int}
use Rattle.defs_soar.specs.declared.preference.PrefKind.{PrefKind}
use Rattle.defs_soar.specs.declared.preference.PrefKind.TheVariants as kind
use Rattle.defs_soar.specs.declared.preference.Preference.{Preference}
use Rattle.defs_soar.specs.declared.choice.Choice.{Choice}
use Rattle.defs_soar.specs.declared.choice.Choice.TheVariants as choice
use Rattle.defs_soar.specs.declared.choice.Mode.{Mode}
use Rattle.defs_soar.specs.declared.choice.Mode.TheVariants as mode
use Rattle.defs_soar.specs.declared.choice.Scored.{Scored}

abbrev pub IsReferentKnown : Texts → Option Sym → Type 0
IsReferentKnown words (Some s) = IsKnown words s
IsReferentKnown words None = Unit {0}

-- the values and the referents are symbols of the table
abbrev pub AreKnown : Texts → List Preference → Type 0
AreKnown words [] = Unit {0}
AreKnown words (row ∷ rows) = IsKnown words row.wish.value × IsReferentKnown words row.wish.referent × AreKnown words rows

abbrev pub IsWithin : ℕ → ℤ → Type 0
IsWithin most z = (neg_ℤ (pos most) ≤ℤ z) × (z ≤ℤ pos most)

abbrev pub IsNumberInRange : PrefKind → Option Sym → Type 0
IsNumberInRange kind.Numeric (Some (Int z)) = IsWithin 1000000000 z
IsNumberInRange other referent = Unit {0}

-- each numeric preference is at most 1,000,000,000 in size
abbrev pub AreInRange : List Preference → Type 0
AreInRange [] = Unit {0}
AreInRange (row ∷ rows) = IsNumberInRange row.wish.kind row.wish.referent × AreInRange rows

-- each sum is at most 10^15 in size
abbrev pub AreSumsWithin : List Scored → Type 0
AreSumsWithin [] = Unit {0}
AreSumsWithin (s ∷ left) = IsWithin 1000000000000000 s.sum × AreSumsWithin left

-- ---- what a choice gives to a draw

abbrev pub AreLeftWithin : Choice → Type 0
AreLeftWithin (choice.Left left) = AreSumsWithin left
AreLeftWithin other = Unit {0}

abbrev pub IsSomeLeft : Choice → Type 0
IsSomeLeft (choice.Left left) = 0 < length left
IsSomeLeft other = Unit {0}

-- a probability of at most 1
abbrev pub IsFraction : Mode → Type 0
IsFraction (mode.EpsilonGreedy p q) = (0 < q) × (p ≤ q)
IsFraction other = Unit {0}
