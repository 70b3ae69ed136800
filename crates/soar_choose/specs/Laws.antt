-- What the choice means, in the words of the subject.
use Rattle.std.specs.Prelude.{◌≡◌, ◌⊎◌, true, false, List, [], ◌∷◌, map, Some}
use Rattle.std.specs.List.Sorted.{IsPermutation}
use Rattle.soar_sym.specs.Words.{Texts, IsTable}
use Rattle.soar_sym.specs.declared.symbol.Sym.{Sym}
use Rattle.defs_soar.specs.declared.preference.PrefKind.{PrefKind}
use Rattle.defs_soar.specs.declared.preference.PrefKind.TheVariants as kind
use Rattle.defs_soar.specs.declared.preference.Preference.{Preference}
use Rattle.defs_soar.specs.declared.choice.Scored.{Scored}
use Rattle.defs_soar.specs.declared.choice.Choice.TheVariants as choice
use Rattle.defs_soar.specs.Choice.{choice_of, candidates, has_kind, beats, values_of, all_scored}
use Rattle.defs_soar.specs.Sorted.{has_symbol}
use Rattle.defs_soar.specs.Values.{is_kind}
use Rattle.soar_choose.specs.Rows.{AreKnown}

-- something is left
abbrev pub LeftIsSome : Type 0
LeftIsSome = (words : Texts) (rows : List Preference) → choice_of words rows ≡ choice.Left [] → ⊥

abbrev pub values_left : List Scored → List Sym
values_left left = map (λ s. s.value) left

-- what is left is acceptable and neither prohibited nor rejected, or it is required
abbrev pub LeftIsAcceptable : Type 0
LeftIsAcceptable =
    (words : Texts) (rows : List Preference) (left : List Scored) (value : Sym) → choice_of words rows ≡ choice.Left left → has_symbol (values_left left) value ≡ true
    → ((has_kind rows kind.Accept value ≡ true) × (has_kind rows kind.Prohibit value ≡ false) × (has_kind rows kind.Reject value ≡ false)) ⊎ (has_kind rows kind.Require value ≡ true)

-- where nothing is required, no candidate is better than what is left
abbrev pub NoneLeftIsBeaten : Type 0
NoneLeftIsBeaten =
    (words : Texts) (rows : List Preference) (left : List Scored) (a b : Sym) → choice_of words rows ≡ choice.Left left → values_of words kind.Require rows ≡ []
    → has_symbol (candidates words rows) a ≡ true → has_symbol (values_left left) b ≡ true → beats rows a b ≡ false

-- a value that is called better or worse than itself
abbrev pub own_name : Preference → Sym → PrefKind → Preference
own_name row value k = record row { wish = record row.wish { value = value; kind = k; referent = Some value } }

-- such a row counts for nothing
abbrev pub OwnNamesCountForNothing : Type 0
OwnNamesCountForNothing =
    (words : Texts) (rows : List Preference) (row : Preference) (value : Sym)
    → (choice_of words (own_name row value kind.Better ∷ rows) ≡ choice_of words rows) × (choice_of words (own_name row value kind.Worse ∷ rows) ≡ choice_of words rows)

-- one acceptable candidate without other rows is chosen
abbrev pub OneIsChosen : Type 0
OneIsChosen =
    (words : Texts) (row : Preference) → is_kind row.wish.kind kind.Accept ≡ true → choice_of words (row ∷ []) ≡ choice.Left (all_scored (row ∷ []) (row.wish.value ∷ []))

-- the order of the rows counts for nothing
abbrev pub OrderCountsForNothing : Type 0
OrderCountsForNothing = (words : Texts) (rows others : List Preference) → IsTable words → AreKnown words rows → IsPermutation rows others → choice_of words rows ≡ choice_of words others
