-- What the preferences of a slot leave (Soar manual, chapter 2, preference semantics).
use Rattle.std.specs.Prelude.{Bool, true, false, ◌&&◌, ◌||◌, not, ℤ, pos, ◌+ℤ◌, List, [], ◌∷◌, map, filter, Option, Some, None, if◌then◌else◌}
use Rattle.std.specs.List.{list_any, list_all}
use Rattle.soar_sym.specs.Equality.{symbol_eq}
use Rattle.soar_sym.specs.Words.{Texts}
use Rattle.soar_sym.specs.declared.symbol.Sym.{Sym}
use Rattle.soar_sym.specs.declared.symbol.Sym.TheVariants.{Int}
use Rattle.defs_soar.specs.declared.preference.PrefKind.{PrefKind}
use Rattle.defs_soar.specs.declared.preference.PrefKind.TheVariants as kind
use Rattle.defs_soar.specs.declared.preference.Preference.{Preference}
use Rattle.defs_soar.specs.declared.choice.Scored.{Scored}
use Rattle.defs_soar.specs.declared.choice.Choice.{Choice}
use Rattle.defs_soar.specs.declared.choice.Choice.TheVariants as choice
use Rattle.defs_soar.specs.Sorted.{with_symbol}
use Rattle.defs_soar.specs.Values.{is_kind}

-- ---- sets of values

-- some row of a kind names the value
abbrev pub has_kind : List Preference → PrefKind → Sym → Bool
has_kind rows k value = list_any (λ row. is_kind row.wish.kind k && symbol_eq row.wish.value value) rows

-- the values of the rows of a kind, in symbol order
abbrev pub values_of : Texts → PrefKind → List Preference → List Sym
values_of words k [] = []
values_of words k (row ∷ rows) = if is_kind row.wish.kind k then with_symbol words (values_of words k rows) row.wish.value else values_of words k rows

-- ---- scores

abbrev pub number_in_row : Sym → Preference → ℤ
number_in_row value row = if is_kind row.wish.kind kind.Numeric && symbol_eq row.wish.value value then integer_referent row.wish.referent else pos 0
  where
    integer_referent : Option Sym → ℤ
    integer_referent (Some (Int z)) = z
    integer_referent other = pos 0

abbrev pub sum_of : List Preference → Sym → ℤ
sum_of [] value = pos 0
sum_of (row ∷ rows) value = number_in_row value row +ℤ sum_of rows value

abbrev pub scored : List Preference → Sym → Scored
scored rows value = record { value = value; numeric = has_kind rows kind.Numeric value; sum = sum_of rows value }

abbrev pub all_scored : List Preference → List Sym → List Scored
all_scored rows values = map (scored rows) values

-- ---- better and worse, within the candidates

-- a row says this of one value and another
abbrev pub says_of : List Preference → PrefKind → Sym → Sym → Bool
says_of rows k a b = list_any (λ row. is_kind row.wish.kind k && (symbol_eq row.wish.value a && names row.wish.referent b)) rows
  where
    names : Option Sym → Sym → Bool
    names None s = false
    names (Some r) s = symbol_eq r s

abbrev pub beats : List Preference → Sym → Sym → Bool
beats rows a b = not (symbol_eq a b) && (says_of rows kind.Better a b || says_of rows kind.Worse b a)

abbrev pub is_beaten : List Preference → List Sym → Sym → Bool
is_beaten rows candidates b = list_any (λ a. beats rows a b) candidates

abbrev pub unbeaten : List Preference → List Sym → List Sym
unbeaten rows candidates = filter (λ b. not (is_beaten rows candidates b)) candidates

-- ---- best and worst

abbrev pub if_some : List Sym → List Sym → List Sym
if_some [] others = others
if_some (s ∷ symbols) others = s ∷ symbols

-- those with best, if there are some
abbrev pub best_of : List Preference → List Sym → List Sym
best_of rows values = if_some (filter (has_kind rows kind.Best) values) values

-- those without worst, unless all have it
abbrev pub without_worst : List Preference → List Sym → List Sym
without_worst rows values = if_some (filter (λ v. not (has_kind rows kind.Worst v)) values) values

-- ---- indifference

abbrev pub is_indifferent_alone : List Preference → Sym → Bool
is_indifferent_alone rows value = has_kind rows kind.Indifferent value || has_kind rows kind.Numeric value

abbrev pub are_indifferent : List Preference → Sym → Sym → Bool
are_indifferent rows a b =
    (is_indifferent_alone rows a && is_indifferent_alone rows b) || (says_of rows kind.IndifferentTo a b || says_of rows kind.IndifferentTo b a)

-- every two of them
abbrev pub all_indifferent : List Preference → List Sym → Bool
all_indifferent rows [] = true
all_indifferent rows (a ∷ values) = list_all (are_indifferent rows a) values && all_indifferent rows values

-- ---- the choice

abbrev pub among : List Preference → List Sym → Choice
among rows (a ∷ []) = choice.Left (all_scored rows (a ∷ []))
among rows values = if all_indifferent rows values then choice.Left (all_scored rows values) else choice.Tie (all_scored rows values)

abbrev pub among_unbeaten : List Preference → List Sym → List Sym → Choice
among_unbeaten rows candidates [] = choice.Conflict (all_scored rows candidates)
among_unbeaten rows candidates (a ∷ values) = among rows (without_worst rows (best_of rows (a ∷ values)))

abbrev pub among_candidates : List Preference → List Sym → Choice
among_candidates rows [] = choice.NoCandidate
among_candidates rows (a ∷ candidates) = among_unbeaten rows (a ∷ candidates) (unbeaten rows (a ∷ candidates))

-- acceptable, and neither prohibited nor rejected
abbrev pub candidates : Texts → List Preference → List Sym
candidates words rows = filter (λ v. not (has_kind rows kind.Prohibit v || has_kind rows kind.Reject v)) (values_of words kind.Accept rows)

abbrev pub with_required : Texts → List Preference → List Sym → Choice
with_required words rows [] = among_candidates rows (candidates words rows)
with_required words rows (a ∷ []) =
    if has_kind rows kind.Prohibit a then choice.Constraint (all_scored rows (a ∷ [])) else choice.Left (all_scored rows (a ∷ []))
with_required words rows (a ∷ b ∷ required) = choice.Constraint (all_scored rows (a ∷ b ∷ required))

abbrev pub choice_of : Texts → List Preference → Choice
choice_of words rows = with_required words rows (values_of words kind.Require rows)
