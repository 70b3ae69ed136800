-- Numbers in range have sums in range.
use Rattle.std.proofs.Common.{◌≡◌, ℕ, ◌<◌, ◌≤◌, ◌*◌, ◌+◌, zero, suc, Bool, true, false, cond, List, [], ◌∷◌, length, map, drop, get_or, ℤ, pos, ◌+ℤ◌, Option, Some, None, subst, ap, arith}
use Rattle.std.proofs.lemmas.Int.{ints}
use Rattle.std.proofs.lemmas.List.{drop_more}
use Rattle.soar_sym.specs.Equality.{symbol_eq}
use Rattle.soar_sym.specs.declared.symbol.Sym.{Sym}
use Rattle.soar_sym.specs.declared.symbol.Sym.TheVariants.{Ident, Word, Int}
use Rattle.defs_soar.specs.declared.preference.PrefKind.{PrefKind}
use Rattle.defs_soar.specs.declared.preference.PrefKind.TheVariants as kind
use Rattle.defs_soar.specs.declared.preference.Preference.{Preference}
use Rattle.defs_soar.specs.Choice.{all_scored, has_kind, number_in_row, sum_of}
use Rattle.defs_soar.specs.Sorted.{has_symbol}
use Rattle.soar_choose.specs.Rows.{AreInRange, AreSumsWithin, IsNumberInRange, IsWithin}
use Rattle.soar_choose.specs.Told.{scored_by, sum_at}
use Rattle.soar_choose.proofs.RowLemmas.{no_row}

-- ---- the row at a place

pub range_after : (i : ℕ) (rows : List Preference) → AreInRange rows → AreInRange (drop i rows)
range_after zero rows h = h
range_after (suc i) [] h = tt
range_after (suc i) (row ∷ rows) h = range_after i rows h.1

pub range_at : (rows : List Preference) (i : ℕ) → i < length rows → AreInRange rows → IsNumberInRange (get_or rows i no_row).wish.kind (get_or rows i no_row).wish.referent
range_at rows i lt h = let P : List Preference → Type 0 = AreInRange in (subst P (drop_more rows i no_row lt) (range_after i rows h)).0

pub sum_step : (rows : List Preference) (i : ℕ) (value : Sym) → i < length rows
    → sum_of (drop i rows) value ≡ number_in_row value (get_or rows i no_row) +ℤ sum_of (drop (i + 1) rows) value
sum_step rows i value h = ap (λ rest. sum_of rest value) (drop_more rows i no_row h)

-- ---- within

zero_within : IsWithin 1000000000 (pos 0)
zero_within = (omega (arith, ints), omega (arith, ints))

either_within : (b : Bool) (z : ℤ) → IsWithin 1000000000 z → IsWithin 1000000000 (cond b z (pos 0))
either_within true z h = h
either_within false z h = zero_within

number_within : (row : Preference) (value : Sym) → IsNumberInRange row.wish.kind row.wish.referent → IsWithin 1000000000 (number_in_row value row)
number_within row value h = by row.wish.kind row.wish.referent h
  where
    by : (k : PrefKind) (r : Option Sym) → IsNumberInRange k r → IsWithin 1000000000 (number_in_row value (record row { wish = record row.wish { kind = k; referent = r } }))
    by kind.Numeric (Some (Int z)) h = either_within (symbol_eq row.wish.value value) z h
    by kind.Numeric (Some (Ident letter number)) h = either_within (symbol_eq row.wish.value value) (pos 0) zero_within
    by kind.Numeric (Some (Word word)) h = either_within (symbol_eq row.wish.value value) (pos 0) zero_within
    by kind.Numeric None h = either_within (symbol_eq row.wish.value value) (pos 0) zero_within
    by kind.Accept r h = zero_within
    by kind.Require r h = zero_within
    by kind.Reject r h = zero_within
    by kind.Prohibit r h = zero_within
    by kind.Better r h = zero_within
    by kind.Worse r h = zero_within
    by kind.Best r h = zero_within
    by kind.Worst r h = zero_within
    by kind.Indifferent r h = zero_within
    by kind.IndifferentTo r h = zero_within

more_within : (n : ℕ) (a b : ℤ) → IsWithin 1000000000 a → IsWithin (n * 1000000000) b → IsWithin (suc n * 1000000000) (a +ℤ b)
more_within n a b h k = (omega (arith, ints, h, k), omega (arith, ints, h, k))

sum_grows : (rows : List Preference) (value : Sym) → AreInRange rows → IsWithin (length rows * 1000000000) (sum_of rows value)
sum_grows [] value h = (omega (arith, ints), omega (arith, ints))
sum_grows (row ∷ rows) value h = more_within (length rows) (number_in_row value row) (sum_of rows value) (number_within row value h.0) (sum_grows rows value h.1)

few_within : (n : ℕ) (z : ℤ) → n ≤ 1000000 → IsWithin (n * 1000000000) z → IsWithin 1000000000000000 z
few_within n z few h = (omega (arith, ints, h), omega (arith, ints, h))

pub sum_within : (rows : List Preference) (value : Sym) → length rows ≤ 1000000 → AreInRange rows → IsWithin 1000000000000000 (sum_of rows value)
sum_within rows value few h = few_within (length rows) (sum_of rows value) few (sum_grows rows value h)

shorter : (i : ℕ) (rows : List Preference) → length (drop i rows) ≤ length rows
shorter zero rows = omega arith
shorter (suc i) [] = omega arith
shorter (suc i) (row ∷ rows) = omega (arith, shorter i rows)

pub rest_within : (i : ℕ) (rows : List Preference) (value : Sym) → length rows ≤ 1000000 → AreInRange rows → IsWithin 1000000000000000 (sum_of (drop i rows) value)
rest_within i rows value few h = sum_within (drop i rows) value (omega (arith, shorter i rows, few)) (range_after i rows h)

-- what is left of a sum and what was taken from it
pub part_within : (a b whole : ℤ) → a +ℤ b ≡ whole → IsWithin 1000000000000000 b → IsWithin 1000000000000000 whole → IsWithin 2000000000000000 a
part_within a b whole e h k = (omega (arith, ints, h, k, e), omega (arith, ints, h, k, e))

-- ---- values with their sums

pub scored_same : (rows : List Preference) (numeric : List Sym) (sums : List (Sym × ℤ)) → ((v : Sym) → has_symbol numeric v ≡ has_kind rows kind.Numeric v)
    → ((v : Sym) → sum_at sums v ≡ sum_of rows v) → (values : List Sym) → map (scored_by numeric sums) values ≡ all_scored rows values
scored_same rows numeric sums same total values = λ i. map (λ v. record { value = v; numeric = same v i; sum = total v i }) values

pub scored_within : (rows : List Preference) (values : List Sym) → length rows ≤ 1000000 → AreInRange rows → AreSumsWithin (all_scored rows values)
scored_within rows [] few h = tt
scored_within rows (v ∷ values) few h = (sum_within rows v few h, scored_within rows values few h)
