-- What the entries of a wave leave is fit for what comes after: its rows for a decision, and all of it for the table.
use Rattle.std.proofs.Common.{◌≡◌, ℕ, ℤ, ◌≤◌, ◌&&◌, ◌||◌, Bool, true, false, not, cond, List, [], ◌∷◌, ◌++◌, map, flat_map, Option, Some, Ok, Err, inl, inr, refl, sym, ap, subst, arith}
use Rattle.std.specs.Bool.{passes}
use Rattle.std.specs.Int.Signed.{le_z_yes}
use Rattle.std.specs.Prelude.{int_le, pos, neg_ℤ, ◌≤ℤ◌}
use Rattle.soar_sym.specs.Words.{Texts, IsKnown}
use Rattle.soar_sym.specs.declared.symbol.Sym.{Sym}
use Rattle.soar_sym.specs.declared.symbol.Sym.TheVariants.{Int}
use Rattle.soar_rule.specs.Symbols.{AreKnown}
use Rattle.soar_choose.specs.Rows.{AreInRange, IsNumberInRange, IsWithin}
use Rattle.soar_settle.specs.Known.{AreRowsKnown}
use Rattle.defs_soar.specs.declared.firing.DropCause.TheVariants as cause
use Rattle.defs_soar.specs.declared.goal.Goal.{Goal}
use Rattle.defs_soar.specs.declared.preference.PrefKind.{PrefKind}
use Rattle.defs_soar.specs.declared.preference.PrefKind.TheVariants as kind
use Rattle.defs_soar.specs.declared.preference.Preference.{Preference}
use Rattle.defs_soar.specs.declared.preference.Wish.{Wish}
use Rattle.defs_soar.specs.Agents.{LiveFiring}
use Rattle.defs_soar.specs.Dependencies.{symbols_of_wish}
use Rattle.defs_soar.specs.Events.{WishSupport, by_instance, by_operator, by_learned}
use Rattle.defs_soar.specs.Firing.{is_for_operator, is_in_range, judged, within_range}
use Rattle.defs_soar.specs.Laws.{IsIn}
use Rattle.defs_soar.specs.Values.{is_kind}
use Rattle.defs_soar.specs.WaveAtHand.{Fresh, SupportedWish}
use Rattle.defs_soar.specs.Waves.{held_row, live_of, rows_of_fresh}
use Rattle.learning_laws.specs.BeforeWave.{CanBeMade}
use Rattle.learning_laws.proofs.Lists.{in_append, in_flat_map, in_map}
use Rattle.wave_firings.specs.Numbered.{AreOfFirings}
use Rattle.wave_firings.proofs.FiringKnown.{are_rows_append}
use Rattle.wave_parts.specs.Seen.{AreLiveGiven, AreLiveKnown}

-- ---- rows in range

in_order : (a b : ℤ) → int_le a b ≡ true → a ≤ℤ b
in_order a b e = le_z_yes (passes (int_le a b) e)

within : (most : ℕ) (z : ℤ) → (int_le (neg_ℤ (pos most)) z && int_le z (pos most)) ≡ true → IsWithin most z
within most z e = by (int_le (neg_ℤ (pos most)) z) (int_le z (pos most)) (in_order (neg_ℤ (pos most)) z) (in_order z (pos most)) e
  where
    by : (a b : Bool) → (a ≡ true → neg_ℤ (pos most) ≤ℤ z) → (b ≡ true → z ≤ℤ pos most) → (a && b) ≡ true → IsWithin most z
    by true b low high e = (low refl, high e)
    by false b low high e = absurd (cc)

number_in_range : (k : PrefKind) (referent : Option Sym) → (not (is_kind k kind.Numeric) || within_range referent) ≡ true → IsNumberInRange k referent
number_in_range kind.Numeric (Some (Int z)) e = within 1000000000 z e
number_in_range other referent e = tt

-- what can be made was judged to be in range
judged_in_range : (goals : List Goal) (w : Wish) → judged goals w ≡ Ok w → IsNumberInRange w.kind w.referent
judged_in_range goals w allowed = by (is_for_operator goals w) (is_in_range w) allowed (number_in_range w.kind w.referent)
  where
    by : (a b : Bool) → cond a (cond b (Ok w) (Err cause.OutOfRange)) (Err cause.NotAnOperator) ≡ Ok w → (b ≡ true → IsNumberInRange w.kind w.referent) → IsNumberInRange w.kind w.referent
    by true true e fit = fit refl
    by true false e fit = absurd (cc)
    by false b e fit = absurd (cc)

range_append : (rows more : List Preference) → AreInRange rows → AreInRange more → AreInRange (rows ++ more)
range_append [] more h k = k
range_append (row ∷ rows) more h k = (h.0, range_append rows more h.1 k)

held_in_range : (n : ℕ) (y : SupportedWish) → IsNumberInRange y.wish.kind y.wish.referent → AreInRange (held_row n y)
held_in_range n y h = by y.wish_support
  where
    by : (how : WishSupport) → AreInRange (held_row n (record y { wish_support = how }))
    by by_instance = (h, tt)
    by by_operator = (h, tt)
    by by_learned = tt

all_in_range : (n : ℕ) (ys : List SupportedWish) → ((y : SupportedWish) → IsIn y ys → IsNumberInRange y.wish.kind y.wish.referent) → AreInRange (flat_map (held_row n) ys)
all_in_range n [] h = tt
all_in_range n (y ∷ ys) h = range_append (held_row n y) (flat_map (held_row n) ys) (held_in_range n y (h y (inl refl))) (all_in_range n ys (λ z is. h z (inr is)))

-- what holds of each preference that a firing holds
abbrev pub EachHeld : (Wish → Type 0) → List Fresh → Type 0
EachHeld P xs = (x : Fresh) (y : SupportedWish) → IsIn x xs → IsIn y x.wishes → P y.wish

pub rows_in_range : (goals : List Goal) (xs : List Fresh) → EachHeld (CanBeMade goals) xs → AreInRange (flat_map rows_of_fresh xs)
rows_in_range goals [] h = tt
rows_in_range goals (x ∷ xs) h =
    range_append (rows_of_fresh x) (flat_map rows_of_fresh xs)
    (all_in_range x.firing.number x.wishes (λ y is. judged_in_range goals y.wish (h x y (inl refl) is).allowed))
    (rows_in_range goals xs (λ z y at is. h z y (inr at) is))

-- ---- rows of known symbols

held_known : (words : Texts) (n : ℕ) (y : SupportedWish) → AreKnown words (symbols_of_wish y.wish) → AreRowsKnown words (held_row n y)
held_known words n y h = by y.wish_support
  where
    by : (how : WishSupport) → AreRowsKnown words (held_row n (record y { wish_support = how }))
    by by_instance = (h, tt)
    by by_operator = (h, tt)
    by by_learned = tt

all_known : (words : Texts) (n : ℕ) (ys : List SupportedWish) → ((y : SupportedWish) → IsIn y ys → AreKnown words (symbols_of_wish y.wish)) → AreRowsKnown words (flat_map (held_row n) ys)
all_known words n [] h = tt
all_known words n (y ∷ ys) h = are_rows_append words (held_row n y) (flat_map (held_row n) ys) (held_known words n y (h y (inl refl))) (all_known words n ys (λ z is. h z (inr is)))

pub rows_known : (words : Texts) (xs : List Fresh) → EachHeld (λ w. AreKnown words (symbols_of_wish w)) xs → AreRowsKnown words (flat_map rows_of_fresh xs)
rows_known words [] h = tt
rows_known words (x ∷ xs) h =
    are_rows_append words (rows_of_fresh x) (flat_map rows_of_fresh xs) (all_known words x.firing.number x.wishes (λ y is. h x y (inl refl) is))
    (rows_known words xs (λ z y at is. h z y (inr at) is))

-- ---- rows of the wave's firings

held_of : (n : ℕ) (y : SupportedWish) (row : Preference) → IsIn row (held_row n y) → row.firing ≡ n
held_of n y row is = by y.wish_support is
  where
    by : (how : WishSupport) → IsIn row (held_row n (record y { wish_support = how })) → row.firing ≡ n
    by by_instance (inl e) = ap (λ (r : Preference). r.firing) (sym e)
    by by_instance (inr none) = absurd none
    by by_operator (inl e) = ap (λ (r : Preference). r.firing) (sym e)
    by by_operator (inr none) = absurd none
    by by_learned none = absurd none

all_held_of : (n : ℕ) (ys : List SupportedWish) (row : Preference) → IsIn row (flat_map (held_row n) ys) → row.firing ≡ n
all_held_of n [] row is = absurd is
all_held_of n (y ∷ ys) row is = elim (in_append row (held_row n y) (flat_map (held_row n) ys) is) [ inl here ↦ held_of n y row here | inr later ↦ all_held_of n ys row later ]

pub rows_of_firings : (last : ℕ) (xs : List Fresh) → ((x : Fresh) → IsIn x xs → x.firing.number ≤ last) → AreOfFirings last (flat_map rows_of_fresh xs)
rows_of_firings last xs h row is =
    let x = in_flat_map rows_of_fresh row xs is in
    let low : x.0.firing.number ≤ last = h x.0 x.1 in
    let same : row.firing ≡ x.0.firing.number = all_held_of x.0.firing.number x.0.wishes row x.2 in
    omega (arith, low, same)

-- ---- live firings

pub live_named : (words : Texts) (xs : List Fresh) → ((x : Fresh) → IsIn x xs → IsKnown words x.firing.name) → AreLiveKnown words (map live_of xs)
live_named words [] h = tt
live_named words (x ∷ xs) h = (h x (inl refl), live_named words xs (λ z is. h z (inr is)))

pub live_rules_given : (last : ℕ) (xs : List Fresh) → ((x : Fresh) → IsIn x xs → x.firing.instance.rule ≤ last) → AreLiveGiven last (map live_of xs)
live_rules_given last xs h l is =
    let x = in_map live_of l xs is in
    subst (λ (k : LiveFiring). k.instance.rule ≤ last) x.2 (h x.0 x.1)
