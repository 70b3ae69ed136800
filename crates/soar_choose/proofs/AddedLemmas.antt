-- What a set of pairs and a map of sums have, by the order of their keys, once a row was added.
use Rattle.std.proofs.Common.{◌≡◌, ◌∙◌, refl, sym, ap, ap₂, Bool, true, false, cond, ◌&&◌, ◌||◌, List, [], ◌∷◌, Option, Some, ℤ, pos, ◌+ℤ◌, Ordering, Less, Equal, Greater}
use Rattle.std.specs.List.{list_any}
use Rattle.std.specs.Map.{lookup}
use Rattle.std.specs.Option.{unwrap_or}
use Rattle.std.specs.Ordering.{is_eq, ordering_then}
use Rattle.soar_sym.specs.Equality.{symbol_eq}
use Rattle.soar_sym.specs.declared.symbol.Sym.{Sym}
use Rattle.symbol_sets.proofs.KeyLemmas.{cmp_same, sym_cmp}
use Rattle.soar_choose.specs.Told.{has_pair, sum_at}
use Rattle.soar_choose.proofs.ShuffleLemmas.{turn}

-- ---- pairs

abbrev pub pair_cmp : Sym × Sym → Sym × Sym → Ordering
pair_cmp a b = ordering_then (sym_cmp a.0 b.0) (sym_cmp a.1 b.1)

then_same : (x y : Ordering) → is_eq (ordering_then x y) ≡ (is_eq x && is_eq y)
then_same Less y = refl
then_same Equal y = refl
then_same Greater y = refl

pair_same : (a b : Sym × Sym) → is_eq (pair_cmp a b) ≡ (symbol_eq a.0 b.0 && symbol_eq a.1 b.1)
pair_same a b = then_same (sym_cmp a.0 b.0) (sym_cmp a.1 b.1) ∙ ap₂ (λ x y. x && y) (cmp_same a.0 b.0) (cmp_same a.1 b.1)

pair_turned : (a b : Sym × Sym) → is_eq (pair_cmp a b) ≡ (symbol_eq b.0 a.0 && symbol_eq b.1 a.1)
pair_turned a b = pair_same a b ∙ ap₂ (λ x y. x && y) (turn a.0 b.0) (turn a.1 b.1)

-- whether the set's order finds a pair
abbrev pub finds : List (Sym × Sym) → Sym × Sym → Bool
finds keys p = list_any (λ k. is_eq (pair_cmp p k)) keys

pub pair_found : (keys : List (Sym × Sym)) (x y : Sym) → finds keys (x, y) ≡ has_pair keys x y
pair_found keys x y = ap (λ p. list_any p keys) (λ i k. pair_turned (x, y) k i)

pub pair_added : (old new : List (Sym × Sym)) (a b : Sym) → ((q : Sym × Sym) → finds new q ≡ cond (is_eq (pair_cmp (a, b) q)) true (finds old q))
    → (x y : Sym) → has_pair new x y ≡ ((symbol_eq a x && symbol_eq b y) || has_pair old x y)
pair_added old new a b up x y =
    sym (pair_found new x y) ∙ up (x, y)
    ∙ ap₂ (λ p q. cond p true q) (pair_same (a, b) (x, y)) (pair_found old x y)
    ∙ by (symbol_eq a x && symbol_eq b y) (has_pair old x y)
  where
    by : (p q : Bool) → cond p true q ≡ (p || q)
    by true q = refl
    by false q = refl

-- ---- sums

abbrev pub sum_found_at : List (Sym × ℤ) → Sym → Option ℤ
sum_found_at es s = lookup (λ k. is_eq (sym_cmp s k)) es

pub sum_found : (es : List (Sym × ℤ)) (s : Sym) → unwrap_or (sum_found_at es s) (pos 0) ≡ sum_at es s
sum_found [] s = refl
sum_found (e ∷ es) s = ap (λ b. unwrap_or (cond b (Some e.1) (sum_found_at es s)) (pos 0)) (cmp_same s e.0) ∙ by (symbol_eq s e.0) (sum_found es s)
  where
    by : (b : Bool) → unwrap_or (sum_found_at es s) (pos 0) ≡ sum_at es s → unwrap_or (cond b (Some e.1) (sum_found_at es s)) (pos 0) ≡ cond b e.1 (sum_at es s)
    by true h = refl
    by false h = h

sum_added : (old new : List (Sym × ℤ)) (value : Sym) (z : ℤ) → ((s : Sym) → sum_found_at new s ≡ cond (is_eq (sym_cmp value s)) (Some z) (sum_found_at old s))
    → (s : Sym) → sum_at new s ≡ cond (symbol_eq value s) z (sum_at old s)
sum_added old new value z up s =
    sym (sum_found new s) ∙ ap (λ o. unwrap_or o (pos 0)) (up s ∙ ap (λ b. cond b (Some z) (sum_found_at old s)) (cmp_same value s))
    ∙ by (symbol_eq value s) (sum_found old s)
  where
    by : (b : Bool) → unwrap_or (sum_found_at old s) (pos 0) ≡ sum_at old s → unwrap_or (cond b (Some z) (sum_found_at old s)) (pos 0) ≡ cond b z (sum_at old s)
    by true h = refl
    by false h = h

pub sum_put : (old new seen : List (Sym × ℤ)) (value : Sym) (z number : ℤ) → ((s : Sym) → sum_found_at new s ≡ cond (is_eq (sym_cmp value s)) (Some z) (sum_found_at old s))
    → old ≡ seen → z ≡ number +ℤ sum_at seen value → (s : Sym) → sum_at new s ≡ cond (symbol_eq value s) (number +ℤ sum_at seen value) (sum_at seen s)
sum_put old new seen value z number up same is s = sum_added old new value z up s ∙ ap₂ (λ a l. cond (symbol_eq value s) a (sum_at l s)) is same
