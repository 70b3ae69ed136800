-- What is left stands in each list that it was taken from.
use Rattle.std.proofs.Common.{◌≡◌, ◌⊎◌, inl, inr, ℕ, ◌==◌, Bool, true, false, cond, not, ◌&&◌, ◌||◌, List, [], ◌∷◌, filter, ℤ, refl, sym, ◌∙◌, ap, arith}
use Rattle.std.specs.List.{list_any}
use Rattle.std.specs.Ordering.{int_eq}
use Rattle.std.proofs.lemmas.Map.Views.{any-filter_same}
use Rattle.soar_sym.specs.Equality.{symbol_eq}
use Rattle.soar_sym.specs.declared.symbol.Sym.{Sym}
use Rattle.soar_sym.specs.declared.symbol.Sym.TheVariants.{Ident, Word, Int}
use Rattle.defs_soar.specs.declared.preference.PrefKind.TheVariants as kind
use Rattle.defs_soar.specs.declared.preference.Preference.{Preference}
use Rattle.defs_soar.specs.declared.choice.Scored.{Scored}
use Rattle.defs_soar.specs.declared.choice.Choice.TheVariants as choice
use Rattle.defs_soar.specs.Choice.{all_scored, among, among_unbeaten, among_candidates, all_indifferent, best_of, without_worst, if_some, has_kind, unbeaten, is_beaten, beats, candidates, with_required}
use Rattle.defs_soar.specs.Sorted.{has_symbol}
use Rattle.soar_choose.specs.Laws.{values_left, NoneLeftIsBeaten}

ident_same : (a m b n : ℕ) → ((a == b) && (m == n)) ≡ true → Ident a m ≡ Ident b n
ident_same a m b n h = grind arith

word_same : (m n : ℕ) → (m == n) ≡ true → Word m ≡ Word n
word_same m n h = grind arith

int_same : (m n : ℤ) → int_eq m n ≡ true → Int m ≡ Int n
int_same m n h = grind arith

pub symbol_same : (a b : Sym) → symbol_eq a b ≡ true → a ≡ b
symbol_same (Ident a m) (Ident b n) h = ident_same a m b n h
symbol_same (Word m) (Word n) h = word_same m n h
symbol_same (Int m) (Int n) h = int_same m n h
symbol_same (Ident a m) (Word n) h = cc
symbol_same (Ident a m) (Int n) h = cc
symbol_same (Word m) (Ident b n) h = cc
symbol_same (Word m) (Int n) h = cc
symbol_same (Int m) (Ident b n) h = cc
symbol_same (Int m) (Word n) h = cc

both : (a b : Bool) → (a && b) ≡ true → (a ≡ true) × (b ≡ true)
both true b h = (refl, h)
both false b h = cc

pub in_filter : (p : Sym → Bool) (xs : List Sym) (v : Sym) → has_symbol (filter p xs) v ≡ true → (p v ≡ true) × (has_symbol xs v ≡ true)
in_filter p xs v h = both (p v) (has_symbol xs v) (sym (any-filter_same (symbol_eq v) p (p v) (λ k e. ap p (sym (symbol_same v k e))) xs) ∙ h)

in_if_some : (xs ys : List Sym) (v : Sym) → has_symbol (if_some xs ys) v ≡ true → (has_symbol xs v ≡ true) ⊎ (has_symbol ys v ≡ true)
in_if_some [] ys v h = inr h
in_if_some (x ∷ xs) ys v h = inl h

in_part : (p : Sym → Bool) (xs : List Sym) (v : Sym) → has_symbol (if_some (filter p xs) xs) v ≡ true → has_symbol xs v ≡ true
in_part p xs v h = elim (in_if_some (filter p xs) xs v h) [ inl k ↦ (in_filter p xs v k).1 | inr k ↦ k ]

pub values_scored : (rows : List Preference) (xs : List Sym) → values_left (all_scored rows xs) ≡ xs
values_scored rows [] = refl
values_scored rows (x ∷ xs) = ap (λ ys. x ∷ ys) (values_scored rows xs)

pub left_among : (rows : List Preference) (values : List Sym) (left : List Scored) → among rows values ≡ choice.Left left → all_scored rows values ≡ left
left_among rows [] left e = cc
left_among rows (a ∷ []) left e = cc
left_among rows (a ∷ b ∷ values) left e = by (all_indifferent rows (a ∷ b ∷ values)) (all_scored rows (a ∷ b ∷ values)) e
  where
    by : (t : Bool) (all : List Scored) → cond t (choice.Left all) (choice.Tie all) ≡ choice.Left left → all ≡ left
    by true all h = cc
    by false all h = cc

left_unbeaten : (rows : List Preference) (others values : List Sym) (left : List Scored) (v : Sym) → among_unbeaten rows others values ≡ choice.Left left
    → has_symbol (values_left left) v ≡ true → has_symbol values v ≡ true
left_unbeaten rows others [] left v e h = cc
left_unbeaten rows others (a ∷ values) left v e h =
    let best : List Sym = best_of rows (a ∷ values) in
    let kept : List Sym = without_worst rows best in
    let is : values_left left ≡ kept = ap values_left (sym (left_among rows kept left e)) ∙ values_scored rows kept in
    in_part (has_kind rows kind.Best) (a ∷ values) v
    (in_part (λ w. not (has_kind rows kind.Worst w)) best v (ap (λ xs. has_symbol xs v) (sym is) ∙ h))

pub left_candidates : (rows : List Preference) (others : List Sym) (left : List Scored) (v : Sym) → among_candidates rows others ≡ choice.Left left
    → has_symbol (values_left left) v ≡ true → has_symbol (unbeaten rows others) v ≡ true
left_candidates rows [] left v e h = cc
left_candidates rows (a ∷ others) left v e h = left_unbeaten rows (a ∷ others) (unbeaten rows (a ∷ others)) left v e h

any_has : (p : Sym → Bool) (xs : List Sym) (a : Sym) → has_symbol xs a ≡ true → p a ≡ true → list_any p xs ≡ true
any_has p [] a h k = cc
any_has p (x ∷ xs) a h k = by (symbol_eq a x) refl h (any_has p xs a)
  where
    by : (b : Bool) → symbol_eq a x ≡ b → (b || has_symbol xs a) ≡ true → (has_symbol xs a ≡ true → p a ≡ true → list_any p xs ≡ true) → (p x || list_any p xs) ≡ true
    by true e h rest = ap (λ b. b || list_any p xs) (ap p (sym (symbol_same a x e)) ∙ k)
    by false e h rest = ap (λ b. p x || b) (rest h k) ∙ or_true (p x)
      where
        or_true : (b : Bool) → (b || true) ≡ true
        or_true true = refl
        or_true false = refl

pub none_left_is_beaten : NoneLeftIsBeaten
none_left_is_beaten words rows left a b e none ha hb =
    by (beats rows a b) refl (in_filter (λ v. not (is_beaten rows (candidates words rows) v)) (candidates words rows) b
    (left_candidates rows (candidates words rows) left b (ap (with_required words rows) (sym none) ∙ e) hb)).0
  where
    by : (t : Bool) → beats rows a b ≡ t → not (is_beaten rows (candidates words rows) b) ≡ true → t ≡ false
    by false f h = refl
    by true f h = let k : is_beaten rows (candidates words rows) b ≡ true = any_has (λ c. beats rows c b) (candidates words rows) a ha f in absurd (clash (is_beaten rows (candidates words rows) b) k h)
      where
        clash : (t : Bool) → t ≡ true → not t ≡ true → ⊥
        clash true k h = cc
        clash false k h = cc
