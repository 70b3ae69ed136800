-- The rounds of the definition end in what is closed, and in nothing more.
use Rattle.std.proofs.Common.{◌≡◌, ◌∙◌, refl, sym, ap, ℕ, zero, suc, ◌+◌, ◌<◌, ◌≤◌, ◌==◌, arith, Bool, true, false, cond, ◌&&◌, ◌||◌, inl, inr, ◌⊎◌, List, [], ◌∷◌, length, filter, flat_map}
use Rattle.soar_sym.specs.Equality.{symbol_eq}
use Rattle.soar_sym.specs.declared.symbol.Sym.{Sym}
use Rattle.soar_rule.specs.Repeat.{until_same}
use Rattle.defs_soar.specs.declared.preference.PrefKind.TheVariants as kind
use Rattle.defs_soar.specs.declared.preference.Preference.{Preference}
use Rattle.defs_soar.specs.Levels.{same_length}
use Rattle.defs_soar.specs.Results.{accepted_for, named_by}
use Rattle.defs_soar.specs.Sorted.{has_symbol}
use Rattle.defs_soar.specs.Values.{is_identifier, is_kind}
use Rattle.level_laws.proofs.SymbolLemmas.{symbol_same, symbol_self}
use Rattle.level_laws.proofs.ReachedLemmas.{and_both, and_parts, or_first, or_second, or_split}
use Rattle.chunk_results.specs.Held.{Grows, held_from, held_more, leads, named_from, row_leads}
use Rattle.chunk_results.proofs.EachLemmas.{each_has, each_same, each_within, filter_has, has_in_both}

-- ---- what rows name

abbrev is_of : List Sym → Preference → Bool
is_of ids row = is_kind row.wish.kind kind.Accept && has_symbol ids row.wish.id

named_after : (row : Preference) (later : List Preference) (y : Sym) → has_symbol (flat_map (λ r. named_by r.wish) (row ∷ later)) y ≡ (has_symbol (named_by row.wish) y || has_symbol (flat_map (λ r. named_by r.wish) later) y)
named_after row later y = has_in_both (named_by row.wish) (flat_map (λ r. named_by r.wish) later) y

pub led_is_named : (rows : List Preference) (ids : List Sym) (x y : Sym) → has_symbol ids x ≡ true → leads rows x y ≡ true → has_symbol (named_from rows ids) y ≡ true
led_is_named [] ids x y h e = cc
led_is_named (row ∷ rows) ids x y h e = by (is_of ids row) refl (led_is_named rows ids x y h)
  where
    here : row_leads row x y ≡ true → (is_of ids row ≡ true) × (has_symbol (named_by row.wish) y ≡ true)
    here f =
        let p = and_parts (is_kind row.wish.kind kind.Accept) (symbol_eq x row.wish.id && (has_symbol (named_by row.wish) y && is_identifier y)) f in
        let q = and_parts (symbol_eq x row.wish.id) (has_symbol (named_by row.wish) y && is_identifier y) p.1 in (
          and_both (is_kind row.wish.kind kind.Accept) (has_symbol ids row.wish.id) p.0 (ap (has_symbol ids) (sym (symbol_same x row.wish.id q.0)) ∙ h),
          (and_parts (has_symbol (named_by row.wish) y) (is_identifier y) q.1).0,
        )

    by : (b : Bool) → is_of ids row ≡ b → (leads rows x y ≡ true → has_symbol (named_from rows ids) y ≡ true)
        → has_symbol (flat_map (λ r. named_by r.wish) (cond b (row ∷ accepted_for rows ids) (accepted_for rows ids))) y ≡ true
    by true is later =
        named_after row (accepted_for rows ids) y
        ∙ elim (or_split (row_leads row x y) (leads rows x y) e) [
          | inl f ↦ or_first (has_symbol (named_by row.wish) y) (has_symbol (named_from rows ids) y) (here f).1
          | inr f ↦ or_second (has_symbol (named_by row.wish) y) (has_symbol (named_from rows ids) y) (later f)
        ]
    by false is later =
        elim (or_split (row_leads row x y) (leads rows x y) e) [
          | inl f ↦ absurd (let g : false ≡ true = sym is ∙ (here f).0 in cc)
          | inr f ↦ later f
        ]

abbrev IsLedTo : List Preference → List Sym → Sym → Type 0
IsLedTo rows ids y = (x : Sym) × (has_symbol ids x ≡ true) × (leads rows x y ≡ true)

pub named_is_led : (rows : List Preference) (ids : List Sym) (y : Sym) → is_identifier y ≡ true → has_symbol (named_from rows ids) y ≡ true → IsLedTo rows ids y
named_is_led [] ids y i h = cc
named_is_led (row ∷ rows) ids y i h = by (is_of ids row) refl h (λ k. named_is_led rows ids y i k)
  where
    behind : IsLedTo rows ids y → IsLedTo (row ∷ rows) ids y
    behind (x, a, b) = (x, a, or_second (row_leads row x y) (leads rows x y) b)

    by : (b : Bool) → is_of ids row ≡ b → has_symbol (flat_map (λ r. named_by r.wish) (cond b (row ∷ accepted_for rows ids) (accepted_for rows ids))) y ≡ true
        → (has_symbol (named_from rows ids) y ≡ true → IsLedTo rows ids y) → IsLedTo (row ∷ rows) ids y
    by true is k later =
        let p = and_parts (is_kind row.wish.kind kind.Accept) (has_symbol ids row.wish.id) is in
        elim (or_split (has_symbol (named_by row.wish) y) (has_symbol (named_from rows ids) y) (sym (named_after row (accepted_for rows ids) y) ∙ k)) [
          | inl f ↦ (
            row.wish.id,
            p.1,
            or_first (row_leads row row.wish.id y) (leads rows row.wish.id y)
                (and_both (is_kind row.wish.kind kind.Accept) (symbol_eq row.wish.id row.wish.id && (has_symbol (named_by row.wish) y && is_identifier y)) p.0
                (and_both (symbol_eq row.wish.id row.wish.id) (has_symbol (named_by row.wish) y && is_identifier y) (symbol_self row.wish.id) (and_both (has_symbol (named_by row.wish) y) (is_identifier y) f i))),
          )
          | inr f ↦ behind (later f)
        ]
    by false is k later = behind (later k)

no_rows : (rows : List Preference) → accepted_for rows [] ≡ []
no_rows [] = refl
no_rows (row ∷ rows) = by (is_kind row.wish.kind kind.Accept) (no_rows rows)
  where
    by : (b : Bool) → accepted_for rows [] ≡ [] → cond (b && false) (row ∷ accepted_for rows []) (accepted_for rows []) ≡ []
    by true later = later
    by false later = later

-- ---- filters of which one passes more

filter_less : {A : Type 0} (p q : A → Bool) → ((a : A) → p a ≡ true → q a ≡ true) → (xs : List A) → length (filter p xs) ≤ length (filter q xs)
filter_less p q h [] = omega arith
filter_less p q h (x ∷ xs) = by (p x) (q x) (h x) (filter_less p q h xs)
  where
    by : (b c : Bool) → (b ≡ true → c ≡ true) → length (filter p xs) ≤ length (filter q xs) → length (cond b (x ∷ filter p xs) (filter p xs)) ≤ length (cond c (x ∷ filter q xs) (filter q xs))
    by true true k l = omega (arith, l)
    by true false k l = absurd (let e : false ≡ true = k refl in cc)
    by false true k l = omega (arith, l)
    by false false k l = l

filter_all : {A : Type 0} (p : A → Bool) (xs : List A) → length (filter p xs) ≤ length xs
filter_all p [] = omega arith
filter_all p (x ∷ xs) = by (p x) (filter_all p xs)
  where
    by : (b : Bool) → length (filter p xs) ≤ length xs → length (cond b (x ∷ filter p xs) (filter p xs)) ≤ suc (length xs)
    by true l = omega (arith, l)
    by false l = omega (arith, l)

filter_same : {A : Type 0} (p q : A → Bool) → ((a : A) → p a ≡ true → q a ≡ true) → (xs : List A) → length (filter q xs) ≤ length (filter p xs) → filter q xs ≡ filter p xs
filter_same p q h [] l = refl
filter_same p q h (x ∷ xs) l = by (p x) (q x) (h x) l (filter_less p q h xs) (filter_same p q h xs)
  where
    by : (b c : Bool) → (b ≡ true → c ≡ true) → length (cond c (x ∷ filter q xs) (filter q xs)) ≤ length (cond b (x ∷ filter p xs) (filter p xs)) → length (filter p xs) ≤ length (filter q xs)
        → (length (filter q xs) ≤ length (filter p xs) → filter q xs ≡ filter p xs) → cond c (x ∷ filter q xs) (filter q xs) ≡ cond b (x ∷ filter p xs) (filter p xs)
    by true true k l m later = ap (λ ys. x ∷ ys) (later (omega (arith, l)))
    by true false k l m later = absurd (let e : false ≡ true = k refl in cc)
    by false true k l m later = absurd (omega (arith, l, m))
    by false false k l m later = later l

is_of_more : (old new : List Sym) → Grows old new → (row : Preference) → is_of old row ≡ true → is_of new row ≡ true
is_of_more old new g row h =
    let p = and_parts (is_kind row.wish.kind kind.Accept) (has_symbol old row.wish.id) h in
    and_both (is_kind row.wish.kind kind.Accept) (has_symbol new row.wish.id) p.0 (g row.wish.id p.1)

-- where no more rows are accepted, no more is named
named_same : (rows : List Preference) (old new : List Sym) → Grows old new → length (accepted_for rows new) ≤ length (accepted_for rows old) → named_from rows new ≡ named_from rows old
named_same rows old new g l = ap (flat_map (λ r. named_by r.wish)) (filter_same (is_of old) (is_of new) (is_of_more old new g) rows l)

-- ---- rounds

until_has : {A : Type 0} (same : A → A → Bool) (step : A → A) (P : A → Type 0) → ((a : A) → P a → P (step a)) → (n : ℕ) (a : A) → P a → P (until_same same n step a)
until_has same step P h zero a p = p
until_has same step P h (suc n) a p = by (same a (step a)) (until_has same step P h n (step a) (h a p))
  where
    by : (b : Bool) → P (until_same same n step (step a)) → P (elim b [ true ↦ a | false ↦ until_same same n step (step a) ])
    by true q = p
    by false q = q

less_or_not : (m n : ℕ) → (m < n) ⊎ (n ≤ m)
less_or_not zero zero = inr (omega arith)
less_or_not zero (suc n) = inl (omega arith)
less_or_not (suc m) zero = inr (omega arith)
less_or_not (suc m) (suc n) = elim (less_or_not m n) [ inl h ↦ inl (omega (arith, h)) | inr h ↦ inr (omega (arith, h)) ]

equal_tells : (m n : ℕ) → (m == n) ≡ true → m ≡ n
equal_tells m n h = grind arith

equal_self : (m n : ℕ) → m ≡ n → (m == n) ≡ true
equal_self m n h = grind arith

module _ (hangs : Sym → Bool) (rows : List Preference) where
  abbrev more : List Sym → List Sym
  more = held_more hangs rows

  abbrev found : List Sym → List Sym
  found ids = filter hangs (named_from rows ids)

  -- what rows name for some is among others
  abbrev Has : List Sym → List Sym → Type 0
  Has ids all = Grows (found ids) all

  more_has : (ids : List Sym) (s : Sym) → has_symbol (more ids) s ≡ (has_symbol ids s || has_symbol (found ids) s)
  more_has ids s = each_has (found ids) ids s

  more_grows : (ids : List Sym) → Grows ids (more ids)
  more_grows ids = λ s h. more_has ids s ∙ or_first (has_symbol ids s) (has_symbol (found ids) s) h

  more_finds : (ids : List Sym) → Has ids (more ids)
  more_finds ids = λ s h. more_has ids s ∙ or_second (has_symbol ids s) (has_symbol (found ids) s) h

  until_closed : (n : ℕ) (before ids : List Sym) → Grows before ids → Has before ids → length rows ≤ n + length (accepted_for rows before)
      → Has (until_same same_length n more ids) (until_same same_length n more ids)
  until_closed zero before ids g h l =
      let e : named_from rows ids ≡ named_from rows before = named_same rows before ids g (omega (arith, l, filter_all (is_of ids) rows)) in
      λ s k. h s (ap (λ names. has_symbol (filter hangs names) s) (sym e) ∙ k)
  until_closed (suc n) before ids g h l =
      by (same_length ids (more ids)) refl (until_closed n ids (more ids) (more_grows ids) (more_finds ids)) (less_or_not (length (accepted_for rows before)) (length (accepted_for rows ids)))
    where
      end : List Sym
      end = until_same same_length n more (more ids)

      by : (b : Bool) → same_length ids (more ids) ≡ b → (length rows ≤ n + length (accepted_for rows ids) → Has end end)
          → (length (accepted_for rows before) < length (accepted_for rows ids)) ⊎ (length (accepted_for rows ids) ≤ length (accepted_for rows before))
          → Has (elim b [ true ↦ ids | false ↦ until_same same_length n more (more ids) ]) (elim b [ true ↦ ids | false ↦ until_same same_length n more (more ids) ])
      by true e later m = λ s k. ap (λ all. has_symbol all s) (sym (each_same (found ids) ids (equal_tells (length ids) (length (more ids)) e))) ∙ more_finds ids s k
      by false e later (inl m) = later (omega (arith, l, m))
      by false e later (inr m) =
          let same : named_from rows ids ≡ named_from rows before = named_same rows before ids g m in
          let none : more ids ≡ ids = each_within (found ids) ids (λ s k. h s (ap (λ names. has_symbol (filter hangs names) s) (sym same) ∙ k)) in
          absurd (let f : false ≡ true = sym e ∙ equal_self (length ids) (length (more ids)) (ap length (sym none)) in cc)

  -- ---- what is held

  pub held_closed : (first : List Sym) (x y : Sym) → has_symbol (held_from hangs rows first) x ≡ true → leads rows x y ≡ true → hangs y ≡ true → has_symbol (held_from hangs rows first) y ≡ true
  unfolding held_from
  held_closed first x y h e k =
      let end : List Sym = until_same same_length (length rows) more first in
      until_closed (length rows) [] first (λ s z. cc) (λ s z. absurd (let f : false ≡ true = sym (ap (λ l. has_symbol (filter hangs (flat_map (λ r. named_by r.wish) l)) s) (no_rows rows)) ∙ z in cc)) (omega arith) y
      (filter_has hangs (named_from rows end) y ∙ and_both (hangs y) (has_symbol (named_from rows end) y) k (led_is_named rows end x y h e))

  pub held_first : (first : List Sym) → Grows first (held_from hangs rows first)
  unfolding held_from
  held_first first = until_has same_length more (Grows first) (λ ids g s h. more_grows ids s (g s h)) (length rows) first (λ s h. h)

  pub held_least : (first : List Sym) (p : Sym → Bool) → ((s : Sym) → hangs s ≡ true → is_identifier s ≡ true) → ((s : Sym) → has_symbol first s ≡ true → p s ≡ true)
      → ((x y : Sym) → p x ≡ true → leads rows x y ≡ true → hangs y ≡ true → p y ≡ true) → (s : Sym) → has_symbol (held_from hangs rows first) s ≡ true → p s ≡ true
  unfolding held_from
  held_least first p identifiers starts goes = until_has same_length more (λ ids. (s : Sym) → has_symbol ids s ≡ true → p s ≡ true) round (length rows) first starts
    where
      round : (ids : List Sym) → ((s : Sym) → has_symbol ids s ≡ true → p s ≡ true) → (s : Sym) → has_symbol (more ids) s ≡ true → p s ≡ true
      round ids all s h =
          elim (or_split (has_symbol ids s) (has_symbol (found ids) s) (sym (more_has ids s) ∙ h)) [
            | inl k ↦ all s k
            | inr k ↦
                let q = and_parts (hangs s) (has_symbol (named_from rows ids) s) (sym (filter_has hangs (named_from rows ids) s) ∙ k) in
                let (x, a, b) = named_is_led rows ids s (identifiers s q.0) q.1 in goes x s (all x a) b q.0
          ]
