-- Lists to which symbols are added where they are new.
use Rattle.std.proofs.Common.{◌≡◌, ◌∙◌, refl, sym, ap, ℕ, ◌+◌, ◌*◌, ◌<◌, ◌≤◌, arith, Bool, true, false, cond, ◌&&◌, ◌||◌, inl, inr, List, [], ◌∷◌, ◌++◌, length, filter, flat_map, append_assoc, length-append}
use Rattle.std.proofs.lemmas.List.{append-nil}
use Rattle.std.proofs.lemmas.List.Folds.{list_any-append}
use Rattle.soar_sym.specs.Equality.{symbol_eq}
use Rattle.soar_sym.specs.declared.symbol.Sym.{Sym}
use Rattle.defs_soar.specs.Results.{with_each_symbol}
use Rattle.defs_soar.specs.Sorted.{has_symbol}
use Rattle.level_laws.proofs.SymbolLemmas.{symbol_same, symbol_self}
use Rattle.level_laws.proofs.ReachedLemmas.{or_first, or_second, or_split}
use Rattle.level_graph.specs.Listed.{LinkList, listed}
use Rattle.level_graph.proofs.ListedLemmas.{has_more}

pub has_in_both : (xs ys : List Sym) (s : Sym) → has_symbol (xs ++ ys) s ≡ (has_symbol xs s || has_symbol ys s)
has_in_both xs ys s = list_any-append (symbol_eq s) xs ys

or_nothing : (a : Bool) → (a || false) ≡ a
or_nothing true = refl
or_nothing false = refl

and_nothing : (a : Bool) → (a && false) ≡ false
and_nothing true = refl
and_nothing false = refl

pub same_truth : (a b : Bool) → (a ≡ true → b ≡ true) → (b ≡ true → a ≡ true) → a ≡ b
same_truth true b h k = sym (h refl)
same_truth false true h k = k refl
same_truth false false h k = refl

-- ---- what there is

absorbed : (a b c : Bool) → (b ≡ true → a ≡ true) → (a || c) ≡ (a || (b || c))
absorbed true b c h = refl
absorbed false true c h = absurd (let e : false ≡ true = h refl in cc)
absorbed false false c h = refl

turned : (a b c : Bool) → ((a || b) || c) ≡ (b || (a || c))
turned true true c = refl
turned true false c = refl
turned false true c = refl
turned false false c = refl

pub each_has : (symbols seen : List Sym) (s : Sym) → has_symbol (with_each_symbol seen symbols) s ≡ (has_symbol seen s || has_symbol symbols s)
each_has [] seen s = sym (or_nothing (has_symbol seen s))
each_has (t ∷ symbols) seen s = each_has symbols (cond (has_symbol seen t) seen (seen ++ t ∷ [])) s ∙ by (has_symbol seen t) refl
  where
    by : (b : Bool) → has_symbol seen t ≡ b → (has_symbol (cond b seen (seen ++ t ∷ [])) s || has_symbol symbols s) ≡ (has_symbol seen s || (symbol_eq s t || has_symbol symbols s))
    by true e = absorbed (has_symbol seen s) (symbol_eq s t) (has_symbol symbols s) (λ h. ap (has_symbol seen) (symbol_same s t h) ∙ e)
    by false e = ap (λ b. b || has_symbol symbols s) (has_more seen t s) ∙ turned (symbol_eq s t) (has_symbol seen s) (has_symbol symbols s)

kept : (a p c : Bool) → (a ≡ true → p ≡ true) → (a || (p && c)) ≡ (p && (a || c))
kept true true c h = refl
kept true false c h = absurd (let e : false ≡ true = h refl in cc)
kept false p c h = refl

left : (a p c : Bool) → (a ≡ true → p ≡ false) → (p && c) ≡ (p && (a || c))
left true true c h = absurd (let e : true ≡ false = h refl in cc)
left true false c h = refl
left false p c h = refl

pub filter_has : (p : Sym → Bool) (xs : List Sym) (s : Sym) → has_symbol (filter p xs) s ≡ (p s && has_symbol xs s)
filter_has p [] s = sym (and_nothing (p s))
filter_has p (x ∷ xs) s = by (p x) refl (filter_has p xs s)
  where
    by : (b : Bool) → p x ≡ b → has_symbol (filter p xs) s ≡ (p s && has_symbol xs s) → has_symbol (cond b (x ∷ filter p xs) (filter p xs)) s ≡ (p s && (symbol_eq s x || has_symbol xs s))
    by true e later = ap (λ b. symbol_eq s x || b) later ∙ kept (symbol_eq s x) (p s) (has_symbol xs s) (λ h. ap p (symbol_same s x h) ∙ e)
    by false e later = later ∙ left (symbol_eq s x) (p s) (has_symbol xs s) (λ h. ap p (symbol_same s x h) ∙ e)

-- ---- what is added stands behind

pub each_adds : (symbols seen : List Sym) → (more : List Sym) × (with_each_symbol seen symbols ≡ seen ++ more)
each_adds [] seen = ([], sym (append-nil seen))
each_adds (t ∷ symbols) seen = by (has_symbol seen t) (λ xs. each_adds symbols xs)
  where
    by : (b : Bool) → ((xs : List Sym) → (more : List Sym) × (with_each_symbol xs symbols ≡ xs ++ more)) → (more : List Sym) × (with_each_symbol (cond b seen (seen ++ t ∷ [])) symbols ≡ seen ++ more)
    by true later = later seen
    by false later = let (more, e) = later (seen ++ t ∷ []) in (t ∷ more, e ∙ append_assoc seen (t ∷ []) more)

pub each_within : (symbols seen : List Sym) → ((s : Sym) → has_symbol symbols s ≡ true → has_symbol seen s ≡ true) → with_each_symbol seen symbols ≡ seen
each_within [] seen h = refl
each_within (t ∷ symbols) seen h =
    ap (λ b. with_each_symbol (cond b seen (seen ++ t ∷ [])) symbols) (h t (or_first (symbol_eq t t) (has_symbol symbols t) (symbol_self t)))
    ∙ each_within symbols seen (λ s k. h s (or_second (symbol_eq s t) (has_symbol symbols s) k))

pub each_same : (symbols seen : List Sym) → length seen ≡ length (with_each_symbol seen symbols) → with_each_symbol seen symbols ≡ seen
each_same symbols seen h = let (more, e) = each_adds symbols seen in by more e
  where
    by : (more : List Sym) → with_each_symbol seen symbols ≡ seen ++ more → with_each_symbol seen symbols ≡ seen
    by [] e = e ∙ append-nil seen
    by (m ∷ more) e = absurd (omega (arith, h, ap length e, length-append seen (m ∷ more)))

pub each_longer : (symbols seen : List Sym) → length seen ≤ length (with_each_symbol seen symbols)
each_longer symbols seen = let (more, e) = each_adds symbols seen in omega (arith, ap length e, length-append seen more)

-- ---- one after the other

pub each_after : (xs ys seen : List Sym) → with_each_symbol seen (xs ++ ys) ≡ with_each_symbol (with_each_symbol seen xs) ys
each_after [] ys seen = refl
each_after (x ∷ xs) ys seen = each_after xs ys (cond (has_symbol seen x) seen (seen ++ x ∷ []))

-- ---- how many of some are not there

abbrev pub unseen : List Sym → List Sym → ℕ
unseen [] seen = 0
unseen (u ∷ all) seen = cond (has_symbol seen u) (unseen all seen) (unseen all seen + 1)

no_more : (a b : Bool) (m k : ℕ) → k ≤ m → cond (a || b) k (k + 1) ≤ cond b m (m + 1)
no_more true true m k h = h
no_more true false m k h = omega (arith, h)
no_more false true m k h = h
no_more false false m k h = omega (arith, h)

less : (a b : Bool) (m k : ℕ) → k < m → cond (a || b) k (k + 1) < cond b m (m + 1)
less true true m k h = h
less true false m k h = omega (arith, h)
less false true m k h = h
less false false m k h = omega (arith, h)

new_one : (a b : Bool) (m k : ℕ) → a ≡ true → b ≡ false → k ≤ m → cond (a || b) k (k + 1) < cond b m (m + 1)
new_one true true m k e f h = cc
new_one true false m k e f h = omega (arith, h)
new_one false b m k e f h = cc

fewer : (all seen : List Sym) (t : Sym) → unseen all (seen ++ t ∷ []) ≤ unseen all seen
fewer [] seen t = omega arith
fewer (u ∷ all) seen t =
    rw (has_more seen t u) (no_more (symbol_eq u t) (has_symbol seen u) (unseen all seen) (unseen all (seen ++ t ∷ [])) (fewer all seen t))

falls : (all seen : List Sym) (t : Sym) → has_symbol all t ≡ true → has_symbol seen t ≡ false → unseen all (seen ++ t ∷ []) < unseen all seen
falls [] seen t h k = cc
falls (u ∷ all) seen t h k =
    rw (has_more seen t u)
    (elim (or_split (symbol_eq t u) (has_symbol all t) h) [
      | inl e ↦
          let same : t ≡ u = symbol_same t u e in
          new_one (symbol_eq u t) (has_symbol seen u) (unseen all seen) (unseen all (seen ++ t ∷ [])) (ap (symbol_eq u) same ∙ symbol_self u) (ap (has_symbol seen) (sym same) ∙ k) (fewer all seen t)
      | inr e ↦ less (symbol_eq u t) (has_symbol seen u) (unseen all seen) (unseen all (seen ++ t ∷ [])) (falls all seen t e k)
    ])

pub each_weighs : (symbols all seen : List Sym) → ((s : Sym) → has_symbol symbols s ≡ true → has_symbol all s ≡ true)
    → 2 * unseen all (with_each_symbol seen symbols) + length (with_each_symbol seen symbols) ≤ 2 * unseen all seen + length seen
each_weighs [] all seen h = omega arith
each_weighs (t ∷ symbols) all seen h =
    by (has_symbol seen t) refl (λ xs. each_weighs symbols all xs (λ s k. h s (or_second (symbol_eq s t) (has_symbol symbols s) k)))
  where
    by : (b : Bool) → has_symbol seen t ≡ b
        → ((xs : List Sym) → 2 * unseen all (with_each_symbol xs symbols) + length (with_each_symbol xs symbols) ≤ 2 * unseen all xs + length xs)
        → 2 * unseen all (with_each_symbol (cond b seen (seen ++ t ∷ [])) symbols) + length (with_each_symbol (cond b seen (seen ++ t ∷ [])) symbols) ≤ 2 * unseen all seen + length seen
    by true e later = later seen
    by false e later =
        omega (arith, later (seen ++ t ∷ []), falls all seen t (h t (or_first (symbol_eq t t) (has_symbol symbols t) (symbol_self t))) e, length-append seen (t ∷ []))

-- what a symbol leads to stands in the links
pub listed_within : (links : LinkList) (x s : Sym) → has_symbol (listed links x) s ≡ true → has_symbol (flat_map (λ l. l.1) links) s ≡ true
listed_within [] x s h = cc
listed_within (l ∷ links) x s h = has_in_both l.1 (flat_map (λ l. l.1) links) s ∙ by (symbol_eq x l.0) h (listed_within links x s)
  where
    by : (b : Bool) → has_symbol (cond b l.1 (listed links x)) s ≡ true → (has_symbol (listed links x) s ≡ true → has_symbol (flat_map (λ l. l.1) links) s ≡ true)
        → (has_symbol l.1 s || has_symbol (flat_map (λ l. l.1) links) s) ≡ true
    by true k later = or_first (has_symbol l.1 s) (has_symbol (flat_map (λ l. l.1) links) s) k
    by false k later = or_second (has_symbol l.1 s) (has_symbol (flat_map (λ l. l.1) links) s) (later k)
