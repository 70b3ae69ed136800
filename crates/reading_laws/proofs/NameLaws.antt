-- Variables that are numbered by their first occurrence get the same numbers again.
use Rattle.std.specs.Prelude.{if◌then◌else◌, map, take, nat_lt}
use Rattle.std.proofs.Common.{◌≡◌, refl, sym, ◌∙◌, ap, true, false, [], ◌∷◌, ◌++◌, List, ℕ, zero, suc, Bool, ◌||◌, ◌==◌, ◌<◌, ◌≤◌, Some, None, length, arith}
use Rattle.std.specs.Str.{bytes_eq}
use Rattle.std.proofs.lemmas.Slice.Eq.{bytes_eq-Decides}
use Rattle.soar_sym.specs.Words.{Texts}
use Rattle.soar_sym.specs.declared.symbol.Sym.{Sym}
use Rattle.defs_read.specs.FreshNames.{has_name, place_of_name}
use Rattle.defs_read.specs.PrintingConditions.{name_at, bare_text}
use Rattle.reading_laws.specs.Printable.{AreDistinct, met_after}
use Rattle.reading_laws.proofs.WordLaws.{same_bytes}

-- ---- the names so far

abbrev pub text_at : Texts → ℕ → List ℕ
text_at [] v = []
text_at (name ∷ names) zero = name
text_at (name ∷ names) (suc v) = text_at names v

pub name_of : (words : Texts) (vars : List Sym) (v : ℕ) → v < length (map (bare_text words) vars) → bare_text words (name_at vars v) ≡ text_at (map (bare_text words) vars) v
name_of words [] v h = absurd (omega arith)
name_of words (s ∷ vars) zero h = refl
name_of words (s ∷ vars) (suc v) h = name_of words vars v (omega arith)

or_true : (b : Bool) → (b || true) ≡ true
or_true true = refl
or_true false = refl

pub neither : (a b : Bool) → (a || b) ≡ false → (a ≡ false) × (b ≡ false)
neither true b e = absurd (cc)
neither false b e = (refl, e)

differ : false ≡ true → ⊥
differ e = cc

bytes_apart : (x y : List ℕ) → bytes_eq x y ≡ false → bytes_eq y x ≡ false
bytes_apart x y e = go (bytes_eq y x) refl
  where
    go : (t : Bool) → bytes_eq y x ≡ t → bytes_eq y x ≡ false
    go true f = absurd (differ (sym e ∙ (bytes_eq-Decides x y).1 (sym ((bytes_eq-Decides y x).0 f))))
    go false f = f

-- another name than each of these
other_name : (names : Texts) (x : List ℕ) (v : ℕ) → has_name names x ≡ false → v < length names → bytes_eq x (text_at names v) ≡ false
other_name [] x v e h = absurd (omega arith)
other_name (y ∷ names) x zero e h = (neither (bytes_eq x y) (has_name names x) e).0
other_name (y ∷ names) x (suc v) e h = other_name names x v (neither (bytes_eq x y) (has_name names x) e).1 (omega arith)

-- a variable that was met has its name among the names
pub met_before : (names : Texts) (v k : ℕ) → v < k → k ≤ length names → has_name (take k names) (text_at names v) ≡ true
met_before [] v k h l = absurd (omega arith)
met_before (x ∷ names) v zero h l = absurd (omega arith)
met_before (x ∷ names) zero (suc k) h l = ap (λ t. t || has_name (take k names) x) (same_bytes x)
met_before (x ∷ names) (suc v) (suc k) h l =
    ap (λ t. bytes_eq (text_at names v) x || t) (met_before names v k (omega arith) (omega arith)) ∙ or_true (bytes_eq (text_at names v) x)

-- the next has not
pub not_met : (names : Texts) (k : ℕ) → AreDistinct names → k < length names → has_name (take k names) (text_at names k) ≡ false
not_met [] k d h = absurd (omega arith)
not_met (x ∷ names) zero d h = refl
not_met (x ∷ names) (suc k) d h =
    ap (λ t. t || has_name (take k names) (text_at names k)) (bytes_apart x (text_at names k) (other_name names x k d.0 (omega arith))) ∙ not_met names k d.1 (omega arith)

-- its place is its number
pub place_met : (names : Texts) (v k : ℕ) → AreDistinct names → v < k → k ≤ length names → place_of_name (take k names) (text_at names v) ≡ v
place_met [] v k d h l = absurd (omega arith)
place_met (x ∷ names) v zero d h l = absurd (omega arith)
place_met (x ∷ names) zero (suc k) d h l = ap (λ t. if t then 0 else suc (place_of_name (take k names) x)) (same_bytes x)
place_met (x ∷ names) (suc v) (suc k) d h l =
    ap (λ t. if t then 0 else suc (place_of_name (take k names) (text_at names v))) (other_name names x v d.0 (omega arith)) ∙ ap suc (place_met names v k d.1 (omega arith) (omega arith))

pub one_more : (names : Texts) (k : ℕ) → k < length names → take k names ++ (text_at names k ∷ []) ≡ take (suc k) names
one_more [] k h = absurd (omega arith)
one_more (x ∷ []) zero h = refl
one_more (x ∷ y ∷ names) zero h = refl
one_more (x ∷ names) (suc k) h = ap (λ l. x ∷ l) (one_more names k (omega arith))

-- ---- how many were met

pub met_split : (k m : ℕ) (a b : List ℕ) → met_after k (a ++ b) ≡ Some m → (j : ℕ) × (met_after k a ≡ Some j) × (met_after j b ≡ Some m)
met_split k m [] b e = (k, refl, e)
met_split k m (v ∷ a) b e = go (nat_lt v k) (v == k) (λ h. met_split k m a b h) (λ h. met_split (suc k) m a b h) e
  where
    go : (s t : Bool) → (met_after k (a ++ b) ≡ Some m → (j : ℕ) × (met_after k a ≡ Some j) × (met_after j b ≡ Some m)) → (met_after (suc k) (a ++ b) ≡ Some m → (j : ℕ) × (met_after (suc k) a ≡ Some j) × (met_after j b ≡ Some m))
        → (if s then met_after k (a ++ b) else if t then met_after (suc k) (a ++ b) else None) ≡ Some m → (j : ℕ) × ((if s then met_after k a else if t then met_after (suc k) a else None) ≡ Some j) × (met_after j b ≡ Some m)
    go true t old new h = old h
    go false true old new h = new h
    go false false old new h = absurd (cc)

pub met_grows : (k m : ℕ) (a : List ℕ) → met_after k a ≡ Some m → k ≤ m
met_grows k m [] e = let same : k ≡ m = cc in omega arith
met_grows k m (v ∷ a) e = go (nat_lt v k) (v == k) (λ h. met_grows k m a h) (λ h. met_grows (suc k) m a h) e
  where
    go : (s t : Bool) → (met_after k a ≡ Some m → k ≤ m) → (met_after (suc k) a ≡ Some m → suc k ≤ m) → (if s then met_after k a else if t then met_after (suc k) a else None) ≡ Some m → k ≤ m
    go true t old new h = old h
    go false true old new h = let l = new h in omega arith
    go false false old new h = absurd (cc)
