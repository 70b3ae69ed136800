-- The names of new variables: they can be written, and no two are one.
use Rattle.std.specs.Prelude.{if◌then◌else◌, take}
use Rattle.std.specs.Fmt.{decimal}
use Rattle.std.specs.List.{list_all, list_any}
use Rattle.std.specs.Str.{bytes_eq}
use Rattle.std.proofs.Common.{◌≡◌, refl, sym, ◌∙◌, ap, true, false, [], ◌∷◌, ◌++◌, List, ℕ, zero, suc, Bool, ◌&&◌, ◌||◌, ◌+◌, ◌-◌, ◌<◌, ◌≤◌, ◌^◌, not, length, arith}
use Rattle.std.proofs.lemmas.Fmt.{digits_decimal, decimal_injective}
use Rattle.std.proofs.lemmas.Bool.Decides.{nat_tests}
use Rattle.std.proofs.lemmas.Slice.Eq.{bytes_eq-Decides}
use Rattle.soar_sym.specs.Words.{Texts}
use Rattle.defs_text.specs.Bytes.{is_digit, is_run_byte, is_angle}
use Rattle.defs_text.specs.Runs.{RunKind, a_variable, a_number, a_float, has_angle, a_word, is_variable, front_of, ends_with, is_empty, inside_of, is_integer, integer_of, is_float, angles_before, run_kind}
use Rattle.defs_read.specs.FreshNames.{has_name, new_name, free_number}
use Rattle.reading_laws.specs.Printable.{IsName}
use Rattle.reading_laws.proofs.RunLaws.{own}
use Rattle.reading_laws.proofs.TextLaws.{both}

-- ---- a new name can be written

digits_plain : (ds : List ℕ) → list_all is_digit ds ≡ true → (list_all is_run_byte ds ≡ true) × (list_all (λ b. not (is_angle b)) ds ≡ true)
digits_plain [] e = (refl, refl)
digits_plain (d ∷ ds) e =
    let r = both (is_digit d) (list_all is_digit ds) e in
    let later = digits_plain ds r.1 in
    (ap (λ t. t && list_all is_run_byte ds) (one_run d r.0) ∙ later.0, ap (λ t. t && list_all (λ b. not (is_angle b)) ds) (one_plain d r.0) ∙ later.1)
  where
    one_run : (d : ℕ) → is_digit d ≡ true → is_run_byte d ≡ true
    one_run d e = grind (arith, nat_tests)

    one_plain : (d : ℕ) → is_digit d ≡ true → not (is_angle d) ≡ true
    one_plain d e = grind (arith, nat_tests)

ends_so : (byte : ℕ) (front : List ℕ) → ends_with byte (front ++ (byte ∷ [])) ≡ true
ends_so byte [] = grind (arith, nat_tests)
ends_so byte (b ∷ []) = ends_so byte []
ends_so byte (b ∷ c ∷ front) = ends_so byte (c ∷ front)

front_so : (byte : ℕ) (front : List ℕ) → front_of (front ++ (byte ∷ [])) ≡ front
front_so byte [] = refl
front_so byte (b ∷ front) =
    ap (λ n. take n (b ∷ (front ++ (byte ∷ [])))) (let l = more front in let f : suc (length (front ++ (byte ∷ []))) - 1 ≡ suc (length (front ++ (byte ∷ [])) - 1) = omega arith in f)
    ∙ ap (λ l. b ∷ l) (front_so byte front)
  where
    more : (xs : List ℕ) → 0 < length (xs ++ (byte ∷ []))
    more [] = omega arith
    more (x ∷ xs) = omega arith

-- the classes of a run behind those of variables
abbrev by_variable : List ℕ → Bool → List ℕ → RunKind
by_variable run t name = if t then a_variable name else if is_integer run then a_number (integer_of run) else if is_float run then a_float else if list_any is_angle run then has_angle (angles_before run) else a_word

pub new_is_name : (n : ℕ) → n < 2 ^ 64 → IsName (new_name n)
new_is_name n small = (run, kind)
  where
    plain : (list_all is_run_byte (decimal n) ≡ true) × (list_all (λ b. not (is_angle b)) (decimal n) ≡ true)
    plain = digits_plain (decimal n) (digits_decimal own n small)

    run : list_all is_run_byte (new_name n) ≡ true
    run = plain.0

    inside : inside_of (60 ∷ (new_name n ++ (62 ∷ []))) ≡ new_name n
    inside = front_so 62 (new_name n)

    variable : is_variable (60 ∷ (new_name n ++ (62 ∷ []))) ≡ true
    variable =
        ap (λ t. t && (not (is_empty (inside_of (60 ∷ (new_name n ++ (62 ∷ []))))) && list_all (λ b. not (is_angle b)) (inside_of (60 ∷ (new_name n ++ (62 ∷ [])))))) (ends_so 62 (new_name n))
        ∙ ap (λ l. not (is_empty l) && list_all (λ b. not (is_angle b)) l) inside ∙ plain.1

    kind : run_kind (60 ∷ (new_name n ++ (62 ∷ []))) ≡ a_variable (new_name n)
    kind =
        ap (λ t. by_variable (60 ∷ (new_name n ++ (62 ∷ []))) t (inside_of (60 ∷ (new_name n ++ (62 ∷ []))))) variable ∙ ap a_variable inside

-- ---- no two are one

differ : false ≡ true → ⊥
differ e = cc

pub other_new : (m n : ℕ) → m < n → n < 2 ^ 64 → bytes_eq (new_name n) (new_name m) ≡ false
other_new m n less small = go (bytes_eq (new_name n) (new_name m)) refl
  where
    tail : List ℕ → List ℕ
    tail [] = []
    tail (b ∷ bytes) = bytes

    go : (t : Bool) → bytes_eq (new_name n) (new_name m) ≡ t → bytes_eq (new_name n) (new_name m) ≡ false
    go true e = let same : n ≡ m = decimal_injective n m (omega arith) (omega arith) (ap tail ((bytes_eq-Decides (new_name n) (new_name m)).0 e)) in absurd (omega arith)
    go false e = e

-- ---- a free number

abbrev without : Texts → List ℕ → Texts
without [] name = []
without (other ∷ names) name = if bytes_eq name other then without names name else other ∷ without names name

without_fewer : (names : Texts) (name : List ℕ) → length (without names name) ≤ length names
without_fewer [] name = omega arith
without_fewer (other ∷ names) name = go (bytes_eq name other) (without_fewer names name)
  where
    go : (t : Bool) → length (without names name) ≤ length names → length (if t then without names name else other ∷ without names name) ≤ suc (length names)
    go true l = omega arith
    go false l = omega arith

without_less : (names : Texts) (name : List ℕ) → has_name names name ≡ true → length (without names name) < length names
without_less [] name e = absurd (cc)
without_less (other ∷ names) name e = go (bytes_eq name other) e (without_fewer names name) (λ h. without_less names name h)
  where
    go : (t : Bool) → (t || has_name names name) ≡ true → length (without names name) ≤ length names → (has_name names name ≡ true → length (without names name) < length names)
        → length (if t then without names name else other ∷ without names name) < suc (length names)
    go true h l later = omega arith
    go false h l later = let k = later h in omega arith

without_other : (names : Texts) (name asked : List ℕ) → bytes_eq asked name ≡ false → has_name (without names name) asked ≡ has_name names asked
without_other [] name asked e = refl
without_other (other ∷ names) name asked e = go (bytes_eq name other) refl (without_other names name asked e)
  where
    go : (t : Bool) → bytes_eq name other ≡ t → has_name (without names name) asked ≡ has_name names asked
        → has_name (if t then without names name else other ∷ without names name) asked ≡ (bytes_eq asked other || has_name names asked)
    go true f later =
        let same : name ≡ other = (bytes_eq-Decides name other).0 f in
        later ∙ ap (λ t. t || has_name names asked) (sym (ap (bytes_eq asked) (sym same) ∙ e))
    go false f later = ap (λ t. bytes_eq asked other || t) later

pub free_from : (k : ℕ) (used : Texts) (n : ℕ) → n ≤ free_number k used n
free_from zero used n = omega arith
free_from (suc k) used n = go (has_name used (new_name n)) (free_from k used (suc n))
  where
    go : (t : Bool) → suc n ≤ free_number k used (suc n) → n ≤ elim t as (λ _. ℕ) [ true ↦ free_number k used (suc n) | false ↦ n ]
    go true l = omega arith
    go false l = omega arith

pub free_within : (k : ℕ) (used : Texts) (n : ℕ) → free_number k used n ≤ n + k
free_within zero used n = omega arith
free_within (suc k) used n = go (has_name used (new_name n)) (free_within k used (suc n))
  where
    go : (t : Bool) → free_number k used (suc n) ≤ suc n + k → elim t as (λ _. ℕ) [ true ↦ free_number k used (suc n) | false ↦ n ] ≤ n + suc k
    go true l = omega arith
    go false l = omega arith

same_free : (k : ℕ) (used others : Texts) (n : ℕ) → ((m : ℕ) → n ≤ m → m ≤ n + k → has_name used (new_name m) ≡ has_name others (new_name m)) → free_number k used n ≡ free_number k others n
same_free zero used others n h = refl
same_free (suc k) used others n h =
    ap (λ t. elim t as (λ _. ℕ) [ true ↦ free_number k used (suc n) | false ↦ n ]) (h n (omega arith) (omega arith))
    ∙ ap (λ j. elim (has_name others (new_name n)) as (λ _. ℕ) [ true ↦ j | false ↦ n ]) (same_free k used others (suc n) (λ m l r. h m (omega arith) (omega arith)))

-- as many names as there are can be in the way
pub free_is_free : (k : ℕ) (used : Texts) (n : ℕ) → length used ≤ k → n + k < 2 ^ 64 → has_name used (new_name (free_number k used n)) ≡ false
free_is_free zero [] n few small = refl
free_is_free zero (name ∷ names) n few small = absurd (omega arith)
free_is_free (suc k) used n few small = go (has_name used (new_name n)) refl (λ h. free_is_free k (without used (new_name n)) (suc n) (omega (arith, without_less used (new_name n) h)) (omega arith))
  where
    kept : (m : ℕ) → suc n ≤ m → m ≤ suc n + k → has_name used (new_name m) ≡ has_name (without used (new_name n)) (new_name m)
    kept m l r = sym (without_other used (new_name n) (new_name m) (other_new n m l (omega arith)))

    go : (t : Bool) → has_name used (new_name n) ≡ t → (has_name used (new_name n) ≡ true → has_name (without used (new_name n)) (new_name (free_number k (without used (new_name n)) (suc n))) ≡ false)
        → has_name used (new_name (elim t as (λ _. ℕ) [ true ↦ free_number k used (suc n) | false ↦ n ])) ≡ false
    go true e later =
        ap (λ j. has_name used (new_name j)) (same_free k used (without used (new_name n)) (suc n) kept)
        ∙ kept (free_number k (without used (new_name n)) (suc n)) (free_from k (without used (new_name n)) (suc n)) (free_within k (without used (new_name n)) (suc n)) ∙ later e
    go false e later = e
