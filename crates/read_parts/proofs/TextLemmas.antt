-- Words and their texts.
use Rattle.std.proofs.Common.{◌≡◌, ℕ, zero, suc, ◌+◌, ◌<◌, ◌==◌, ◌&&◌, Bool, true, false, cond, List, [], ◌∷◌, length, Option, Some, None, refl, sym, ap, ◌∙◌, arith}
use Rattle.std.specs.Prelude.{unwrap_or, slice_get}
use Rattle.std.specs.List.{position_from}
use Rattle.std.specs.Str.{bytes_eq}
use Rattle.std.proofs.lemmas.Option.{slice_get_within, slice_get-get_or, unwrap_or-slice_get}
use Rattle.std.proofs.lemmas.List.{length-take}
use Rattle.std.proofs.lemmas.Slice.Eq.{bytes_eq-Decides}
use Rattle.std.proofs.lemmas.Bool.{false≢true, lt-ltb, eqb-true, eq-eqb}
use Rattle.soar_sym.specs.declared.symbol.Sym.TheVariants.{Word}
use Rattle.soar_sym.specs.Words.{Texts, place_of, text_of, IsTable, IsVocabulary}
use Rattle.defs_text.specs.Numbered.{word_in}
use Rattle.read_parts.specs.Words.{is_at, is_own}

pub and-true : {a b : Bool} → (a && b) ≡ true → (a ≡ true) × (b ≡ true)
and-true {a = true} {b = true} h = (refl, refl)
and-true {a = true} {b = false} h = absurd (cc)
and-true {a = false} {b = b} h = absurd (cc)

pub both-true : {a b : Bool} → a ≡ true → b ≡ true → (a && b) ≡ true
both-true {a = true} {b = true} p q = refl
both-true {a = true} {b = false} p q = absurd (cc)
both-true {a = false} {b = b} p q = absurd (cc)

-- ---- the word of a text

-- what is found stands at its place, and passes the test
found_at : {X : Type 0} (p : X → Bool) (i : ℕ) (xs : List X) (n : ℕ) → position_from p i xs ≡ Some n → (k : ℕ) × (y : X) × (n ≡ i + k) × (slice_get xs k ≡ Some y) × (p y ≡ true)
found_at p i [] n h = absurd (cc)
found_at p i (x ∷ xs) n h = by (p x) refl h (λ later. found_at p (i + 1) xs n later)
  where
    by : (b : Bool) → p x ≡ b → cond b (Some i) (position_from p (i + 1) xs) ≡ Some n
        → (position_from p (i + 1) xs ≡ Some n → (k : ℕ) × (y : _) × (n ≡ i + 1 + k) × (slice_get xs k ≡ Some y) × (p y ≡ true))
        → (k : ℕ) × (y : _) × (n ≡ i + k) × (slice_get (x ∷ xs) k ≡ Some y) × (p y ≡ true)
    by true here h later = (zero, x, omega (arith, the h), refl, here)
      where
        the : Some i ≡ Some n → i ≡ n
        the e = cc
    by false here h later = let r = later h in (suc r.0, r.1, omega (arith, r.2), r.3, r.4)

-- the text at the place where it was found
pub text_at : (words : Texts) (text : List ℕ) (n : ℕ) → place_of words text ≡ Some n → slice_get words n ≡ Some text
text_at words text n h =
    let r = found_at (bytes_eq text) 0 words n h in
    let same : text ≡ r.1 = (bytes_eq-Decides text r.1).0 r.4 in
    let at : n ≡ r.0 = omega (arith, r.2) in
    ap (slice_get words) at ∙ r.3 ∙ ap Some (sym same)

pub place_within : (words : Texts) (text : List ℕ) (n : ℕ) → place_of words text ≡ Some n → n < length words
place_within words text n h = slice_get_within words n text (text_at words text n h)

-- ---- a word that is found by its text

-- each word of a table is
pub own_of_table : (words : Texts) (w : ℕ) → IsTable words → w < length words → is_own words w ≡ true
own_of_table words w table within =
    both-true (lt-ltb w (length words) within)
    (ap (is_at w) (table.once w (text_of words w) (slice_get-get_or words w [] within ∙ ap Some (sym (unwrap_or-slice_get words w [])))) ∙ eq-eqb w w refl)

-- a table has room for the word `superstate`
pub room_of : (words : Texts) → IsVocabulary words → 5 < length words
room_of words it = omega (arith, ap length it.first, length-take 24 words)

pub place_of_own : (words : Texts) (w : ℕ) → is_own words w ≡ true → place_of words (text_of words w) ≡ Some w
place_of_own words w own = by (place_of words (text_of words w)) (and-true own).1
  where
    by : (o : Option ℕ) → is_at w o ≡ true → o ≡ Some w
    by None e = absurd (cc)
    by (Some n) e = ap Some (sym (eqb-true w n e))

-- two such words are one where their texts are
pub same_own : (words : Texts) (w v : ℕ) → is_own words w ≡ true → is_own words v ≡ true → bytes_eq (text_of words w) (text_of words v) ≡ (w == v)
same_own words w v p q = by (bytes_eq (text_of words w) (text_of words v)) (w == v) refl refl
  where
    by : (a b : Bool) → bytes_eq (text_of words w) (text_of words v) ≡ a → (w == v) ≡ b → a ≡ b
    by true true e f = refl
    by false false e f = refl
    by true false e f = absurd (false≢true (sym f ∙ eq-eqb w v (the (sym (place_of_own words w p) ∙ ap (place_of words) ((bytes_eq-Decides (text_of words w) (text_of words v)).0 e) ∙ place_of_own words v q))))
      where
        the : Some w ≡ Some v → w ≡ v
        the h = cc
    by false true e f = absurd (false≢true (sym e ∙ (bytes_eq-Decides (text_of words w) (text_of words v)).1 (ap (text_of words) (eqb-true w v f))))

pub word_in_own : (words : Texts) (w : ℕ) → is_own words w ≡ true → Word w ≡ word_in words (text_of words w)
word_in_own words w own = ap (λ o. Word (unwrap_or o 0)) (sym (place_of_own words w own))
