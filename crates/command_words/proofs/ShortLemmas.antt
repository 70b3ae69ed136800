-- A word that begins with one hyphen has a character behind it.
use Rattle.std.proofs.Common.{◌≡◌, ◌∙◌, ap, refl, sym, ℕ, ◌==◌, Bool, true, false, List, [], ◌∷◌, Some, None, unwrap_or, length, arith}
use Rattle.std.specs.Prelude.{slice_get}
use Rattle.std.specs.Str.{IsUtf8, chars}
use Rattle.std.proofs.Math.Utf8.{encode, encodes}
use Rattle.std.proofs.lemmas.Str.{encodes-chars}
use Rattle.clap.specs.Lexer.{short_of}
use Rattle.std.proofs.lemmas.Bool.{eqb-true}
use Rattle.clap.specs.Walk.{Text}

pub short_is : (word flags : Text) → short_of word ≡ Some flags → (y : ℕ) × (ys : Text) × (flags ≡ y ∷ ys) × (word ≡ 45 ∷ y ∷ ys)
short_is [] flags h = cc
short_is (x ∷ []) flags h = go (x == 45) refl
  where
    go : (b : Bool) → (x == 45) ≡ b → (y : ℕ) × (ys : Text) × (flags ≡ y ∷ ys) × (x ∷ [] ≡ 45 ∷ y ∷ ys)
    go true e =
        let bad : None ≡ Some flags = simp e at h in
        cc
    go false e =
        let bad : None ≡ Some flags = simp e at h in
        cc
short_is (x ∷ y ∷ ys) flags h = go (x == 45) refl
  where
    two : x ≡ 45 → (b : Bool) → (y == 45) ≡ b → (z : ℕ) × (zs : Text) × (flags ≡ z ∷ zs) × (x ∷ y ∷ ys ≡ 45 ∷ z ∷ zs)
    two is true f =
        let bad : None ≡ Some flags = simp (is, f) at h in
        cc
    two is false f =
        let good : Some (y ∷ ys) ≡ Some flags = simp (is, f) at h in
        (y, ys, sym (ap (λ o. unwrap_or o []) good), ap (λ n. n ∷ y ∷ ys) is)

    go : (b : Bool) → (x == 45) ≡ b → (z : ℕ) × (zs : Text) × (flags ≡ z ∷ zs) × (x ∷ y ∷ ys ≡ 45 ∷ z ∷ zs)
    go true e = two (eqb-true x 45 e) (y == 45) refl
    go false e =
        let bad : None ≡ Some flags = simp e at h in
        cc

chars_behind : (y : ℕ) (ys : Text) → chars (45 ∷ y ∷ ys) ≡ 45 ∷ chars (y ∷ ys)
unfolding chars
chars_behind y ys = refl

hyphen_spelled : encodes (45 ∷ []) ≡ 45 ∷ []
unfolding encode
hyphen_spelled = refl

pub first_char : (y : ℕ) (ys : Text) → IsUtf8 (45 ∷ y ∷ ys) → (c : ℕ) × (slice_get (chars (y ∷ ys)) 0 ≡ Some c)
first_char y ys utf8 = go (chars (y ∷ ys)) refl
  where
    go : (cs : List ℕ) → chars (y ∷ ys) ≡ cs → (c : ℕ) × (slice_get (chars (y ∷ ys)) 0 ≡ Some c)
    go [] e =
        let spelled : chars (45 ∷ y ∷ ys) ≡ 45 ∷ [] = chars_behind y ys ∙ ap (λ (cs : List ℕ). 45 ∷ cs) e in
        let all : 45 ∷ [] ≡ 45 ∷ y ∷ ys = sym hyphen_spelled ∙ (ap encodes (sym spelled) ∙ encodes-chars (45 ∷ y ∷ ys) utf8) in
        let many : 1 ≡ length (45 ∷ y ∷ ys) = ap length all in
        absurd (omega arith)
    go (c ∷ cs) e = (c, ap (λ xs. slice_get xs 0) e)
