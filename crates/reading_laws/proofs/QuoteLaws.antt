-- What stands between bars or quotes is read again.
use Rattle.std.specs.Prelude.{if◌then◌else◌, IsUtf8, nat_lt}
use Rattle.std.proofs.Common.{◌≡◌, refl, sym, ◌∙◌, ap, ap₂, subst, true, false, [], ◌∷◌, ◌++◌, List, ℕ, suc, Bool, ◌||◌, ◌==◌, Some, None, length, ◌+◌, ◌<◌, ◌≤◌, get_or, inl, inr, arith, append_assoc, append-nil, length-append, option_map}
use Rattle.std.proofs.lemmas.Bool.{cases_lt}
use Rattle.std.proofs.lemmas.Bool.Decides.{nat_tests}
use Rattle.std.proofs.lemmas.Str.{IsUtf8-append, IsUtf8-nil, IsUtf8-encode, encode_ascii, inside_one, utf8_valid_len-IsUtf8}
use lib.Utf8.{scalar, scalars, encode, encodes, low_scalar}
use Rattle.defs_text.specs.Quotes.{closing_from, closing, meant_from, bad_escape_from, no_utf8, lesser, fault_inside, escaped}
use Rattle.defs_text.specs.Lexing.{Saying, word_of, documentation, token, inside_piece, quoted_word, quoted_piece}
use Rattle.reading_laws.proofs.TextLaws.{Cut, cut_token, taken_front, both}

pick_true : {A : Type 0} (b : Bool) (x y : A) → b ≡ true → elim b as (λ _. A) [ true ↦ x | false ↦ y ] ≡ x
pick_true true x y e = refl
pick_true false x y e = absurd (cc)

pick_false : {A : Type 0} (b : Bool) (x y : A) → b ≡ false → elim b as (λ _. A) [ true ↦ x | false ↦ y ] ≡ y
pick_false true x y e = absurd (cc)
pick_false false x y e = refl

neither : (a b : Bool) → (a || b) ≡ false → (a ≡ false) × (b ≡ false)
neither true b e = absurd (cc)
neither false b e = (refl, e)

apart : (n m : ℕ) → (m == n) ≡ false → (n == m) ≡ false
apart n m e = grind (arith, nat_tests)

-- ---- the closing byte

closing_again : (q : ℕ) (w rest : List ℕ) → (q == 92) ≡ false → closing_from q false (escaped q w ++ (q ∷ rest)) ≡ Some (length (escaped q w))
closing_again q [] rest n = pick_true (q == q) (Some 0) (option_map (λ n. 1 + n) (closing_from q (q == 92) rest)) (grind (arith, nat_tests))
closing_again q (b ∷ w) rest n = go (closing_again q w rest n) ((b == q) || (b == 92)) refl
  where
    go : closing_from q false (escaped q w ++ (q ∷ rest)) ≡ Some (length (escaped q w)) → (t : Bool) → ((b == q) || (b == 92)) ≡ t
        → closing_from q false ((if t then 92 ∷ (b ∷ escaped q w) else b ∷ escaped q w) ++ (q ∷ rest)) ≡ Some (length (if t then 92 ∷ (b ∷ escaped q w) else b ∷ escaped q w))
    go later true e =
        pick_false (92 == q) (Some 0) (option_map (λ n. 1 + n) (option_map (λ n. 1 + n) (closing_from q false (escaped q w ++ (q ∷ rest))))) (apart 92 q n)
        ∙ ap (λ o. option_map (λ n. 1 + n) (option_map (λ n. 1 + n) o)) later ∙ ap Some (let f : 1 + (1 + length (escaped q w)) ≡ suc (suc (length (escaped q w))) = omega arith in f)
    go later false e =
        pick_false (b == q) (Some 0) (option_map (λ n. 1 + n) (closing_from q (b == 92) (escaped q w ++ (q ∷ rest)))) (neither (b == q) (b == 92) e).0
        ∙ ap (λ t. option_map (λ n. 1 + n) (closing_from q t (escaped q w ++ (q ∷ rest)))) (neither (b == q) (b == 92) e).1
        ∙ ap (option_map (λ n. 1 + n)) later ∙ ap Some (let f : 1 + length (escaped q w) ≡ suc (length (escaped q w)) = omega arith in f)

-- ---- what is meant

meant_again : (q : ℕ) (w : List ℕ) → meant_from false (escaped q w) ≡ w
meant_again q [] = refl
meant_again q (b ∷ w) = go (meant_again q w) ((b == q) || (b == 92)) refl
  where
    go : meant_from false (escaped q w) ≡ w → (t : Bool) → ((b == q) || (b == 92)) ≡ t → meant_from false (if t then 92 ∷ (b ∷ escaped q w) else b ∷ escaped q w) ≡ b ∷ w
    go later true e = ap (λ l. b ∷ l) later
    go later false e = pick_false (b == 92) (meant_from true (escaped q w)) (b ∷ meant_from false (escaped q w)) (neither (b == q) (b == 92) e).1 ∙ ap (λ l. b ∷ l) later

no_bad_escape : (q place : ℕ) (w : List ℕ) → bad_escape_from q false place (escaped q w) ≡ None
no_bad_escape q place [] = refl
no_bad_escape q place (b ∷ w) = go (λ p. no_bad_escape q p w) ((b == q) || (b == 92)) refl
  where
    go : ((p : ℕ) → bad_escape_from q false p (escaped q w) ≡ None) → (t : Bool) → ((b == q) || (b == 92)) ≡ t → bad_escape_from q false place (if t then 92 ∷ (b ∷ escaped q w) else b ∷ escaped q w) ≡ None
    go later true e = pick_true ((b == q) || (b == 92)) (bad_escape_from q false (place + 2) (escaped q w)) (Some place) e ∙ later (place + 2)
    go later false e =
        pick_false (b == 92) (bad_escape_from q true place (escaped q w)) (bad_escape_from q false (place + 1) (escaped q w)) (neither (b == q) (b == 92) e).1 ∙ later (place + 1)

-- ---- UTF-8

pub ascii_then : (x : ℕ) (xs : List ℕ) → x < 128 → IsUtf8 xs → IsUtf8 (x ∷ xs)
ascii_then x xs small u = IsUtf8-append (x ∷ []) xs (subst IsUtf8 (encode_ascii x small) (IsUtf8-encode x (low_scalar x (omega arith)))) u

escaped_joined : (q : ℕ) (a b : List ℕ) → escaped q (a ++ b) ≡ escaped q a ++ escaped q b
escaped_joined q [] b = refl
escaped_joined q (x ∷ a) b = go (escaped_joined q a b) ((x == q) || (x == 92))
  where
    go : escaped q (a ++ b) ≡ escaped q a ++ escaped q b → (t : Bool)
        → (if t then 92 ∷ (x ∷ escaped q (a ++ b)) else x ∷ escaped q (a ++ b)) ≡ (if t then 92 ∷ (x ∷ escaped q a) else x ∷ escaped q a) ++ escaped q b
    go later true = ap (λ l. 92 ∷ (x ∷ l)) later
    go later false = ap (λ l. x ∷ l) later

escaped_high : (q : ℕ) (xs : List ℕ) → q < 128 → ((k : ℕ) → k < length xs → 128 ≤ get_or xs k 0) → escaped q xs ≡ xs
escaped_high q [] small h = refl
escaped_high q (x ∷ xs) small h =
    let high : 128 ≤ x = h 0 (omega arith) in
    let other : ((x == q) || (x == 92)) ≡ false = grind (arith, nat_tests) in
    ap (λ t. if t then 92 ∷ (x ∷ escaped q xs) else x ∷ escaped q xs) other ∙ ap (λ l. x ∷ l) (escaped_high q xs small (λ k below. h (suc k) (omega arith)))

one_char : (q c : ℕ) → q < 128 → scalar c ≡ true → IsUtf8 (escaped q (encode c))
one_char q c small ok = elim (cases_lt c 128) [
  | inl low ↦ subst (λ l. IsUtf8 (escaped q l)) (sym (encode_ascii c low)) (go low ((c == q) || (c == 92)))
  | inr big ↦
      let high : (k : ℕ) → k < length (encode c) → 128 ≤ get_or (encode c) k 0 = λ k below. elim (cases_lt (get_or (encode c) k 0) 128) [
        | inl low ↦ absurd (omega (arith, inside_one c [] (encode c) k (sym (append-nil _)) below low))
        | inr h ↦ h
      ] in
      subst IsUtf8 (sym (escaped_high q (encode c) small high)) (IsUtf8-encode c ok)
]
  where
    go : c < 128 → (t : Bool) → IsUtf8 (if t then 92 ∷ (c ∷ []) else c ∷ [])
    go low true = ascii_then 92 (c ∷ []) (omega arith) (ascii_then c [] low IsUtf8-nil)
    go low false = ascii_then c [] low IsUtf8-nil

all_chars : (q : ℕ) (cs : List ℕ) → q < 128 → scalars cs ≡ true → IsUtf8 (escaped q (encodes cs))
all_chars q [] small e = IsUtf8-nil
all_chars q (c ∷ cs) small e =
    let p = both (scalar c) (scalars cs) e in
    subst IsUtf8 (sym (escaped_joined q (encode c) (encodes cs))) (IsUtf8-append (escaped q (encode c)) (escaped q (encodes cs)) (one_char q c small p.0) (all_chars q cs small p.1))

escaped_is_utf8 : (q : ℕ) (w : List ℕ) → q < 128 → IsUtf8 w → IsUtf8 (escaped q w)
escaped_is_utf8 q w small u = subst (λ l. IsUtf8 (escaped q l)) u.1.1 (all_chars q u.0 small u.1.0)

utf8_is_sound : (w : List ℕ) → IsUtf8 w → no_utf8 w ≡ None
utf8_is_sound w u =
    ap (λ n. if nat_lt n (length w) then Some n else None) (utf8_valid_len-IsUtf8 w u)
    ∙ ap (λ t. if t then Some (length w) else None) (let e : nat_lt (length w) (length w) ≡ false = grind (arith, nat_tests) in e)

-- ---- a piece in bars or quotes

sound_inside : (q : ℕ) (w : List ℕ) → q < 128 → IsUtf8 w → fault_inside q (escaped q w) ≡ None
sound_inside q w small u = ap (λ o. lesser o (no_utf8 (escaped q w))) (no_bad_escape q 0 w) ∙ utf8_is_sound (escaped q w) (escaped_is_utf8 q w small u)

quoted_again : (q place : ℕ) (says : List ℕ → Saying) (w rest : List ℕ) → (q == 92) ≡ false → q < 128 → IsUtf8 w
    → quoted_piece q place says ((escaped q w ++ (q ∷ [])) ++ rest) (closing q ((escaped q w ++ (q ∷ [])) ++ rest)) ≡ token (says w) (suc (length (escaped q w ++ (q ∷ []))))
quoted_again q place says w rest n small u =
    ap (λ l. quoted_piece q place says l (closing q l)) (append_assoc (escaped q w) (q ∷ []) rest)
    ∙ ap (quoted_piece q place says (escaped q w ++ (q ∷ rest))) (closing_again q w rest n)
    ∙ ap (λ l. inside_piece place says (length (escaped q w)) l (fault_inside q l)) (taken_front (escaped q w) (q ∷ rest))
    ∙ ap (inside_piece place says (length (escaped q w)) (escaped q w)) (sound_inside q w small u)
    ∙ ap₂ (λ t c. token (says t) c) (meant_again q w) (let l : length (escaped q w ++ (q ∷ [])) ≡ length (escaped q w) + 1 = length-append (escaped q w) (q ∷ []) in let f : length (escaped q w) + 2 ≡ suc (length (escaped q w ++ (q ∷ []))) = omega arith in f)

pub cut_barred : (rest w : List ℕ) → IsUtf8 w → Cut rest (124 ∷ (escaped 124 w ++ (124 ∷ []))) (word_of w false ∷ [])
cut_barred rest w u = cut_token rest 124 (escaped 124 w ++ (124 ∷ [])) (word_of w false) (λ place. quoted_again 124 place quoted_word w rest refl (omega arith) u)

pub cut_quoted : (rest w : List ℕ) → IsUtf8 w → Cut rest (34 ∷ (escaped 34 w ++ (34 ∷ []))) (documentation w ∷ [])
cut_quoted rest w u = cut_token rest 34 (escaped 34 w ++ (34 ∷ [])) (documentation w) (λ place. quoted_again 34 place documentation w rest refl (omega arith) u)
