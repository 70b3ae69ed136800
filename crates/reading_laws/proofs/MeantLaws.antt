-- The text that the bytes inside bars or quotes mean is UTF-8 where they are.
use Rattle.std.proofs.Common.{◌≡◌, ℕ, ◌+◌, ◌/◌, ◌<◌, ◌≤◌, ◌≢◌, ◌==◌, Bool, true, false, ltb, cond, List, [], ◌∷◌, ◌++◌, length, refl, sym, ap, subst, ◌∙◌, arith}
use Rattle.std.proofs.Math.Utf8.{scalar, scalars, encode, encodes, next}
use Rattle.std.specs.Char.{IsScalar}
use Rattle.std.specs.Str.{IsUtf8}
use Rattle.std.proofs.lemmas.Str.{IsUtf8-nil, IsUtf8-append, IsUtf8-encode, encode_ascii, length-encode, len_utf8_bounds}
use Rattle.std.proofs.lemmas.Bool.Decides.{nat_tests}
use Rattle.defs_text.specs.Quotes.{meant, meant_from}
use Rattle.reading_laws.proofs.TextLaws.{both}

-- bytes that are no ASCII
abbrev AreHigh : List ℕ → Type 0
AreHigh [] = Unit {0}
AreHigh (b ∷ bytes) = (128 ≤ b) × AreHigh bytes

encode_high : (c : ℕ) → 128 ≤ c → AreHigh (encode c)
unfolding encode
encode_high c high = by (ltb c 128) (ltb c 2048) (ltb c 65536) refl
  where
    by : (ascii two three : Bool) → ltb c 128 ≡ ascii → AreHigh (cond ascii (c ∷ []) (cond two ((192 + c / 64) ∷ next c ∷ []) (cond three ((224 + c / 4096) ∷ next (c / 64) ∷ next c ∷ []) ((240 + c / 262144) ∷ next (c / 4096) ∷ next (c / 64) ∷ next c ∷ []))))
    by true two three e = absurd (grind (arith, nat_tests))
    by false true three e = (omega arith, (omega arith, tt))
    by false false true e = (omega arith, (omega arith, (omega arith, tt)))
    by false false false e = (omega arith, (omega arith, (omega arith, (omega arith, tt))))

encode_some : (c : ℕ) → encode c ≢ []
encode_some c e = omega (arith, ap length e, length-encode c, len_utf8_bounds c)

-- they mean themselves
high_means : (xs rest : List ℕ) → AreHigh xs → meant_from false (xs ++ rest) ≡ xs ++ meant_from false rest
high_means [] rest high = refl
high_means (x ∷ xs) rest high =
    ap (λ t. elim t as (λ _. List ℕ) [ true ↦ meant_from true (xs ++ rest) | false ↦ x ∷ meant_from false (xs ++ rest) ]) (other x high.0)
    ∙ ap (λ r. x ∷ r) (high_means xs rest high.1)
  where
    other : (x : ℕ) → 128 ≤ x → (x == 92) ≡ false
    other x h = grind (arith, nat_tests)

-- and so also behind a backslash
high_means_behind : (behind : Bool) (xs rest : List ℕ) → AreHigh xs → xs ≢ [] → meant_from behind (xs ++ rest) ≡ xs ++ meant_from false rest
high_means_behind false xs rest high some = high_means xs rest high
high_means_behind true [] rest high some = absurd (some refl)
high_means_behind true (x ∷ xs) rest high some = ap (λ r. x ∷ r) (high_means xs rest high.1)

-- an ASCII byte more at the front
ascii_first : (c : ℕ) (bytes : List ℕ) → c < 128 → IsScalar c → IsUtf8 bytes → IsUtf8 (c ∷ bytes)
ascii_first c bytes ascii one text = subst (λ front. IsUtf8 (front ++ bytes)) (encode_ascii c ascii) (IsUtf8-append (encode c) bytes (IsUtf8-encode c one) text)

ascii_means : (c : ℕ) (rest : List ℕ) → c < 128 → IsScalar c → ((behind : Bool) → IsUtf8 (meant_from behind rest)) → (behind : Bool) → IsUtf8 (meant_from behind (c ∷ rest))
ascii_means c rest ascii one later true = ascii_first c (meant_from false rest) ascii one (later false)
ascii_means c rest ascii one later false = by (c == 92)
  where
    by : (slash : Bool) → IsUtf8 (elim slash as (λ _. List ℕ) [ true ↦ meant_from true rest | false ↦ c ∷ meant_from false rest ])
    by true = later true
    by false = ascii_first c (meant_from false rest) ascii one (later false)

high_first : (c : ℕ) (rest : List ℕ) → 128 ≤ c → IsScalar c → IsUtf8 (meant_from false rest) → (behind : Bool) → IsUtf8 (meant_from behind (encode c ++ rest))
high_first c rest high one later behind =
    subst IsUtf8 (sym (high_means_behind behind (encode c) rest (encode_high c high) (encode_some c)))
    (IsUtf8-append (encode c) (meant_from false rest) (IsUtf8-encode c one) later)

encodes_mean : (cs : List ℕ) → scalars cs ≡ true → (behind : Bool) → IsUtf8 (meant_from behind (encodes cs))
encodes_mean [] all true = IsUtf8-nil
encodes_mean [] all false = IsUtf8-nil
encodes_mean (c ∷ cs) all behind = by (encodes_mean cs (both (scalar c) (scalars cs) all).1) (ltb c 128) refl
  where
    one : scalar c ≡ true
    one = (both (scalar c) (scalars cs) all).0

    by : ((behind : Bool) → IsUtf8 (meant_from behind (encodes cs))) → (ascii : Bool) → ltb c 128 ≡ ascii → IsUtf8 (meant_from behind (encode c ++ encodes cs))
    by later true e = let small : c < 128 = grind (arith, nat_tests) in subst (λ front. IsUtf8 (meant_from behind (front ++ encodes cs))) (sym (encode_ascii c small)) (ascii_means c (encodes cs) small one later behind)
    by later false e = let large : 128 ≤ c = grind (arith, nat_tests) in high_first c (encodes cs) large one (later false) behind

-- what the text between bars or quotes means is a text
pub meant_is_text : (bytes : List ℕ) → IsUtf8 bytes → IsUtf8 (meant bytes)
meant_is_text bytes text = subst (λ b. IsUtf8 (meant b)) text.1.1 (encodes_mean text.0 text.1.0 false)
