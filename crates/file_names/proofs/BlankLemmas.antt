-- Bytes without the blanks at their end.
use Rattle.std.proofs.Common.{◌≡◌, ℕ, suc, ◌+◌, ◌∙◌, true, false, List, [], ◌∷◌, ◌++◌, drop, refl, ap, arith}
use Rattle.std.specs.Prelude.{if◌then◌else◌}
use Rattle.std.specs.List.{prefix_len}
use Rattle.defs_text.specs.Bytes.{is_blank}
use Rattle.defs_run.specs.WholeReading.{reversed, without_end_blanks, without_front_blanks}

-- the last of bytes comes first
last_first : (done bytes : List ℕ) (last : ℕ) → reversed done (bytes ++ last ∷ []) ≡ last ∷ reversed done bytes
last_first done [] last = refl
last_first done (b ∷ bytes) last = last_first (b ∷ done) bytes last

back : (done before bytes : List ℕ) → reversed done (reversed before bytes) ≡ reversed (bytes ++ done) before
back done before [] = refl
back done before (b ∷ bytes) = back done (b ∷ before) bytes

front_kept : (b : ℕ) (bytes : List ℕ) → is_blank b ≡ false → without_front_blanks (b ∷ bytes) ≡ b ∷ bytes
front_kept b bytes is = ap (λ t. drop (if t then 1 + prefix_len is_blank bytes else 0) (b ∷ bytes)) is

one_dropped : (n b : ℕ) (bytes : List ℕ) → drop (1 + n) (b ∷ bytes) ≡ drop n bytes
one_dropped n b bytes = let more : 1 + n ≡ suc n = omega arith in ap (λ k. drop k (b ∷ bytes)) more

front_dropped : (b : ℕ) (bytes : List ℕ) → is_blank b ≡ true → without_front_blanks (b ∷ bytes) ≡ without_front_blanks bytes
front_dropped b bytes is = ap (λ t. drop (if t then 1 + prefix_len is_blank bytes else 0) (b ∷ bytes)) is ∙ one_dropped (prefix_len is_blank bytes) b bytes

-- a blank at the end is left out
pub end_dropped : (bytes : List ℕ) (last : ℕ) → is_blank last ≡ true → without_end_blanks (bytes ++ last ∷ []) ≡ without_end_blanks bytes
end_dropped bytes last is =
    ap (λ bs. reversed [] (without_front_blanks bs)) (last_first [] bytes last) ∙ ap (reversed []) (front_dropped last (reversed [] bytes) is)

-- another byte ends what is left
pub end_kept : (bytes : List ℕ) (last : ℕ) → is_blank last ≡ false → without_end_blanks (bytes ++ last ∷ []) ≡ bytes ++ last ∷ []
end_kept bytes last is =
    ap (λ bs. reversed [] (without_front_blanks bs)) (last_first [] bytes last)
    ∙ (ap (reversed []) (front_kept last (reversed [] bytes) is) ∙ back (last ∷ []) [] bytes)
