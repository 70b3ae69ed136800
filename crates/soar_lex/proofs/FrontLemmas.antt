-- The front of a text: the bytes of a run are ASCII, and its first angle stands in it.
use Rattle.std.proofs.Common.{◌≡◌, ℕ, suc, ◌+◌, ◌-◌, drop, ◌<◌, ◌≤◌, Bool, true, false, cond, List, [], ◌∷◌, length, take, refl, subst, arith}
use Rattle.std.specs.List.{prefix_len, list_any}
use Rattle.std.specs.Str.{IsAscii, IsUtf8}
use Rattle.std.proofs.lemmas.Str.{IsUtf8-from_ascii, IsAscii-take, IsAscii-drop}
use Rattle.std.proofs.lemmas.Str.Ascii.{IsAscii-nil, IsAscii-cons}
use Rattle.std.proofs.lemmas.List.Sums.{prefix_len-le-length}
use Rattle.std.specs.Prelude.{if◌then◌else◌, not, codes}
use Rattle.std.specs.Str.{bytes_eq}
use Rattle.std.proofs.lemmas.Bool.Decides.{nat_tests}
use Rattle.defs_text.specs.Bytes.{is_run_byte, is_angle}
use Rattle.defs_text.specs.Runs.{run_kind, inside_of, an_arrow, opens_set, closes_set, a_sign, a_variable, a_number, a_float, has_angle, a_word, is_sign, is_variable, is_integer, is_float, sign_place, signs, integer_of, angles_before}
use Rattle.defs_text.specs.Lexing.{run_of}

pub ascii_is_text : (bytes : List ℕ) → IsAscii bytes → IsUtf8 bytes
ascii_is_text = IsUtf8-from_ascii

run_byte_small : (b : ℕ) → is_run_byte b ≡ true → b < 128
run_byte_small b e = grind (arith, nat_tests)

pub run_is_ascii : (bytes : List ℕ) → IsAscii (run_of bytes)
run_is_ascii [] = IsAscii-nil
run_is_ascii (b ∷ bytes) = by (run_is_ascii bytes) (is_run_byte b) refl
  where
    by : IsAscii (run_of bytes) → (t : Bool) → is_run_byte b ≡ t → IsAscii (take (cond t (1 + prefix_len is_run_byte bytes) 0) (b ∷ bytes))
    by later true e = subst (λ n. IsAscii (take n (b ∷ bytes))) (let f : suc (prefix_len is_run_byte bytes) ≡ 1 + prefix_len is_run_byte bytes = omega arith in f) (IsAscii-cons b (run_of bytes) (run_byte_small b e) later)
    by later false e = IsAscii-nil

pub inside_is_ascii : (run : List ℕ) → IsAscii run → IsAscii (inside_of run)
inside_is_ascii run ascii = IsAscii-take (drop 1 run) (length (drop 1 run) - 1) (IsAscii-drop run 1 ascii)

-- the first angle stands in the run
pub angle_within : (run : List ℕ) (n : ℕ) → run_kind run ≡ has_angle n → n ≤ length run
angle_within run n e = subst (λ m. m ≤ length run) (picked (bytes_eq (codes "-->") run) (bytes_eq (codes "<<") run) (bytes_eq (codes ">>") run) (is_sign run) (is_variable run) (is_integer run) (is_float run) (list_any is_angle run) e) (prefix_len-le-length (λ b. not (is_angle b)) run)
  where
    picked : (a b c d f g h i : Bool)
        → (if a then an_arrow else if b then opens_set else if c then closes_set else if d then a_sign (sign_place signs run) else if f then a_variable (inside_of run)
        else if g then a_number (integer_of run) else if h then a_float else if i then has_angle (angles_before run) else a_word) ≡ has_angle n
        → angles_before run ≡ n
    picked true b c d f g h i e = absurd (cc)
    picked false true c d f g h i e = absurd (cc)
    picked false false true d f g h i e = absurd (cc)
    picked false false false true f g h i e = absurd (cc)
    picked false false false false true g h i e = absurd (cc)
    picked false false false false false true h i e = absurd (cc)
    picked false false false false false false true i e = absurd (cc)
    picked false false false false false false false true e = cc
    picked false false false false false false false false e = absurd (cc)
