-- Words, variables and integers as they are printed are cut into their tokens.
use Rattle.std.specs.Prelude.{if◌then◌else◌, pos, negsuc, neg_ℤ, ℤ, IsUtf8}
use Rattle.std.specs.Fmt.{decimal, signed_decimal}
use Rattle.std.specs.List.{list_all, list_any}
use Rattle.std.proofs.Common.{rules, ◌≡◌, refl, sym, ◌∙◌, ap, subst, true, false, [], ◌∷◌, ◌++◌, List, ℕ, suc, Bool, ◌&&◌, length, ◌<◌, ◌^◌, not, arith}
use Rattle.std.proofs.lemmas.Str.Parse.{IsNumeralModel, numerals_by_fold}
use Rattle.std.proofs.lemmas.Fmt.{digits_decimal, digits_value-decimal, decimal_nonempty}
use Rattle.std.proofs.lemmas.Bool.Decides.{nat_tests}
use Rattle.std.proofs.lemmas.Int.{ints}
use Rattle.soar_sym.specs.Words.{Texts, text_of}
use Rattle.soar_sym.specs.declared.symbol.Sym.{Sym}
use Rattle.soar_sym.specs.declared.symbol.Sym.TheVariants.{Ident, Word, Int}
use Rattle.defs_text.specs.Bytes.{is_among, is_digit, is_run_byte, is_angle}
use Rattle.defs_text.specs.Runs.{RunKind, a_number, a_float, has_angle, a_word, run_kind, integer_of, is_float, angles_before, number_from, fits_integer}
use Rattle.defs_text.specs.Symbols.{is_word_kind, reads_back, is_identifier_form, stands_bare, barred, word_text, symbol_text}
use Rattle.defs_text.specs.Lexing.{variable_named, integer, word_of, begins_fraction, token, fault, wide_number, number_piece, run_piece}
use Rattle.defs_read.specs.Spelling.{spelled_constant}
use Rattle.reading_laws.specs.Printable.{IsConstant, IsName}
use Rattle.reading_laws.specs.TreeBack.{constant_back}
use Rattle.reading_laws.proofs.TextLaws.{Cut, Ends, IsRun, cut_run, among, both}
use Rattle.reading_laws.proofs.QuoteLaws.{cut_barred}

-- ---- words and variables

word_only : (k : RunKind) → is_word_kind k ≡ true → k ≡ a_word
word_only a_word e = refl
word_only _ e = absurd (cc)

pub bare_run : (text : List ℕ) → stands_bare text ≡ true → IsRun text (word_of text true)
bare_run [] e = absurd (cc)
bare_run (b ∷ bytes) e =
    let r = both (list_all is_run_byte (b ∷ bytes)) (is_word_kind (run_kind (b ∷ bytes))) (both (reads_back (b ∷ bytes)) (not (is_identifier_form (b ∷ bytes))) e).0 in
    record { first = b; others = bytes; bytes = refl; run_bytes = r.0; reads = λ place after f. ap (run_piece place (b ∷ bytes) after) (word_only (run_kind (b ∷ bytes)) r.1) }

closed_run : (name : List ℕ) → list_all is_run_byte name ≡ true → list_all is_run_byte (name ++ (62 ∷ [])) ≡ true
closed_run [] e = refl
closed_run (b ∷ name) e = let r = both (is_run_byte b) (list_all is_run_byte name) e in ap (λ t. t && list_all is_run_byte (name ++ (62 ∷ []))) r.0 ∙ closed_run name r.1

pub variable_run : (name : List ℕ) → IsName name → IsRun (60 ∷ (name ++ (62 ∷ []))) (variable_named name)
variable_run name h = record { first = 60; others = name ++ (62 ∷ []); bytes = refl; run_bytes = closed_run name h.0; reads = λ place after f. ap (run_piece place (60 ∷ (name ++ (62 ∷ []))) after) h.1 }

-- ---- integers

-- the digits of a decimal text, and the number that they are
pub own : IsNumeralModel (λ ds. list_all is_digit ds ≡ true) (number_from 0)
own = numerals_by_fold _ (search rules) number_from (search rules)

digit_among : (d : ℕ) → is_digit d ≡ true → is_among (48 ∷ 49 ∷ 50 ∷ 51 ∷ 52 ∷ 53 ∷ 54 ∷ 55 ∷ 56 ∷ 57 ∷ []) d ≡ true
digit_among d e = grind (arith, nat_tests)

-- what a property says of each digit it says of one
digit_so : (P : ℕ → Type 0) (d : ℕ) → is_digit d ≡ true → P 48 → P 49 → P 50 → P 51 → P 52 → P 53 → P 54 → P 55 → P 56 → P 57 → P d
digit_so P d e a0 a1 a2 a3 a4 a5 a6 a7 a8 a9 =
    among P (48 ∷ 49 ∷ 50 ∷ 51 ∷ 52 ∷ 53 ∷ 54 ∷ 55 ∷ 56 ∷ 57 ∷ []) d (digit_among d e) (a0, (a1, (a2, (a3, (a4, (a5, (a6, (a7, (a8, (a9, tt))))))))))

digits_run : (ds : List ℕ) → list_all is_digit ds ≡ true → list_all is_run_byte ds ≡ true
digits_run [] e = refl
digits_run (d ∷ ds) e =
    let r = both (is_digit d) (list_all is_digit ds) e in
    ap (λ t. t && list_all is_run_byte ds) (digit_so (λ d. is_run_byte d ≡ true) d r.0 refl refl refl refl refl refl refl refl refl refl) ∙ digits_run ds r.1

-- the classes of a run that is an integer, where its digits are
abbrev by_digits : List ℕ → Bool → RunKind
by_digits run t = if t then a_number (integer_of run) else if is_float run then a_float else if list_any is_angle run then has_angle (angles_before run) else a_word

abbrev Positive : ℕ → Type 0
Positive d = ((ds : List ℕ) → run_kind (d ∷ ds) ≡ by_digits (d ∷ ds) (list_all is_digit ds)) × ((ds : List ℕ) → integer_of (d ∷ ds) ≡ pos (number_from 0 (d ∷ ds)))

abbrev Negative : ℕ → Type 0
Negative d = ((ds : List ℕ) → run_kind (45 ∷ (d ∷ ds)) ≡ by_digits (45 ∷ (d ∷ ds)) (list_all is_digit ds)) × ((ds : List ℕ) → integer_of (45 ∷ (d ∷ ds)) ≡ neg_ℤ (pos (number_from 0 (d ∷ ds))))

is_positive : (d : ℕ) → is_digit d ≡ true → Positive d
is_positive d e =
    digit_so Positive d e (λ ds. refl, λ ds. refl) (λ ds. refl, λ ds. refl) (λ ds. refl, λ ds. refl) (λ ds. refl, λ ds. refl) (λ ds. refl, λ ds. refl)
    (λ ds. refl, λ ds. refl) (λ ds. refl, λ ds. refl) (λ ds. refl, λ ds. refl) (λ ds. refl, λ ds. refl) (λ ds. refl, λ ds. refl)

is_negative : (d : ℕ) → is_digit d ≡ true → Negative d
is_negative d e =
    digit_so Negative d e (λ ds. refl, λ ds. refl) (λ ds. refl, λ ds. refl) (λ ds. refl, λ ds. refl) (λ ds. refl, λ ds. refl) (λ ds. refl, λ ds. refl)
    (λ ds. refl, λ ds. refl) (λ ds. refl, λ ds. refl) (λ ds. refl, λ ds. refl) (λ ds. refl, λ ds. refl) (λ ds. refl, λ ds. refl)

-- an integer within 64 bits, with no fraction behind it
number_reads : (run : List ℕ) (z : ℤ) → run_kind run ≡ a_number z → fits_integer z ≡ true → (place : ℕ) (after : List ℕ) → begins_fraction after ≡ false → run_piece place run after (run_kind run) ≡ token (integer z) (length run)
number_reads run z k fits place after f =
    ap (run_piece place run after) k ∙ ap (number_piece place (length run) z) f ∙ ap (λ t. if t then token (integer z) (length run) else fault (wide_number place)) fits

positive_run : (ds : List ℕ) → list_all is_digit ds ≡ true → 0 < length ds → fits_integer (pos (number_from 0 ds)) ≡ true → IsRun ds (integer (pos (number_from 0 ds)))
positive_run [] e some fits = absurd (omega arith)
positive_run (d ∷ ds) e some fits =
    let r = both (is_digit d) (list_all is_digit ds) e in
    let h = is_positive d r.0 in
    record {
      first = d;
      others = ds;
      bytes = refl;
      run_bytes = digits_run (d ∷ ds) e;
      reads = number_reads (d ∷ ds) (pos (number_from 0 (d ∷ ds))) (h.0 ds ∙ ap (by_digits (d ∷ ds)) r.1 ∙ ap a_number (h.1 ds)) fits;
    }

negative_run : (ds : List ℕ) → list_all is_digit ds ≡ true → 0 < length ds → fits_integer (neg_ℤ (pos (number_from 0 ds))) ≡ true → IsRun (45 ∷ ds) (integer (neg_ℤ (pos (number_from 0 ds))))
negative_run [] e some fits = absurd (omega arith)
negative_run (d ∷ ds) e some fits =
    let r = both (is_digit d) (list_all is_digit ds) e in
    let h = is_negative d r.0 in
    record {
      first = 45;
      others = d ∷ ds;
      bytes = refl;
      run_bytes = digits_run (d ∷ ds) e;
      reads = number_reads (45 ∷ (d ∷ ds)) (neg_ℤ (pos (number_from 0 (d ∷ ds)))) (h.0 ds ∙ ap (by_digits (45 ∷ (d ∷ ds))) r.1 ∙ ap a_number (h.1 ds)) fits;
    }

positive_small : (n : ℕ) → fits_integer (pos n) ≡ true → n < 2 ^ 64
positive_small n e = grind (arith, ints, nat_tests)

negative_small : (n : ℕ) → fits_integer (negsuc n) ≡ true → suc n < 2 ^ 64
negative_small n e = grind (arith, ints, nat_tests)

pub integer_run : (z : ℤ) → fits_integer z ≡ true → IsRun (signed_decimal z) (integer z)
integer_run (pos n) fits =
    let small = positive_small n fits in
    let value : number_from 0 (decimal n) ≡ n = digits_value-decimal own n small in
    subst (λ m. IsRun (decimal n) (integer (pos m))) value
    (positive_run (decimal n) (digits_decimal own n small) (decimal_nonempty n small) (subst (λ m. fits_integer (pos m) ≡ true) (sym value) fits))
integer_run (negsuc n) fits =
    let small = negative_small n fits in
    let value : number_from 0 (decimal (suc n)) ≡ suc n = digits_value-decimal own (suc n) small in
    subst (λ m. IsRun (45 ∷ decimal (suc n)) (integer (neg_ℤ (pos m)))) value
    (negative_run (decimal (suc n)) (digits_decimal own (suc n) small) (decimal_nonempty (suc n) small) (subst (λ m. fits_integer (neg_ℤ (pos m)) ≡ true) (sym value) fits))

-- ---- symbols

pub cut_word : (rest text : List ℕ) → IsUtf8 text → Ends rest → Cut rest (word_text text) (word_of text (stands_bare text) ∷ [])
cut_word rest text u ends = go (stands_bare text) refl
  where
    go : (t : Bool) → stands_bare text ≡ t → Cut rest (if t then text else barred text) (word_of text t ∷ [])
    go true e = cut_run rest text (word_of text true) (bare_run text e) ends
    go false e = cut_barred rest text u

pub cut_constant : (rest : List ℕ) (words : Texts) (s : Sym) → IsConstant words s → Ends rest → Cut rest (symbol_text words s) (spelled_constant (constant_back words s) ∷ [])
cut_constant rest words (Word word) h ends = cut_word rest (text_of words word) h.1 ends
cut_constant rest words (Int value) h ends = cut_run rest (signed_decimal value) (integer value) (integer_run value h) ends
cut_constant rest words (Ident letter count) h ends = absurd h
