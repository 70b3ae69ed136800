-- Names of learned rules: texts that join the table, and numbers up to the limit.
use Rattle.std.proofs.Common.{◌≡◌, ◌<◌, ◌≤◌, ◌∙◌, ◌+◌, ◌-◌, ◌^◌, ℕ, zero, suc, nat_lt, Bool, true, false, cond, List, [], ◌∷◌, ◌++◌, length, Option, Some, None, Ok, Err, refl, sym, ap, subst, arith, length-append}
use Rattle.std.specs.Option.{option_map}
use Rattle.std.specs.Prelude.{unwrap_or, slice_get}
use Rattle.soar_sym.specs.Words.{Texts, has_text, place_of, text_of, with_text, word_of}
use Rattle.soar_sym.specs.declared.symbol.Sym.{Sym}
use Rattle.soar_sym.specs.declared.symbol.Sym.TheVariants.{Word}
use Rattle.defs_match.specs.Rules.{RuleOf}
use Rattle.defs_text.specs.Numbered.{word_in}
use Rattle.defs_soar.specs.declared.limit.Which.{Which}
use Rattle.defs_soar.specs.declared.limit.Which.TheVariants as which
use Rattle.defs_soar.specs.LearnedRules.{free_number, is_loaded, learned_name}
use Rattle.defs_soar.specs.Limits.{Total, counts_to, words_to, first_passed, or_limit}
use Rattle.soar_settle.specs.declared.stop.Stop.{Stop}
use Rattle.soar_settle.specs.declared.stop.Stop.TheVariants as stop
use Rattle.learned_firings.specs.Naming.{IsName, IsNamed, Names, Tries}
use Rattle.learned_firings.specs.NameTotals.{totals_of_name}
use Rattle.learned_firings.specs.declared.names.LearnedName.{LearnedName}
use Rattle.learned_firings.specs.Totals.{Reaches}

-- ---- limits

abbrev passes : Bool → Which → Option Which
passes over limit = cond over (Some limit) None

pub count_within : (n : ℕ) → n ≤ 2 ^ 64 - 1 → first_passed (counts_to n ∷ []) ≡ None
count_within n low = let over : nat_lt 18446744073709551615 n ≡ false = grind arith in ap (λ b. or_limit (passes b which.Counts) None) over

pub count_over : (n : ℕ) → 2 ^ 64 - 1 < n → first_passed (counts_to n ∷ []) ≡ Some which.Counts
count_over n high = let over : nat_lt 18446744073709551615 n ≡ true = grind arith in ap (λ b. or_limit (passes b which.Counts) None) over

pub words_within : (n : ℕ) → n < 2 ^ 32 → first_passed (words_to n ∷ []) ≡ None
words_within n low = let over : nat_lt 4294967295 n ≡ false = grind arith in ap (λ b. or_limit (passes b which.Words) None) over

pub words_over : (n : ℕ) → 2 ^ 32 - 1 < n → first_passed (words_to n ∷ []) ≡ Some which.Words
words_over n high = let over : nat_lt 4294967295 n ≡ true = grind arith in ap (λ b. or_limit (passes b which.Words) None) over

-- a count beyond its limit, whatever comes behind it
pub count_first : (n : ℕ) (d : Total) → 2 ^ 64 - 1 < n → first_passed (counts_to n ∷ d ∷ []) ≡ Some which.Counts
count_first n d high = let over : nat_lt 18446744073709551615 n ≡ true = grind arith in ap (λ b. or_limit (passes b which.Counts) (first_passed (d ∷ []))) over

-- ---- one text

-- the word that a table gives is the word in it
pub word_is : (words : Texts) (text : List ℕ) (s : Sym) → word_of words text ≡ Some s → s ≡ word_in words text
word_is words text s h = go (place_of words text) h
  where
    go : (o : Option ℕ) → option_map Word o ≡ Some s → s ≡ Word (unwrap_or o 0)
    go None e = absurd (cc)
    go (Some n) e = cc

pub text_fits : (words after : Texts) (text : List ℕ) → after ≡ with_text words text → length after < 2 ^ 32 → first_passed (words_to (length (with_text words text)) ∷ []) ≡ None
text_fits words after text is few = words_within (length (with_text words text)) (let same : length after ≡ length (with_text words text) = ap length is in omega arith)

pub text_spends : (words : Texts) (text : List ℕ) → has_text words text ≡ false → length words ≡ 2 ^ 32 - 1 → first_passed (words_to (length (with_text words text)) ∷ []) ≡ Some which.Words
text_spends words text new full =
    words_over (length (with_text words text))
    (let longer : length (with_text words text) ≡ length words + 1 = ap (λ b. length (cond b words (words ++ text ∷ []))) new ∙ length-append words (text ∷ []) in omega arith)

-- ---- texts of words

pub text_there : (words : Texts) (n : ℕ) (text : List ℕ) → slice_get words n ≡ Some text → text ≡ text_of words n
text_there words n text q = sym (ap (λ o. unwrap_or o []) q)

pub text_past : (words : Texts) (n : ℕ) → length words ≤ n → [] ≡ text_of words n
text_past [] zero h = refl
text_past [] (suc n) h = refl
text_past (t ∷ words) zero h = absurd (omega arith)
text_past (t ∷ words) (suc n) h = text_past words n (omega arith)

-- ---- the next number

module _ (words : Texts) (rules : List RuleOf) (front : List ℕ) where
  -- a try less, at a name that a rule has
  pub number_taken : (tries k n : ℕ) → tries ≡ suc k → is_loaded words rules (learned_name front n) ≡ true → free_number tries words rules front n ≡ free_number k words rules front (suc n)
  number_taken tries k n is taken =
      ap (λ (t : ℕ). free_number t words rules front n) is ∙ ap (λ (b : Bool). elim b [ true ↦ free_number k words rules front (suc n) | false ↦ n ]) taken

  pub number_high : (k n : ℕ) → n ≤ free_number k words rules front n
  number_high zero n = omega arith
  number_high (suc k) n = go (is_loaded words rules (learned_name front n)) (number_high k (suc n))
    where
      go : (b : Bool) → suc n ≤ free_number k words rules front (suc n) → n ≤ elim b [ true ↦ free_number k words rules front (suc n) | false ↦ n ]
      go true low = omega arith
      go false low = omega arith

-- ---- numbers beyond the limit of counts

-- what passes the limit of counts
beyond : (n : ℕ) (limit : Which) → first_passed (counts_to n ∷ []) ≡ Some limit → (limit ≡ which.Counts) × (2 ^ 64 - 1 < n)
beyond n limit q = go (nat_lt 18446744073709551615 n) refl q
  where
    go : (b : Bool) → nat_lt 18446744073709551615 n ≡ b → or_limit (passes b which.Counts) None ≡ Some limit → (limit ≡ which.Counts) × (2 ^ 64 - 1 < n)
    go true p r = (cc, grind arith)
    go false p r = absurd (cc)

spent : (words : Texts) (rules : List RuleOf) (front : List ℕ) (tries k n whole : ℕ) (limit : Which) → tries ≡ suc k → is_loaded words rules (learned_name front n) ≡ true
    → first_passed (counts_to (suc n) ∷ []) ≡ Some limit → free_number tries words rules front n ≡ whole → (limit ≡ which.Counts) × (2 ^ 64 - 1 < whole)
spent words rules front tries k n whole limit is taken over q =
    let h = beyond (suc n) limit over in
    let same : free_number k words rules front (suc n) ≡ whole = sym (number_taken words rules front tries k n is taken) ∙ q in
    let high = number_high words rules front k (suc n) in
    (h.0, omega (arith, h.1, high, same))

-- a number that none can follow, whose name a rule has
pub number_over : (words after : Texts) (rules : List RuleOf) (front : List ℕ) (tries k n whole : ℕ) (e : Stop) → tries ≡ suc k → is_loaded words rules (learned_name front n) ≡ true
    → Reaches {A = ℕ} (counts_to (suc n) ∷ []) (Err e) → free_number tries words rules front n ≡ whole → IsName words front whole after (Err e)
number_over words after rules front tries k n whole (stop.Limit limit) is taken over q =
    let h = spent words rules front tries k n whole limit is taken over q in count_first whole (words_to (length (with_text words (learned_name front whole)))) h.1 ∙ ap Some (sym h.0)
number_over words after rules front tries k n whole stop.NoMemory is taken over q = tt

-- and so for the first number
pub first_over : (words : Texts) (rules : List RuleOf) (front : List ℕ) (last : ℕ) (after : Texts) (e : Stop) → Reaches {A = ℕ} (counts_to (suc last) ∷ []) (Err e) → Names words rules front last after (Err e)
first_over words rules front last after (stop.Limit limit) over =
    let h = beyond (suc last) limit over in
    let high = number_high words rules front (length rules) (suc last) in
    let number = free_number (length rules) words rules front (suc last) in
    count_first number (words_to (length (with_text words (learned_name front number)))) (omega (arith, h.1, high)) ∙ ap Some (sym h.0)
first_over words rules front last after stop.NoMemory over = tt

-- ---- a number whose name is free

module _ (words after : Texts) (rules : List RuleOf) (front : List ℕ) (tries k n whole : ℕ) (is : tries ≡ suc k) (q : free_number tries words rules front n ≡ whole) where
  number_free : is_loaded words rules (learned_name front n) ≡ false → n ≡ whole
  number_free free =
      sym (ap (λ (t : ℕ). free_number t words rules front n) is ∙ ap (λ (b : Bool). elim b [ true ↦ free_number k words rules front (suc n) | false ↦ n ]) free) ∙ q

  pub tried_over : (e : Stop) → Tries words rules front n after (Err e) → IsName words front whole after (Err e)
  tried_over stop.NoMemory over = tt
  tried_over (stop.Limit limit) over = subst (λ m. first_passed (totals_of_name words front m) ≡ Some limit) (number_free over.0) over.1

  pub tried_named : (it : LearnedName) → Tries words rules front n after (Ok (Some it)) → IsNamed words front whole after it
  tried_named it tried = subst (λ m. IsNamed words front m after it) (number_free tried.0) tried.1
