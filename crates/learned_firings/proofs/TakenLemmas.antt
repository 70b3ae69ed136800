-- Whether a rule has a name is told by the word of the name: each text stands once in a table, and the text of a name is not empty.
use Rattle.std.proofs.Common.{◌≡◌, ◌<◌, ◌+◌, ◌-◌, ◌^◌, ◌≤◌, ◌==◌, ◌/◌, ◌%◌, nat_lt, ℕ, zero, suc, Bool, true, false, ◌||◌, cond, List, [], ◌∷◌, ◌++◌, length, length-append, Option, Some, None, Err, refl, sym, ◌∙◌, ap, ap₂, arith}
use Rattle.std.proofs.lemmas.Slice.Eq.{bytes_eq-Decides}
use Rattle.std.specs.Fmt.{decimal, digit_glyph, digits, digits_onto}
use Rattle.std.specs.List.{list_any, position_from}
use Rattle.std.specs.Prelude.{slice_get, unwrap_or}
use Rattle.std.specs.Str.{bytes_eq}
use Rattle.soar_sym.specs.Equality.{symbol_eq}
use Rattle.soar_sym.specs.Words.{IsTable, Texts, has_text, place_of, with_text}
use Rattle.soar_sym.specs.declared.symbol.Sym.{Sym}
use Rattle.soar_sym.specs.declared.symbol.Sym.TheVariants.{Ident, Int, Word}
use Rattle.defs_match.specs.Rules.{RuleOf}
use Rattle.defs_run.specs.Carrying.{is_named}
use Rattle.defs_soar.specs.LearnedRules.{is_loaded, learned_name}
use Rattle.defs_soar.specs.Limits.{counts_to, words_to, first_passed, or_limit}
use Rattle.defs_soar.specs.Naming.{text_of_name}
use Rattle.defs_soar.specs.declared.limit.Which.TheVariants as which
use Rattle.soar_settle.specs.declared.stop.Stop.{Stop}
use Rattle.soar_settle.specs.declared.stop.Stop.TheVariants as stop
use Rattle.defs_text.specs.Numbered.{word_in}
use Rattle.soar_sym.proofs.TableLemmas.{missing_any}
use Rattle.learned_firings.specs.NameTotals.{totals_of_name}
use Rattle.learned_firings.specs.Naming.{IsName, IsNamed, Tries}
use Rattle.learned_firings.specs.declared.names.LearnedName.{LearnedName}

-- ---- a name's text is not empty

more_digits : (k n : ℕ) (acc : List ℕ) → 0 < length acc → 0 < length (digits_onto k 10 false n acc)
more_digits zero n acc h = h
more_digits (suc k) n acc h = by (n / 10 == 0) (more_digits k (n / 10) (digit_glyph false (n % 10) ∷ acc) longer)
  where
    longer : 0 < length (digit_glyph false (n % 10) ∷ acc)
    longer = omega arith

    by : (b : Bool) → 0 < length (digits_onto k 10 false (n / 10) (digit_glyph false (n % 10) ∷ acc))
        → 0 < length (cond b (digit_glyph false (n % 10) ∷ acc) (digits_onto k 10 false (n / 10) (digit_glyph false (n % 10) ∷ acc)))
    by true later = longer
    by false later = later

digits_there : (n : ℕ) → 0 < length (decimal n)
unfolding digits
digits_there n = by (n / 10 == 0)
  where
    one : 0 < length (digit_glyph false (n % 10) ∷ [])
    one = omega arith

    by : (b : Bool) → 0 < length (cond b (digit_glyph false (n % 10) ∷ []) (digits_onto 63 10 false (n / 10) (digit_glyph false (n % 10) ∷ [])))
    by true = one
    by false = more_digits 63 (n / 10) (digit_glyph false (n % 10) ∷ []) one

name_there : (front : List ℕ) (n : ℕ) → 0 < length (learned_name front n)
name_there front n = let all = length-append front (decimal n) in omega (arith, digits_there n, all)

-- ---- the text at a place

found_at : {X : Type 0} (p : X → Bool) (i : ℕ) (xs : List X) (n : ℕ) → position_from p i xs ≡ Some n → (k : ℕ) × (y : X) × (n ≡ i + k) × (slice_get xs k ≡ Some y) × (p y ≡ true)
found_at p i [] n h = absurd (cc)
found_at p i (x ∷ xs) n h = by (p x) refl h (λ later. found_at p (i + 1) xs n later)
  where
    by : (b : Bool) → p x ≡ b → cond b (Some i) (position_from p (i + 1) xs) ≡ Some n
        → (position_from p (i + 1) xs ≡ Some n → (k : ℕ) × (y : _) × (n ≡ i + 1 + k) × (slice_get xs k ≡ Some y) × (p y ≡ true))
        → (k : ℕ) × (y : _) × (n ≡ i + k) × (slice_get (x ∷ xs) k ≡ Some y) × (p y ≡ true)
    by true here h later = (zero, x, omega (arith, the h), refl, here)
      where
        the : Some i ≡ Some n → i ≡ n
        the e = cc
    by false here h later = let r = later h in (suc r.0, r.1, omega (arith, r.2), r.3, r.4)

text_at : (words : Texts) (text : List ℕ) (n : ℕ) → place_of words text ≡ Some n → slice_get words n ≡ Some text
text_at words text n h =
    let r = found_at (bytes_eq text) 0 words n h in
    let same : text ≡ r.1 = (bytes_eq-Decides text r.1).0 r.4 in
    let at : n ≡ r.0 = omega (arith, r.2) in
    ap (slice_get words) at ∙ r.3 ∙ ap Some (sym same)

any_at : {X : Type 0} (p : X → Bool) (xs : List X) (n : ℕ) (x : X) → slice_get xs n ≡ Some x → p x ≡ true → list_any p xs ≡ true
any_at p [] n x is h = absurd (cc)
any_at p (y ∷ xs) zero x is h = by (p y) (ap p (the y x is) ∙ h)
  where
    the : {X : Type 0} (a b : X) → Some a ≡ Some b → a ≡ b
    the a b e = cc

    by : (b : Bool) → b ≡ true → (b || list_any p xs) ≡ true
    by true e = refl
    by false e = absurd (cc)
any_at p (y ∷ xs) (suc n) x is h = by (p y) (any_at p xs n x is h)
  where
    by : (b : Bool) → list_any p xs ≡ true → (b || list_any p xs) ≡ true
    by true e = refl
    by false e = e

-- ---- the rules of a name

same_tests : (a b : Bool) → (a ≡ true → b ≡ true) → (b ≡ true → a ≡ true) → a ≡ b
same_tests true b f g = sym (f refl)
same_tests false true f g = g refl
same_tests false false f g = refl

is_word : (s : Sym) (w : ℕ) → symbol_eq s (Word w) ≡ true → s ≡ Word w
is_word (Word m) w h = ap Word (grind arith)
is_word (Ident l n) w h = absurd (cc)
is_word (Int z) w h = absurd (cc)

module _ (words : Texts) (text : List ℕ) (full : 0 < length text) where
  not_empty : bytes_eq [] text ≡ true → ⊥
  not_empty h = let e : 0 ≡ length text = ap length ((bytes_eq-Decides [] text).0 h) in omega (arith, full, e)

  -- a symbol with the text is a word of the table
  is_spelled : (s : Sym) → bytes_eq (text_of_name words s) text ≡ true → (m : ℕ) × (s ≡ Word m) × (slice_get words m ≡ Some text)
  is_spelled (Word m) h = by (slice_get words m) refl h
    where
      by : (o : Option (List ℕ)) → slice_get words m ≡ o → bytes_eq (unwrap_or o []) text ≡ true → (k : ℕ) × (Word m ≡ Word k) × (slice_get words k ≡ Some text)
      by None is e = absurd (not_empty e)
      by (Some t) is e = (m, refl, is ∙ ap Some ((bytes_eq-Decides t text).0 e))
  is_spelled (Ident l n) h = absurd (not_empty h)
  is_spelled (Int z) h = absurd (not_empty h)

  -- no rule has a name whose text is not in the table
  none_loaded : has_text words text ≡ false → (rules : List RuleOf) → is_loaded words rules text ≡ false
  none_loaded new [] = refl
  none_loaded new (rule ∷ rules) = ap₂ (λ a b. a || b) (by (bytes_eq (text_of_name words rule.production.name) text) refl) (none_loaded new rules)
    where
      by : (b : Bool) → bytes_eq (text_of_name words rule.production.name) text ≡ b → b ≡ false
      by true h =
          let s = is_spelled rule.production.name h in
          let there : has_text words text ≡ true = any_at (bytes_eq text) words s.0 text s.2 ((bytes_eq-Decides text text).1 refl) in absurd (cc)
      by false h = refl

  module _ (table : IsTable words) (w : ℕ) (at : place_of words text ≡ Some w) where
    named_so : (s : Sym) → bytes_eq (text_of_name words s) text ≡ symbol_eq s (Word w)
    named_so s = same_tests (bytes_eq (text_of_name words s) text) (symbol_eq s (Word w)) there back
      where
        there : bytes_eq (text_of_name words s) text ≡ true → symbol_eq s (Word w) ≡ true
        there h =
            let m = is_spelled s h in
            let same : m.0 ≡ w = the m.0 w (sym (table.once m.0 text m.2) ∙ at) in
            ap (λ k. symbol_eq k (Word w)) (m.1 ∙ ap Word same) ∙ own w
          where
            the : (a b : ℕ) → Some a ≡ Some b → a ≡ b
            the a b e = cc

            own : (n : ℕ) → (n == n) ≡ true
            own n = grind arith

        back : symbol_eq s (Word w) ≡ true → bytes_eq (text_of_name words s) text ≡ true
        back h =
            ap (λ k. bytes_eq (text_of_name words k) text) (is_word s w h) ∙ ap (λ o. bytes_eq (unwrap_or o []) text) (text_at words text w at)
            ∙ (bytes_eq-Decides text text).1 refl

    loaded_so : (rules : List RuleOf) → is_loaded words rules text ≡ list_any (is_named (Word w)) rules
    loaded_so [] = refl
    loaded_so (rule ∷ rules) = ap₂ (λ a b. a || b) (named_so rule.production.name) (loaded_so rules)

-- ---- a name that was tried

first_over : (n k : ℕ) → n ≤ 2 ^ 64 - 1 → k < 2 ^ 32 → first_passed (counts_to n ∷ words_to k ∷ []) ≡ None
first_over n k low few =
    let number : nat_lt 18446744073709551615 n ≡ false = grind arith in
    let table : nat_lt 4294967295 k ≡ false = grind arith in
    ap₂ (λ (a b : Bool). or_limit (cond a (Some which.Counts) None) (or_limit (cond b (Some which.Words) None) None)) number table

module _ (words after : Texts) (rules : List RuleOf) (front : List ℕ) (n : ℕ) (table : IsTable words) where
  abbrev text : List ℕ
  text = learned_name front n

  unless_new : (result : Bool) → (has_text words text ≡ true → is_loaded words rules text ≡ false) → has_text words text ≡ result → is_loaded words rules text ≡ false
  unless_new true old new = old new
  unless_new false old new = none_loaded words text (name_there front n) new rules

  -- the word of a text that is there
  named_old : (it : LearnedName) → IsNamed words front n after it → has_text words text ≡ true → is_loaded words rules text ≡ list_any (is_named it.name) rules
  named_old it named old = by (place_of words text) refl
    where
      stays : after ≡ words
      stays = named.words_are ∙ ap (λ b. cond b words (words ++ text ∷ [])) old

      by : (o : Option ℕ) → place_of words text ≡ o → is_loaded words rules text ≡ list_any (is_named it.name) rules
      by None at = let none : has_text words text ≡ false = missing_any (bytes_eq text) 0 words at in absurd (cc)
      by (Some w) at =
          loaded_so words text (name_there front n) table w at rules
          ∙ ap (λ s. list_any (is_named s) rules) (sym (named.name_is ∙ ap (λ ws. word_in ws text) stays ∙ ap (λ o. Word (unwrap_or o 0)) at))

  pub name_free : (it : LearnedName) → IsNamed words front n after it → list_any (is_named it.name) rules ≡ false → is_loaded words rules text ≡ false
  name_free it named free = unless_new (has_text words text) (λ old. named_old it named old ∙ free) refl

  grows : has_text words text ≡ false → length (with_text words text) ≡ length words + 1
  grows new = ap (λ b. length (cond b words (words ++ text ∷ []))) new ∙ length-append words (text ∷ [])

  pub name_new : (it : LearnedName) → IsNamed words front n after it → (length after ≡ length words → ⊥) → is_loaded words rules text ≡ false
  name_new it named longer =
      unless_new (has_text words text) (λ old. absurd (longer (ap length (named.words_are ∙ ap (λ b. cond b words (words ++ text ∷ [])) old)))) refl

  pub name_taken : (it : LearnedName) → IsNamed words front n after it → length after ≡ length words → list_any (is_named it.name) rules ≡ true
      → (after ≡ words) × (is_loaded words rules text ≡ true)
  name_taken it named same taken = by (has_text words text) refl
    where
      by : (b : Bool) → has_text words text ≡ b → (after ≡ words) × (is_loaded words rules text ≡ true)
      by true old = (named.words_are ∙ ap (λ b. cond b words (words ++ text ∷ [])) old, named_old it named old ∙ taken)
      by false new = let longer = grows new in let is = ap length named.words_are in absurd (omega (arith, longer, is, same))

  pub name_over : (e : Stop) → n ≤ 2 ^ 64 - 1 → IsName words front n after (Err e) → Tries words rules front n after (Err e)
  name_over stop.NoMemory low over = tt
  name_over (stop.Limit limit) low over = (unless_new (has_text words text) (λ old. absurd (fits old)) refl, over)
    where
      fits : has_text words text ≡ true → ⊥
      fits old =
          let same : length (with_text words text) ≡ length words = ap (λ b. length (cond b words (words ++ text ∷ []))) old in
          let none : first_passed (totals_of_name words front n) ≡ None = first_over n (length (with_text words text)) low (omega (arith, table.few, same)) in cc
