-- Texts that join a table, and their words.
use Rattle.std.proofs.Common.{◌≡◌, ◌∙◌, ◌<◌, ◌≤◌, ◌+◌, ◌-◌, ◌^◌, ◌++◌, ◌&&◌, ◌||◌, ℕ, Bool, true, false, cond, List, [], ◌∷◌, length, get_or, drop, Option, Some, None, refl, ap, sym, arith, add-one, append_assoc, drop-cons, length-append}
use Rattle.std.proofs.lemmas.List.{append-nil}
use Rattle.std.proofs.lemmas.List.Folds.{list_all_at, list_any-append}
use Rattle.std.specs.List.{list_all}
use Rattle.std.specs.Option.{option_map}
use Rattle.std.specs.Prelude.{unwrap_or}
use Rattle.std.specs.Str.{bytes_eq}
use Rattle.soar_sym.proofs.TableLemmas.{bytes_eq_same}
use Rattle.soar_sym.specs.Words.{Texts, has_text, place_of, with_text, word_of}
use Rattle.soar_sym.specs.declared.symbol.Sym.{Sym}
use Rattle.soar_sym.specs.declared.symbol.Sym.TheVariants.{Word}
use Rattle.chunk_make.specs.Known.{HasGrown}
use Rattle.defs_soar.specs.CandidateOf.{words_after}
use Rattle.defs_text.specs.Numbered.{word_in}

-- ---- one text

has_own : (words : Texts) (text : List ℕ) → has_text (with_text words text) text ≡ true
has_own words text = go (has_text words text) refl
  where
    go : (b : Bool) → has_text words text ≡ b → has_text (cond b words (words ++ text ∷ [])) text ≡ true
    go true e = e
    go false e = list_any-append (bytes_eq text) words (text ∷ []) ∙ ap (λ b. b || (bytes_eq text text || false)) e ∙ ap (λ b. b || false) (bytes_eq_same text)

has_still : (words : Texts) (other text : List ℕ) → has_text words text ≡ true → has_text (with_text words other) text ≡ true
has_still words other text h = go (has_text words other)
  where
    go : (b : Bool) → has_text (cond b words (words ++ other ∷ [])) text ≡ true
    go true = h
    go false = list_any-append (bytes_eq text) words (other ∷ []) ∙ ap (λ b. b || (bytes_eq text other || false)) h

with_longer : (words : Texts) (text : List ℕ) → length words ≤ length (with_text words text)
with_longer words text = go (has_text words text)
  where
    go : (b : Bool) → length words ≤ length (cond b words (words ++ text ∷ []))
    go true = omega arith
    go false = omega (arith, length-append words (text ∷ []))

-- a text that is there changes nothing
pub with_known : (words : Texts) (text : List ℕ) → has_text words text ≡ true → with_text words text ≡ words
with_known words text h = ap (λ b. cond b words (words ++ text ∷ [])) h

-- a text that is new makes the table one longer
pub with_new : (words : Texts) (text : List ℕ) → has_text words text ≡ false → length (with_text words text) ≡ length words + 1
with_new words text h = ap (λ b. length (cond b words (words ++ text ∷ []))) h ∙ length-append words (text ∷ [])

-- the word that a table gives is the word in it
pub word_is : (words : Texts) (text : List ℕ) (s : Sym) → word_of words text ≡ Some s → s ≡ word_in words text
word_is words text s h = go (place_of words text) h
  where
    go : (o : Option ℕ) → option_map Word o ≡ Some s → s ≡ Word (unwrap_or o 0)
    go None e = absurd (cc)
    go (Some n) e = cc

-- ---- texts in turn

has_after : (names : List (List ℕ)) (words : Texts) (text : List ℕ) → has_text words text ≡ true → has_text (words_after words names) text ≡ true
has_after [] words text h = h
has_after (name ∷ names) words text h = has_after names (with_text words name) text (has_still words name text h)

pub all_known : (names : List (List ℕ)) (words : Texts) → list_all (has_text (words_after words names)) names ≡ true
all_known [] words = refl
all_known (name ∷ names) words =
    ap (λ b. b && list_all (has_text (words_after words (name ∷ names))) names) (has_after names (with_text words name) name (has_own words name)) ∙ all_known names (with_text words name)

after_longer : (names : List (List ℕ)) (words : Texts) → length words ≤ length (words_after words names)
after_longer [] words = omega arith
after_longer (name ∷ names) words = omega (arith, with_longer words name, after_longer names (with_text words name))

-- the name at a place, and those behind it
drop_name : (names : List (List ℕ)) (i : ℕ) (name : List ℕ) → i < length names → name ≡ get_or names i name → drop i names ≡ name ∷ drop (i + 1) names
drop_name names i name within at = drop-cons names i name within ∙ rw (← at, add-one i) refl

pub joins_more : (first table : Texts) (names : List (List ℕ)) (i : ℕ) (name : List ℕ) → i < length names → name ≡ get_or names i name
    → words_after table (drop i names) ≡ words_after first names → words_after (with_text table name) (drop (i + 1) names) ≡ words_after first names
joins_more first table names i name within at so_far = ap (words_after table) (sym (drop_name names i name within at)) ∙ so_far

-- a table that one name makes too long is too long in the end
pub too_long : (first table : Texts) (names : List (List ℕ)) (i : ℕ) (name : List ℕ) → i < length names → name ≡ get_or names i name
    → words_after table (drop i names) ≡ words_after first names → 2 ^ 32 - 1 < length (with_text table name) → 2 ^ 32 - 1 < length (words_after first names)
too_long first table names i name within at so_far long =
    let end = ap length (joins_more first table names i name within at so_far) in
    let longer = after_longer (drop (i + 1) names) (with_text table name) in
    omega arith

-- each of the names is in the table
pub known_at : (words : Texts) (names : List (List ℕ)) (i : ℕ) (name : List ℕ) → list_all (has_text words) names ≡ true → i < length names → name ≡ get_or names i name → has_text words name ≡ true
known_at words names i name all within at = go (has_text words name) refl
  where
    go : (b : Bool) → has_text words name ≡ b → b ≡ true
    go true e = refl
    go false e =
        let none = list_all_at (has_text words) names i name within (ap (has_text words) (sym at) ∙ e) in
        let no : true ≡ false = sym all ∙ none in
        absurd (cc)

-- ---- growth

pub grown_same : (words later : Texts) → later ≡ words → HasGrown words later
grown_same words later same = record { grown = ([], same ∙ sym (append-nil words)) }

pub grown_with : (words : Texts) (text : List ℕ) → HasGrown words (with_text words text)
grown_with words text = record { grown = go (has_text words text) }
  where
    go : (b : Bool) → (more : Texts) × (cond b words (words ++ text ∷ []) ≡ words ++ more)
    go true = ([], sym (append-nil words))
    go false = (text ∷ [], refl)

pub grown_again : (words later last : Texts) → HasGrown words later → HasGrown later last → HasGrown words last
grown_again words later last h k =
    record { grown = (h.grown.0 ++ k.grown.0, k.grown.1 ∙ ap (λ l. l ++ k.grown.0) h.grown.1 ∙ append_assoc words h.grown.0 k.grown.0) }
