-- Words of a table, and of a table that has grown.
use Rattle.std.specs.Prelude.{codes, if◌then◌else◌, nat_lt, unwrap_or}
use Rattle.std.proofs.Common.{◌≡◌, refl, sym, ◌∙◌, ap, true, false, [], ◌∷◌, ◌++◌, List, ℕ, Bool, ◌==◌, ◌+◌, Option, Some, None, cond, length, arith}
use Rattle.std.specs.List.{position_from}
use Rattle.std.specs.Str.{bytes_eq}
use Rattle.std.proofs.lemmas.Bool.Decides.{nat_tests}
use Rattle.std.proofs.lemmas.Slice.Eq.{bytes_eq-Decides}
use Rattle.soar_sym.specs.Words.{Texts, has_text, with_text, with_texts, text_of, place_of}
use Rattle.soar_sym.specs.declared.symbol.Sym.{Sym}
use Rattle.soar_sym.specs.declared.symbol.Sym.TheVariants.{Ident, Word, Int}
use Rattle.defs_text.specs.Lexing.{Spelled}
use Rattle.defs_text.specs.Numbered.{word_in, token_texts, words_after}
use Rattle.defs_read.specs.PrintingConditions.{bare_text}
use Rattle.defs_read.specs.Sayings.{IsWordPlaced, is_place}
use Rattle.reading_laws.proofs.TextLaws.{both}

pub same_bytes : (x : List ℕ) → bytes_eq x x ≡ true
same_bytes x = (bytes_eq-Decides x x).1 refl

-- a known word stands at the place of its text
pub known_place : (words : Texts) (w : ℕ) → IsWordPlaced words (Word w) → place_of words (text_of words w) ≡ Some w
known_place words w known = go (place_of words (text_of words w)) (both (nat_lt w (length words)) (is_place words w) known).1
  where
    go : (o : Option ℕ) → elim o as (λ _. Bool) [ Some n ↦ n == w | None ↦ false ] ≡ true → o ≡ Some w
    go (Some n) e = let same : n ≡ w = grind (arith, nat_tests) in ap Some same
    go None e = absurd (cc)

-- the text of the first word stands at its place
first_place : (words : Texts) → text_of words 0 ≡ codes "state" → place_of words (codes "state") ≡ Some 0
first_place [] e = absurd (cc)
first_place (x ∷ words) e =
    ap (λ t. cond t (Some 0) (position_from (bytes_eq (codes "state")) (0 + 1) words)) (ap (bytes_eq (codes "state")) e ∙ same_bytes (codes "state"))

-- a word of the table with that text is the first
pub first_word : (words : Texts) (w : ℕ) → text_of words 0 ≡ codes "state" → IsWordPlaced words (Word w) → text_of words w ≡ codes "state" → w ≡ 0
first_word words w state known e = ap (λ o. unwrap_or o 0) (sym (known_place words w known) ∙ ap (place_of words) e ∙ first_place words state)

-- ---- a table that has grown

pub position_kept : (test : List ℕ → Bool) (i n : ℕ) (words more : Texts) → position_from test i words ≡ Some n → position_from test i (words ++ more) ≡ Some n
position_kept test i n [] more e = absurd (cc)
position_kept test i n (x ∷ words) more e = go (test x) refl e (position_kept test (i + 1) n words more)
  where
    go : (t : Bool) → test x ≡ t → cond t (Some i) (position_from test (i + 1) words) ≡ Some n → (position_from test (i + 1) words ≡ Some n → position_from test (i + 1) (words ++ more) ≡ Some n)
        → cond (test x) (Some i) (position_from test (i + 1) (words ++ more)) ≡ Some n
    go true f g later = ap (λ t. cond t (Some i) (position_from test (i + 1) (words ++ more))) f ∙ g
    go false f g later = ap (λ t. cond t (Some i) (position_from test (i + 1) (words ++ more))) f ∙ later g

pub kept_by_one : (words : Texts) (text other : List ℕ) (n : ℕ) → place_of words text ≡ Some n → place_of (with_text words other) text ≡ Some n
kept_by_one words text other n e = go (has_text words other)
  where
    go : (t : Bool) → place_of (if t then words else words ++ other ∷ []) text ≡ Some n
    go true = e
    go false = position_kept (bytes_eq text) 0 n words (other ∷ []) e

pub kept_by_all : (words texts : Texts) (text : List ℕ) (n : ℕ) → place_of words text ≡ Some n → place_of (with_texts words texts) text ≡ Some n
kept_by_all words [] text n e = e
kept_by_all words (other ∷ texts) text n e = kept_by_all (with_text words other) texts text n (kept_by_one words text other n e)

-- a known word is found again by its text, also once tokens were read
pub word_again : (words : Texts) (tokens : List Spelled) (s : Sym) → IsWordPlaced words s → word_in (words_after words tokens) (bare_text words s) ≡ s
word_again words tokens (Word w) known = ap (λ o. Word (unwrap_or o 0)) (kept_by_all words (token_texts tokens) (text_of words w) w (known_place words w known))
word_again words tokens (Ident letter count) known = absurd (cc)
word_again words tokens (Int value) known = absurd (cc)
