-- Texts that become words of a table, and what a table that has gained others says of them.
use Rattle.std.proofs.Common.{◌≡◌, ℕ, ◌+◌, ◌≤◌, ◌||◌, Bool, true, false, cond, List, [], ◌∷◌, ◌++◌, length, Option, Some, None, refl, sym, ap, ◌∙◌, arith, length-append, append_assoc, append-nil}
use Rattle.std.specs.Prelude.{unwrap_or}
use Rattle.std.specs.Option.{option_map}
use Rattle.std.specs.List.{list_any, position_from}
use Rattle.std.specs.Str.{bytes_eq}
use Rattle.soar_sym.specs.declared.symbol.Sym.{Sym}
use Rattle.soar_sym.specs.declared.symbol.Sym.TheVariants.{Word}
use Rattle.soar_sym.specs.Words.{Texts, has_text, place_of, with_text, with_texts, word_of}
use Rattle.soar_sym.proofs.TableLemmas.{with_text_new, position_new, position_old, bytes_eq_same}
use Rattle.defs_text.specs.Lexing.{Saying, mark, arrow, open_set, close_set, sign, variable_named, integer, word_of as a_word_of, documentation, Spelled}
use Rattle.defs_text.specs.declared.token.TokenKind.TheVariants as kind
use Rattle.defs_text.specs.Numbered.{word_in, kind_in, texts_before, token_texts, words_after}
use Rattle.soar_lex.specs.Answers.{Grown}

-- ---- the word of a text

-- the word that a table has for a text
pub word_is : (words : Texts) (text : List ℕ) (s : Sym) → word_of words text ≡ Some s → s ≡ word_in words text
word_is words text s = by (place_of words text)
  where
    by : (place : Option ℕ) → option_map Word place ≡ Some s → s ≡ Word (unwrap_or place 0)
    by None e = absurd (cc)
    by (Some n) e = cc

-- a new text makes the table longer by one
pub with_new : (words : Texts) (text : List ℕ) → has_text words text ≡ false → length (with_text words text) ≡ length words + 1
with_new words text new = ap length (with_text_new words text new) ∙ length-append words (text ∷ [])

-- what passes a test has a place
placed : {X : Type 0} (p : X → Bool) (i : ℕ) (xs : List X) → list_any p xs ≡ true → (n : ℕ) × (position_from p i xs ≡ Some n)
placed p i [] e = absurd (cc)
placed p i (x ∷ xs) e = by (λ h. placed p (i + 1) xs h) (p x) refl e
  where
    by : (list_any p xs ≡ true → (n : ℕ) × (position_from p (i + 1) xs ≡ Some n)) → (t : Bool) → p x ≡ t → (t || list_any p xs) ≡ true → (n : ℕ) × (cond t (Some i) (position_from p (i + 1) xs) ≡ Some n)
    by later true here e = (i, refl)
    by later false here e = later e

-- once a text was read it has a place
place_with : (words : Texts) (text : List ℕ) → (n : ℕ) × (place_of (with_text words text) text ≡ Some n)
place_with words text = by (has_text words text) refl
  where
    by : (t : Bool) → has_text words text ≡ t → (n : ℕ) × (place_of (cond t words (words ++ text ∷ [])) text ≡ Some n)
    by true there = placed (bytes_eq text) 0 words there
    by false new = (0 + length words, position_new (bytes_eq text) 0 words text new (bytes_eq_same text))

-- ---- tables that grow

pub grown_same : (words : Texts) → Grown words words
grown_same words = ([], sym (append-nil words))

pub grown_then : (old mid new : Texts) → Grown old mid → Grown mid new → Grown old new
grown_then old mid new first second = (first.0 ++ second.0, second.1 ∙ ap (λ ws. ws ++ second.0) first.1 ∙ append_assoc old first.0 second.0)

grown_with : (words : Texts) (text : List ℕ) → Grown words (with_text words text)
grown_with words text = by (has_text words text)
  where
    by : (t : Bool) → Grown words (cond t words (words ++ text ∷ []))
    by true = grown_same words
    by false = (text ∷ [], refl)

pub grown_all : (words texts : Texts) → Grown words (with_texts words texts)
grown_all words [] = grown_same words
grown_all words (text ∷ texts) = grown_then words (with_text words text) (with_texts (with_text words text) texts) (grown_with words text) (grown_all (with_text words text) texts)

pub grown_length : (old new : Texts) → Grown old new → length old ≤ length new
grown_length old new grown = omega (arith, ap length grown.1, length-append old grown.0)

-- ---- the words of tokens

pub texts_after : (words first second : Texts) → with_texts words (first ++ second) ≡ with_texts (with_texts words first) second
texts_after words [] second = refl
texts_after words (text ∷ first) second = texts_after (with_text words text) first second

texts_first : (says : Saying) (texts : Texts) → texts_before says texts ≡ texts_before says [] ++ texts
texts_first (mark b) texts = refl
texts_first arrow texts = refl
texts_first open_set texts = refl
texts_first close_set texts = refl
texts_first (sign n) texts = refl
texts_first (variable_named name) texts = refl
texts_first (integer z) texts = refl
texts_first (a_word_of text bare) texts = refl
texts_first (documentation text) texts = refl

token_texts-append : (first second : List Spelled) → token_texts (first ++ second) ≡ token_texts first ++ token_texts second
token_texts-append [] second = refl
token_texts-append (t ∷ first) second =
    ap (texts_before t.says) (token_texts-append first second)
    ∙ texts_first t.says (token_texts first ++ token_texts second)
    ∙ sym (append_assoc (texts_before t.says []) (token_texts first) (token_texts second))
    ∙ ap (λ texts. texts ++ token_texts second) (sym (texts_first t.says (token_texts first)))

-- the table after some tokens and others
pub words_then : (words : Texts) (first second : List Spelled) → words_after words (first ++ second) ≡ words_after (words_after words first) second
words_then words first second = ap (with_texts words) (token_texts-append first second) ∙ texts_after words (token_texts first) (token_texts second)

-- a text that was read has the same word in each later table
word_later : (words later : Texts) (text : List ℕ) → Grown (with_text words text) later → word_in later text ≡ word_in (with_text words text) text
word_later words later text grown =
    let place = place_with words text in
    ap (λ p. Word (unwrap_or p 0))
    (ap (λ ws. place_of ws text) grown.1 ∙ position_old (bytes_eq text) 0 (with_text words text) grown.0 place.0 place.1 ∙ sym place.1)

-- a token that was read is the same in each later table
pub kind_later : (words later : Texts) (says : Saying) → Grown (with_texts words (texts_before says [])) later → kind_in later says ≡ kind_in (with_texts words (texts_before says [])) says
kind_later words later (mark b) grown = refl
kind_later words later arrow grown = refl
kind_later words later open_set grown = refl
kind_later words later close_set grown = refl
kind_later words later (sign n) grown = refl
kind_later words later (variable_named name) grown = ap kind.Var (word_later words later name grown)
kind_later words later (integer z) grown = refl
kind_later words later (a_word_of text bare) grown = ap (λ s. kind.Word s bare) (word_later words later text grown)
kind_later words later (documentation text) grown = refl
