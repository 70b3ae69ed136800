-- A table that has gained words.
use Rattle.std.proofs.Common.{◌≡◌, ℕ, ◌≤◌, Bool, true, false, cond, List, [], ◌∷◌, ◌++◌, length, Option, Some, None, refl, sym, ap, ◌∙◌, arith, length-append, append_assoc, append-nil}
use Rattle.std.specs.Prelude.{unwrap_or}
use Rattle.std.specs.Option.{option_map}
use Rattle.std.specs.Str.{bytes_eq}
use Rattle.soar_sym.specs.declared.symbol.Sym.{Sym}
use Rattle.soar_sym.specs.declared.symbol.Sym.TheVariants.{Word}
use Rattle.soar_sym.specs.Words.{Texts, has_text, place_of, with_text, with_texts, word_of}
use Rattle.soar_sym.proofs.TableLemmas.{position_old}
use Rattle.defs_text.specs.Numbered.{word_in}
use Rattle.soar_read.specs.Answers.{Grown}

pub grown_same : (words : Texts) → Grown words words
grown_same words = ([], sym (append-nil words))

pub grown_then : (old mid new : Texts) → Grown old mid → Grown mid new → Grown old new
grown_then old mid new first second = (first.0 ++ second.0, second.1 ∙ ap (λ ws. ws ++ second.0) first.1 ∙ append_assoc old first.0 second.0)

pub grown_with : (words : Texts) (text : List ℕ) → Grown words (with_text words text)
grown_with words text = by (has_text words text)
  where
    by : (t : Bool) → Grown words (cond t words (words ++ text ∷ []))
    by true = grown_same words
    by false = (text ∷ [], refl)

pub grown_all : (words texts : Texts) → Grown words (with_texts words texts)
grown_all words [] = grown_same words
grown_all words (text ∷ texts) = grown_then words (with_text words text) (with_texts (with_text words text) texts) (grown_with words text) (grown_all (with_text words text) texts)

pub grown_length : (old new : Texts) → Grown old new → length old ≤ length new
grown_length old new grown = omega (arith, ap length grown.1, length-append old grown.0)

pub texts_after : (words first second : Texts) → with_texts words (first ++ second) ≡ with_texts (with_texts words first) second
texts_after words [] second = refl
texts_after words (text ∷ first) second = texts_after (with_text words text) first second

-- ---- the word of a text

-- the word that a table has for a text
pub word_is : (words : Texts) (text : List ℕ) (s : Sym) → word_of words text ≡ Some s → s ≡ word_in words text
word_is words text s = by (place_of words text)
  where
    by : (place : Option ℕ) → option_map Word place ≡ Some s → s ≡ Word (unwrap_or place 0)
    by None e = absurd (cc)
    by (Some n) e = cc

-- a text that has a word keeps it
pub word_stays : (words later : Texts) (text : List ℕ) (n : ℕ) → place_of words text ≡ Some n → Grown words later → place_of later text ≡ Some n
word_stays words later text n at grown = ap (λ ws. place_of ws text) grown.1 ∙ position_old (bytes_eq text) 0 words grown.0 n at
