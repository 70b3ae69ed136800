-- Words of tokens, and the table that they joined.
use Rattle.std.proofs.Common.{◌≡◌, ℕ, Bool, true, false, ◌||◌, List, [], ◌∷◌, ◌++◌, map, refl}
use Rattle.std.specs.List.{list_any}
use Rattle.std.specs.Str.{bytes_eq}
use Rattle.std.proofs.lemmas.Slice.Eq.{bytes_eq-Decides}
use Rattle.soar_sym.specs.Words.{Texts, has_text, with_text, with_texts}
use Rattle.defs_text.specs.Lexing.{Saying, mark, arrow, open_set, close_set, sign, variable_named, integer, word_of, documentation, Spelled}
use Rattle.defs_text.specs.Numbered.{kind_in, numbered, texts_before, token_texts, words_after}
use Rattle.defs_read.specs.Sayings.{IsKindKnown, AreTokensKnown}
use Rattle.command_orders.specs.Known.{IsSayingIn, AreSpelledIn}
use Rattle.command_orders.proofs.WordLemmas.{word_known}

-- ---- a text that was read stays in the table

any_more : {A : Type 0} (p : A → Bool) (xs ys : List A) → list_any p xs ≡ true → list_any p (xs ++ ys) ≡ true
any_more p [] ys h = absurd (cc)
any_more p (x ∷ xs) ys h = by (p x) refl h (any_more p xs ys)
  where
    by : (b : Bool) → p x ≡ b → (p x || list_any p xs) ≡ true → (list_any p xs ≡ true → list_any p (xs ++ ys) ≡ true) → (p x || list_any p (xs ++ ys)) ≡ true
    by true e h later = rw e refl
    by false e h later = rw e (later (rw e at h))

any_last : {A : Type 0} (p : A → Bool) (xs : List A) (x : A) → p x ≡ true → list_any p (xs ++ x ∷ []) ≡ true
any_last p [] x h = rw h refl
any_last p (y ∷ xs) x h = by (p y) refl (any_last p xs x h)
  where
    by : (b : Bool) → p y ≡ b → list_any p (xs ++ x ∷ []) ≡ true → (p y || list_any p (xs ++ x ∷ [])) ≡ true
    by true e later = rw e refl
    by false e later = rw e later

text_kept : (words : Texts) (more text : List ℕ) → has_text words text ≡ true → has_text (with_text words more) text ≡ true
text_kept words more text has = by (has_text words more) refl
  where
    by : (b : Bool) → has_text words more ≡ b → has_text (with_text words more) text ≡ true
    by true e = rw e has
    by false e = rw e (any_more (bytes_eq text) words (more ∷ []) has)

texts_kept : (words texts : Texts) (text : List ℕ) → has_text words text ≡ true → has_text (with_texts words texts) text ≡ true
texts_kept words [] text has = has
texts_kept words (more ∷ texts) text has = texts_kept (with_text words more) texts text (text_kept words more text has)

text_added : (words : Texts) (text : List ℕ) → has_text (with_text words text) text ≡ true
text_added words text = by (has_text words text) refl
  where
    by : (b : Bool) → has_text words text ≡ b → has_text (with_text words text) text ≡ true
    by true e = rw e e
    by false e = rw e (any_last (bytes_eq text) words text ((bytes_eq-Decides text text).1 refl))

-- ---- tokens

kind_known : (words : Texts) (says : Saying) → IsSayingIn words says → IsKindKnown words (kind_in words says)
kind_known words (mark b) has = tt
kind_known words arrow has = tt
kind_known words open_set has = tt
kind_known words close_set has = tt
kind_known words (sign n) has = tt
kind_known words (variable_named name) has = word_known words name has
kind_known words (integer z) has = tt
kind_known words (word_of text bare) has = word_known words text has
kind_known words (documentation text) has = tt

all_known : (words : Texts) (tokens : List Spelled) → AreSpelledIn words tokens → AreTokensKnown words (map (numbered words) tokens)
all_known words [] have = tt
all_known words (t ∷ tokens) have = (kind_known words t.says have.0, all_known words tokens have.1)

one_has : (words : Texts) (says : Saying) (rest : Texts) → IsSayingIn (with_texts words (texts_before says rest)) says
one_has words (mark b) rest = tt
one_has words arrow rest = tt
one_has words open_set rest = tt
one_has words close_set rest = tt
one_has words (sign n) rest = tt
one_has words (variable_named name) rest = texts_kept (with_text words name) rest name (text_added words name)
one_has words (integer z) rest = tt
one_has words (word_of text bare) rest = texts_kept (with_text words text) rest text (text_added words text)
one_has words (documentation text) rest = tt

behind : (words : Texts) (tokens : List Spelled) (says : Saying) → ((table : Texts) → AreSpelledIn (words_after table tokens) tokens) → AreSpelledIn (with_texts words (texts_before says (token_texts tokens))) tokens
behind words tokens (mark b) later = later words
behind words tokens arrow later = later words
behind words tokens open_set later = later words
behind words tokens close_set later = later words
behind words tokens (sign n) later = later words
behind words tokens (variable_named name) later = later (with_text words name)
behind words tokens (integer z) later = later words
behind words tokens (word_of text bare) later = later (with_text words text)
behind words tokens (documentation text) later = later words

-- once tokens were read, their texts are in the table
pub tokens_spelled : (words : Texts) (tokens : List Spelled) → AreSpelledIn (words_after words tokens) tokens
tokens_spelled words [] = tt
tokens_spelled words (t ∷ tokens) = (one_has words t.says (token_texts tokens), behind words tokens t.says (λ table. tokens_spelled table tokens))

-- and their words are known
pub tokens_known : (words : Texts) (tokens : List Spelled) → AreTokensKnown (words_after words tokens) (map (numbered (words_after words tokens)) tokens)
tokens_known words tokens = all_known (words_after words tokens) tokens (tokens_spelled words tokens)
