-- The loop over the pieces of a text of random words.
use Rattle.std.proofs.Common.{◌≡◌, ℕ, zero, suc, ◌+◌, ◌-◌, ◌<◌, ◌≤◌, ◌^◌, List, [], ◌∷◌, ◌++◌, length, drop, Option, Some, None, Err, refl, sym, ap, subst, ◌∙◌, arith, length-drop, ⊎_elim}
use Rattle.std.proofs.lemmas.Bool.{cases_lt}
use Rattle.std.proofs.lemmas.List.{drop-drop, map-append}
use Rattle.soar_sym.specs.Words.{Texts}
use Rattle.defs_text.specs.Lexing.{Spelled, Fault, Piece, token, nothing, fault, Lexed, with_token, front_at, bad_byte, open_string, wide_number, float_number}
use Rattle.defs_text.specs.Numbered.{token_texts, words_after}
use Rattle.defs_text.specs.declared.token.LexFault.{LexFault}
use Rattle.defs_text.specs.declared.token.LexFault.TheVariants as refusal
use Rattle.soar_lex.specs.Answers.{Grown, Gained, IsCut}
use Rattle.soar_lex.specs.Steps.{spelled, size_of, Stopped}
use Rattle.soar_lex.proofs.CutLemmas.{with_tokens, with_both, tokens_with, closed_with}
use Rattle.soar_lex.proofs.WordLemmas.{grown_then, grown_all, grown_length, words_then}
use Rattle.defs_run.specs.Arguments.{argument_in}
use Rattle.defs_run.specs.RandomReading.{random_lexed, random_piece}
use Rattle.random_words.specs.Answers.{ReadWhole, number_in, numbers_in}
use Rattle.random_words.specs.Pieces.{random_at}
use Rattle.random_words.specs.Steps.{Advanced, numbers_at}

-- ---- the tokens of a text, piece by piece

-- bytes that belong to the piece before are passed over
skipped : (skip place : ℕ) (bytes : List ℕ) → random_lexed skip place bytes ≡ random_lexed 0 (place + skip) (drop skip bytes)
skipped zero place bytes = ap (λ p. random_lexed 0 p bytes) (let e : place ≡ place + 0 = omega arith in e)
skipped (suc skip) place [] = refl
skipped (suc skip) place (b ∷ bytes) = skipped skip (suc place) bytes ∙ ap (λ p. random_lexed 0 p (drop skip bytes)) (let e : suc place + skip ≡ place + suc skip = omega arith in e)

-- what the piece at the front and the bytes behind its first come to
abbrev after_piece : ℕ → List ℕ → Piece → Lexed
after_piece place bytes piece =
    elim piece as (λ _. Lexed) [
      | token says count ↦ with_token (record { says = says; start = place; end = place + count }) (random_lexed (count - 1) (suc place) bytes)
      | nothing count ↦ random_lexed (count - 1) (suc place) bytes
      | fault e ↦ record { tokens = []; fault = Some e }
    ]

-- the piece at the front, where it is no fault, and the rest
piece_passed : (place : ℕ) (rest : List ℕ) → 0 < length rest → 0 < size_of (random_at place rest)
    → random_lexed 0 place rest ≡ with_tokens (spelled place (random_at place rest)) (random_lexed 0 (place + size_of (random_at place rest)) (drop (size_of (random_at place rest)) rest))
piece_passed place [] some long = absurd (omega arith)
piece_passed place (b ∷ bytes) some long = by (random_piece (front_at b) place b bytes) long
  where
    passed : (count : ℕ) → 0 < count → random_lexed (count - 1) (suc place) bytes ≡ random_lexed 0 (place + count) (drop count (b ∷ bytes))
    passed zero long = absurd (omega arith)
    passed (suc n) long =
        ap (λ k. random_lexed k (suc place) bytes) (let e : suc n - 1 ≡ n = omega arith in e) ∙ skipped n (suc place) bytes
        ∙ ap (λ p. random_lexed 0 p (drop n bytes)) (let e : suc place + n ≡ place + suc n = omega arith in e)

    by : (p : Piece) → 0 < size_of p → after_piece place bytes p ≡ with_tokens (spelled place p) (random_lexed 0 (place + size_of p) (drop (size_of p) (b ∷ bytes)))
    by (token says count) long = ap (with_token (record { says = says; start = place; end = place + count })) (passed count long)
    by (nothing count) long = passed count long
    by (fault e) long = absurd (omega arith)

-- whatever it is, its token stands first
piece_first : (place : ℕ) (rest : List ℕ) → (l : Lexed) × (random_lexed 0 place rest ≡ with_tokens (spelled place (random_at place rest)) l)
piece_first place [] = (random_lexed 0 place [], refl)
piece_first place (b ∷ bytes) = by (random_piece (front_at b) place b bytes)
  where
    by : (p : Piece) → (l : Lexed) × (after_piece place bytes p ≡ with_tokens (spelled place p) l)
    by (token says count) = (random_lexed (count - 1) (suc place) bytes, refl)
    by (nothing count) = (random_lexed (count - 1) (suc place) bytes, refl)
    by (fault e) = (record { tokens = []; fault = Some e }, refl)

-- a fault at the front
fault_at : (place : ℕ) (rest : List ℕ) (e : Fault) → random_at place rest ≡ fault e → random_lexed 0 place rest ≡ record { tokens = []; fault = Some e }
fault_at place [] e is = absurd (cc)
fault_at place (b ∷ bytes) e is = ap (after_piece place bytes) is

-- ---- what the loop keeps

-- So far these tokens were cut off, these words joined the table, and these are their numbers.
pub record Cutting (old now : Texts) (text rest : List ℕ) (place : ℕ) (numbers : List (Option ℕ)) : Type 0 where
  pub done : List Spelled
  pub whole : random_lexed 0 0 text ≡ with_tokens done (random_lexed 0 place rest)
  pub words : now ≡ words_after old done
  pub few : length old < length now → length now < 2 ^ 32
  pub numbers_are : numbers ≡ numbers_in text done
  pub rest_is : rest ≡ drop place text
  pub place_is : place + length rest ≡ length text

pub begins : (old : Texts) (text : List ℕ) → Cutting old old text text 0 []
begins old text = record {
  done = [];
  whole = refl;
  words = refl;
  few = λ h. absurd (omega arith);
  numbers_are = refl;
  rest_is = refl;
  place_is = omega arith;
}

-- a token at a place is an argument by the bytes from there on
numbers_from : (text : List ℕ) (place : ℕ) (piece : Piece) → numbers_at (drop place text) (spelled place piece) ≡ numbers_in text (spelled place piece)
numbers_from text place (token says count) = refl
numbers_from text place (nothing count) = refl
numbers_from text place (fault e) = refl

pub advances : (old now new : Texts) (text rest : List ℕ) (place count : ℕ) (numbers after : List (Option ℕ))
    → Cutting old now text rest place numbers → Advanced now new numbers after place (random_at place rest) rest count → Cutting old new text (drop count rest) (place + count) after
advances old now new text rest place count numbers after so_far step = record {
  done = so_far.done ++ more;
  whole = so_far.whole
      ∙ ap (with_tokens so_far.done) (piece_passed place rest (omega arith) (omega arith)
      ∙ ap (λ n. with_tokens more (random_lexed 0 (place + n) (drop n rest))) step.count_is)
      ∙ sym (with_both so_far.done more (random_lexed 0 (place + count) (drop count rest)));
  words = step.words ∙ ap (λ ws. words_after ws more) so_far.words ∙ sym (words_then old so_far.done more);
  few = λ h. few h;
  numbers_are = step.numbers
      ∙ ap (λ ns. ns ++ numbers_at rest more) so_far.numbers_are
      ∙ ap (λ ns. numbers_in text so_far.done ++ ns) (ap (λ bytes. numbers_at bytes more) so_far.rest_is ∙ numbers_from text place (random_at place rest))
      ∙ sym (map-append (λ t. number_in (argument_in text t)) so_far.done more);
  rest_is = ap (drop count) so_far.rest_is ∙ drop-drop count place text;
  place_is = omega (arith, length-drop count rest);
}
  where
    more : List Spelled
    more = spelled place (random_at place rest)

    gained : Grown now new
    gained = subst (Grown now) (sym step.words) (grown_all now (token_texts more))

    few : length old < length new → length new < 2 ^ 32
    few h = ⊎_elim step.few
        (λ (no : length new ≤ length now). let same : length new ≡ length now = omega (arith, grown_length now new gained) in omega (arith, so_far.few (omega (arith, h, same)), same))
        (cases_lt (length now) (length new))

-- the whole text was cut
pub ends : (old now : Texts) (text rest : List ℕ) (place : ℕ) (numbers : List (Option ℕ)) → Cutting old now text rest place numbers → length rest ≡ 0 → ReadWhole old now text numbers
ends old now text [] place numbers so_far e = record {
  fault = ap (λ l. l.fault) whole;
  numbers_are = so_far.numbers_are ∙ ap (λ l. numbers_in text l.tokens) (sym whole);
  gained = record { words = so_far.words ∙ ap (λ l. words_after old l.tokens) (sym whole); few = so_far.few };
}
  where
    whole : random_lexed 0 0 text ≡ record { tokens = so_far.done; fault = None }
    whole = so_far.whole ∙ closed_with so_far.done None
ends old now text (b ∷ rest) place numbers so_far e = absurd (omega arith)

-- the table has grown since the beginning
grown_so_far : (old now : Texts) (text rest : List ℕ) (place : ℕ) (numbers : List (Option ℕ)) → Cutting old now text rest place numbers → Grown old now
grown_so_far old now text rest place numbers so_far = subst (Grown old) (sym so_far.words) (grown_all old (token_texts so_far.done))

-- a fault at the front ends it
faulty : (old now new : Texts) (text rest : List ℕ) (place : ℕ) (numbers : List (Option ℕ)) (e : Fault) → Cutting old now text rest place numbers
    → random_at place rest ≡ fault e → new ≡ now → ((random_lexed 0 0 text).fault ≡ Some e) × Gained old new (random_lexed 0 0 text)
faulty old now new text rest place numbers e so_far is same = (
  ap (λ l. l.fault) whole,
  record {
    words = same ∙ so_far.words ∙ ap (λ l. words_after old l.tokens) (sym whole);
    few = subst (λ ws. length old < length ws → length ws < 2 ^ 32) (sym same) so_far.few;
  },
)
  where
    whole : random_lexed 0 0 text ≡ record { tokens = so_far.done; fault = Some e }
    whole = so_far.whole ∙ ap (with_tokens so_far.done) (fault_at place rest e is) ∙ closed_with so_far.done (Some e)

-- there are more words than a table holds
spent : (old now : Texts) (text rest : List ℕ) (place : ℕ) (numbers : List (Option ℕ)) → Cutting old now text rest place numbers
    → 2 ^ 32 - 1 < length (words_after now (spelled place (random_at place rest))) → 2 ^ 32 - 1 < length (words_after old (random_lexed 0 0 text).tokens)
spent old now text rest place numbers so_far long =
    let first = piece_first place rest in
    let more = spelled place (random_at place rest) in
    let all : (random_lexed 0 0 text).tokens ≡ so_far.done ++ (more ++ first.0.tokens)
    = ap (λ l. l.tokens) (so_far.whole ∙ ap (with_tokens so_far.done) first.1) ∙ tokens_with so_far.done (with_tokens more first.0) ∙ ap (λ ts. so_far.done ++ ts) (tokens_with more first.0) in
    let words : words_after old (random_lexed 0 0 text).tokens ≡ words_after (words_after now more) first.0.tokens
    = ap (words_after old) all ∙ words_then old so_far.done (more ++ first.0.tokens) ∙ ap (λ ws. words_after ws (more ++ first.0.tokens)) (sym so_far.words) ∙ words_then now more first.0.tokens in
    omega (arith, long, ap length words, grown_length (words_after now more) (words_after (words_after now more) first.0.tokens) (grown_all (words_after now more) (token_texts first.0.tokens)))

-- the answer where no piece was cut off
pub stops : (old now new : Texts) (text rest : List ℕ) (place : ℕ) (numbers : List (Option ℕ)) (reason : LexFault) → Cutting old now text rest place numbers
    → Stopped now new place (random_at place rest) reason → IsCut old new (random_lexed 0 0 text) (Err reason)
stops old now new text rest place numbers (refusal.BadByte at) so_far why = faulty old now new text rest place numbers (bad_byte at) so_far why.0 why.1
stops old now new text rest place numbers (refusal.OpenString at) so_far why = faulty old now new text rest place numbers (open_string at) so_far why.0 why.1
stops old now new text rest place numbers (refusal.WideNumber at) so_far why = faulty old now new text rest place numbers (wide_number at) so_far why.0 why.1
stops old now new text rest place numbers (refusal.FloatNumber at) so_far why = faulty old now new text rest place numbers (float_number at) so_far why.0 why.1
stops old now new text rest place numbers refusal.WordsSpent so_far why =
    (spent old now text rest place numbers so_far why.0, subst (Grown old) (sym why.1) (grown_so_far old now text rest place numbers so_far))
stops old now new text rest place numbers refusal.NoMemory so_far why = grown_then old now new (grown_so_far old now text rest place numbers so_far) why
