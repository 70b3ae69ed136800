-- The loop over the pieces of a text.
use Rattle.std.proofs.Common.{◌≡◌, ℕ, zero, suc, ◌+◌, ◌-◌, ◌<◌, ◌≤◌, ◌^◌, List, [], ◌∷◌, ◌++◌, map, length, drop, Option, Some, None, Err, refl, sym, ap, subst, ◌∙◌, arith, length-drop, ⊎_elim}
use Rattle.std.proofs.lemmas.Bool.{cases_lt}
use Rattle.std.proofs.lemmas.List.{map-append}
use Rattle.soar_sym.specs.Words.{Texts}
use Rattle.defs_text.specs.Lexing.{Spelled, Fault, Piece, token, nothing, fault, Lexed, with_token, lexed_from, lexed, piece_of, front_at, bad_byte, open_string, wide_number, float_number}
use Rattle.defs_text.specs.Numbered.{numbered, kind_in, token_texts, words_after}
use Rattle.defs_text.specs.declared.token.Token.{Token}
use Rattle.defs_text.specs.declared.token.LexFault.{LexFault}
use Rattle.defs_text.specs.declared.token.LexFault.TheVariants as refusal
use Rattle.soar_lex.specs.Answers.{Grown, Gained, CutWhole, IsCut}
use Rattle.soar_lex.specs.Pieces.{piece_at}
use Rattle.soar_lex.specs.Steps.{spelled, size_of, Advanced, Stopped}
use Rattle.soar_lex.proofs.WordLemmas.{grown_same, grown_then, grown_all, grown_length, words_then, kind_later}

-- ---- the tokens of a text, piece by piece

-- bytes that belong to the piece before are passed over
skipped : (skip place : ℕ) (bytes : List ℕ) → lexed_from skip place bytes ≡ lexed_from 0 (place + skip) (drop skip bytes)
skipped zero place bytes = ap (λ p. lexed_from 0 p bytes) (let e : place ≡ place + 0 = omega arith in e)
skipped (suc skip) place [] = refl
skipped (suc skip) place (b ∷ bytes) = skipped skip (suc place) bytes ∙ ap (λ p. lexed_from 0 p (drop skip bytes)) (let e : suc place + skip ≡ place + suc skip = omega arith in e)

-- tokens, and what follows them
abbrev pub with_tokens : List Spelled → Lexed → Lexed
with_tokens [] l = l
with_tokens (t ∷ tokens) l = with_token t (with_tokens tokens l)

pub with_both : (first second : List Spelled) (l : Lexed) → with_tokens (first ++ second) l ≡ with_tokens first (with_tokens second l)
with_both [] second l = refl
with_both (t ∷ first) second l = ap (with_token t) (with_both first second l)

-- the tokens of what follows come last
pub tokens_with : (front : List Spelled) (l : Lexed) → (with_tokens front l).tokens ≡ front ++ l.tokens
tokens_with [] l = refl
tokens_with (t ∷ front) l = ap (λ ts. t ∷ ts) (tokens_with front l)

pub closed_with : (front : List Spelled) (e : Option Fault) → with_tokens front (record { tokens = []; fault = e }) ≡ record { tokens = front; fault = e }
closed_with [] e = refl
closed_with (t ∷ front) e = ap (with_token t) (closed_with front e)

-- the piece at the front, where it is no fault, and the rest
piece_passed : (place : ℕ) (rest : List ℕ) → 0 < length rest → 0 < size_of (piece_at place rest)
    → lexed_from 0 place rest ≡ with_tokens (spelled place (piece_at place rest)) (lexed_from 0 (place + size_of (piece_at place rest)) (drop (size_of (piece_at place rest)) rest))
piece_passed place [] some long = absurd (omega arith)
piece_passed place (b ∷ bytes) some long = by (piece_of (front_at b) place b bytes) long
  where
    passed : (count : ℕ) → 0 < count → lexed_from (count - 1) (suc place) bytes ≡ lexed_from 0 (place + count) (drop count (b ∷ bytes))
    passed zero long = absurd (omega arith)
    passed (suc n) long =
        ap (λ k. lexed_from k (suc place) bytes) (let e : suc n - 1 ≡ n = omega arith in e) ∙ skipped n (suc place) bytes
        ∙ ap (λ p. lexed_from 0 p (drop n bytes)) (let e : suc place + n ≡ place + suc n = omega arith in e)

    by : (p : Piece) → 0 < size_of p → elim p as (λ _. Lexed) [
      | token says count ↦ with_token (record { says = says; start = place; end = place + count }) (lexed_from (count - 1) (suc place) bytes)
      | nothing count ↦ lexed_from (count - 1) (suc place) bytes
      | fault e ↦ record { tokens = []; fault = Some e }
    ] ≡ with_tokens (spelled place p) (lexed_from 0 (place + size_of p) (drop (size_of p) (b ∷ bytes)))
    by (token says count) long = ap (with_token (record { says = says; start = place; end = place + count })) (passed count long)
    by (nothing count) long = passed count long
    by (fault e) long = absurd (omega arith)

-- whatever it is, its token stands first
piece_first : (place : ℕ) (rest : List ℕ) → (l : Lexed) × (lexed_from 0 place rest ≡ with_tokens (spelled place (piece_at place rest)) l)
piece_first place [] = (lexed_from 0 place [], refl)
piece_first place (b ∷ bytes) = by (piece_of (front_at b) place b bytes)
  where
    by : (p : Piece) → (l : Lexed) × (elim p as (λ _. Lexed) [
      | token says count ↦ with_token (record { says = says; start = place; end = place + count }) (lexed_from (count - 1) (suc place) bytes)
      | nothing count ↦ lexed_from (count - 1) (suc place) bytes
      | fault e ↦ record { tokens = []; fault = Some e }
    ] ≡ with_tokens (spelled place p) l)
    by (token says count) = (lexed_from (count - 1) (suc place) bytes, refl)
    by (nothing count) = (lexed_from (count - 1) (suc place) bytes, refl)
    by (fault e) = (record { tokens = []; fault = Some e }, refl)

-- a fault at the front
fault_at : (place : ℕ) (rest : List ℕ) (e : Fault) → piece_at place rest ≡ fault e → lexed_from 0 place rest ≡ record { tokens = []; fault = Some e }
fault_at place [] e is = absurd (cc)
fault_at place (b ∷ bytes) e is = by (piece_of (front_at b) place b bytes) is
  where
    by : (p : Piece) → p ≡ fault e → elim p as (λ _. Lexed) [
      | token says count ↦ with_token (record { says = says; start = place; end = place + count }) (lexed_from (count - 1) (suc place) bytes)
      | nothing count ↦ lexed_from (count - 1) (suc place) bytes
      | fault e ↦ record { tokens = []; fault = Some e }
    ] ≡ record { tokens = []; fault = Some e }
    by (token says count) is = absurd (cc)
    by (nothing count) is = absurd (cc)
    by (fault other) is = cc

-- ---- what the loop keeps

-- So far these tokens were cut off and these words joined the table.
pub record Cutting (old now : Texts) (text rest : List ℕ) (place : ℕ) (tokens : List Token) : Type 0 where
  pub done : List Spelled
  pub whole : lexed_from 0 0 text ≡ with_tokens done (lexed_from 0 place rest)
  pub words : now ≡ words_after old done
  pub few : length old < length now → length now < 2 ^ 32
  pub tokens_are : (later : Texts) → Grown now later → tokens ≡ map (numbered later) done
  pub place_is : place + length rest ≡ length text

pub begins : (old : Texts) (text : List ℕ) → Cutting old old text text 0 []
begins old text = record {
  done = [];
  whole = refl;
  words = refl;
  few = λ h. absurd (omega arith);
  tokens_are = λ later grown. refl;
  place_is = omega arith;
}

spelled_later : (now new later : Texts) (place : ℕ) (piece : Piece) → new ≡ words_after now (spelled place piece) → Grown new later
    → map (numbered new) (spelled place piece) ≡ map (numbered later) (spelled place piece)
spelled_later now new later place (token says count) is grown =
    ap (λ kind. record { kind = kind; start = place; end = place + count } ∷ [])
    (sym (subst (λ ws. Grown ws later → kind_in later says ≡ kind_in ws says) (sym is) (kind_later now later says) grown))
spelled_later now new later place (nothing count) is grown = refl
spelled_later now new later place (fault e) is grown = refl

pub advances : (old now new : Texts) (text rest : List ℕ) (place count : ℕ) (tokens after : List Token)
    → Cutting old now text rest place tokens → Advanced now new tokens after place (piece_at place rest) rest count → Cutting old new text (drop count rest) (place + count) after
advances old now new text rest place count tokens after so_far step = record {
  done = so_far.done ++ more;
  whole = so_far.whole
      ∙ ap (with_tokens so_far.done) (piece_passed place rest (omega arith) (omega arith)
      ∙ ap (λ n. with_tokens more (lexed_from 0 (place + n) (drop n rest))) step.count_is)
      ∙ sym (with_both so_far.done more (lexed_from 0 (place + count) (drop count rest)));
  words = step.words ∙ ap (λ ws. words_after ws more) so_far.words ∙ sym (words_then old so_far.done more);
  few = λ h. few h;
  tokens_are = λ later grown. step.tokens
      ∙ ap (λ ts. ts ++ map (numbered new) more) (so_far.tokens_are later (grown_then now new later gained grown))
      ∙ ap (λ ts. map (numbered later) so_far.done ++ ts) (spelled_later now new later place (piece_at place rest) step.words grown)
      ∙ sym (map-append (numbered later) so_far.done more);
  place_is = omega (arith, length-drop count rest);
}
  where
    more : List Spelled
    more = spelled place (piece_at place rest)

    gained : Grown now new
    gained = subst (Grown now) (sym step.words) (grown_all now (token_texts more))

    few : length old < length new → length new < 2 ^ 32
    few h = ⊎_elim step.few
        (λ (no : length new ≤ length now). let same : length new ≡ length now = omega (arith, grown_length now new gained) in omega (arith, so_far.few (omega (arith, h, same)), same))
        (cases_lt (length now) (length new))

-- the whole text was cut
pub ends : (old now : Texts) (text rest : List ℕ) (place : ℕ) (tokens : List Token) → Cutting old now text rest place tokens → length rest ≡ 0 → CutWhole old now (lexed text) tokens
unfolding lexed
ends old now text [] place tokens so_far e = record {
  fault = ap (λ l. l.fault) whole;
  tokens_are = so_far.tokens_are now (grown_same now) ∙ ap (λ l. map (numbered now) l.tokens) (sym whole);
  gained = record { words = so_far.words ∙ ap (λ l. words_after old l.tokens) (sym whole); few = so_far.few };
}
  where
    whole : lexed_from 0 0 text ≡ record { tokens = so_far.done; fault = None }
    whole = so_far.whole ∙ closed_with so_far.done None
ends old now text (b ∷ rest) place tokens so_far e = absurd (omega arith)

-- the table has grown since the beginning
grown_so_far : (old now : Texts) (text rest : List ℕ) (place : ℕ) (tokens : List Token) → Cutting old now text rest place tokens → Grown old now
grown_so_far old now text rest place tokens so_far = subst (Grown old) (sym so_far.words) (grown_all old (token_texts so_far.done))

-- a fault at the front ends it
faulty : (old now new : Texts) (text rest : List ℕ) (place : ℕ) (tokens : List Token) (e : Fault) → Cutting old now text rest place tokens
    → piece_at place rest ≡ fault e → new ≡ now → ((lexed text).fault ≡ Some e) × Gained old new (lexed text)
unfolding lexed
faulty old now new text rest place tokens e so_far is same = (
  ap (λ l. l.fault) whole,
  record {
    words = same ∙ so_far.words ∙ ap (λ l. words_after old l.tokens) (sym whole);
    few = subst (λ ws. length old < length ws → length ws < 2 ^ 32) (sym same) so_far.few;
  },
)
  where
    whole : lexed_from 0 0 text ≡ record { tokens = so_far.done; fault = Some e }
    whole = so_far.whole ∙ ap (with_tokens so_far.done) (fault_at place rest e is) ∙ closed_with so_far.done (Some e)

-- there are more words than a table holds
spent : (old now : Texts) (text rest : List ℕ) (place : ℕ) (tokens : List Token) → Cutting old now text rest place tokens
    → 2 ^ 32 - 1 < length (words_after now (spelled place (piece_at place rest))) → 2 ^ 32 - 1 < length (words_after old (lexed text).tokens)
unfolding lexed
spent old now text rest place tokens so_far long =
    let first = piece_first place rest in
    let more = spelled place (piece_at place rest) in
    let all : (lexed_from 0 0 text).tokens ≡ so_far.done ++ (more ++ first.0.tokens)
    = ap (λ l. l.tokens) (so_far.whole ∙ ap (with_tokens so_far.done) first.1) ∙ tokens_with so_far.done (with_tokens more first.0) ∙ ap (λ ts. so_far.done ++ ts) (tokens_with more first.0) in
    let words : words_after old (lexed_from 0 0 text).tokens ≡ words_after (words_after now more) first.0.tokens
    = ap (words_after old) all ∙ words_then old so_far.done (more ++ first.0.tokens) ∙ ap (λ ws. words_after ws (more ++ first.0.tokens)) (sym so_far.words) ∙ words_then now more first.0.tokens in
    omega (arith, long, ap length words, grown_length (words_after now more) (words_after (words_after now more) first.0.tokens) (grown_all (words_after now more) (token_texts first.0.tokens)))

-- the answer where no piece was cut off
pub stops : (old now new : Texts) (text rest : List ℕ) (place : ℕ) (tokens : List Token) (reason : LexFault) → Cutting old now text rest place tokens
    → Stopped now new place (piece_at place rest) reason → IsCut old new (lexed text) (Err reason)
stops old now new text rest place tokens (refusal.BadByte at) so_far why = faulty old now new text rest place tokens (bad_byte at) so_far why.0 why.1
stops old now new text rest place tokens (refusal.OpenString at) so_far why = faulty old now new text rest place tokens (open_string at) so_far why.0 why.1
stops old now new text rest place tokens (refusal.WideNumber at) so_far why = faulty old now new text rest place tokens (wide_number at) so_far why.0 why.1
stops old now new text rest place tokens (refusal.FloatNumber at) so_far why = faulty old now new text rest place tokens (float_number at) so_far why.0 why.1
stops old now new text rest place tokens refusal.WordsSpent so_far why =
    (spent old now text rest place tokens so_far why.0, subst (Grown old) (sym why.1) (grown_so_far old now text rest place tokens so_far))
stops old now new text rest place tokens refusal.NoMemory so_far why = grown_then old now new (grown_so_far old now text rest place tokens so_far) why
