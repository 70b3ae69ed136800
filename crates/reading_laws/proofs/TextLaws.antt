-- What a text is cut into, in front of another text.
use Rattle.std.specs.Prelude.{drop, take, if◌then◌else◌}
use Rattle.std.proofs.Common.{◌≡◌, refl, sym, ◌∙◌, ap, subst, true, false, [], ◌∷◌, ◌++◌, List, ℕ, suc, Bool, ◌&&◌, ◌||◌, ◌==◌, Some, length, ◌+◌, ◌-◌, arith, append_assoc, cond}
use Rattle.std.specs.List.{prefix_len, list_all}
use Rattle.std.proofs.lemmas.Bool.Decides.{nat_tests}
use Rattle.defs_text.specs.Bytes.{is_among, is_blank, is_run_byte, is_mark}
use Rattle.defs_text.specs.Runs.{run_kind}
use Rattle.defs_text.specs.Lexing.{Saying, mark, Piece, token, nothing, fault, a_blank, a_run, a_mark, a_bar, a_quote, a_comment, no_front, front_at, piece_of, run_piece, run_of, after_run, begins_fraction, Lexed, with_token, lexed_from}
use Rattle.defs_read.specs.Spelling.{Tokens}
use Rattle.reading_laws.specs.Lawful.{AllOf}
use Rattle.reading_laws.specs.WayBack.{tokens_in}

-- ---- pieces, one behind the other

-- these tokens, and then what is cut later
abbrev pub Follows : Tokens → Lexed → Lexed → Type 0
Follows tokens whole later = (tokens_in whole ≡ tokens ++ tokens_in later) × (whole.fault ≡ later.fault)

-- the text in front of the rest is cut into the tokens, from each place on
abbrev pub Cut : List ℕ → List ℕ → Tokens → Type 0
Cut rest text tokens = (place : ℕ) → (next : ℕ) × Follows tokens (lexed_from 0 place (text ++ rest)) (lexed_from 0 next rest)

pub cut_nothing : (rest : List ℕ) → Cut rest [] []
cut_nothing rest = λ place. (place, (refl, refl))

pub cut_then : (rest a b : List ℕ) (u v : Tokens) → Cut (b ++ rest) a u → Cut rest b v → Cut rest (a ++ b) (u ++ v)
cut_then rest a b u v first second = λ place.
    let x = first place in let y = second x.0 in (
      y.0,
      (
        ap (λ t. tokens_in (lexed_from 0 place t)) (append_assoc a b rest) ∙ x.1.0 ∙ ap (λ l. u ++ l) y.1.0 ∙ sym (append_assoc u v (tokens_in (lexed_from 0 y.0 rest))),
        ap (λ t. (lexed_from 0 place t).fault) (append_assoc a b rest) ∙ x.1.1 ∙ y.1.1,
      ),
    )

-- a blank and a newline
pub cut_blank : (rest text : List ℕ) (u : Tokens) → Cut rest text u → Cut rest (32 ∷ text) u
cut_blank rest text u c = λ place. c (suc place)

pub cut_newline : (rest text : List ℕ) (u : Tokens) → Cut rest text u → Cut rest (10 ∷ text) u
cut_newline rest text u c = λ place. c (suc place)

-- ---- one token

-- the bytes of a piece are passed over
skipped : (x rest : List ℕ) (place : ℕ) → lexed_from (length x) place (x ++ rest) ≡ lexed_from 0 (place + length x) rest
skipped [] rest place = ap (λ p. lexed_from 0 p rest) (let e : place ≡ place + 0 = omega arith in e)
skipped (b ∷ x) rest place = skipped x rest (suc place) ∙ ap (λ p. lexed_from 0 p rest) (let e : suc place + length x ≡ place + suc (length x) = omega arith in e)

-- what the piece at the front makes
abbrev after_piece : ℕ → List ℕ → Piece → Lexed
after_piece place bytes (token says count) = with_token (record { says = says; start = place; end = place + count }) (lexed_from (count - 1) (suc place) bytes)
after_piece place bytes (nothing count) = lexed_from (count - 1) (suc place) bytes
after_piece place bytes (fault e) = record { tokens = []; fault = Some e }

pub cut_token : (rest : List ℕ) (b : ℕ) (x : List ℕ) (says : Saying) → ((place : ℕ) → piece_of (front_at b) place b (x ++ rest) ≡ token says (suc (length x))) → Cut rest (b ∷ x) (says ∷ [])
cut_token rest b x says e = λ place.
    let f = whole place (piece_of (front_at b) place b (x ++ rest)) ∙ ap (after_piece place (x ++ rest)) (e place) ∙ passed place in
    (suc place + length x, (ap tokens_in f, ap (λ l. l.fault) f))
  where
    whole : (place : ℕ) (p : Piece) → elim p as (λ _. Lexed) [
      | token says count ↦ with_token (record { says = says; start = place; end = place + count }) (lexed_from (count - 1) (suc place) (x ++ rest))
      | nothing count ↦ lexed_from (count - 1) (suc place) (x ++ rest)
      | fault e ↦ record { tokens = []; fault = Some e }
    ] ≡ after_piece place (x ++ rest) p
    whole place (token says count) = refl
    whole place (nothing count) = refl
    whole place (fault e) = refl

    passed : (place : ℕ) → after_piece place (x ++ rest) (token says (suc (length x))) ≡ with_token (record { says = says; start = place; end = place + suc (length x) }) (lexed_from 0 (suc place + length x) rest)
    passed place =
        ap (λ n. with_token (record { says = says; start = place; end = place + suc (length x) }) (lexed_from n (suc place) (x ++ rest))) (let g : suc (length x) - 1 ≡ length x = omega arith in g)
        ∙ ap (with_token (record { says = says; start = place; end = place + suc (length x) })) (skipped x rest (suc place))

-- a token of one byte, and what is cut behind it
pub cut_mark : (rest : List ℕ) (b : ℕ) (text : List ℕ) (u : Tokens) → front_at b ≡ a_mark → Cut rest text u → Cut rest (b ∷ text) (mark b ∷ u)
cut_mark rest b text u e c = cut_then rest (b ∷ []) text (mark b ∷ []) u (cut_token (text ++ rest) b [] (mark b) (λ place. ap (λ f. piece_of f place b (text ++ rest)) e)) c

-- ---- runs

abbrev pub begins_run : List ℕ → Bool
begins_run [] = false
begins_run (b ∷ bytes) = is_run_byte b

-- nothing that follows goes on with a run
pub record Ends (rest : List ℕ) : Type 0 where
  pub no_run : begins_run rest ≡ false
  pub no_fraction : begins_fraction rest ≡ false

-- a run that stands for a token, whatever comes behind it that does not go on with it
pub record IsRun (text : List ℕ) (says : Saying) : Type 0 where
  pub first : ℕ
  pub others : List ℕ
  pub bytes : text ≡ first ∷ others
  pub run_bytes : list_all is_run_byte text ≡ true
  pub reads : (place : ℕ) (after : List ℕ) → begins_fraction after ≡ false → run_piece place text after (run_kind text) ≡ token says (length text)

pub both : (a b : Bool) → (a && b) ≡ true → (a ≡ true) × (b ≡ true)
both true b e = (refl, e)
both false b e = absurd (cc)

-- the longest run in front is the whole run
longest : (x rest : List ℕ) → list_all is_run_byte x ≡ true → begins_run rest ≡ false → prefix_len is_run_byte (x ++ rest) ≡ length x
longest [] [] e f = refl
longest [] (b ∷ rest) e f = ap (λ t. cond t (1 + prefix_len is_run_byte rest) 0) f
longest (b ∷ x) rest e f =
    let g = both (is_run_byte b) (list_all is_run_byte x) e in
    ap (λ t. cond t (1 + prefix_len is_run_byte (x ++ rest)) 0) g.0 ∙ ap (λ n. 1 + n) (longest x rest g.1 f) ∙ (let h : 1 + length x ≡ suc (length x) = omega arith in h)

pub taken_front : (x rest : List ℕ) → take (length x) (x ++ rest) ≡ x
taken_front [] [] = refl
taken_front [] (b ∷ rest) = refl
taken_front (b ∷ x) rest = ap (λ l. b ∷ l) (taken_front x rest)

dropped_front : (x rest : List ℕ) → drop (length x) (x ++ rest) ≡ rest
dropped_front [] [] = refl
dropped_front [] (b ∷ rest) = refl
dropped_front (b ∷ x) rest = dropped_front x rest

-- what holds of each holds of one of them
pub among : (P : ℕ → Type 0) (ms : List ℕ) (b : ℕ) → is_among ms b ≡ true → AllOf P ms → P b
among P [] b e a = absurd (cc)
among P (m ∷ ms) b e a = go (λ h. among P ms b h a.1) (b == m) refl e
  where
    go : (is_among ms b ≡ true → P b) → (t : Bool) → (b == m) ≡ t → (t || is_among ms b) ≡ true → P b
    go later true f g = let same : m ≡ b = grind (arith, nat_tests) in subst P same a.0
    go later false f g = later g

run_begins : (b : ℕ) → is_run_byte b ≡ true → front_at b ≡ a_run
run_begins b e = go (is_blank b) refl
  where
    go : (t : Bool) → is_blank b ≡ t → front_at b ≡ a_run
    go true f = let g : is_run_byte b ≡ false = among (λ c. is_run_byte c ≡ false) (32 ∷ 9 ∷ 13 ∷ 12 ∷ 10 ∷ []) b f (refl, (refl, (refl, (refl, (refl, tt))))) in absurd (cc)
    go false f = ap (λ t. if t then a_blank else if is_run_byte b then a_run else if is_mark b then a_mark else if b == 124 then a_bar else if b == 34 then a_quote else if b == 35 then a_comment else no_front) f
        ∙ ap (λ t. if t then a_run else if is_mark b then a_mark else if b == 124 then a_bar else if b == 34 then a_quote else if b == 35 then a_comment else no_front) e

pub cut_run : (rest text : List ℕ) (says : Saying) → IsRun text says → Ends rest → Cut rest text (says ∷ [])
cut_run rest text says r e =
    subst (λ t. Cut rest t (says ∷ [])) (sym r.bytes) (cut_token rest r.first r.others says piece)
  where
    whole : text ≡ r.first ∷ r.others
    whole = r.bytes

    run_bytes : list_all is_run_byte (r.first ∷ r.others) ≡ true
    run_bytes = ap (list_all is_run_byte) (sym whole) ∙ r.run_bytes

    count : prefix_len is_run_byte (r.first ∷ (r.others ++ rest)) ≡ length (r.first ∷ r.others)
    count = longest (r.first ∷ r.others) rest run_bytes e.no_run

    run : run_of (r.first ∷ (r.others ++ rest)) ≡ r.first ∷ r.others
    run = ap (λ n. take n (r.first ∷ (r.others ++ rest))) count ∙ taken_front (r.first ∷ r.others) rest

    after : after_run (r.first ∷ (r.others ++ rest)) ≡ rest
    after = ap (λ n. drop n (r.first ∷ (r.others ++ rest))) count ∙ dropped_front (r.first ∷ r.others) rest

    piece : (place : ℕ) → piece_of (front_at r.first) place r.first (r.others ++ rest) ≡ token says (suc (length r.others))
    piece place =
        ap (λ f. piece_of f place r.first (r.others ++ rest)) (run_begins r.first (both (is_run_byte r.first) (list_all is_run_byte r.others) run_bytes).0)
        ∙ ap (λ x. run_piece place x (after_run (r.first ∷ (r.others ++ rest))) (run_kind x)) run
        ∙ ap (λ a. run_piece place (r.first ∷ r.others) a (run_kind (r.first ∷ r.others))) after
        ∙ ap (λ t. run_piece place t rest (run_kind t)) (sym whole) ∙ r.reads place rest e.no_fraction ∙ ap (λ t. token says (length t)) whole
