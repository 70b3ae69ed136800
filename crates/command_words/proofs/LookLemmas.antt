-- What a word looks like, to clap and to the definition of the options.
use Rattle.std.proofs.Common.{◌≡◌, ◌∙◌, ap, refl, ℕ, ◌+◌, ◌==◌, ◌&&◌, ◌||◌, not, Bool, true, false, List, [], ◌∷◌, ◌++◌, Option, Some, None, length, codes, arith, cond, suc}
use Rattle.std.specs.List.{after_first, before_first}
use Rattle.std.specs.Prelude.{if◌then◌else◌}
use Rattle.std.specs.Str.{bytes_eq}
use Rattle.std.proofs.lemmas.Slice.Eq.{bytes_eq-Decides}
use Rattle.clap.specs.Lexer.{has_byte}
use Rattle.std.proofs.lemmas.Bool.{eqb-true, lt-ltb}
use Rattle.clap.specs.Walk.{Text}
use Rattle.defs_text.specs.Runs.{begins_with}
use Rattle.defs_run.specs.CommandLine.{Options, behind, is_unknown_option, number_between, options_from, value_from, with_file, with_generate, with_watch}
use Rattle.command_words.specs.Given.{Look, flag, unknown, plain, is_dashes, look_at}

abbrev is_equals : ℕ → Bool
is_equals x = x == 61

one-more : (n : ℕ) → 1 + n ≡ suc n
one-more n = omega arith

one-between : (n : ℕ) → (1 + n) + 1 ≡ suc (n + 1)
one-between n = omega arith

turned : (m n : ℕ) → (m == n) ≡ (n == m)
turned m n = grind arith

before-cons : (x : ℕ) (text : Text) → before_first is_equals (x ∷ text) ≡ cond (x == 61) [] (x ∷ before_first is_equals text)
before-cons x text = go (x == 61) refl
  where
    go : (b : Bool) → (x == 61) ≡ b → before_first is_equals (x ∷ text) ≡ cond (x == 61) [] (x ∷ before_first is_equals text)
    go true e = rw e refl
    go false e = rw (e, one-more) refl

after-cons : (x : ℕ) (text : Text) → after_first is_equals (x ∷ text) ≡ cond (x == 61) text (after_first is_equals text)
after-cons x text = go (x == 61) refl
  where
    go : (b : Bool) → (x == 61) ≡ b → after_first is_equals (x ∷ text) ≡ cond (x == 61) text (after_first is_equals text)
    go true e = rw e refl
    go false e = rw (e, one-between) refl

behind-cons : (n x : ℕ) (front text : Text) → behind (n ∷ front) (x ∷ text) ≡ (if n == x then behind front text else None)
behind-cons n x front text = go (n == x) refl
  where
    go : (b : Bool) → (n == x) ≡ b → behind (n ∷ front) (x ∷ text) ≡ (if n == x then behind front text else None)
    go true e = simp e refl
    go false e = simp e refl

or_false : (a b : Bool) → (a || b) ≡ false → (a ≡ false) × (b ≡ false)
or_false false b h = (refl, h)
or_false true b h = cc

-- a name with no `=`, and what is behind it: the text that begins with the name and `=`
pub behind-name : (name text : Text) → has_byte 61 name ≡ false
    → behind (name ++ 61 ∷ []) text ≡ (if bytes_eq name (before_first is_equals text) then (if has_byte 61 text then Some (after_first is_equals text) else None) else None)
behind-name [] [] none = refl
behind-name [] (x ∷ text) none = rw (behind-cons 61 x [] text, before-cons x text, after-cons x text, turned 61 x) (go (x == 61) refl)
  where
    go : (b : Bool) → (x == 61) ≡ b → (if x == 61 then behind [] text else None)
        ≡ (if bytes_eq [] (cond (x == 61) [] (x ∷ before_first is_equals text)) then (if has_byte 61 (x ∷ text) then Some (cond (x == 61) text (after_first is_equals text)) else None) else None)
    go true e = simp e refl
    go false e = simp e refl
behind-name (n ∷ name) [] none = refl
behind-name (n ∷ name) (x ∷ text) none =
    let parts = or_false (n == 61) (has_byte 61 name) none in
    rw (behind-cons n x (name ++ 61 ∷ []) text, before-cons x text, after-cons x text) (go parts.0 (behind-name name text parts.1) (x == 61) refl)
  where
    on : behind (name ++ 61 ∷ []) text ≡ (if bytes_eq name (before_first is_equals text) then (if has_byte 61 text then Some (after_first is_equals text) else None) else None)
        → (x == 61) ≡ false → (b : Bool) → (n == x) ≡ b
        → (if n == x then behind (name ++ 61 ∷ []) text else None)
        ≡ (if bytes_eq (n ∷ name) (cond (x == 61) [] (x ∷ before_first is_equals text)) then (if has_byte 61 (x ∷ text) then Some (cond (x == 61) text (after_first is_equals text)) else None) else None)
    on rest e true f = simp (e, f) rest
    on rest e false f = simp (e, f) refl

    go : (n == 61) ≡ false
        → behind (name ++ 61 ∷ []) text ≡ (if bytes_eq name (before_first is_equals text) then (if has_byte 61 text then Some (after_first is_equals text) else None) else None)
        → (b : Bool) → (x == 61) ≡ b
        → (if n == x then behind (name ++ 61 ∷ []) text else None)
        ≡ (if bytes_eq (n ∷ name) (cond (x == 61) [] (x ∷ before_first is_equals text)) then (if has_byte 61 (x ∷ text) then Some (cond (x == 61) text (after_first is_equals text)) else None) else None)
    go apart rest true e =
        let same = eqb-true x 61 e in
        let no : (n == x) ≡ false = ap (λ y. n == y) same ∙ apart in
        simp (no, e) refl
    go apart rest false e = on rest e (n == x) refl

-- the text that the name is
pub is-name : (name text : Text) → has_byte 61 name ≡ false
    → bytes_eq text name ≡ (bytes_eq name (before_first is_equals text) && not (has_byte 61 text))
is-name [] [] none = refl
is-name [] (x ∷ text) none = rw (before-cons x text) (go (x == 61) refl)
  where
    go : (b : Bool) → (x == 61) ≡ b → false ≡ (bytes_eq [] (cond (x == 61) [] (x ∷ before_first is_equals text)) && not (has_byte 61 (x ∷ text)))
    go true e = simp e refl
    go false e = simp e refl
is-name (n ∷ name) [] none = refl
is-name (n ∷ name) (x ∷ text) none =
    let parts = or_false (n == 61) (has_byte 61 name) none in
    rw (before-cons x text, turned x n) (go parts.0 (is-name name text parts.1) (x == 61) refl)
  where
    on : bytes_eq text name ≡ (bytes_eq name (before_first is_equals text) && not (has_byte 61 text)) → (x == 61) ≡ false → (b : Bool) → (n == x) ≡ b
        → ((n == x) && bytes_eq text name) ≡ (bytes_eq (n ∷ name) (cond (x == 61) [] (x ∷ before_first is_equals text)) && not (has_byte 61 (x ∷ text)))
    on rest e true f = simp (e, f) rest
    on rest e false f = simp (e, f) refl

    go : (n == 61) ≡ false → bytes_eq text name ≡ (bytes_eq name (before_first is_equals text) && not (has_byte 61 text)) → (b : Bool) → (x == 61) ≡ b
        → ((n == x) && bytes_eq text name) ≡ (bytes_eq (n ∷ name) (cond (x == 61) [] (x ∷ before_first is_equals text)) && not (has_byte 61 (x ∷ text)))
    go apart rest true e =
        let same = eqb-true x 61 e in
        let no : (n == x) ≡ false = ap (λ y. n == y) same ∙ apart in
        simp (no, e) refl
    go apart rest false e = on rest e (n == x) refl

-- ---- the options, by what a word looks like

abbrev pub with_option : Bool → Text → Options → Option Options
with_option true text o = with_watch o (number_between 0 5 text)
with_option false text o = with_generate o (number_between 1 200000 text)

abbrev pub goes_on : List Text → Option Options → Option Options
goes_on words None = None
goes_on words (Some o) = options_from o words

abbrev pub options_by : Look → Options → Text → List Text → Option Options
options_by (flag is_watch None) o word words = value_from is_watch o words
options_by (flag is_watch (Some text)) o word words = goes_on words (with_option is_watch text o)
options_by unknown o word words = None
options_by plain o word words = options_from (with_file o word) words

-- what the tests of the definition make of a word
abbrev pub look_by : Bool → Bool → Option Text → Option Text → Bool → Look
look_by true is_generate watch generate is_flag = flag true None
look_by false true watch generate is_flag = flag false None
look_by false false (Some text) generate is_flag = flag true (Some text)
look_by false false None (Some text) is_flag = flag false (Some text)
look_by false false None None true = unknown
look_by false false None None false = plain

abbrev pub look_tested : Text → Look
look_tested word =
    look_by (bytes_eq word (codes "--watch")) (bytes_eq word (codes "--generate")) (behind (codes "--watch=") word) (behind (codes "--generate=") word) (is_unknown_option word)

by_tests : (a b : Bool) (p q : Option Text) (u : Bool) (o : Options) (word : Text) (words : List Text)
    → (if a then value_from true o words
    else if b then value_from false o words
    else elim (elim p as (λ x. Option Options) [
      | Some text ↦ with_watch o (number_between 0 5 text)
      | None ↦ elim q as (λ x. Option Options) [
        | Some text ↦ with_generate o (number_between 1 200000 text)
        | None ↦ if u then None else Some (with_file o word)
      ]
    ]) as (λ x. Option Options) [ None ↦ None | Some p ↦ options_from p words ]) ≡ options_by (look_by a b p q u) o word words
by_tests true b p q u o word words = refl
by_tests false true p q u o word words = refl
by_tests false false (Some text) q u o word words = went (with_watch o (number_between 0 5 text))
  where
    went : (r : Option Options) → elim r as (λ x. Option Options) [ None ↦ None | Some p ↦ options_from p words ] ≡ goes_on words r
    went None = refl
    went (Some r) = refl
by_tests false false None (Some text) u o word words = went (with_generate o (number_between 1 200000 text))
  where
    went : (r : Option Options) → elim r as (λ x. Option Options) [ None ↦ None | Some p ↦ options_from p words ] ≡ goes_on words r
    went None = refl
    went (Some r) = refl
by_tests false false None None true o word words = refl
by_tests false false None None false o word words = refl

-- ---- the tests and the look agree

-- `-` and more is more than one byte
long_enough : (y : ℕ) (ys : Text) → is_unknown_option (45 ∷ y ∷ ys) ≡ true
long_enough y ys = lt-ltb 1 (length (45 ∷ y ∷ ys)) (omega arith)

-- two hyphens and more
long_look : (is_watch is_generate has : Bool) (text : Text)
    → look_by (is_watch && not has) (is_generate && not has) (if is_watch then (if has then Some text else None) else None) (if is_generate then (if has then Some text else None) else None) true
    ≡ (if is_watch then flag true (if has then Some text else None) else if is_generate then flag false (if has then Some text else None) else unknown)
long_look true true true text = refl
long_look true true false text = refl
long_look true false true text = refl
long_look true false false text = refl
long_look false true true text = refl
long_look false true false text = refl
long_look false false true text = refl
long_look false false false text = refl

same_tests : {a c b d : Bool} {p r q s : Option Text} {u v : Bool} → a ≡ c → b ≡ d → p ≡ r → q ≡ s → u ≡ v → look_by a b p q u ≡ look_by c d r s v
same_tests e f g h k = rw (e, f, g, h, k) refl

long_tested : (z : ℕ) (zs : Text) → look_tested (45 ∷ 45 ∷ z ∷ zs) ≡ look_at (45 ∷ 45 ∷ z ∷ zs)
long_tested z zs =
    let is_watch : bytes_eq (45 ∷ 45 ∷ z ∷ zs) (codes "--watch") ≡ (bytes_eq (codes "watch") (before_first is_equals (z ∷ zs)) && not (has_byte 61 (z ∷ zs))) = is-name (codes "watch") (z ∷ zs) refl in
    let is_generate : bytes_eq (45 ∷ 45 ∷ z ∷ zs) (codes "--generate") ≡ (bytes_eq (codes "generate") (before_first is_equals (z ∷ zs)) && not (has_byte 61 (z ∷ zs))) = is-name (codes "generate") (z ∷ zs) refl in
    let watch = behind-cons 45 45 (codes "-watch=") (45 ∷ z ∷ zs) ∙ (behind-cons 45 45 (codes "watch=") (z ∷ zs) ∙ behind-name (codes "watch") (z ∷ zs) refl) in
    let generate = behind-cons 45 45 (codes "-generate=") (45 ∷ z ∷ zs) ∙ (behind-cons 45 45 (codes "generate=") (z ∷ zs) ∙ behind-name (codes "generate") (z ∷ zs) refl) in
    let is_flag : is_unknown_option (45 ∷ 45 ∷ z ∷ zs) ≡ true = long_enough 45 (z ∷ zs) in
    same_tests is_watch is_generate watch generate is_flag
    ∙ long_look (bytes_eq (codes "watch") (before_first is_equals (z ∷ zs))) (bytes_eq (codes "generate") (before_first is_equals (z ∷ zs))) (has_byte 61 (z ∷ zs)) (after_first is_equals (z ∷ zs))

-- a front that begins with another byte
apart : (n x : ℕ) (front text : Text) → (x == n) ≡ false → behind (n ∷ front) (x ∷ text) ≡ None
apart n x front text e = behind-cons n x front text ∙ ap (λ b. if b then behind front text else None) (turned n x ∙ e)

-- one hyphen and more
short_tested : (y : ℕ) (ys : Text) → (y == 45) ≡ false → look_tested (45 ∷ y ∷ ys) ≡ look_at (45 ∷ y ∷ ys)
short_tested y ys e =
    let watch : behind (codes "--watch=") (45 ∷ y ∷ ys) ≡ None = behind-cons 45 45 (codes "-watch=") (y ∷ ys) ∙ apart 45 y (codes "watch=") ys e in
    let generate : behind (codes "--generate=") (45 ∷ y ∷ ys) ≡ None = behind-cons 45 45 (codes "-generate=") (y ∷ ys) ∙ apart 45 y (codes "generate=") ys e in
    let is_look : look_at (45 ∷ y ∷ ys) ≡ unknown = simp e refl in
    let is_watch : bytes_eq (45 ∷ y ∷ ys) (codes "--watch") ≡ false = simp e refl in
    let is_generate : bytes_eq (45 ∷ y ∷ ys) (codes "--generate") ≡ false = simp e refl in
    rw (is_watch, is_generate, watch, generate, long_enough y ys, is_look) refl

-- no hyphen
plain_tested : (x : ℕ) (xs : Text) → (x == 45) ≡ false → look_tested (x ∷ xs) ≡ look_at (x ∷ xs)
plain_tested x xs e =
    let watch : behind (codes "--watch=") (x ∷ xs) ≡ None = apart 45 x (codes "-watch=") xs e in
    let generate : behind (codes "--generate=") (x ∷ xs) ≡ None = apart 45 x (codes "-generate=") xs e in
    let is_look : look_at (x ∷ xs) ≡ plain = simp e refl in
    let is_watch : bytes_eq (x ∷ xs) (codes "--watch") ≡ false = simp e refl in
    let is_generate : bytes_eq (x ∷ xs) (codes "--generate") ≡ false = simp e refl in
    let is_flag : is_unknown_option (x ∷ xs) ≡ false = simp e refl in
    rw (is_watch, is_generate, watch, generate, is_flag, is_look) refl

tested : (word : Text) → is_dashes word ≡ false → look_tested word ≡ look_at word
tested [] e = refl
tested (x ∷ []) e = go (x == 45) refl
  where
    go : (b : Bool) → (x == 45) ≡ b → look_tested (x ∷ []) ≡ look_at (x ∷ [])
    go true f = rw (eqb-true x 45 f) refl
    go false f = plain_tested x [] f
tested (x ∷ y ∷ ys) e = go (x == 45) refl
  where
    two : (text : Text) → is_dashes (45 ∷ 45 ∷ text) ≡ false → look_tested (45 ∷ 45 ∷ text) ≡ look_at (45 ∷ 45 ∷ text)
    two [] h = cc
    two (z ∷ zs) h = long_tested z zs

    one : is_dashes (45 ∷ y ∷ ys) ≡ false → (b : Bool) → (y == 45) ≡ b → look_tested (45 ∷ y ∷ ys) ≡ look_at (45 ∷ y ∷ ys)
    one h true f =
        let is = eqb-true y 45 f in
        rw is (two ys (rw is at h))
    one h false f = short_tested y ys f

    go : (b : Bool) → (x == 45) ≡ b → look_tested (x ∷ y ∷ ys) ≡ look_at (x ∷ y ∷ ys)
    go true f =
        let is = eqb-true x 45 f in
        rw is (one (rw is at e) (y == 45) refl)
    go false f = plain_tested x (y ∷ ys) f

pub by_look : (word : Text) (o : Options) (words : List Text) → is_dashes word ≡ false
    → options_from o (word ∷ words) ≡ options_by (look_at word) o word words
by_look word o words e =
    rw e (by_tests (bytes_eq word (codes "--watch")) (bytes_eq word (codes "--generate")) (behind (codes "--watch=") word) (behind (codes "--generate=") word) (is_unknown_option word) o word words)
    ∙ ap (λ l. options_by l o word words) (tested word e)

-- ---- no value looks like a flag

abbrev pub is_plain : Look → Bool
is_plain plain = true
is_plain _ = false

pub flag_begins : (word : Text) → is_plain (look_at word) ≡ false → begins_with 45 word ≡ true
flag_begins [] h = cc
flag_begins (x ∷ xs) h = go (x == 45) refl
  where
    go : (b : Bool) → (x == 45) ≡ b → (x == 45) ≡ true
    go true e = e
    go false e =
        let bad : true ≡ false = simp e at h in
        cc

pub dashes_begin : (word : Text) → is_dashes word ≡ true → begins_with 45 word ≡ true
dashes_begin word e = rw ((bytes_eq-Decides word (codes "--")).0 e) refl

pub no_number : (low high : ℕ) (word : Text) → begins_with 45 word ≡ true → number_between low high word ≡ None
no_number low high [] h = cc
no_number low high (x ∷ xs) h = rw (eqb-true x 45 h) refl
