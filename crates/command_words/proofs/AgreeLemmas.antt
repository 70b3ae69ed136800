-- The walk of clap and the reading of what is given take the words alike.
use Rattle.std.proofs.Common.{◌≡◌, ◌∙◌, ◌⊎◌, ap, refl, sym, inl, inr, ℕ, Bool, true, false, ◌&&◌, not, List, [], ◌∷◌, Option, Some, None, codes, subst, if◌then◌else◌}
use Rattle.std.specs.Prelude.{slice_get}
use Rattle.std.specs.Str.{IsUtf8, bytes_eq, chars}
use Rattle.clap.specs.Kinds.{Kinds, or_else}
use Rattle.clap.specs.Lexer.{long_of, short_of}
use Rattle.clap.specs.Walk.{Row, Text, Waiting, idle, option, positional, Walk, arg_by_long, settled_rows, used, walked}
use Rattle.command_words.specs.Command.{none_if}
use Rattle.command_words.specs.Given.{Given, State, flag, unknown, plain, between, awaits, names, refused, after_look, awaited, given_file, given_from, given_option, is_dashes, look_at, next_state}
use Rattle.command_words.proofs.ShortLemmas.{first_char, short_is}
use Rattle.command_words.proofs.Walking.{Agrees, Pending, Settles, Stands, Tells, UsesOnce, UsesTwice, arguments, fails, id_of, is_option, late_kinds, option_rule, rows_from, turn_kinds, walk_at}
use Rattle.command_words.proofs.TurnLemmas.{awaiting_turn, awaiting_walked, dashes_turn, dashes_walked, known_generate, known_none, known_watch, name_turn, name_walked, none_turn, plain_turn, plain_walked, short_turn, value_turn, value_walked, valued_turn, valued_walked}
use Rattle.command_words.proofs.UseLemmas.{file_settles, no_value_late, option_used}

-- ---- one word on both sides

goes : (w v : Walk) (word : Text) (words : List Text) → turn_kinds w word ≡ [] → walked arguments [] w word ≡ v → rows_from w (word ∷ words) ≡ rows_from v words
goes w v word words e f = ap (λ kinds. none_if kinds (rows_from (walked arguments [] w word) words)) e ∙ ap (λ u. rows_from u words) f

stops : (w : Walk) (word : Text) (words : List Text) → fails (turn_kinds w word) ≡ true → rows_from w (word ∷ words) ≡ None
stops w word words e = go (turn_kinds w word) e
  where
    go : (kinds : Kinds) → fails kinds ≡ true → none_if kinds (rows_from (walked arguments [] w word) words) ≡ None
    go [] h = cc
    go (k ∷ ks) h = refl

refused_none : (words : List Text) → given_from refused words ≡ None
refused_none [] = refl
refused_none (word ∷ words) = refused_none words

agree_by : {t u : Option (List Row)} {s r : State} (words : List Text) → t ≡ u → s ≡ r → Agrees u (given_from r words) → Agrees t (given_from s words)
agree_by {t} {u} {s} {r} words e f h =
    subst (λ (x : Option (List Row)). Agrees x (given_from s words)) (sym e) (subst (λ (x : State). Agrees u (given_from x words)) (sym f) h)

agree_none : {t : Option (List Row)} {s : State} (words : List Text) → t ≡ None → s ≡ refused → Agrees t (given_from s words)
agree_none {t} {s} words e f =
    let nothing : given_from s words ≡ None = ap (λ (x : State). given_from x words) f ∙ refused_none words in
    subst (λ (x : Option (List Row)). Agrees x (given_from s words)) (sym e) (subst (λ (x : Option Given). Agrees None x) (sym nothing) tt)

-- they agree from here on, wherever they stand alike
abbrev pub AgreeOn : List Text → Type 0
AgreeOn words = (s : State) (rows : List Row) (pending : Pending) (waiting : Waiting) (is_trailing : Bool) → Stands rows pending waiting is_trailing s
    → Agrees (rows_from (walk_at rows pending waiting is_trailing) words) (given_from s words)

-- ---- faults

fails_first : (a b : Kinds) → fails a ≡ true → fails (or_else a b) ≡ true
fails_first [] b h = cc
fails_first (k ∷ ks) b h = refl

fails_second : (a b : Kinds) → a ≡ [] → fails b ≡ true → fails (or_else a b) ≡ true
fails_second a b e h = rw e h

fails_whole : (a : Kinds) → fails a ≡ true → fails (or_else a []) ≡ true
fails_whole a h = fails_first a [] h

none_both : (a b : Kinds) → a ≡ [] → b ≡ [] → or_else a b ≡ []
none_both a b e f = rw (e, f) refl

-- ---- how a word looks

look_watch : (word name : Text) (value : Option Text) → long_of word ≡ Some (name, value) → bytes_eq (codes "watch") name ≡ true → look_at word ≡ flag true value
look_watch word name value l e = rw l (rw e refl)

look_generate : (word name : Text) (value : Option Text) → long_of word ≡ Some (name, value) → bytes_eq (codes "watch") name ≡ false → bytes_eq (codes "generate") name ≡ true
    → look_at word ≡ flag false value
look_generate word name value l e f = rw l (rw (e, f) refl)

look_none : (word name : Text) (value : Option Text) → long_of word ≡ Some (name, value) → bytes_eq (codes "watch") name ≡ false → bytes_eq (codes "generate") name ≡ false
    → look_at word ≡ unknown
look_none word name value l e f = rw l (rw (e, f) refl)

look_short : (word flags : Text) → long_of word ≡ None → short_of word ≡ Some flags → look_at word ≡ unknown
look_short word flags l s = rw l (rw s refl)

look_plain : (word : Text) → long_of word ≡ None → short_of word ≡ None → look_at word ≡ plain
look_plain word l s = rw l (rw s refl)

-- a word that is not `--`, as clap and the reading see it
pub data Seen (word : Text) : Type 0 where
  a_flag : (is_watch : Bool) (name : Text) (value : Option Text) → long_of word ≡ Some (name, value) → arg_by_long arguments name ≡ Some (option_rule is_watch) → look_at word ≡ flag is_watch value → Seen word
  no_flag : (name : Text) (value : Option Text) → long_of word ≡ Some (name, value) → arg_by_long arguments name ≡ None → look_at word ≡ unknown → Seen word
  a_bundle : (y : ℕ) (ys : Text) (c : ℕ) → long_of word ≡ None → short_of word ≡ Some (y ∷ ys) → slice_get (chars (y ∷ ys)) 0 ≡ Some c → look_at word ≡ unknown → Seen word
  a_plain : long_of word ≡ None → short_of word ≡ None → look_at word ≡ plain → Seen word

seen_long : (word name : Text) (value : Option Text) → long_of word ≡ Some (name, value) → (b c : Bool) → bytes_eq (codes "watch") name ≡ b → bytes_eq (codes "generate") name ≡ c → Seen word
seen_long word name value l true c e f = a_flag true name value l (known_watch name e) (look_watch word name value l e)
seen_long word name value l false true e f = a_flag false name value l (known_generate name e f) (look_generate word name value l e f)
seen_long word name value l false false e f = no_flag name value l (known_none name e f) (look_none word name value l e f)

seen_short : (word flags : Text) → IsUtf8 word → long_of word ≡ None → short_of word ≡ Some flags → Seen word
seen_short word flags utf8 l s =
    let is = short_is word flags s in
    let first = first_char is.0 is.1 (subst IsUtf8 is.3 utf8) in
    a_bundle is.0 is.1 first.0 l (s ∙ ap (λ (x : Text). Some x) is.2) first.1 (look_short word flags l s)

pub seen : (word : Text) → IsUtf8 word → Seen word
seen word utf8 = long (long_of word) refl
  where
    short : long_of word ≡ None → (o : Option Text) → short_of word ≡ o → Seen word
    short l None s = a_plain l s (look_plain word l s)
    short l (Some flags) s = seen_short word flags utf8 l s

    long : (o : Option (Text × Option Text)) → long_of word ≡ o → Seen word
    long None l = short l (short_of word) refl
    long (Some p) l = seen_long word p.0 p.1 l (bytes_eq (codes "watch") p.0) (bytes_eq (codes "generate") p.0) refl refl

-- ---- an option with its value in the same word

use_of_value : (words : List Text) (is_watch : Bool) (name text word : Text) (rows : List Row) (pending : Pending) (waiting : Waiting) (g : Given) → AgreeOn words
    → is_dashes word ≡ false → long_of word ≡ Some (name, Some text) → arg_by_long arguments name ≡ Some (option_rule is_watch)
    → Settles rows pending g → UsesOnce is_watch text (settled_rows arguments pending rows) g ⊎ UsesTwice is_watch text (settled_rows arguments pending rows) g
    → Agrees (rows_from (walk_at rows pending waiting false) (word ∷ words)) (given_from (given_option is_watch text g) words)
use_of_value words is_watch name text word rows pending waiting g others e l a settles (inl once) =
    let turn = valued_turn is_watch rows pending waiting word name text e l a ∙ none_both _ [] (none_both _ _ settles.0 once.2) refl in
    agree_by words (goes _ _ word words turn (valued_walked is_watch rows pending waiting word name text e l a)) once.1
    (others (between once.0) (used (option_rule is_watch) (text ∷ []) (settled_rows arguments pending rows)) None idle false (refl, refl, (refl, once.3)))
use_of_value words is_watch name text word rows pending waiting g others e l a settles (inr twice) =
    let turn = ap fails (valued_turn is_watch rows pending waiting word name text e l a) ∙ fails_whole _ (fails_second _ _ settles.0 twice.1) in
    agree_none words (stops (walk_at rows pending waiting false) word words turn) twice.0

-- ---- between two words

step_seen : (words : List Text) (word : Text) (rows : List Row) (pending : Pending) (waiting : Waiting) (g : Given) → AgreeOn words → is_option waiting ≡ false → Settles rows pending g
    → is_dashes word ≡ false → Seen word → Agrees (rows_from (walk_at rows pending waiting false) (word ∷ words)) (given_from (after_look (look_at word) word g) words)
step_seen words word rows pending waiting g others idles settles e (a_flag is_watch name None l a is) =
    let turn = awaiting_turn is_watch rows pending waiting word name e l a ∙ none_both _ [] settles.0 refl in
    agree_by words (goes _ _ word words turn (awaiting_walked is_watch rows pending waiting word name e l a)) (ap (λ look. after_look look word g) is)
    (others (awaits is_watch g) (settled_rows arguments pending rows) (Some (id_of is_watch, [])) (option (id_of is_watch)) false (refl, refl, refl, settles.1))
step_seen words word rows pending waiting g others idles settles e (a_flag is_watch name (Some text) l a is) =
    agree_by words refl (ap (λ look. after_look look word g) is)
    (use_of_value words is_watch name text word rows pending waiting g others e l a settles (option_used is_watch text (settled_rows arguments pending rows) g settles.1))
step_seen words word rows pending waiting g others idles settles e (no_flag name value l a is) =
    agree_none words (stops (walk_at rows pending waiting false) word words (none_turn rows pending waiting word name value e l a)) (ap (λ look. after_look look word g) is)
step_seen words word rows pending waiting g others idles settles e (a_bundle y ys c l s f is) =
    agree_none words (stops (walk_at rows pending waiting false) word words (short_turn rows pending waiting word y ys c e l s f)) (ap (λ look. after_look look word g) is)
step_seen words word rows pending waiting g others idles settles e (a_plain l s is) =
    agree_by words (goes _ _ word words (plain_turn rows pending waiting word idles e l s ∙ settles.0) (plain_walked rows pending waiting word idles e l s)) (ap (λ look. after_look look word g) is)
    (others (between (given_file word g)) (settled_rows arguments pending rows) (Some (codes "file", word ∷ [])) positional false (refl, refl, file_settles word (settled_rows arguments pending rows) g settles.1))

step_between : (words : List Text) (word : Text) (rows : List Row) (pending : Pending) (waiting : Waiting) (g : Given) → AgreeOn words → is_option waiting ≡ false → Settles rows pending g
    → IsUtf8 word → (b : Bool) → is_dashes word ≡ b → Agrees (rows_from (walk_at rows pending waiting false) (word ∷ words)) (given_from (next_state (between g) word) words)
step_between words word rows pending waiting g others idles settles utf8 true e =
    agree_by words (goes _ _ word words (dashes_turn rows pending waiting word e) (dashes_walked rows pending waiting word e)) (ap (λ b. if b then names g else after_look (look_at word) word g) e)
    (others (names g) rows pending waiting true (refl, settles))
step_between words word rows pending waiting g others idles settles utf8 false e =
    agree_by words refl (ap (λ b. if b then names g else after_look (look_at word) word g) e) (step_seen words word rows pending waiting g others idles settles e (seen word utf8))

-- ---- the word behind an option

value_taken : (words : List Text) (is_watch : Bool) (word : Text) (rows : List Row) (g : Given) → AgreeOn words → is_dashes word ≡ false → long_of word ≡ None → short_of word ≡ None
    → UsesOnce is_watch word rows g ⊎ UsesTwice is_watch word rows g
    → Agrees (rows_from (walk_at rows (Some (id_of is_watch, [])) (option (id_of is_watch)) false) (word ∷ words)) (given_from (given_option is_watch word g) words)
value_taken words true word rows g others e l s (inl once) =
    agree_by words (goes _ _ word words (value_turn true rows word e l s) (value_walked true rows word e l s)) once.1
    (others (between once.0) rows (Some (codes "watch", word ∷ [])) idle false (refl, refl, (once.2, once.3)))
value_taken words false word rows g others e l s (inl once) =
    agree_by words (goes _ _ word words (value_turn false rows word e l s) (value_walked false rows word e l s)) once.1
    (others (between once.0) rows (Some (codes "generate", word ∷ [])) idle false (refl, refl, (once.2, once.3)))
value_taken words true word rows g others e l s (inr twice) =
    agree_by words (goes _ _ word words (value_turn true rows word e l s) (value_walked true rows word e l s)) twice.0
    (others refused rows (Some (codes "watch", word ∷ [])) idle false (refl, twice.1))
value_taken words false word rows g others e l s (inr twice) =
    agree_by words (goes _ _ word words (value_turn false rows word e l s) (value_walked false rows word e l s)) twice.0
    (others refused rows (Some (codes "generate", word ∷ [])) idle false (refl, twice.1))

-- a flag settles what is pending first
late_flag : (is_watch : Bool) (rows : List Row) (pending : Pending) (waiting : Waiting) (word name : Text) (value : Option Text) → is_dashes word ≡ false → long_of word ≡ Some (name, value)
    → arg_by_long arguments name ≡ Some (option_rule is_watch) → fails (late_kinds rows pending) ≡ true → fails (turn_kinds (walk_at rows pending waiting false) word) ≡ true
late_flag is_watch rows pending waiting word name None e l a late = ap fails (awaiting_turn is_watch rows pending waiting word name e l a) ∙ fails_whole _ late
late_flag is_watch rows pending waiting word name (Some text) e l a late = ap fails (valued_turn is_watch rows pending waiting word name text e l a) ∙ fails_whole _ (fails_first _ _ late)

value_seen : (words : List Text) (is_watch : Bool) (word : Text) (rows : List Row) (g : Given) → AgreeOn words → Tells rows g → is_dashes word ≡ false → Seen word
    → Agrees (rows_from (walk_at rows (Some (id_of is_watch, [])) (option (id_of is_watch)) false) (word ∷ words)) (given_from (awaited (look_at word) is_watch word g) words)
value_seen words is_watch word rows g others t e (a_flag other name value l a is) =
    agree_none words (stops (walk_at rows (Some (id_of is_watch, [])) (option (id_of is_watch)) false) word words (late_flag other rows (Some (id_of is_watch, [])) (option (id_of is_watch)) word name value e l a (no_value_late is_watch rows))) (ap (λ look. awaited look is_watch word g) is)
value_seen words is_watch word rows g others t e (no_flag name value l a is) =
    agree_none words (stops (walk_at rows (Some (id_of is_watch, [])) (option (id_of is_watch)) false) word words (none_turn rows (Some (id_of is_watch, [])) (option (id_of is_watch)) word name value e l a)) (ap (λ look. awaited look is_watch word g) is)
value_seen words is_watch word rows g others t e (a_bundle y ys c l s f is) =
    agree_none words (stops (walk_at rows (Some (id_of is_watch, [])) (option (id_of is_watch)) false) word words (short_turn rows (Some (id_of is_watch, [])) (option (id_of is_watch)) word y ys c e l s f)) (ap (λ look. awaited look is_watch word g) is)
value_seen words is_watch word rows g others t e (a_plain l s is) =
    agree_by words refl (ap (λ look. awaited look is_watch word g) is) (value_taken words is_watch word rows g others e l s (option_used is_watch word rows g t))

step_awaits : (words : List Text) (is_watch : Bool) (word : Text) (rows : List Row) (g : Given) → AgreeOn words → Tells rows g → IsUtf8 word → (b : Bool) → is_dashes word ≡ b
    → Agrees (rows_from (walk_at rows (Some (id_of is_watch, [])) (option (id_of is_watch)) false) (word ∷ words)) (given_from (next_state (awaits is_watch g) word) words)
step_awaits words is_watch word rows g others t utf8 true e =
    agree_by words (goes _ _ word words (dashes_turn rows (Some (id_of is_watch, [])) (option (id_of is_watch)) word e) (dashes_walked rows (Some (id_of is_watch, [])) (option (id_of is_watch)) word e)) (ap (λ b. if b then refused else awaited (look_at word) is_watch word g) e)
    (others refused rows (Some (id_of is_watch, [])) (option (id_of is_watch)) true (refl, no_value_late is_watch rows))
step_awaits words is_watch word rows g others t utf8 false e =
    agree_by words refl (ap (λ b. if b then refused else awaited (look_at word) is_watch word g) e) (value_seen words is_watch word rows g others t e (seen word utf8))

-- ---- names, and what was refused

step_names : (words : List Text) (word : Text) (rows : List Row) (pending : Pending) (waiting : Waiting) (g : Given) → AgreeOn words → Settles rows pending g
    → Agrees (rows_from (walk_at rows pending waiting true) (word ∷ words)) (given_from (names (given_file word g)) words)
step_names words word rows pending waiting g others settles =
    agree_by words (goes _ _ word words (name_turn rows pending waiting word ∙ settles.0) (name_walked rows pending waiting word)) refl
    (others (names (given_file word g)) (settled_rows arguments pending rows) (Some (codes "file", word ∷ [])) positional true (refl, file_settles word (settled_rows arguments pending rows) g settles.1))

late_seen : (word : Text) (rows : List Row) (pending : Pending) (waiting : Waiting) → is_option waiting ≡ false → fails (late_kinds rows pending) ≡ true → is_dashes word ≡ false → Seen word
    → fails (turn_kinds (walk_at rows pending waiting false) word) ≡ true
late_seen word rows pending waiting idles late e (a_flag is_watch name value l a is) = late_flag is_watch rows pending waiting word name value e l a late
late_seen word rows pending waiting idles late e (no_flag name value l a is) = none_turn rows pending waiting word name value e l a
late_seen word rows pending waiting idles late e (a_bundle y ys c l s f is) = short_turn rows pending waiting word y ys c e l s f
late_seen word rows pending waiting idles late e (a_plain l s is) = ap fails (plain_turn rows pending waiting word idles e l s) ∙ late

step_refused : (words : List Text) (word : Text) (rows : List Row) (pending : Pending) (waiting : Waiting) (is_trailing : Bool) → AgreeOn words
    → (is_option waiting && not is_trailing) ≡ false → fails (late_kinds rows pending) ≡ true → IsUtf8 word → (b : Bool) → is_dashes word ≡ b
    → Agrees (rows_from (walk_at rows pending waiting is_trailing) (word ∷ words)) (given_from refused words)
step_refused words word rows pending waiting true others idles late utf8 b e =
    agree_none words (stops (walk_at rows pending waiting true) word words (ap fails (name_turn rows pending waiting word) ∙ late)) refl
step_refused words word rows pending waiting false others idles late utf8 true e =
    agree_by words (goes _ _ word words (dashes_turn rows pending waiting word e) (dashes_walked rows pending waiting word e)) refl
    (others refused rows pending waiting true (and_none (is_option waiting), late))
  where
    and_none : (b : Bool) → (b && false) ≡ false
    and_none true = refl
    and_none false = refl
step_refused words word rows pending waiting false others idles late utf8 false e =
    agree_none words (stops (walk_at rows pending waiting false) word words (late_seen word rows pending waiting (and_all (is_option waiting) idles) late e (seen word utf8))) refl
  where
    and_all : (b : Bool) → (b && true) ≡ false → b ≡ false
    and_all true h = h
    and_all false h = h

step : (words : List Text) (word : Text) → AgreeOn words → IsUtf8 word → AgreeOn (word ∷ words)
step words word others utf8 (between g) rows pending waiting is_trailing h =
    rw h.1 (step_between words word rows pending waiting g others h.0 h.2 utf8 (is_dashes word) refl)
step words word others utf8 (awaits is_watch g) rows pending waiting is_trailing h =
    rw (h.0, h.1, h.2) (step_awaits words is_watch word rows g others h.3 utf8 (is_dashes word) refl)
step words word others utf8 (names g) rows pending waiting is_trailing h = rw h.0 (step_names words word rows pending waiting g others h.1)
step words word others utf8 refused rows pending waiting is_trailing h = step_refused words word rows pending waiting is_trailing others h.0 h.1 utf8 (is_dashes word) refl

-- ---- all the words

ends : AgreeOn []
ends (between g) rows pending waiting is_trailing h = subst (λ (kinds : Kinds). Agrees (none_if kinds (Some (settled_rows arguments pending rows))) (Some g)) (sym h.2.0) h.2.1
ends (awaits true g) rows pending waiting is_trailing h = rw h.2 tt
ends (awaits false g) rows pending waiting is_trailing h = rw h.2 tt
ends (names g) rows pending waiting is_trailing h = subst (λ (kinds : Kinds). Agrees (none_if kinds (Some (settled_rows arguments pending rows))) (Some g)) (sym h.1.0) h.1.1
ends refused rows pending waiting is_trailing h = go (late_kinds rows pending) h.1
  where
    go : (kinds : Kinds) → fails kinds ≡ true → Agrees (none_if kinds (Some (settled_rows arguments pending rows))) None
    go [] bad = cc
    go (k ∷ ks) e = tt

abbrev pub AreUtf8 : List Text → Type 0
AreUtf8 [] = Unit {0}
AreUtf8 (word ∷ words) = IsUtf8 word × AreUtf8 words

pub agree_on : (words : List Text) → AreUtf8 words → AgreeOn words
agree_on [] utf8 = ends
agree_on (word ∷ words) utf8 = step words word (agree_on words utf8.1) utf8.0
