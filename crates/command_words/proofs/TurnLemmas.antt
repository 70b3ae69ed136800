-- One word of the walk.
use Rattle.std.proofs.Common.{◌≡◌, refl, ℕ, Bool, true, false, List, [], ◌∷◌, Option, Some, None, codes}
use Rattle.std.specs.Prelude.{slice_get}
use Rattle.std.specs.Str.{bytes_eq, chars}
use Rattle.clap.specs.Faults.{flags_fault, use_fault}
use Rattle.clap.specs.Kinds.{or_else}
use Rattle.clap.specs.Lexer.{long_of, short_of}
use Rattle.clap.specs.Walk.{Row, Text, Waiting, idle, option, positional, arg_by_long, settled_rows, used, walked}
use Rattle.command_words.specs.Given.{is_dashes}
use Rattle.command_words.proofs.Walking.{Pending, arguments, fails, id_of, is_option, late_kinds, option_rule, turn_kinds, walk_at}

-- ---- `--`

pub dashes_turn : (rows : List Row) (pending : Pending) (waiting : Waiting) (word : Text) → is_dashes word ≡ true
    → turn_kinds (walk_at rows pending waiting false) word ≡ []
dashes_turn rows pending idle word e = simp e refl
dashes_turn rows pending (option id) word e = simp e refl
dashes_turn rows pending positional word e = simp e refl

pub dashes_walked : (rows : List Row) (pending : Pending) (waiting : Waiting) (word : Text) → is_dashes word ≡ true
    → walked arguments [] (walk_at rows pending waiting false) word ≡ walk_at rows pending waiting true
unfolding walked
dashes_walked rows pending idle word e = simp e refl
dashes_walked rows pending (option id) word e = simp e refl
dashes_walked rows pending positional word e = simp e refl

-- ---- long words

pub known_watch : (name : Text) → bytes_eq (codes "watch") name ≡ true → arg_by_long arguments name ≡ Some (option_rule true)
known_watch name e = simp e refl

pub known_generate : (name : Text) → bytes_eq (codes "watch") name ≡ false → bytes_eq (codes "generate") name ≡ true → arg_by_long arguments name ≡ Some (option_rule false)
known_generate name e f = simp (e, f) refl

pub known_none : (name : Text) → bytes_eq (codes "watch") name ≡ false → bytes_eq (codes "generate") name ≡ false → arg_by_long arguments name ≡ None
known_none name e f = simp (e, f) refl

pub none_turn : (rows : List Row) (pending : Pending) (waiting : Waiting) (word name : Text) (value : Option Text) → is_dashes word ≡ false → long_of word ≡ Some (name, value)
    → arg_by_long arguments name ≡ None → fails (turn_kinds (walk_at rows pending waiting false) word) ≡ true
none_turn rows pending idle word name value e l a = simp (e, l, a) refl
none_turn rows pending (option id) word name value e l a = simp (e, l, a) refl
none_turn rows pending positional word name value e l a = simp (e, l, a) refl

pub awaiting_turn : (is_watch : Bool) (rows : List Row) (pending : Pending) (waiting : Waiting) (word name : Text) → is_dashes word ≡ false → long_of word ≡ Some (name, None)
    → arg_by_long arguments name ≡ Some (option_rule is_watch) → turn_kinds (walk_at rows pending waiting false) word ≡ or_else (late_kinds rows pending) []
awaiting_turn true rows pending idle word name e l a = simp (e, l, a) refl
awaiting_turn true rows pending (option id) word name e l a = simp (e, l, a) refl
awaiting_turn true rows pending positional word name e l a = simp (e, l, a) refl
awaiting_turn false rows pending idle word name e l a = simp (e, l, a) refl
awaiting_turn false rows pending (option id) word name e l a = simp (e, l, a) refl
awaiting_turn false rows pending positional word name e l a = simp (e, l, a) refl

pub awaiting_walked : (is_watch : Bool) (rows : List Row) (pending : Pending) (waiting : Waiting) (word name : Text) → is_dashes word ≡ false → long_of word ≡ Some (name, None)
    → arg_by_long arguments name ≡ Some (option_rule is_watch)
    → walked arguments [] (walk_at rows pending waiting false) word ≡ walk_at (settled_rows arguments pending rows) (Some (id_of is_watch, [])) (option (id_of is_watch)) false
unfolding walked
awaiting_walked true rows pending idle word name e l a = simp (e, l, a) refl
awaiting_walked true rows pending (option id) word name e l a = simp (e, l, a) refl
awaiting_walked true rows pending positional word name e l a = simp (e, l, a) refl
awaiting_walked false rows pending idle word name e l a = simp (e, l, a) refl
awaiting_walked false rows pending (option id) word name e l a = simp (e, l, a) refl
awaiting_walked false rows pending positional word name e l a = simp (e, l, a) refl

pub valued_turn : (is_watch : Bool) (rows : List Row) (pending : Pending) (waiting : Waiting) (word name text : Text) → is_dashes word ≡ false → long_of word ≡ Some (name, Some text)
    → arg_by_long arguments name ≡ Some (option_rule is_watch)
    → turn_kinds (walk_at rows pending waiting false) word ≡ or_else (or_else (late_kinds rows pending) (use_fault false (option_rule is_watch) (text ∷ []) (settled_rows arguments pending rows))) []
valued_turn true rows pending idle word name text e l a = simp (e, l, a) refl
valued_turn true rows pending (option id) word name text e l a = simp (e, l, a) refl
valued_turn true rows pending positional word name text e l a = simp (e, l, a) refl
valued_turn false rows pending idle word name text e l a = simp (e, l, a) refl
valued_turn false rows pending (option id) word name text e l a = simp (e, l, a) refl
valued_turn false rows pending positional word name text e l a = simp (e, l, a) refl

pub valued_walked : (is_watch : Bool) (rows : List Row) (pending : Pending) (waiting : Waiting) (word name text : Text) → is_dashes word ≡ false → long_of word ≡ Some (name, Some text)
    → arg_by_long arguments name ≡ Some (option_rule is_watch)
    → walked arguments [] (walk_at rows pending waiting false) word ≡ walk_at (used (option_rule is_watch) (text ∷ []) (settled_rows arguments pending rows)) None idle false
unfolding walked
valued_walked true rows pending idle word name text e l a = simp (e, l, a) refl
valued_walked true rows pending (option id) word name text e l a = simp (e, l, a) refl
valued_walked true rows pending positional word name text e l a = simp (e, l, a) refl
valued_walked false rows pending idle word name text e l a = simp (e, l, a) refl
valued_walked false rows pending (option id) word name text e l a = simp (e, l, a) refl
valued_walked false rows pending positional word name text e l a = simp (e, l, a) refl

-- ---- short words

pub short_turn : (rows : List Row) (pending : Pending) (waiting : Waiting) (word : Text) (y : ℕ) (ys : Text) (c : ℕ) → is_dashes word ≡ false → long_of word ≡ None
    → short_of word ≡ Some (y ∷ ys) → slice_get (chars (y ∷ ys)) 0 ≡ Some c → fails (turn_kinds (walk_at rows pending waiting false) word) ≡ true
unfolding flags_fault
short_turn rows pending idle word y ys c e l s f = simp (e, l, s, f) refl
short_turn rows pending (option id) word y ys c e l s f = simp (e, l, s, f) refl
short_turn rows pending positional word y ys c e l s f = simp (e, l, s, f) refl

-- ---- plain words

pub plain_turn : (rows : List Row) (pending : Pending) (waiting : Waiting) (word : Text) → is_option waiting ≡ false → is_dashes word ≡ false → long_of word ≡ None → short_of word ≡ None
    → turn_kinds (walk_at rows pending waiting false) word ≡ late_kinds rows pending
plain_turn rows None idle word n e l s = simp (e, l, s) refl
plain_turn rows None positional word n e l s = simp (e, l, s) refl
plain_turn rows None (option id) word n e l s = cc
plain_turn rows (Some p) idle word n e l s = go (bytes_eq p.0 (codes "file")) refl
  where
    go : (b : Bool) → bytes_eq p.0 (codes "file") ≡ b → turn_kinds (walk_at rows (Some p) idle false) word ≡ late_kinds rows (Some p)
    go true f = simp (e, l, s, f) refl
    go false f = simp (e, l, s, f) refl
plain_turn rows (Some p) positional word n e l s = go (bytes_eq p.0 (codes "file")) refl
  where
    go : (b : Bool) → bytes_eq p.0 (codes "file") ≡ b → turn_kinds (walk_at rows (Some p) positional false) word ≡ late_kinds rows (Some p)
    go true f = simp (e, l, s, f) refl
    go false f = simp (e, l, s, f) refl
plain_turn rows (Some p) (option id) word n e l s = cc

pub plain_walked : (rows : List Row) (pending : Pending) (waiting : Waiting) (word : Text) → is_option waiting ≡ false → is_dashes word ≡ false → long_of word ≡ None → short_of word ≡ None
    → walked arguments [] (walk_at rows pending waiting false) word ≡ walk_at (settled_rows arguments pending rows) (Some (codes "file", word ∷ [])) positional false
unfolding walked
plain_walked rows None idle word n e l s = simp (e, l, s) refl
plain_walked rows None positional word n e l s = simp (e, l, s) refl
plain_walked rows None (option id) word n e l s = cc
plain_walked rows (Some p) idle word n e l s = go (bytes_eq p.0 (codes "file")) refl
  where
    go : (b : Bool) → bytes_eq p.0 (codes "file") ≡ b
        → walked arguments [] (walk_at rows (Some p) idle false) word ≡ walk_at (settled_rows arguments (Some p) rows) (Some (codes "file", word ∷ [])) positional false
    go true f = simp (e, l, s, f) refl
    go false f = simp (e, l, s, f) refl
plain_walked rows (Some p) positional word n e l s = go (bytes_eq p.0 (codes "file")) refl
  where
    go : (b : Bool) → bytes_eq p.0 (codes "file") ≡ b
        → walked arguments [] (walk_at rows (Some p) positional false) word ≡ walk_at (settled_rows arguments (Some p) rows) (Some (codes "file", word ∷ [])) positional false
    go true f = simp (e, l, s, f) refl
    go false f = simp (e, l, s, f) refl
plain_walked rows (Some p) (option id) word n e l s = cc

-- a value of the option that waits
pub value_turn : (is_watch : Bool) (rows : List Row) (word : Text) → is_dashes word ≡ false → long_of word ≡ None → short_of word ≡ None
    → turn_kinds (walk_at rows (Some (id_of is_watch, [])) (option (id_of is_watch)) false) word ≡ []
value_turn true rows word e l s = simp (e, l, s) refl
value_turn false rows word e l s = simp (e, l, s) refl

pub value_walked : (is_watch : Bool) (rows : List Row) (word : Text) → is_dashes word ≡ false → long_of word ≡ None → short_of word ≡ None
    → walked arguments [] (walk_at rows (Some (id_of is_watch, [])) (option (id_of is_watch)) false) word ≡ walk_at rows (Some (id_of is_watch, word ∷ [])) idle false
unfolding walked
value_walked true rows word e l s = simp (e, l, s) refl
value_walked false rows word e l s = simp (e, l, s) refl

-- ---- words behind `--`

pub name_turn : (rows : List Row) (pending : Pending) (waiting : Waiting) (word : Text) → turn_kinds (walk_at rows pending waiting true) word ≡ late_kinds rows pending
name_turn rows None waiting word = refl
name_turn rows (Some p) waiting word = go (bytes_eq p.0 (codes "file")) refl
  where
    go : (b : Bool) → bytes_eq p.0 (codes "file") ≡ b → turn_kinds (walk_at rows (Some p) waiting true) word ≡ late_kinds rows (Some p)
    go true f = simp f refl
    go false f = simp f refl

pub name_walked : (rows : List Row) (pending : Pending) (waiting : Waiting) (word : Text)
    → walked arguments [] (walk_at rows pending waiting true) word ≡ walk_at (settled_rows arguments pending rows) (Some (codes "file", word ∷ [])) positional true
unfolding walked
name_walked rows None waiting word = refl
name_walked rows (Some p) waiting word = go (bytes_eq p.0 (codes "file")) refl
  where
    go : (b : Bool) → bytes_eq p.0 (codes "file") ≡ b
        → walked arguments [] (walk_at rows (Some p) waiting true) word ≡ walk_at (settled_rows arguments (Some p) rows) (Some (codes "file", word ∷ [])) positional true
    go true f = simp f refl
    go false f = simp f refl
