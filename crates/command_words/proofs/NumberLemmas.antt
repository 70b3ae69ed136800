-- The texts that are given, and the options that their numbers make.
use Rattle.std.proofs.Common.{◌≡◌, ◌∙◌, ap, refl, sym, ℕ, Bool, true, false, List, [], ◌∷◌, ◌++◌, Option, Some, None, append_assoc, append-nil}
use Rattle.std.specs.Prelude.{if◌then◌else◌, option_and_then, option_map}
use Rattle.clap.specs.Walk.{Text}
use Rattle.defs_run.specs.CommandLine.{Options, number_between, options_from, value_from, with_file, with_files, with_generate, with_watch}
use Rattle.command_words.specs.Given.{Given, Look, State, flag, unknown, plain, between, awaits, names, refused, after_look, awaited, given_from, given_generate, given_option, given_watch, is_dashes, look_at, next_state, number_in, numbers_read, with_numbers}
use Rattle.command_words.proofs.LookLemmas.{by_look, dashes_begin, flag_begins, goes_on, is_plain, no_number, options_by, with_option}

-- what the words from here on make of what was given
abbrev pub numbers_after : State → List Text → Option Options
numbers_after (between g) words = option_and_then (λ o. options_from o words) (numbers_read g)
numbers_after (awaits is_watch g) words = option_and_then (λ o. value_from is_watch o words) (numbers_read g)
numbers_after (names g) words = option_map (λ o. with_files o words) (numbers_read g)
numbers_after refused words = None

first_watch : (words files : List Text) (n : Option ℕ) (count : Option (Option ℕ))
    → option_and_then (λ o. goes_on words (with_watch o n)) (with_numbers files (Some None) count) ≡ option_and_then (λ o. options_from o words) (with_numbers files (option_map Some n) count)
first_watch words files None None = refl
first_watch words files None (Some k) = refl
first_watch words files (Some m) None = refl
first_watch words files (Some m) (Some k) = refl

second_watch : (words files : List Text) (m n : Option ℕ) (count : Option (Option ℕ))
    → option_and_then (λ o. goes_on words (with_watch o n)) (with_numbers files (option_map Some m) count) ≡ None
second_watch words files None n count = refl
second_watch words files (Some m) n None = refl
second_watch words files (Some m) None (Some k) = refl
second_watch words files (Some m) (Some n) (Some k) = refl

first_generate : (words files : List Text) (n : Option ℕ) (level : Option (Option ℕ))
    → option_and_then (λ o. goes_on words (with_generate o n)) (with_numbers files level (Some None)) ≡ option_and_then (λ o. options_from o words) (with_numbers files level (option_map Some n))
first_generate words files n None = refl
first_generate words files None (Some k) = refl
first_generate words files (Some m) (Some k) = refl

second_generate : (words files : List Text) (m n : Option ℕ) (level : Option (Option ℕ))
    → option_and_then (λ o. goes_on words (with_generate o n)) (with_numbers files level (option_map Some m)) ≡ None
second_generate words files m n None = refl
second_generate words files None n (Some k) = refl
second_generate words files (Some m) None (Some k) = refl
second_generate words files (Some m) (Some n) (Some k) = refl

watch_read : (watch generate : Option Text) (files words : List Text) (text : Text)
    → option_and_then (λ o. goes_on words (with_watch o (number_between 0 5 text))) (with_numbers files (number_in 0 5 watch) (number_in 1 200000 generate))
    ≡ numbers_after (given_watch watch text (record { watch = watch; generate = generate; files = files })) words
watch_read None generate files words text = first_watch words files (number_between 0 5 text) (number_in 1 200000 generate)
watch_read (Some other) generate files words text = second_watch words files (number_between 0 5 other) (number_between 0 5 text) (number_in 1 200000 generate)

generate_read : (watch generate : Option Text) (files words : List Text) (text : Text)
    → option_and_then (λ o. goes_on words (with_generate o (number_between 1 200000 text))) (with_numbers files (number_in 0 5 watch) (number_in 1 200000 generate))
    ≡ numbers_after (given_generate generate text (record { watch = watch; generate = generate; files = files })) words
generate_read watch None files words text = first_generate words files (number_between 1 200000 text) (number_in 0 5 watch)
generate_read watch (Some other) files words text = second_generate words files (number_between 1 200000 other) (number_between 1 200000 text) (number_in 0 5 watch)

option_read : (is_watch : Bool) (g : Given) (text : Text) (words : List Text)
    → option_and_then (λ o. goes_on words (with_option is_watch text o)) (numbers_read g) ≡ numbers_after (given_option is_watch text g) words
option_read true g text words = watch_read g.watch g.generate g.files words text
option_read false g text words = generate_read g.watch g.generate g.files words text

-- one more file
file_read : (files words : List Text) (word : Text) (level count : Option (Option ℕ))
    → option_and_then (λ o. options_from (with_file o word) words) (with_numbers files level count)
    ≡ option_and_then (λ o. options_from o words) (with_numbers (files ++ word ∷ []) level count)
file_read files words word None count = refl
file_read files words word (Some level) None = refl
file_read files words word (Some level) (Some count) = refl

name_read : (files words : List Text) (word : Text) (level count : Option (Option ℕ))
    → option_map (λ o. with_files o (word ∷ words)) (with_numbers files level count)
    ≡ option_map (λ o. with_files o words) (with_numbers (files ++ word ∷ []) level count)
name_read files words word None count = refl
name_read files words word (Some level) None = refl
name_read files words word (Some level) (Some count) =
    ap (λ (all : List Text). Some (record { watch = level; generate = count; files = all })) (sym (append_assoc files (word ∷ []) words))

-- nothing comes of nothing
nothing_read : (q : Option Options) (f : Options → Option Options) → ((o : Options) → f o ≡ None) → option_and_then f q ≡ None
nothing_read None f h = refl
nothing_read (Some o) f h = h o

same_read : (q : Option Options) (f g : Options → Option Options) → ((o : Options) → f o ≡ g o) → option_and_then f q ≡ option_and_then g q
same_read None f g h = refl
same_read (Some o) f g h = h o

mapped : (q : Option Options) (f : Options → Options) → option_and_then (λ o. Some (f o)) q ≡ option_map f q
mapped None f = refl
mapped (Some o) f = refl

look_read : (look : Look) (g : Given) (word : Text) (words : List Text)
    → option_and_then (λ o. options_by look o word words) (numbers_read g) ≡ numbers_after (after_look look word g) words
look_read (flag is_watch None) g word words = refl
look_read (flag is_watch (Some text)) g word words = option_read is_watch g text words
look_read unknown g word words = nothing_read (numbers_read g) _ (λ o. refl)
look_read plain g word words = file_read g.files words word (number_in 0 5 g.watch) (number_in 1 200000 g.generate)

value_goes_on : (is_watch : Bool) (o : Options) (word : Text) (words : List Text) → value_from is_watch o (word ∷ words) ≡ goes_on words (with_option is_watch word o)
value_goes_on true o word words = go (with_watch o (number_between 0 5 word))
  where
    go : (q : Option Options) → elim q as (λ x. Option Options) [ None ↦ None | Some p ↦ options_from p words ] ≡ goes_on words q
    go None = refl
    go (Some p) = refl
value_goes_on false o word words = go (with_generate o (number_between 1 200000 word))
  where
    go : (q : Option Options) → elim q as (λ x. Option Options) [ None ↦ None | Some p ↦ options_from p words ] ≡ goes_on words q
    go None = refl
    go (Some p) = refl

no_option : (is_watch : Bool) (o : Options) (word : Text) (words : List Text) → number_between 0 5 word ≡ None → number_between 1 200000 word ≡ None
    → value_from is_watch o (word ∷ words) ≡ None
no_option true o word words level count = value_goes_on true o word words ∙ ap (λ n. goes_on words (with_watch o n)) level
no_option false o word words level count = value_goes_on false o word words ∙ ap (λ n. goes_on words (with_generate o n)) count

awaited_none : (is_watch : Bool) (q : Option Options) (word : Text) (words : List Text) → number_between 0 5 word ≡ None → number_between 1 200000 word ≡ None
    → option_and_then (λ o. value_from is_watch o (word ∷ words)) q ≡ None
awaited_none is_watch q word words level count = nothing_read q _ (λ o. no_option is_watch o word words level count)

-- the value of an option, by what it looks like
value_read : (look : Look) (is_watch : Bool) (g : Given) (word : Text) (words : List Text) → look_at word ≡ look
    → option_and_then (λ o. value_from is_watch o (word ∷ words)) (numbers_read g) ≡ numbers_after (awaited look is_watch word g) words
value_read plain is_watch g word words e =
    same_read (numbers_read g) (λ o. value_from is_watch o (word ∷ words)) (λ o. goes_on words (with_option is_watch word o)) (λ o. value_goes_on is_watch o word words) ∙ option_read is_watch g word words
value_read unknown is_watch g word words e =
    let begins = flag_begins word (ap is_plain e) in
    awaited_none is_watch (numbers_read g) word words (no_number 0 5 word begins) (no_number 1 200000 word begins)
value_read (flag other text) is_watch g word words e =
    let begins = flag_begins word (ap is_plain e) in
    awaited_none is_watch (numbers_read g) word words (no_number 0 5 word begins) (no_number 1 200000 word begins)

between_step : (g : Given) (word : Text) (words : List Text) (b : Bool) → is_dashes word ≡ b
    → numbers_after (between g) (word ∷ words) ≡ numbers_after (next_state (between g) word) words
between_step g word words true e = rw e (mapped (numbers_read g) (λ o. with_files o words))
between_step g word words false e =
    same_read (numbers_read g) (λ o. options_from o (word ∷ words)) (λ o. options_by (look_at word) o word words) (λ o. by_look word o words e)
    ∙ (look_read (look_at word) g word words ∙ ap (λ b. numbers_after (if b then names g else after_look (look_at word) word g) words) (sym e))

awaits_step : (is_watch : Bool) (g : Given) (word : Text) (words : List Text) (b : Bool) → is_dashes word ≡ b
    → numbers_after (awaits is_watch g) (word ∷ words) ≡ numbers_after (next_state (awaits is_watch g) word) words
awaits_step is_watch g word words true e =
    let begins = dashes_begin word e in
    rw e (awaited_none is_watch (numbers_read g) word words (no_number 0 5 word begins) (no_number 1 200000 word begins))
awaits_step is_watch g word words false e =
    value_read (look_at word) is_watch g word words refl ∙ ap (λ b. numbers_after (if b then refused else awaited (look_at word) is_watch word g) words) (sym e)

number_step : (s : State) (word : Text) (words : List Text) → numbers_after s (word ∷ words) ≡ numbers_after (next_state s word) words
number_step (between g) word words = between_step g word words (is_dashes word) refl
number_step (awaits is_watch g) word words = awaits_step is_watch g word words (is_dashes word) refl
number_step (names g) word words = name_read g.files words word (number_in 0 5 g.watch) (number_in 1 200000 g.generate)
number_step refused word words = refl

-- the numbers of what the words give are the options that they ask for
pub numbers_of_given : (words : List Text) (s : State) → option_and_then numbers_read (given_from s words) ≡ numbers_after s words
numbers_of_given [] (between g) = sym (whole (numbers_read g))
  where
    whole : (q : Option Options) → option_and_then (λ o. options_from o []) q ≡ q
    whole None = refl
    whole (Some o) = refl
numbers_of_given [] (awaits true g) = sym (nothing_read (numbers_read g) _ (λ o. refl))
numbers_of_given [] (awaits false g) = sym (nothing_read (numbers_read g) _ (λ o. refl))
numbers_of_given [] (names g) = sym (whole (numbers_read g))
  where
    whole : (q : Option Options) → option_map (λ o. with_files o []) q ≡ q
    whole None = refl
    whole (Some o) = ap (λ (all : List Text). Some (record o { files = all })) (append-nil o.files)
numbers_of_given [] refused = refl
numbers_of_given (word ∷ words) s = numbers_of_given words (next_state s word) ∙ sym (number_step s word words)
