-- What clap finds, and the options that the words ask for.
use Rattle.std.proofs.Common.{◌≡◌, ◌∙◌, ap, refl, sym, ◌≢◌, false, List, [], ◌∷◌, Option, Some, None, unwrap_or, codes, map, string_bytes}
use Rattle.std.specs.Prelude.{String, option_and_then, option_map, slice_get}
use Rattle.std.specs.List.{find}
use Rattle.std.specs.Str.{bytes_eq}
use Rattle.std.proofs.lemmas.Str.{IsUtf8-string_bytes}
use Rattle.clap.specs.Matches.{first_value, matched_of, raw_values}
use Rattle.clap.specs.Walk.{Row, Text, all_of, first_of, idle, rows_of}
use Rattle.clap.specs.Words.{Kinds, fault_of, matches_of}
use Rattle.clap.specs.declared.parser.matches.Found.{Found}
use Rattle.clap.proofs.WalkLemmas.{first_value-rows, raw_values-rows}
use Rattle.defs_run.specs.CommandLine.{no_options, options_from}
use Rattle.command_words.specs.Command.{none_if, rows_found, words_command}
use Rattle.command_words.specs.Given.{Given, between, given_in, nothing_given, numbers_read}
use Rattle.command_words.proofs.Walking.{Agrees, Tells}
use Rattle.command_words.proofs.AgreeLemmas.{AreUtf8, agree_on}
use Rattle.command_words.proofs.FaultLemmas.{clap_rows}
use Rattle.command_words.proofs.NumberLemmas.{numbers_of_given}

-- a fault leaves no rows
pub refused_rows : (words : List Text) → fault_of words_command words ≢ [] → None ≡ rows_found words
refused_rows words some = go (fault_of words_command words) some
  where
    go : (kinds : Kinds) → kinds ≢ [] → None ≡ none_if kinds (Some (matches_of words_command words))
    go [] h = absurd (h refl)
    go (kind ∷ kinds) h = refl

pub taken_rows : (words : List Text) (rows : List Row) → fault_of words_command words ≡ [] → rows ≡ matches_of words_command words → Some rows ≡ rows_found words
taken_rows words rows none is = ap (λ (r : List Row). Some r) is ∙ ap (λ kinds. none_if kinds (Some (matches_of words_command words))) (sym none)

-- what the getters of the matches read
pub given_rows : (f : Found) → given_in (rows_of f) ≡ record {
  watch = first_value f (codes "watch");
  generate = first_value f (codes "generate");
  files = unwrap_or (option_map raw_values (matched_of f (codes "file"))) [];
}
given_rows f = rw (first_value-rows f (codes "watch"), first_value-rows f (codes "generate"), raw_values-rows f (codes "file")) refl

are_utf8 : {Z : Type 0} (words : List (String Z)) → AreUtf8 (map string_bytes words)
are_utf8 [] = tt
are_utf8 (word ∷ words) = (IsUtf8-string_bytes word, are_utf8 words)

first_of_all : (id : Text) (rows : List Row) (o : Option Text) → all_of id rows ≡ option_map (λ text. text ∷ []) o → first_of id rows ≡ o
first_of_all id rows o e = go (find (λ (r : Row). bytes_eq r.id id) rows) ∙ (ap (option_and_then (λ (texts : List Text). slice_get texts 0)) e ∙ back o)
  where
    go : (found : Option Row) → option_and_then (λ r. slice_get r.values 0) found ≡ option_and_then (λ (texts : List Text). slice_get texts 0) (option_map (λ r. r.values) found)
    go None = refl
    go (Some r) = refl

    back : (o : Option Text) → option_and_then (λ (texts : List Text). slice_get texts 0) (option_map (λ text. text ∷ []) o) ≡ o
    back None = refl
    back (Some text) = refl

tells_given : (rows : List Row) (g : Given) → Tells rows g → given_in rows ≡ g
tells_given rows g t =
    let watch = first_of_all (codes "watch") rows g.watch t.watch in
    let generate = first_of_all (codes "generate") rows g.generate t.generate in
    ap (λ (o : Option Text). record { watch = o; generate = first_of (codes "generate") rows; files = unwrap_or (all_of (codes "file") rows) [] }) watch
    ∙ (ap (λ (o : Option Text). record { watch = g.watch; generate = o; files = unwrap_or (all_of (codes "file") rows) [] }) generate
    ∙ ap (λ (all : List Text). record { watch = g.watch; generate = g.generate; files = all }) t.files)

agree_given : (t : Option (List Row)) (q : Option Given) → Agrees t q → option_map given_in t ≡ q
agree_given None None h = refl
agree_given (Some rows) (Some g) h = ap (λ (x : Given). Some x) (tells_given rows g h)
agree_given None (Some g) h = elim h [ ]
agree_given (Some rows) None h = elim h [ ]

-- the numbers of what clap finds are the options that the words ask for
options_found : {Z : Type 0} (words : List (String Z))
    → option_and_then numbers_read (option_map given_in (rows_found (map string_bytes words))) ≡ options_from no_options (map string_bytes words)
options_found words =
    let texts = map string_bytes words in
    let agree = agree_on texts (are_utf8 words) (between nothing_given) [] None idle false (refl, refl, (refl, record { watch = refl; generate = refl; files = refl })) in
    ap (λ rows. option_and_then numbers_read (option_map given_in rows)) (clap_rows texts)
    ∙ (ap (option_and_then numbers_read) (agree_given _ _ agree) ∙ numbers_of_given texts (between nothing_given))

pub some_options : {Z : Type 0} (words : List (String Z)) (rows : List Row) → Some rows ≡ rows_found (map string_bytes words)
    → numbers_read (given_in rows) ≡ options_from no_options (map string_bytes words)
some_options words rows e = ap (λ found. option_and_then numbers_read (option_map given_in found)) e ∙ options_found words

pub no_options_found : {Z : Type 0} (words : List (String Z)) → None ≡ rows_found (map string_bytes words) → None ≡ options_from no_options (map string_bytes words)
no_options_found words e = ap (λ found. option_and_then numbers_read (option_map given_in found)) e ∙ options_found words
