-- How a command is read, by its word.
use Rattle.std.proofs.Common.{◌≡◌, ℕ, ◌∙◌, Bool, true, false, List, Option, Some, None, Err, refl, sym, ap}
use Rattle.std.specs.Prelude.{if◌then◌else◌, codes, option_map}
use Rattle.std.specs.Str.{bytes_eq}
use Rattle.soar_sym.specs.Words.{Texts}
use Rattle.defs_text.specs.Lexing.{lexed}
use Rattle.defs_run.specs.CommandForms.{Form, forms, form_in}
use Rattle.defs_run.specs.Commands.{first_run}
use Rattle.defs_run.specs.Orders.{unknown_command}
use Rattle.defs_run.specs.RandomReading.{random_lexed, random_order}
use Rattle.defs_run.specs.Stages.{Reading}
use Rattle.defs_run.specs.WholeReading.{by_form, checked, read_arguments, read_source, read_sp, read_whole}
use Rattle.command_orders.specs.Asked.{FormOf}

-- what is read by three tests, one after the other
abbrev picked : Reading → Reading → Reading → Reading → Bool → Bool → Bool → Reading
picked sp source random other a b c = if a then sp else if b then source else if c then random else other

abbrev read_random : Texts → List ℕ → Reading
read_random words text = read_arguments words text (random_lexed 0 0 text) (λ read. random_order)

-- the reading of a command by its word
abbrev read_by : Texts → List ℕ → List ℕ → Bool → Bool → Bool → Reading
read_by words text word = picked (read_sp checked words text) (read_source words text) (read_random words text) (by_form words text (form_in forms word))

at_word : (words : Texts) (text word : List ℕ) → word ≡ first_run text
    → read_whole words text ≡ read_by words text word (bytes_eq word (codes "sp")) (bytes_eq word (codes "source")) (bytes_eq word (codes "random"))
unfolding read_whole
at_word words text word is = ap (λ w. read_by words text w (bytes_eq w (codes "sp")) (bytes_eq w (codes "source")) (bytes_eq w (codes "random"))) (sym is)

-- `sp`
pub production_read_by : (words : Texts) (text word : List ℕ) → word ≡ first_run text → true ≡ bytes_eq word (codes "sp") → read_whole words text ≡ read_sp checked words text
production_read_by words text word is sp =
    at_word words text word is ∙ ap (λ a. read_by words text word a (bytes_eq word (codes "source")) (bytes_eq word (codes "random"))) (sym sp)

-- `source`
pub file_read_by : (words : Texts) (text word : List ℕ) → word ≡ first_run text → false ≡ bytes_eq word (codes "sp") → true ≡ bytes_eq word (codes "source")
    → read_whole words text ≡ read_source words text
file_read_by words text word is sp source =
    at_word words text word is
    ∙ (ap (λ a. read_by words text word a (bytes_eq word (codes "source")) (bytes_eq word (codes "random"))) (sym sp)
    ∙ ap (λ b. read_by words text word false b (bytes_eq word (codes "random"))) (sym source))

-- another word
past_files : (words : Texts) (text word : List ℕ) → word ≡ first_run text → false ≡ bytes_eq word (codes "sp") → false ≡ bytes_eq word (codes "source")
    → read_whole words text ≡ read_by words text word false false (bytes_eq word (codes "random"))
past_files words text word is sp source =
    at_word words text word is
    ∙ (ap (λ a. read_by words text word a (bytes_eq word (codes "source")) (bytes_eq word (codes "random"))) (sym sp)
    ∙ ap (λ b. read_by words text word false b (bytes_eq word (codes "random"))) (sym source))

-- `random`
pub random_read_by : (words : Texts) (text word : List ℕ) → word ≡ first_run text → false ≡ bytes_eq word (codes "sp") → false ≡ bytes_eq word (codes "source")
    → true ≡ bytes_eq word (codes "random") → read_whole words text ≡ read_random words text
random_read_by words text word is sp source random =
    past_files words text word is sp source ∙ ap (λ c. read_by words text word false false c) (sym random)

-- what is read by what a form asks for
abbrev read_by_order : Texts → List ℕ → Option FormOf → Reading
read_by_order words text None = record { words = words; order = Err unknown_command }
read_by_order words text (Some f) = read_arguments words text (lexed text) f

by_its_order : (words : Texts) (text : List ℕ) (form : Option Form) → by_form words text form ≡ read_by_order words text (option_map (λ f. f.order) form)
by_its_order words text None = refl
by_its_order words text (Some f) = refl

formed : (words : Texts) (text word : List ℕ) (order : Option FormOf) → word ≡ first_run text → false ≡ bytes_eq word (codes "sp") → false ≡ bytes_eq word (codes "source")
    → false ≡ bytes_eq word (codes "random") → order ≡ option_map (λ f. f.order) (form_in forms word) → read_whole words text ≡ read_by_order words text order
formed words text word order is sp source random asks =
    past_files words text word is sp source
    ∙ (ap (λ c. read_by words text word false false c) (sym random)
    ∙ (by_its_order words text (form_in forms word) ∙ ap (read_by_order words text) (sym asks)))

-- the word of a form
pub form_read_by : (words : Texts) (text word : List ℕ) (f : FormOf) → word ≡ first_run text → false ≡ bytes_eq word (codes "sp") → false ≡ bytes_eq word (codes "source")
    → false ≡ bytes_eq word (codes "random") → Some f ≡ option_map (λ f. f.order) (form_in forms word) → read_whole words text ≡ read_arguments words text (lexed text) f
form_read_by words text word f is sp source random asks = formed words text word (Some f) is sp source random asks

-- a word of none
pub unknown_read_by : (words : Texts) (text word : List ℕ) → word ≡ first_run text → false ≡ bytes_eq word (codes "sp") → false ≡ bytes_eq word (codes "source")
    → false ≡ bytes_eq word (codes "random") → None ≡ option_map (λ f. f.order) (form_in forms word) → read_whole words text ≡ record { words = words; order = Err unknown_command }
unknown_read_by words text word is sp source random asks = formed words text word None is sp source random asks
