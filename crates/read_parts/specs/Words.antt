-- Words that a table has.
use Rattle.std.specs.Prelude.{ℕ, Bool, false, ◌==◌, ◌&&◌, nat_lt, List, [], ◌∷◌, map, length, Option, Some, None}
use Rattle.std.specs.List.{list_all}
use Rattle.soar_sym.specs.Words.{Texts, text_of, place_of}

abbrev pub has_word : Texts → ℕ → Bool
has_word words w = nat_lt w (length words)

abbrev pub are_words_known : Texts → List ℕ → Bool
are_words_known words list = list_all (has_word words) list

abbrev pub is_at : ℕ → Option ℕ → Bool
is_at w None = false
is_at w (Some n) = w == n

-- the word is found by its text
abbrev pub is_own : Texts → ℕ → Bool
is_own words w = has_word words w && is_at w (place_of words (text_of words w))

abbrev pub texts_of : Texts → List ℕ → Texts
texts_of words list = map (text_of words) list

-- the text begins with `$`, as those of new names
abbrev pub begins_dollar : List ℕ → Bool
begins_dollar [] = false
begins_dollar (b ∷ bytes) = b == 36
