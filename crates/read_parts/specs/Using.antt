-- The words of the variables of a text, as the expansion keeps them.
use Rattle.std.specs.Prelude.{◌≡◌, ℕ, Bool, true, ◌&&◌, List, filter}
use Rattle.std.specs.List.{list_all}
use Rattle.soar_sym.specs.Words.{Texts, text_of}
use Rattle.defs_read.specs.FreshNames.{has_name}
use Rattle.read_parts.specs.Words.{are_words_known, is_own, texts_of, begins_dollar}
use Rattle.read_parts.specs.declared.uses.Uses.{Uses}

-- a word that is found by its text, which is one of these
abbrev pub is_variable : Texts → List ℕ → ℕ → Bool
is_variable words used w = is_own words w && has_name (texts_of words used) (text_of words w)

pub record AreUses (words : Texts) (uses : Uses) : Type 0 where
  pub variables : list_all (is_variable words uses.used) uses.variables.keys ≡ true
  pub known : are_words_known words uses.used ≡ true
  pub dollars : uses.dollars ≡ filter (λ w. begins_dollar (text_of words w)) uses.used
