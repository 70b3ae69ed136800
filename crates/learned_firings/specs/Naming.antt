-- The names of learned rules.
use Rattle.std.specs.Prelude.{◌≡◌, ℕ, true, false, List, [], ◌∷◌, length, Option, None, Some, Result, Ok, Err}
use Rattle.soar_sym.specs.Words.{Texts, with_text}
use Rattle.soar_sym.specs.declared.symbol.Sym.{Sym}
use Rattle.defs_match.specs.Rules.{RuleOf}
use Rattle.defs_text.specs.Numbered.{word_in}
use Rattle.defs_soar.specs.LearnedRules.{is_loaded, learned_name}
use Rattle.defs_soar.specs.Limits.{words_to, first_passed}
use Rattle.soar_settle.specs.declared.stop.Stop.{Stop}
use Rattle.soar_settle.specs.declared.stop.Stop.TheVariants as stop
use Rattle.learned_firings.specs.NameTotals.{number_after, totals_of_name}
use Rattle.learned_firings.specs.declared.names.LearnedName.{LearnedName}

-- the text is in the table, and that is its word
abbrev pub Spells : Texts → List ℕ → Texts → Result Sym Stop → Type 0
Spells words text after (Ok s) = (after ≡ with_text words text) × (s ≡ word_in after text) × (first_passed (words_to (length (with_text words text)) ∷ []) ≡ None)
Spells words text after (Err (stop.Limit limit)) = first_passed (words_to (length (with_text words text)) ∷ []) ≡ Some limit
Spells words text after (Err stop.NoMemory) = Unit {0}

-- the name of this number, in the table after it
pub record IsNamed (words : Texts) (front : List ℕ) (number : ℕ) (after : Texts) (it : LearnedName) : Type 0 where
  pub number_is : it.number ≡ number
  pub words_are : after ≡ with_text words (learned_name front number)
  pub name_is : it.name ≡ word_in after (learned_name front number)
  pub within : first_passed (totals_of_name words front number) ≡ None

abbrev pub IsName : Texts → List ℕ → ℕ → Texts → Result LearnedName Stop → Type 0
IsName words front number after (Ok it) = IsNamed words front number after it
IsName words front number after (Err (stop.Limit limit)) = first_passed (totals_of_name words front number) ≡ Some limit
IsName words front number after (Err stop.NoMemory) = Unit {0}

-- the name of this number, where no rule has it
abbrev pub Tries : Texts → List RuleOf → List ℕ → ℕ → Texts → Result (Option LearnedName) Stop → Type 0
Tries words rules front number after (Ok None) = (after ≡ words) × (is_loaded words rules (learned_name front number) ≡ true)
Tries words rules front number after (Ok (Some it)) = (is_loaded words rules (learned_name front number) ≡ false) × IsNamed words front number after it
Tries words rules front number after (Err (stop.Limit limit)) =
    (is_loaded words rules (learned_name front number) ≡ false) × (first_passed (totals_of_name words front number) ≡ Some limit)
Tries words rules front number after (Err stop.NoMemory) = Unit {0}

abbrev pub Names : Texts → List RuleOf → List ℕ → ℕ → Texts → Result LearnedName Stop → Type 0
Names words rules front last after result = IsName words front (number_after words rules front last) after result
