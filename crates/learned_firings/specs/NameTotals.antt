-- The numbers in the names of learned rules, and what a name comes to.
use Rattle.std.specs.Prelude.{ℕ, suc, List, [], ◌∷◌, length}
use Rattle.soar_sym.specs.Words.{Texts, with_text}
use Rattle.defs_match.specs.Rules.{RuleOf}
use Rattle.defs_soar.specs.LearnedRules.{free_number, learned_name}
use Rattle.defs_soar.specs.Limits.{Total, counts_to, words_to}

-- what a name comes to
abbrev pub totals_of_name : Texts → List ℕ → ℕ → List Total
totals_of_name words front number = counts_to number ∷ words_to (length (with_text words (learned_name front number))) ∷ []

-- the next number whose name no rule has, behind the last one
abbrev pub number_after : Texts → List RuleOf → List ℕ → ℕ → ℕ
number_after words rules front last = free_number (length rules) words rules front (suc last)
