-- Tokens with the words of a table, and what they spell.
use Rattle.std.proofs.Common.{◌≡◌, ℕ, ◌==◌, List, [], ◌∷◌, length, map, refl, ap, ap₂, ◌∙◌}
use Rattle.std.proofs.lemmas.List.{length-map}
use Rattle.std.specs.Prelude.{if◌then◌else◌}
use Rattle.soar_sym.specs.Words.{Texts}
use Rattle.defs_text.specs.Lexing.{Saying, mark, arrow, open_set, close_set, sign, variable_named, integer, word_of, documentation, Spelled}
use Rattle.defs_text.specs.Numbered.{kind_in, numbered}
use Rattle.defs_read.specs.ActionExpansion.{actions_of}
use Rattle.defs_read.specs.ConditionExpansion.{parts_conditions}
use Rattle.defs_read.specs.Expansion.{names_in, production_of}
use Rattle.defs_read.specs.Grammar.{Tree, part_and}
use Rattle.defs_read.specs.Sayings.{saying_of, sayings}
use Rattle.defs_run.specs.WholeReading.{place_left}
use Rattle.soar_lex.specs.Answers.{Grown}
use Rattle.soar_lex.proofs.WordLemmas.{grown_all}
use Rattle.soar_read.specs.Answers.{place_left as place_behind}
use Rattle.command_orders.specs.Known.{IsSayingIn, AreSpelledIn}
use Rattle.command_orders.proofs.WordLemmas.{text_in}

saying_is : (words : Texts) (says : Saying) → IsSayingIn words says → saying_of words (kind_in words says) ≡ says
saying_is words (mark b) has = refl
saying_is words arrow has = refl
saying_is words open_set has = refl
saying_is words close_set has = refl
saying_is words (sign n) has = refl
saying_is words (variable_named name) has = ap variable_named (text_in words name has)
saying_is words (integer z) has = refl
saying_is words (word_of text bare) has = ap (λ t. word_of t bare) (text_in words text has)
saying_is words (documentation text) has = refl

-- tokens say what was spelled
pub sayings_are : (words : Texts) (spelled : List Spelled) → AreSpelledIn words spelled → sayings words (map (numbered words) spelled) ≡ map (λ t. t.says) spelled
sayings_are words [] have = refl
sayings_are words (t ∷ spelled) have = ap₂ (λ s ss. s ∷ ss) (saying_is words t.says have.0) (sayings_are words spelled have.1)

-- and stand where it stands
pub place_same : (words : Texts) (behind : ℕ) (spelled : List Spelled) (left : ℕ) → place_behind behind (map (numbered words) spelled) left ≡ place_left behind spelled left
place_same words behind [] left = refl
place_same words behind (t ∷ spelled) left =
    ap (λ n. if n == left then t.start else place_behind t.end (map (numbered words) spelled) left) (length-map (t ∷ spelled) (numbered words))
    ∙ ap (λ place. if length (t ∷ spelled) == left then t.start else place) (place_same words t.end spelled left)

-- the variables of a production join the table
pub production_grown : (words : Texts) (tokens : List Saying) (tree : Tree) → Grown words (production_of words tokens tree).words
unfolding production_of
production_grown words tokens tree =
    let conditions = parts_conditions (part_and tree.part tree.parts) words (record { used = names_in tokens; names = []; fresh = []; next = 1 }) in
    grown_all words (actions_of words tree.actions conditions.names).names.fresh
