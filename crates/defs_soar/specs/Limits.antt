-- Limits: a step raises totals. The first total above its limit ends the program.
--
-- In which order a run meets them, here once for all steps.
--   A command: the words that it brings.
--   The input phase: how many cycles there were, then working memory.
--   A wave: how many waves, how many retractions; then what its firings need, one by one, each beginning with its own number; then what
--   learning needs, one explanation after the other (variables' names, the number and the text of the rule's name, the rule, its firing);
--   then preference memory while rejects have not yet taken rows out; then working memory.
--   A decision: the substate's identifier, then working memory.
-- Of working memory the elements come before the tags, and goals have gone by then.
use Rattle.std.specs.Prelude.{ℕ, nat_lt, List, [], ◌∷◌, ◌++◌, Option, Some, None, if◌then◌else◌, codes}
use Rattle.std.specs.Fmt.{decimal}
use Rattle.defs_soar.specs.declared.limit.Which.{Which}
use Rattle.defs_soar.specs.declared.limit.Which.TheVariants as which

-- what a step adds to, with the number that it comes to by that
pub data Total : Type 0 where
  identifiers_to words_to preferences_to elements_to tags_to counts_to : ℕ → Total

abbrev pub limit_of : Which → ℕ
limit_of which.Identifiers = 4294967295
limit_of which.Words = 4294967295
limit_of which.Preferences = 1000000
limit_of which.Elements = 4000000
limit_of which.Tags = 4294967295
limit_of which.Counts = 18446744073709551615

abbrev pub limit_passed : ℕ → Which → Option Which
limit_passed number limit = if nat_lt (limit_of limit) number then Some limit else None

abbrev pub passed_by : Total → Option Which
passed_by (identifiers_to n) = limit_passed n which.Identifiers
passed_by (words_to n) = limit_passed n which.Words
passed_by (preferences_to n) = limit_passed n which.Preferences
passed_by (elements_to n) = limit_passed n which.Elements
passed_by (tags_to n) = limit_passed n which.Tags
passed_by (counts_to n) = limit_passed n which.Counts

abbrev pub or_limit : Option Which → Option Which → Option Which
or_limit (Some limit) other = Some limit
or_limit None other = other

-- the limit that a step limit_passed first
abbrev pub first_passed : List Total → Option Which
first_passed [] = None
first_passed (d ∷ totals) = or_limit (passed_by d) (first_passed totals)

abbrev pub name_of : Which → List ℕ
name_of which.Identifiers = codes "identifiers"
name_of which.Words = codes "words"
name_of which.Preferences = codes "preferences"
name_of which.Elements = codes "elements"
name_of which.Tags = codes "tags"
name_of which.Counts = codes "counts"

-- `limit WHICH NUMBER`
abbrev pub limit_text : Which → List ℕ
limit_text limit = codes "limit " ++ (name_of limit ++ (32 ∷ decimal (limit_of limit)))
