-- The instances of one production, out of a conflict set.
use Rattle.std.specs.Prelude.{◌≡◌, ℕ, Bool, ◌==◌, List, [], ◌∷◌, filter, map}
use Rattle.soar_sym.specs.Words.{Texts}
use Rattle.defs_text.specs.Symbols.{instance_text}
use Rattle.defs_match.specs.Conflict.{conflict}
use Rattle.defs_match.specs.Contents.{is_numbered}
use Rattle.defs_match.specs.Rules.{RuleOf}
use Rattle.defs_match.specs.declared.instance.Instance.{Instance}
use Rattle.defs_soar.specs.Agents.{Agent}
use Rattle.defs_run.specs.Listing.{no_matches, or_text}

-- the instance is of the rule of a number
abbrev pub is_of : ℕ → Instance → Bool
is_of number i = i.rule == number

abbrev pub matches_of : ℕ → List Instance → List Instance
matches_of number instances = filter (is_of number) instances

abbrev pub match_line : Texts → RuleOf → Instance → List ℕ
match_line words rule i = instance_text words rule.production.name i.tags

-- those of these instances that are of the rule
abbrev pub rule_match_lines : Texts → RuleOf → List Instance → List (List ℕ)
rule_match_lines words rule instances = or_text no_matches (map (match_line words rule) (matches_of rule.number instances))

-- an agent over these words has the rule, alone under its number, and among these are all its instances
pub record HasMatches (a : Agent) (words : Texts) (rule : RuleOf) (instances : List Instance) : Type 0 where
  pub words_are : a.names.words ≡ words
  pub alone : filter (is_numbered rule.number) a.program.rules ≡ rule ∷ []
  pub all : matches_of rule.number instances ≡ matches_of rule.number (conflict a.program.rules a.holding.elements)
