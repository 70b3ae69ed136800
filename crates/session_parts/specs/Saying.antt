-- Lines that are said.
use Rattle.std.specs.Prelude.{◌≡◌, ℕ, Bool, List, ◌++◌, map}
use Rattle.soar_sym.specs.Words.{Texts}
use Rattle.defs_text.specs.Symbols.{instance_text}
use Rattle.defs_match.specs.Rules.{RuleOf}
use Rattle.defs_match.specs.declared.instance.Instance.{Instance}
use Rattle.defs_soar.specs.Trace.{rendered}
use Rattle.defs_run.specs.Listing.{no_matches, or_text, rule_name}
use Rattle.defs_run.specs.Sessions.{as_lines}

-- the lines were appended, behind text that ended in the middle of a line or not, and so does the text now
abbrev pub Says : List (List ℕ) → Bool → List ℕ → Bool → List ℕ → Type 0
Says lines mid before new_mid after =
    (after ≡ before ++ (rendered 1 mid (as_lines lines)).text) × (new_mid ≡ (rendered 1 mid (as_lines lines)).mid_line)

abbrev pub instance_line : Texts → List RuleOf → Instance → List ℕ
instance_line words rules i = instance_text words (rule_name rules i.rule) i.tags

-- the lines of a conflict set
abbrev pub match_lines : Texts → List RuleOf → List Instance → List (List ℕ)
match_lines words rules instances = or_text no_matches (map (instance_line words rules) instances)
