-- Parts of a production's text.
use Rattle.std.specs.Prelude.{ℕ, List, [], ◌∷◌, ◌++◌, codes, map}
use Rattle.soar_rule.specs.declared.cond.Cond.{Cond}
use Rattle.soar_rule.specs.declared.cond.Test.{Test}
use Rattle.soar_rule.specs.Conditions.{condition}
use Rattle.defs_read.specs.Printing.{indented, lines_text}
use Rattle.defs_read.specs.PrintingConditions.{Naming, condition_text, id_test_text, test_text}
use Rattle.soar_show.specs.declared.fields.Place.{Place}
use Rattle.soar_show.specs.declared.fields.Place.TheVariants.{Front, Behind}

-- a test at its place: the word `state` stands in bars in front
abbrev pub placed_text : Place → Naming → Test → List ℕ
placed_text Front n t = id_test_text n t
placed_text Behind n t = test_text n t

-- conditions, the first behind a gap and each other behind a blank
abbrev pub with_gaps : List ℕ → List Cond → Naming → List ℕ
with_gaps gap [] n = []
with_gaps gap (c ∷ cs) n = gap ++ (condition_text (condition c) n ++ with_gaps (codes " ") cs n)

-- inner lines as they are written
abbrev pub inner_text : List (List ℕ) → List ℕ
inner_text lines = lines_text (map indented lines)
