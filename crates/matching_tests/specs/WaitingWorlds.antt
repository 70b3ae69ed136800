-- What a matcher was told.
use Rattle.std.specs.Prelude.{◌≡◌, ℕ, Bool, false, ◌==◌, List}
use Rattle.std.specs.List.{list_any}
use Rattle.soar_wm.specs.declared.element.Element.{Element}
use Rattle.soar_wm.specs.WorkingMemory.{IsLawful, WorkingMemory}
use Rattle.defs_match.specs.Contents.{is_numbered}
use Rattle.defs_match.specs.Rules.{RuleOf}

-- the rules have these numbers
abbrev pub AreNumbered : List RuleOf → List ℕ → Type 0
AreNumbered rules numbers = (number : ℕ) → list_any (is_numbered number) rules ≡ list_any (λ n. n == number) numbers

-- A matcher with these rules and elements works, and was told of this memory and of the rules of these numbers.
pub record AreTold (failed : Bool) (rules : List RuleOf) (elements : List Element) (memory : WorkingMemory) (numbers : List ℕ) : Type 0 where
  pub works : failed ≡ false
  pub elements_are : elements ≡ memory.elements
  pub lawful : IsLawful memory
  pub numbers_are : AreNumbered rules numbers
