-- What a matcher was told.
use Rattle.std.specs.Prelude.{◌≡◌, ℕ, Bool, false, ◌==◌, List, map}
use Rattle.std.specs.List.{list_any}
use Rattle.soar_wm.specs.declared.element.Element.{Element}
use Rattle.soar_wm.specs.WorkingMemory.{IsLawful, WorkingMemory}
use Rattle.defs_match.specs.Contents.{is_numbered}
use Rattle.defs_match.specs.Rules.{RuleOf}
use Rattle.rete_net.specs.Chains.{rule_of}
use Rattle.rete_net.specs.Nets.{NetOf}

-- the rules have these numbers
abbrev pub AreNumbered : List RuleOf → List ℕ → Type 0
AreNumbered rules numbers = (number : ℕ) → list_any (is_numbered number) rules ≡ list_any (λ n. n == number) numbers

-- A matcher with these rules and elements works, and was told of this memory and of the rules of these numbers.
pub record AreTold (failed : Bool) (rules : List RuleOf) (elements : List Element) (memory : WorkingMemory) (numbers : List ℕ) : Type 0 where
  pub works : failed ≡ false
  pub elements_are : elements ≡ memory.elements
  pub lawful : IsLawful memory
  pub numbers_are : AreNumbered rules numbers

-- A network has the same rules and elements, and works or not as before.
pub record SameContents (old new : NetOf) : Type 0 where
  pub failed : new.failed ≡ old.failed
  pub rules : map rule_of new.chains ≡ map rule_of old.chains
  pub elements : new.elements ≡ old.elements
