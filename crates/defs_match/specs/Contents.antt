-- What a matcher holds: rules by number and elements by tag, and what each call changes.
use Rattle.std.specs.Prelude.{◌≡◌, ℕ, Bool, true, false, ◌==◌, nat_lt, not, List, [], ◌∷◌, filter, Option, Some, None, if◌then◌else◌}
use Rattle.std.specs.List.{list_any}
use Rattle.soar_rule.specs.AsItStands.{can_be_matched}
use Rattle.soar_wm.specs.declared.element.Element.{Element}
use Rattle.soar_wm.specs.WorkingMemory.{has_tag, has_triple, triple_of}
use Rattle.defs_match.specs.Rules.{RuleOf}

-- one element more, at the place of its tag
abbrev pub with_element : List Element → Element → List Element
with_element [] e = e ∷ []
with_element (f ∷ elements) e = if nat_lt e.tag f.tag then e ∷ f ∷ elements else f ∷ with_element elements e

-- one rule more, at the place of its number
abbrev pub with_rule : List RuleOf → RuleOf → List RuleOf
with_rule [] r = r ∷ []
with_rule (q ∷ rules) r = if nat_lt r.number q.number then r ∷ q ∷ rules else q ∷ with_rule rules r

abbrev pub is_numbered : ℕ → RuleOf → Bool
is_numbered number rule = rule.number == number

-- the first rule of a number
abbrev pub rule_numbered : ℕ → List RuleOf → Option RuleOf
rule_numbered number [] = None
rule_numbered number (rule ∷ rules) = if is_numbered number rule then Some rule else rule_numbered number rules

abbrev pub without_rule : List RuleOf → ℕ → List RuleOf
without_rule rules number = filter (λ rule. not (is_numbered number rule)) rules

-- neither the tag nor the triple is there
pub record IsNewElement (elements : List Element) (e : Element) : Type 0 where
  pub new_tag : list_any (has_tag e.tag) elements ≡ false
  pub new_triple : list_any (has_triple (triple_of e)) elements ≡ false

abbrev pub HasTag : List Element → ℕ → Type 0
HasTag elements tag = list_any (has_tag tag) elements ≡ true

-- the number is not there, and the conditions can be matched as they stand
pub record IsNewRule (rules : List RuleOf) (r : RuleOf) : Type 0 where
  pub new_number : list_any (is_numbered r.number) rules ≡ false
  pub matchable : can_be_matched r.production ≡ true

abbrev pub HasRule : List RuleOf → ℕ → Type 0
HasRule rules number = list_any (is_numbered number) rules ≡ true

-- memory was refused neither before a call nor in it
pub record Works (before after : Bool) : Type 0 where
  pub worked : before ≡ false
  pub works : after ≡ false
