-- The rule of a name is alone under its number.
use Rattle.std.proofs.Common.{◌≡◌, ℕ, ◌<◌, Bool, true, false, List, [], ◌∷◌, Option, Some, None, ◌||◌, is_some, refl, subst, ◌∙◌}
use Rattle.std.specs.List.{list_any}
use Rattle.std.specs.Prelude.{if◌then◌else◌}
use Rattle.soar_sym.specs.declared.symbol.Sym.{Sym}
use Rattle.defs_match.specs.Rules.{RuleOf}
use Rattle.defs_run.specs.Carrying.{is_named, rule_named}
use Rattle.defs_run.specs.Inputs.{Carried}
use Rattle.soar_cycle.specs.Firables.{AreNumbered, IsBelowRules, rules_of}
use Rattle.soar_cycle.proofs.RuleLemmas.{later_number, own_number}

below_named : (n : ℕ) (rules : List RuleOf) (name : Sym) (found : RuleOf) → IsBelowRules n rules → rule_named rules name ≡ Some found → n < found.number
below_named n [] name found below is = absurd (cc)
below_named n (rule ∷ rules) name found below is = by (is_named name rule) is (below_named n rules name found below.1)
  where
    by : (b : Bool) → (if b then Some rule else rule_named rules name) ≡ Some found → (rule_named rules name ≡ Some found → n < found.number) → n < found.number
    by true is later = let same : rule ≡ found = cc in subst (λ (r : RuleOf). n < r.number) same below.0
    by false is later = later is

pub alone_named : (rules : List RuleOf) (name : Sym) (found : RuleOf) → AreNumbered rules → rule_named rules name ≡ Some found → rules_of rules found.number ≡ found ∷ []
alone_named [] name found numbered is = absurd (cc)
alone_named (rule ∷ rules) name found numbered is = by (is_named name rule) is (alone_named rules name found numbered.1)
  where
    by : (b : Bool) → (if b then Some rule else rule_named rules name) ≡ Some found → (rule_named rules name ≡ Some found → rules_of rules found.number ≡ found ∷ [])
        → rules_of (rule ∷ rules) found.number ≡ found ∷ []
    by true is later = let same : rule ≡ found = cc in subst (λ (r : RuleOf). rules_of (rule ∷ rules) r.number ≡ r ∷ []) same (own_number rule rules numbered.0)
    by false is later = later_number rule rules found.number (below_named rule.number rules name found numbered.0 is) ∙ later is

-- ---- whether a rule is there

pub any_named : (name : Sym) (rules : List RuleOf) → is_some (rule_named rules name) ≡ list_any (is_named name) rules
any_named name [] = refl
any_named name (rule ∷ rules) = by (is_named name rule) (any_named name rules)
  where
    by : (b : Bool) → is_some (rule_named rules name) ≡ list_any (is_named name) rules → is_some (if b then Some rule else rule_named rules name) ≡ (b || list_any (is_named name) rules)
    by true later = refl
    by false later = later

pub if_there : (o : Option RuleOf) (there missing : Carried) → elim o as (λ _. Carried) [ None ↦ missing | Some rule ↦ there ] ≡ (if is_some o then there else missing)
if_there None there missing = refl
if_there (Some rule) there missing = refl
