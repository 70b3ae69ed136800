-- Names of rules, and the words of a rule.
use Rattle.std.proofs.Common.{◌≡◌, ℕ, ◌==◌, Bool, true, false, cond, List, [], ◌∷◌, None, Some, refl, ap, subst}
use Rattle.std.specs.Prelude.{if◌then◌else◌}
use Rattle.soar_sym.specs.Words.{Texts, IsKnown}
use Rattle.soar_sym.specs.declared.symbol.Sym.{Sym}
use Rattle.soar_rule.specs.Symbols.{AreKnown, symbols_of}
use Rattle.defs_match.specs.Contents.{is_numbered, rule_numbered}
use Rattle.defs_match.specs.Rules.{RuleOf}
use Rattle.defs_run.specs.Carrying.{is_named, rule_named}
use Rattle.defs_run.specs.Listing.{rule_name}
use Rattle.soar_settle.specs.Known.{AreRulesKnown}

-- the name of the rule of a number
pub name_known : (words : Texts) (rules : List RuleOf) (number : ℕ) → AreRulesKnown words rules → IsKnown words (rule_name rules number)
name_known words [] number known = tt
name_known words (rule ∷ rules) number known = by (rule.number == number) (name_known words rules number known.1)
  where
    by : (b : Bool) → IsKnown words (rule_name rules number) → IsKnown words (cond b rule.production.name (rule_name rules number))
    by true later = known.0.0
    by false later = later

-- the symbols of the rule of a name
pub named_known : (words : Texts) (rules : List RuleOf) (name : Sym) (found : RuleOf) → AreRulesKnown words rules → rule_named rules name ≡ Some found → AreKnown words (symbols_of found.production)
named_known words [] name found known is = absurd (cc)
named_known words (rule ∷ rules) name found known is = by (is_named name rule) is (named_known words rules name found known.1)
  where
    by : (b : Bool) → (if b then Some rule else rule_named rules name) ≡ Some found → (rule_named rules name ≡ Some found → AreKnown words (symbols_of found.production)) → AreKnown words (symbols_of found.production)
    by true is later = let same : rule ≡ found = cc in subst (λ (r : RuleOf). AreKnown words (symbols_of r.production)) same known.0
    by false is later = later is

-- ---- the name of a rule that is found by its number

pub name_found : (rules : List RuleOf) (number : ℕ) (rule : RuleOf) → Some rule ≡ rule_numbered number rules → rule.production.name ≡ rule_name rules number
name_found [] number rule is = absurd (cc)
name_found (first ∷ rules) number rule is = by (is_numbered number first) is (name_found rules number rule)
  where
    by : (b : Bool) → Some rule ≡ cond b (Some first) (rule_numbered number rules) → (Some rule ≡ rule_numbered number rules → rule.production.name ≡ rule_name rules number)
        → rule.production.name ≡ cond b first.production.name (rule_name rules number)
    by true e later = let same : rule ≡ first = cc in ap (λ (r : RuleOf). r.production.name) same
    by false e later = later e

pub no_name : (rules : List RuleOf) (number : ℕ) → None ≡ rule_numbered number rules → rule_name [] number ≡ rule_name rules number
no_name [] number is = refl
no_name (first ∷ rules) number is = by (is_numbered number first) is (no_name rules number)
  where
    by : (b : Bool) → None ≡ cond b (Some first) (rule_numbered number rules) → (None ≡ rule_numbered number rules → rule_name [] number ≡ rule_name rules number)
        → rule_name [] number ≡ cond b first.production.name (rule_name rules number)
    by true e later = absurd (cc)
    by false e later = later e
