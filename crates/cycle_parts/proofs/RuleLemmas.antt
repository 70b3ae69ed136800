-- What is known of rules stays so with some less, or one more.
use Rattle.std.proofs.Common.{ℕ, ◌<◌, Bool, true, false, cond, List, [], ◌∷◌, ◌++◌, filter, arith}
use Rattle.soar_sym.specs.Words.{Texts}
use Rattle.soar_rule.specs.Symbols.{AreKnown, symbols_of}
use Rattle.defs_match.specs.Rules.{RuleOf}
use Rattle.soar_settle.specs.Known.{AreRulesKnown}
use Rattle.pending_work.specs.Firables.{IsBelowRules, AreNumbered}
use Rattle.decision_parts.specs.Seen.{AreUpTo}

-- ---- a rule less

below_filter : (p : RuleOf → Bool) (number : ℕ) (rules : List RuleOf) → IsBelowRules number rules → IsBelowRules number (filter p rules)
below_filter p number [] below = tt
below_filter p number (rule ∷ rules) below = by (p rule) (below_filter p number rules below.1)
  where
    by : (b : Bool) → IsBelowRules number (filter p rules) → IsBelowRules number (cond b (rule ∷ filter p rules) (filter p rules))
    by true later = (below.0, later)
    by false later = later

pub numbered_filter : (p : RuleOf → Bool) (rules : List RuleOf) → AreNumbered rules → AreNumbered (filter p rules)
numbered_filter p [] numbered = tt
numbered_filter p (rule ∷ rules) numbered = by (p rule) (numbered_filter p rules numbered.1)
  where
    by : (b : Bool) → AreNumbered (filter p rules) → AreNumbered (cond b (rule ∷ filter p rules) (filter p rules))
    by true later = (below_filter p rule.number rules numbered.0, later)
    by false later = later

pub up_to_filter : (p : RuleOf → Bool) (last : ℕ) (rules : List RuleOf) → AreUpTo last rules → AreUpTo last (filter p rules)
up_to_filter p last [] given = tt
up_to_filter p last (rule ∷ rules) given = by (p rule) (up_to_filter p last rules given.1)
  where
    by : (b : Bool) → AreUpTo last (filter p rules) → AreUpTo last (cond b (rule ∷ filter p rules) (filter p rules))
    by true later = (given.0, later)
    by false later = later

pub rules_filter : (p : RuleOf → Bool) (words : Texts) (rules : List RuleOf) → AreRulesKnown words rules → AreRulesKnown words (filter p rules)
rules_filter p words [] known = tt
rules_filter p words (rule ∷ rules) known = by (p rule) (rules_filter p words rules known.1)
  where
    by : (b : Bool) → AreRulesKnown words (filter p rules) → AreRulesKnown words (cond b (rule ∷ filter p rules) (filter p rules))
    by true later = (known.0, later)
    by false later = later

-- ---- a rule more

below_last : (number : ℕ) (rules : List RuleOf) (rule : RuleOf) → IsBelowRules number rules → number < rule.number → IsBelowRules number (rules ++ rule ∷ [])
below_last number [] rule below less = (less, tt)
below_last number (first ∷ rules) rule below less = (below.0, below_last number rules rule below.1 less)

pub numbered_last : (last : ℕ) (rules : List RuleOf) (rule : RuleOf) → AreNumbered rules → AreUpTo last rules → last < rule.number → AreNumbered (rules ++ rule ∷ [])
numbered_last last [] rule numbered given less = (tt, tt)
numbered_last last (first ∷ rules) rule numbered given less =
    (below_last first.number rules rule numbered.0 (omega (arith, given.0, less)), numbered_last last rules rule numbered.1 given.1 less)

pub up_to_last : (last : ℕ) (rules : List RuleOf) (rule : RuleOf) → AreUpTo last rules → last < rule.number → AreUpTo rule.number (rules ++ rule ∷ [])
up_to_last last [] rule given less = (omega arith, tt)
up_to_last last (first ∷ rules) rule given less = (omega (arith, given.0, less), up_to_last last rules rule given.1 less)

pub rules_last : (words : Texts) (rules : List RuleOf) (rule : RuleOf) → AreRulesKnown words rules → AreKnown words (symbols_of rule.production) → AreRulesKnown words (rules ++ rule ∷ [])
rules_last words [] rule known one = (one, tt)
rules_last words (first ∷ rules) rule known one = (known.0, rules_last words rules rule known.1 one)
