-- Rules, instances and rows whose words are in the table, also in a longer table, and in shorter lists. Crates above cite this file.
use Rattle.std.proofs.Common.{◌≡◌, ◌<◌, ◌≤◌, ℕ, ◌+◌, Bool, true, false, cond, List, [], ◌∷◌, ◌++◌, length, drop, get_or, refl, subst, ◌∙◌, add-one, drop-cons, arith}
use Rattle.soar_sym.specs.Words.{Texts, IsKnown}
use Rattle.soar_sym.specs.declared.symbol.Sym.{Sym}
use Rattle.soar_sym.specs.declared.symbol.Sym.TheVariants.{Ident, Word, Int}
use Rattle.soar_rule.specs.Symbols.{AreKnown, symbols_of}
use Rattle.soar_rule.specs.Variables.{bound_variables}
use Rattle.defs_match.specs.Contents.{is_numbered}
use Rattle.defs_match.specs.Rules.{RuleOf}
use Rattle.defs_match.specs.declared.instance.Instance.{Instance}
use Rattle.defs_soar.specs.declared.goal.Goal.{Goal}
use Rattle.defs_soar.specs.declared.preference.Preference.{Preference}
use Rattle.defs_soar.specs.Dependencies.{symbols_of_wish}
use Rattle.defs_soar.specs.Goals.{goal_ids}
use Rattle.pending_work.specs.Firables.{rules_of, AreBound, IsBoundBy, IsInstance}
use Rattle.soar_settle.specs.Known.{AreInstancesKnown, AreRowsKnown, AreRulesKnown}
use Rattle.wave_firings.specs.FiringOutcome.{KnowsGoals, KnowsInstances, KnowsRules}

-- ---- a longer table

pub known_grown : (old new : Texts) (s : Sym) → length old ≤ length new → IsKnown old s → IsKnown new s
known_grown old new (Ident letter number) grown h = h
known_grown old new (Word n) grown h = omega arith
known_grown old new (Int z) grown h = tt

pub are_known_grown : (old new : Texts) (xs : List Sym) → length old ≤ length new → AreKnown old xs → AreKnown new xs
are_known_grown old new [] grown h = tt
are_known_grown old new (x ∷ xs) grown h = (known_grown old new x grown h.0, are_known_grown old new xs grown h.1)

pub are_rules_grown : (old new : Texts) (rules : List RuleOf) → length old ≤ length new → AreRulesKnown old rules → AreRulesKnown new rules
are_rules_grown old new [] grown h = tt
are_rules_grown old new (rule ∷ rules) grown h = (are_known_grown old new (symbols_of rule.production) grown h.0, are_rules_grown old new rules grown h.1)

are_instances_grown : (old new : Texts) (instances : List Instance) → length old ≤ length new → AreInstancesKnown old instances → AreInstancesKnown new instances
are_instances_grown old new [] grown h = tt
are_instances_grown old new (i ∷ instances) grown h = (are_known_grown old new i.binds grown h.0, are_instances_grown old new instances grown h.1)

pub are_rows_grown : (old new : Texts) (rows : List Preference) → length old ≤ length new → AreRowsKnown old rows → AreRowsKnown new rows
are_rows_grown old new [] grown h = tt
are_rows_grown old new (row ∷ rows) grown h = (are_known_grown old new (symbols_of_wish row.wish) grown h.0, are_rows_grown old new rows grown h.1)

pub rules_grown : (old new : Texts) (rules : List RuleOf) → KnowsRules old rules → length old ≤ length new → KnowsRules new rules
rules_grown old new rules h grown = record { are_known = are_rules_grown old new rules grown h.are_known }

pub instances_grown : (old new : Texts) (instances : List Instance) → KnowsInstances old instances → length old ≤ length new → KnowsInstances new instances
instances_grown old new instances h grown = record { are_known = are_instances_grown old new instances grown h.are_known }

pub goals_grown : (old new : Texts) (goals : List Goal) → KnowsGoals old goals → length old ≤ length new → KnowsGoals new goals
goals_grown old new goals h grown = record { are_known = are_known_grown old new (goal_ids goals) grown h.are_known; are_few = h.are_few }

-- ---- rows in turn

pub are_rows_append : (words : Texts) (rows more : List Preference) → AreRowsKnown words rows → AreRowsKnown words more → AreRowsKnown words (rows ++ more)
are_rows_append words [] more h k = k
are_rows_append words (row ∷ rows) more h k = (h.0, are_rows_append words rows more h.1 k)

-- ---- the instance at hand, and those behind it

pub next_instance : (instances : List Instance) (i : ℕ) (x : Instance) → i < length instances → x ≡ get_or instances i x → drop i instances ≡ x ∷ drop (i + 1) instances
next_instance instances i x within at = drop-cons instances i x within ∙ rw (← at, add-one i) refl

pub instance_bound : (rules : List RuleOf) (instances : List Instance) (i : ℕ) (x : Instance) → AreBound rules (drop i instances) → i < length instances → x ≡ get_or instances i x
    → IsInstance rules x × AreBound rules (drop (i + 1) instances)
instance_bound rules instances i x h within at = subst (AreBound rules) (next_instance instances i x within at) h

pub instance_known : (words : Texts) (instances : List Instance) (i : ℕ) (x : Instance) → KnowsInstances words (drop i instances) → i < length instances → x ≡ get_or instances i x
    → AreKnown words x.binds × AreInstancesKnown words (drop (i + 1) instances)
instance_known words instances i x h within at = subst (AreInstancesKnown words) (next_instance instances i x within at) h.are_known

-- ---- the rule at hand

are_rules_of : (words : Texts) (rules : List RuleOf) (number : ℕ) → AreRulesKnown words rules → AreRulesKnown words (rules_of rules number)
are_rules_of words [] number h = tt
are_rules_of words (rule ∷ rules) number h = by (is_numbered number rule) (are_rules_of words rules number h.1)
  where
    by : (b : Bool) → AreRulesKnown words (rules_of rules number) → AreRulesKnown words (cond b (rule ∷ rules_of rules number) (rules_of rules number))
    by true later = (h.0, later)
    by false later = later

pub rule_known : (words : Texts) (rules : List RuleOf) (number : ℕ) (rule : RuleOf) → KnowsRules words rules → rules_of rules number ≡ rule ∷ [] → AreKnown words (symbols_of rule.production)
rule_known words rules number rule h is = (subst (AreRulesKnown words) is (are_rules_of words rules number h.are_known)).0

pub rule_bound : (rules : List RuleOf) (i : Instance) (rule : RuleOf) → IsInstance rules i → rules_of rules i.rule ≡ rule ∷ [] → length i.binds ≡ length (bound_variables rule.production.conditions)
rule_bound rules i rule h is = (subst (IsBoundBy i) is h.bound).0
