-- A rule under the next number, behind those that do not have its name.
use Rattle.std.proofs.Common.{◌≡◌, ℕ, suc, ◌+◌, ◌<◌, false, not, List, [], ◌∷◌, ◌++◌, map, Ok, refl, sym, ap, subst, ◌∙◌, arith}
use Rattle.std.specs.List.{list_any}
use Rattle.std.proofs.lemmas.List.{map-append}
use Rattle.soar_sym.specs.declared.symbol.Sym.{Sym}
use Rattle.soar_rule.specs.Productions.{ProductionOf}
use Rattle.defs_match.specs.Contents.{is_numbered, with_rule}
use Rattle.defs_match.specs.Rules.{RuleOf, rule_seen}
use Rattle.defs_match.specs.declared.rule.Rule.{Rule}
use Rattle.defs_soar.specs.declared.limit.Which.TheVariants as which
use Rattle.defs_soar.specs.Agents.{Agent}
use Rattle.defs_soar.specs.History.{RecordedFiring}
use Rattle.defs_soar.specs.Limits.{counts_to}
use Rattle.defs_run.specs.Carrying.{is_named}
use Rattle.rule_shelf.specs.Shelf.{AreBelow}
use Rattle.decision_parts.specs.Hands.{learned_rule_seen}
use Rattle.decision_parts.specs.LearnedRule.{LearnedRule}
use Rattle.decision_parts.specs.Counting.{Counts}
use Rattle.decision_parts.specs.Seen.{AreUpTo, IsSound, Stepped, agent_of}
use Rattle.decision_parts.specs.Stands.{Stands}
use Rattle.decision_parts.specs.Parts.{Parts as PartsKept}
use Rattle.decision_parts.proofs.LimitLemmas.{passed_later, passes_not}
use Rattle.decision_parts.proofs.StandsLemmas.{of_each_state, remembers_same, stands_for}
use Rattle.cycle_parts.specs.Calls.{load_step}
use Rattle.cycle_parts.specs.Dropping.{AreDropped, unnamed, unnamed_chains}
use Rattle.cycle_parts.proofs.NumberLemmas.{none_numbered, with_last_rule}
use Rattle.cycle_parts.proofs.RuleLemmas.{up_to_filter}
use Rattle.cycle_parts.proofs.SteppingLemmas.{stepped_at}

kept_given : (a : PartsKept) (rules : List Rule) (name : Sym) → IsSound a → map rule_seen rules ≡ unnamed name (map rule_seen a.rules) → AreUpTo a.last_rule (map rule_seen rules)
kept_given a rules name sound are = subst (AreUpTo a.last_rule) (sym are) (up_to_filter (λ rule. not (is_named name rule)) a.last_rule (map rule_seen a.rules) sound.numbers_given)

pub number_is_new : (a : PartsKept) (rules : List Rule) (name : Sym) (number : ℕ) → IsSound a → map rule_seen rules ≡ unnamed name (map rule_seen a.rules) → number ≡ a.last_rule + 1
    → list_any (is_numbered number) (map rule_seen rules) ≡ false
number_is_new a rules name number sound are next = none_numbered a.last_rule number (map rule_seen rules) (kept_given a rules name sound are) (omega arith)

-- the matcher puts it where the agent does
below_given : (last number : ℕ) (rules : List RuleOf) → AreUpTo last rules → last < number → AreBelow number rules
below_given last number [] given less = tt
below_given last number (rule ∷ rules) given less = (omega (arith, given.0, less), below_given last number rules given.1 less)

pub number_is_last : (a : PartsKept) (rules : List Rule) (name : Sym) (number : ℕ) → IsSound a → map rule_seen rules ≡ unnamed name (map rule_seen a.rules) → number ≡ a.last_rule + 1
    → AreBelow number (map rule_seen rules)
number_is_last a rules name number sound are next = below_given a.last_rule number (map rule_seen rules) (kept_given a rules name sound are) (omega arith)

pub joins_last : (a : PartsKept) (rules more : List Rule) (rule : Rule) (name : Sym) → IsSound a → map rule_seen rules ≡ unnamed name (map rule_seen a.rules) → rule.number ≡ a.last_rule + 1 → more ≡ rules ++ rule ∷ []
    → with_rule (map rule_seen rules) (rule_seen rule) ≡ map rule_seen more
joins_last a rules more rule name sound are next pushed =
    with_last_rule a.last_rule (map rule_seen rules) (rule_seen rule) (kept_given a rules name sound are) (omega arith)
    ∙ sym (ap (map rule_seen) pushed ∙ map-append rule_seen rules (rule ∷ []))

pub more_rules : (rules more : List Rule) (rule : Rule) (kept : List RuleOf) → map rule_seen rules ≡ kept → more ≡ rules ++ rule ∷ [] → map rule_seen more ≡ kept ++ rule_seen rule ∷ []
more_rules rules more rule kept are pushed = ap (map rule_seen) pushed ∙ map-append rule_seen rules (rule ∷ []) ∙ ap (λ (first : List RuleOf). first ++ rule_seen rule ∷ []) are

-- ---- the parts

abbrev pub loaded_parts : PartsKept → List Rule → ℕ → List LearnedRule → PartsKept
loaded_parts a rules number chains = record a { rules = rules; last_rule = number; chains = chains }

-- once the rules of the name went
pub loaded_from : (a dropped : PartsKept) (name : Sym) (rules : List Rule) (number : ℕ) → AreDropped a dropped name
    → record dropped { rules = rules; last_rule = number } ≡ loaded_parts a rules number dropped.chains
loaded_from a dropped name rules number is = ap (λ (p : PartsKept). record p { rules = rules; last_rule = number }) is.same

-- ---- the state afterwards

loaded_is : (a : PartsKept) (rules : List Rule) (number : ℕ) (chains : List LearnedRule) (production : ProductionOf) (history : List RecordedFiring) → number ≡ suc a.last_rule
    → map rule_seen rules ≡ unnamed production.name (map rule_seen a.rules) ++ record { number = number; production = production } ∷ []
    → map learned_rule_seen chains ≡ unnamed_chains production.name (map rule_seen a.rules) (map learned_rule_seen a.chains)
    → agent_of (loaded_parts a rules number chains) history ≡ (load_step production (agent_of a history)).agent
loaded_is a rules number chains production history next are chains_are =
    let kept = unnamed production.name (map rule_seen a.rules) in
    let there : map rule_seen rules ≡ kept ++ record { number = suc a.last_rule; production = production } ∷ [] = are ∙ ap (λ n. kept ++ record { number = n; production = production } ∷ []) next in
    λ k. record (agent_of a history) { program = record (agent_of a history).program { rules = there k; last_rule = next k; chains = chains_are k } }

pub loads : (a : PartsKept) (rules : List Rule) (number : ℕ) (chains : List LearnedRule) (production : ProductionOf) → Counts (a.last_rule + 1) (Ok number)
    → map rule_seen rules ≡ unnamed production.name (map rule_seen a.rules) ++ record { number = number; production = production } ∷ []
    → map learned_rule_seen chains ≡ unnamed_chains production.name (map rule_seen a.rules) (map learned_rule_seen a.chains)
    → (s : Agent) → Stands a s → Stepped (loaded_parts a rules number chains) (load_step production s)
loads a rules number chains production counted are chains_are =
    let next : number ≡ suc a.last_rule = omega (arith, counted.0) in
    of_each_state (λ (s : Agent). Stepped (loaded_parts a rules number chains) (load_step production s)) a (λ history remembers.
    stepped_at (loaded_parts a rules number chains) (load_step production (agent_of a history)) refl
    (stands_for (loaded_parts a rules number chains) history (load_step production (agent_of a history)).agent
    (remembers_same a (loaded_parts a rules number chains) history refl refl refl refl refl refl refl remembers) (loaded_is a rules number chains production history next are chains_are))
    (passed_later (counts_to (suc a.last_rule)) [] (passes_not (suc a.last_rule) which.Counts (omega (arith, counted.1)))))
