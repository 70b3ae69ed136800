-- Parts without the rules of a name and their explanations stand for the state without its productions.
use Rattle.std.proofs.Common.{◌≡◌, List, refl, sym, ap, subst}
use Rattle.soar_sym.specs.declared.symbol.Sym.{Sym}
use Rattle.defs_match.specs.declared.rule.Rule.{Rule}
use Rattle.defs_soar.specs.Agents.{Agent}
use Rattle.defs_soar.specs.History.{RecordedFiring}
use Rattle.decision_parts.specs.LearnedRule.{LearnedRule}
use Rattle.decision_parts.specs.Seen.{agent_of}
use Rattle.decision_parts.specs.Stands.{Stands}
use Rattle.decision_parts.specs.Parts.{Parts as PartsKept}
use Rattle.decision_parts.proofs.StandsLemmas.{of_each_state, remembers_same, stands_for}
use Rattle.cycle_parts.specs.Calls.{excised_agent}
use Rattle.cycle_parts.specs.Dropping.{AreDropped}

abbrev with_rules : PartsKept → List Rule → List LearnedRule → PartsKept
with_rules a rules chains = record a { rules = rules; chains = chains }

excised_is : (a new : PartsKept) (name : Sym) (history : List RecordedFiring) → AreDropped a new name
    → agent_of (with_rules a new.rules new.chains) history ≡ excised_agent name (agent_of a history)
excised_is a new name history dropped =
    λ k. record (agent_of a history) { program = record (agent_of a history).program { rules = dropped.rules_are k; chains = dropped.chains_are k } }

pub excises : (a new : PartsKept) (name : Sym) → AreDropped a new name → (s : Agent) → Stands a s → Stands new (excised_agent name s)
excises a new name dropped s stands =
    subst (λ (kept : PartsKept). Stands kept (excised_agent name s)) (sym dropped.same)
    (of_each_state (λ (t : Agent). Stands (with_rules a new.rules new.chains) (excised_agent name t)) a (λ history remembers.
    stands_for (with_rules a new.rules new.chains) history (excised_agent name (agent_of a history))
    (remembers_same a (with_rules a new.rules new.chains) history refl refl refl refl refl refl refl remembers) (excised_is a new name history dropped)) s stands)

-- working memory stays
pub elements_stay : (a new : PartsKept) (name : Sym) → AreDropped a new name → a.memory.elements ≡ new.memory.elements
elements_stay a new name dropped = ap (λ (p : PartsKept). p.memory.elements) (sym dropped.same)

-- and the live firings that were told
pub told_stays : (a new : PartsKept) (name : Sym) → AreDropped a new name → a.live.told ≡ new.live.told
told_stays a new name dropped = ap (λ (p : PartsKept). p.live.told) (sym dropped.same)
