-- What settling tells where goals went before: those that it removes have their places among them, and all else is the same.
use Rattle.std.proofs.Common.{◌≡◌, ◌∙◌, ℕ, suc, ◌+◌, false, not, List, [], ◌∷◌, ◌++◌, map, filter, drop, length, refl, sym, ap}
use Rattle.soar_wm.specs.declared.element.Element.{Element}
use Rattle.defs_soar.specs.declared.goal.Goal.{Goal}
use Rattle.defs_soar.specs.Agents.{Agent}
use Rattle.defs_soar.specs.Cycle.{held_with}
use Rattle.defs_soar.specs.Decision.{is_removal, with_decision}
use Rattle.defs_soar.specs.Events.{Event, begins, comes, decision, goes, removes}
use Rattle.defs_soar.specs.Limits.{Total, elements_to, tags_to}
use Rattle.defs_soar.specs.Resettling.{AgentStep, removal_events, resettled, without_elements}
use Rattle.defs_soar.specs.Settling.{elements_after, kept_triples}
use Rattle.defs_soar.specs.Trimming.{RemovedGoal, Remains, at_depths, supports_of, trimmed, with_all_removed}
use Rattle.removal_laws.specs.Apart.{RemovalsApart, left_of}
use Rattle.removal_laws.specs.Nested.{RemovalsAreNested}
use Rattle.decision_parts.specs.Deciding.{settled_from}

-- ---- removals among the events

removals_first : (removed : List RemovedGoal) (others : List Event) → filter is_removal others ≡ [] → filter is_removal (removal_events removed ++ others) ≡ removal_events removed
removals_first [] others none = none
removals_first (goal ∷ removed) others none = ap (λ events. removes goal.id ∷ events) (removals_first removed others none)

others_last : (removed : List RemovedGoal) (others : List Event) → filter (λ e. not (is_removal e)) (removal_events removed ++ others) ≡ filter (λ e. not (is_removal e)) others
others_last [] others = refl
others_last (goal ∷ removed) others = others_last removed others

come_alone : (new : List Element) → (filter is_removal (map comes new) ≡ []) × (filter (λ e. not (is_removal e)) (map comes new) ≡ map comes new)
come_alone [] = (refl, refl)
come_alone (e ∷ new) = let h = come_alone new in (h.0, ap (λ events. comes e ∷ events) h.1)

elements_alone : (gone new : List Element) → (filter is_removal (map goes gone ++ map comes new) ≡ []) × (filter (λ e. not (is_removal e)) (map goes gone ++ map comes new) ≡ map goes gone ++ map comes new)
elements_alone [] new = come_alone new
elements_alone (e ∷ gone) new = let h = elements_alone gone new in (h.0, ap (λ events. goes e ∷ events) h.1)

pub removals_in : (removed : List RemovedGoal) (gone new : List Element) → filter is_removal (removal_events removed ++ (map goes gone ++ map comes new)) ≡ removal_events removed
removals_in removed gone new = removals_first removed (map goes gone ++ map comes new) (elements_alone gone new).0

pub elements_in : (removed : List RemovedGoal) (gone new : List Element) → filter (λ e. not (is_removal e)) (removal_events removed ++ (map goes gone ++ map comes new)) ≡ map goes gone ++ map comes new
elements_in removed gone new = others_last removed (map goes gone ++ map comes new) ∙ (elements_alone gone new).1

-- the events of a decision, in order
pub decision_told : (x : AgentStep) (said : Event) (removed : List RemovedGoal) (gone new : List Element) → removal_events removed ++ (map goes gone ++ map comes new) ≡ x.events
    → begins decision ∷ (removal_events removed ++ (said ∷ (map goes gone ++ map comes new))) ≡ (with_decision (said ∷ []) x).events
decision_told x said removed gone new are =
    let first : removal_events removed ≡ filter is_removal x.events = sym (removals_in removed gone new) ∙ ap (filter is_removal) are in
    let last : map goes gone ++ map comes new ≡ filter (λ e. not (is_removal e)) x.events = sym (elements_in removed gone new) ∙ ap (filter (λ e. not (is_removal e))) are in
    λ k. begins decision ∷ (first k ++ (said ∷ last k))

-- ---- settling

-- what settling makes of what is left, whatever went before
abbrev elements_left : Agent → Remains → List Element
elements_left a t = elements_after a.names.words t.goals (kept_triples t.goals (supports_of t)) a.names.last_tag a.holding.elements

abbrev last_left : Agent → Remains → ℕ
last_left a t = a.names.last_tag + length (without_elements a.holding.elements (elements_left a t))

abbrev agent_left : Agent → Remains → Agent
agent_left a t = record a {
  names = record a.names { last_tag = last_left a t };
  holding = record { elements = elements_left a t; goals = t.goals; rows = t.rows; inputs = t.inputs; live = t.live };
}

abbrev totals_left : Agent → Remains → List Total
totals_left a t = elements_to (length (elements_left a t)) ∷ tags_to (last_left a t) ∷ []

abbrev events_left : Agent → Remains → List Event
events_left a t = map goes (without_elements (elements_left a t) a.holding.elements) ++ map comes (without_elements a.holding.elements (elements_left a t))

abbrev step_left : Agent → List RemovedGoal → Remains → AgentStep
step_left a removed t = record { agent = agent_left a t; events = removal_events removed ++ events_left a t; totals = totals_left a t; halted = false }

settles_so : (a : Agent) (t : Remains) → resettled a t ≡ step_left a (trimmed a.history a.holding.elements t).removed (left_of (trimmed a.history a.holding.elements t))
unfolding resettled
settles_so a t = refl

abbrev held_now : Agent → Remains
held_now a = held_with a a.holding.inputs

abbrev trimmed_now : Agent → Remains
trimmed_now a = trimmed a.history a.holding.elements (held_now a)

abbrev trimmed_from : Agent → List RemovedGoal → Remains
trimmed_from a removed = trimmed a.history a.holding.elements (record (held_now a) { removed = removed })

-- the same is left
same_left : RemovalsApart → (a : Agent) (removed : List RemovedGoal) → left_of (trimmed_from a removed) ≡ left_of (trimmed_now a)
same_left apart a removed = apart a.history a.holding.elements (held_now a) removed

pub settled_from_is : RemovalsApart → (a : Agent) (removed : List RemovedGoal) → settled_from a removed ≡ step_left a (trimmed_from a removed).removed (left_of (trimmed_now a))
settled_from_is apart a removed = settles_so a (record (held_now a) { removed = removed }) ∙ ap (step_left a (trimmed_from a removed).removed) (same_left apart a removed)

-- ---- beside settling where none went before

abbrev now : Agent → AgentStep
now a = resettled a (held_now a)

pub same_agent : RemovalsApart → (a : Agent) (removed : List RemovedGoal) → (settled_from a removed).agent ≡ (now a).agent
same_agent apart a removed = ap (λ (x : AgentStep). x.agent) (settled_from_is apart a removed) ∙ sym (ap (λ (x : AgentStep). x.agent) (settles_so a (held_now a)))

pub same_totals : RemovalsApart → (a : Agent) (removed : List RemovedGoal) → (settled_from a removed).totals ≡ (now a).totals
same_totals apart a removed = ap (λ (x : AgentStep). x.totals) (settled_from_is apart a removed) ∙ sym (ap (λ (x : AgentStep). x.totals) (settles_so a (held_now a)))

-- the goals that settling removes, in their places
abbrev lost_from : Agent → List Goal → List RemovedGoal
lost_from a goals = at_depths (suc (length goals)) (drop (length goals) a.holding.goals)

all_removed : RemovalsAreNested → RemovalsApart → (a : Agent) (removed : List RemovedGoal)
    → (trimmed_from a removed).removed ≡ with_all_removed (lost_from a (now a).agent.holding.goals) removed
all_removed nested apart a removed =
    nested a.history a.holding.elements (record (held_now a) { removed = removed })
    ∙ ap (λ (t : Remains). with_all_removed (lost_from a t.goals) removed) (same_left apart a removed)
    ∙ ap (λ (x : AgentStep). with_all_removed (lost_from a x.agent.holding.goals) removed) (sym (settles_so a (held_now a)))

elements_are : (a : Agent) (removed : List RemovedGoal) (gone new : List Element) → removal_events removed ++ (map goes gone ++ map comes new) ≡ (now a).events
    → map goes gone ++ map comes new ≡ events_left a (left_of (trimmed_now a))
elements_are a removed gone new are =
    sym (elements_in removed gone new) ∙ ap (filter (λ e. not (is_removal e))) (are ∙ ap (λ (x : AgentStep). x.events) (settles_so a (held_now a)))
    ∙ elements_in (trimmed_now a).removed (without_elements (elements_left a (left_of (trimmed_now a))) a.holding.elements) (without_elements a.holding.elements (elements_left a (left_of (trimmed_now a))))

pub events_from : RemovalsAreNested → RemovalsApart → (a : Agent) (removed later : List RemovedGoal) (gone new : List Element) → later ≡ lost_from a (now a).agent.holding.goals
    → removal_events later ++ (map goes gone ++ map comes new) ≡ (now a).events
    → removal_events (with_all_removed later removed) ++ (map goes gone ++ map comes new) ≡ (settled_from a removed).events
events_from nested apart a removed later gone new lost are =
    let all : with_all_removed later removed ≡ (trimmed_from a removed).removed = ap (λ gs. with_all_removed gs removed) lost ∙ sym (all_removed nested apart a removed) in
    let rest = elements_are a later gone new are in
    (λ k. removal_events (all k) ++ rest k) ∙ ap (λ (x : AgentStep). x.events) (sym (settled_from_is apart a removed))
