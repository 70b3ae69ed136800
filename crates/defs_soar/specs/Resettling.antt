-- An agent settled anew, and what that step told and drew (Soar manual, chapter 2, elaboration cycle).
use Rattle.std.specs.Prelude.{◌+◌, Bool, false, ◌==◌, not, List, [], ◌∷◌, ◌++◌, map, filter, length}
use Rattle.std.specs.List.{list_any}
use Rattle.defs_match.specs.Element.{Element}
use Rattle.defs_soar.specs.Agents.{Agent}
use Rattle.defs_soar.specs.Events.{Event, removes, goes, comes}
use Rattle.defs_soar.specs.Limits.{Total, elements_to, tags_to}
use Rattle.defs_soar.specs.Settling.{kept_triples, elements_after}
use Rattle.defs_soar.specs.Trimming.{RemovedGoal, Remains, trimmed, supports_of}

-- a state, what can be told of the step, what it drew, and whether a firing of it halted
pub record AgentStep : Type 0 where
  pub agent : Agent
  pub events : List Event
  pub totals : List Total
  pub halted : Bool

abbrev pub without_elements : List Element → List Element → List Element
without_elements others elements = filter (λ e. not (list_any (λ o. o.tag == e.tag) others)) elements

abbrev pub removal_events : List RemovedGoal → List Event
removal_events removed = map (λ goal. removes goal.id) removed

-- the agent with these goals, rows, inputs and live firings, settled, and without the goals that lost something they depend on
unfoldable pub resettled : Agent → Remains → AgentStep
resettled a held =
    let t = trimmed a.history a.holding.elements held in
    let after = elements_after a.names.words t.goals (kept_triples t.goals (supports_of t)) a.names.last_tag a.holding.elements in
    let new = without_elements a.holding.elements after in
    let last = a.names.last_tag + length new in
    record {
      agent = record a {
        names = record a.names { last_tag = last };
        holding = record { elements = after; goals = t.goals; rows = t.rows; inputs = t.inputs; live = t.live };
      };
      events = removal_events t.removed ++ (map goes (without_elements after a.holding.elements) ++ map comes new);
      totals = elements_to (length after) ∷ tags_to last ∷ [];
      halted = false;
    }
