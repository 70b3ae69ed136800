-- What a decision tells, in order.
use Rattle.std.specs.Prelude.{List, ◌∷◌, ◌++◌, map, IfSome}
use Rattle.soar_sym.specs.Words.{IsKnown, Texts}
use Rattle.defs_soar.specs.Events.{Event, begins, comes, decision, goes, reaches_goal_limit}
use Rattle.defs_soar.specs.Resettling.{removal_events}
use Rattle.step_report.specs.Reports.{removed_seen}
use Rattle.step_report.specs.declared.settled.Settled.{Settled}
use Rattle.trace_lines.specs.Saying.{goal_event, selection_event}
use Rattle.decision_parts.specs.declared.saying.DecisionLine.{DecisionLine}
use Rattle.decision_parts.specs.declared.saying.DecisionLine.TheVariants as line

-- ---- its line

abbrev pub line_event : DecisionLine → Event
line_event (line.Selection selected) = selection_event selected
line_event (line.Substate made) = goal_event made
line_event line.GoalLimit = reaches_goal_limit

-- the symbols that the line shows are of the table
abbrev pub IsLineKnown : Texts → DecisionLine → Type 0
IsLineKnown words (line.Selection selected) = IsKnown words selected.operator × IfSome selected.name (IsKnown words)
IsLineKnown words (line.Substate made) = IsKnown words made.goal
IsLineKnown words line.GoalLimit = Unit {0}

-- ---- all of it

-- that it begins, and the goals that went
abbrev pub opening_events : Settled → List Event
opening_events s = begins decision ∷ removal_events (map removed_seen s.removed)

-- then its line, then the elements that went and those that came
abbrev pub decision_events : Settled → Event → List Event
decision_events s said = opening_events s ++ (said ∷ (map goes s.changes.gone ++ map comes s.changes.new))
