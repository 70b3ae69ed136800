-- Lines of the trace that are said.
use Rattle.std.specs.Prelude.{◌≡◌, ℕ, Bool, true, false, List, ◌++◌, map}
use Rattle.soar_sym.specs.Words.{Texts, IsKnown}
use Rattle.soar_sym.specs.declared.symbol.Triple.{Triple}
use Rattle.defs_soar.specs.Events.{Event, Part, application_phase, proposal_phase, selects, substates, shows, shows_no_longer}
use Rattle.defs_soar.specs.Trace.{Piece, bare, line, line_text, piece_of, rendered}
use Rattle.trace_lines.specs.declared.halting.Phase.{Phase}
use Rattle.trace_lines.specs.declared.halting.Phase.TheVariants.{Application, Proposal}
use Rattle.trace_lines.specs.declared.impasse.NewGoal.{NewGoal}
use Rattle.trace_lines.specs.declared.selection.Selected.{Selected}

-- ---- lines

-- the text of a piece, without the newline of a line
abbrev pub text_of_line : Piece → List ℕ
text_of_line (line level text) = text
text_of_line (bare text) = text

-- the line of an event was appended, behind text that ended in the middle of a line or not
abbrev pub SaysLine : Texts → Event → Bool → List ℕ → Bool → List ℕ → Type 0
SaysLine words event mid before new_mid after = (after ≡ before ++ line_text mid (text_of_line (piece_of words event))) × (new_mid ≡ false)

-- the lines of events were appended, as they are written at watch level 1
abbrev pub SaysLines : Texts → List Event → Bool → List ℕ → Bool → List ℕ → Type 0
SaysLines words events mid before new_mid after =
    (after ≡ before ++ (rendered 1 mid (map (piece_of words) events)).text) × (new_mid ≡ (rendered 1 mid (map (piece_of words) events)).mid_line)

-- nothing was appended
abbrev pub SaysNothing : Bool → List ℕ → Bool → List ℕ → Type 0
SaysNothing mid before new_mid after = (after ≡ before) × (new_mid ≡ mid)

-- ---- events

abbrev pub selection_event : Selected → Event
selection_event s = selects s.cycle s.below s.operator s.name

abbrev pub goal_event : NewGoal → Event
goal_event g = substates g.cycle g.below g.goal g.impasse

abbrev pub part_of : Phase → Part
part_of Proposal = proposal_phase
part_of Application = application_phase

-- a triple that the output link shows, or shows no longer
abbrev pub output_event : Bool → Triple → Event
output_event true = shows
output_event false = shows_no_longer

-- ---- symbols

-- the symbols of a triple are of the table
abbrev pub IsTripleKnown : Texts → Triple → Type 0
IsTripleKnown words t = IsKnown words t.id × IsKnown words t.attr × IsKnown words t.value
