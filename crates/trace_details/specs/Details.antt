-- Lines of the trace that are said at a watch level.
use Rattle.std.specs.Prelude.{◌≡◌, ℕ, Bool, List, [], ◌∷◌, ◌++◌}
use Rattle.soar_sym.specs.Words.{Texts}
use Rattle.defs_soar.specs.Events.{Event, Part, WishSupport, application_phase, by_instance, by_learned, by_operator, decision, input_phase, output_phase, proposal_phase}
use Rattle.defs_soar.specs.Trace.{piece_of, rendered}
use Rattle.trace_details.specs.declared.part.CyclePart.{CyclePart}
use Rattle.trace_details.specs.declared.part.CyclePart.TheVariants.{Application, Decision, Input, Output, Proposal}
use Rattle.trace_details.specs.declared.wish.HeldBy.{HeldBy}
use Rattle.trace_details.specs.declared.wish.HeldBy.TheVariants as held_by

-- ---- lines

-- what is written of an event at a watch level was appended, which is nothing where the level is below that of the line
abbrev pub SaysAt : ℕ → Texts → Event → Bool → List ℕ → Bool → List ℕ → Type 0
SaysAt watch words event mid before new_mid after =
    (after ≡ before ++ (rendered watch mid (piece_of words event ∷ [])).text) × (new_mid ≡ (rendered watch mid (piece_of words event ∷ [])).mid_line)

-- ---- events

abbrev pub part_of : CyclePart → Part
part_of Input = input_phase
part_of Proposal = proposal_phase
part_of Decision = decision
part_of Application = application_phase
part_of Output = output_phase

abbrev pub support_of : HeldBy → WishSupport
support_of held_by.Instance = by_instance
support_of held_by.Operator = by_operator
support_of held_by.Learned = by_learned
