-- The output phase: what it tells, and the state afterwards.
use Rattle.std.proofs.Common.{◌≡◌, ℕ, Bool, false, List, [], ◌∷◌, ◌++◌, map, refl, sym, ap, subst, append_assoc, append-nil}
use Rattle.std.specs.Prelude.{if◌then◌else◌}
use Rattle.std.specs.List.{All}
use Rattle.std.proofs.lemmas.List.Elements.{All-cons, All-nil}
use Rattle.soar_sym.specs.Words.{Texts}
use Rattle.soar_sym.specs.declared.symbol.Triple.{Triple}
use Rattle.defs_soar.specs.Agents.{Agent}
use Rattle.defs_soar.specs.Cycle.{after_output, output_of, without_triples}
use Rattle.defs_soar.specs.Events.{Event, begins, halts, output_phase, shows, shows_no_longer}
use Rattle.defs_soar.specs.History.{RecordedFiring}
use Rattle.defs_soar.specs.Resettling.{AgentStep}
use Rattle.defs_soar.specs.Sorted.{in_order}
use Rattle.defs_soar.specs.Trace.{pieces_of}
use Rattle.soar_settle.specs.Known.{AreTriplesKnown}
use Rattle.trace_lines.specs.Saying.{IsTripleKnown}
use Rattle.step_report.specs.Saying.{SaysEvents, SaysInTurn}
use Rattle.decision_parts.specs.Seen.{Stepped, agent_of}
use Rattle.decision_parts.specs.Stands.{Stands}
use Rattle.decision_parts.specs.Remembers.{Remembers}
use Rattle.decision_parts.specs.Parts.{Parts as PartsKept}
use Rattle.decision_parts.proofs.StandsLemmas.{of_each_state, remembers_same, stands_at}
use Rattle.decision_parts.specs.Stepping.{WentStep}
use Rattle.cycle_parts.proofs.SteppingLemmas.{stepped_at, went_by}

pub all_known : (words : Texts) (triples : List Triple) → AreTriplesKnown words triples → All (IsTripleKnown words) triples
all_known words [] known = All-nil (IsTripleKnown words)
all_known words (t ∷ triples) known = All-cons (IsTripleKnown words) t triples known.0 (all_known words triples known.1)

-- ---- what is told

abbrev pub halt_event : Bool → List Event
halt_event halted = if halted then halts ∷ [] else []

abbrev pub output_events : List Triple → List Triple → Bool → List Event
output_events gone new halted = begins output_phase ∷ (map shows_no_longer gone ++ (map shows new ++ halt_event halted))

pub nothing_said : (watch : ℕ) (words : Texts) (mid : Bool) (text : List ℕ) → SaysEvents watch words [] mid text mid text
unfolding pieces_of
nothing_said watch words mid text = (sym (append-nil text), refl)

-- the line that begins the phase, what changed, and a halt, said one behind the other
pub output_said : (in_turn : SaysInTurn) (watch : ℕ) (words : Texts) (gone new : List Triple) (halted : Bool) (mid mid_first mid_between new_mid : Bool) (before first between after : List ℕ)
    → SaysEvents watch words (begins output_phase ∷ []) mid before mid_first first → SaysEvents watch words (map shows_no_longer gone ++ map shows new) mid_first first mid_between between
    → SaysEvents watch words (halt_event halted) mid_between between new_mid after → SaysEvents watch words (output_events gone new halted) mid before new_mid after
output_said in_turn watch words gone new halted mid mid_first mid_between new_mid before first between after begun changed halt =
    let rest = in_turn watch words (map shows_no_longer gone ++ map shows new) (halt_event halted) mid_first mid_between new_mid first between after changed halt in
    in_turn watch words (begins output_phase ∷ []) (map shows_no_longer gone ++ (map shows new ++ halt_event halted)) mid mid_first new_mid before first after begun
    (subst (λ (events : List Event). SaysEvents watch words events mid_first first new_mid after) (append_assoc (map shows_no_longer gone) (map shows new) (halt_event halted)) rest)

-- ---- the step

-- with what is shown now
abbrev output_step : PartsKept → List RecordedFiring → List Triple → AgentStep
output_step a history now = record {
  agent = record (agent_of a history) { output = now };
  events = output_events (in_order a.table (without_triples now a.output)) (in_order a.table (without_triples a.output now)) a.halted;
  totals = [];
  halted = false;
}

output_at : (a : PartsKept) (history : List RecordedFiring) (now : List Triple) → now ≡ output_of (agent_of a history) → output_step a history now ≡ after_output (agent_of a history)
unfolding after_output
output_at a history now shown = ap (output_step a history) shown

abbrev pub with_output : PartsKept → List Triple → PartsKept
with_output a now = record a { output = now }

output_stepped : (a : PartsKept) (history : List RecordedFiring) (now : List Triple) → Remembers a history → Stepped (with_output a now) (output_step a history now)
output_stepped a history now remembers =
    stepped_at (with_output a now) (output_step a history now) refl (stands_at (with_output a now) history (remembers_same a (with_output a now) history refl refl refl refl refl refl refl remembers)) refl

pub gives_output : (watch : ℕ) (a : PartsKept) (now gone new : List Triple) (mid new_mid : Bool) (before after : List ℕ)
    → ((s : Agent) → s.holding.goals ≡ a.goals → s.holding.elements ≡ a.memory.elements → now ≡ output_of s)
    → gone ≡ in_order a.table (without_triples now a.output) → new ≡ in_order a.table (without_triples a.output now) → SaysEvents watch a.table (output_events gone new a.halted) mid before new_mid after
    → (s : Agent) → Stands a s → WentStep watch mid (after_output s) (with_output a now) new_mid before after
gives_output watch a now gone new mid new_mid before after shown gone_is new_is says =
    of_each_state (λ (s : Agent). WentStep watch mid (after_output s) (with_output a now) new_mid before after) a
    (λ history remembers. subst (λ (s : AgentStep). WentStep watch mid s (with_output a now) new_mid before after) (output_at a history now (shown (agent_of a history) refl refl))
    (went_by watch (output_step a history now) (with_output a now) (output_events gone new a.halted) mid new_mid before after (output_stepped a history now remembers)
    (λ i. output_events (gone_is i) (new_is i) a.halted) says))
