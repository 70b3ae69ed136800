-- A decision that makes a substate, and one that may not.
use Rattle.std.proofs.Common.{◌≡◌, ◌∙◌, ℕ, ◌+◌, ◌||◌, Bool, true, false, List, [], ◌∷◌, length, None, Result, Ok, Err, refl, ap, subst}
use Rattle.soar_sym.specs.Letters.{last_of}
use Rattle.soar_sym.specs.declared.symbol.Sym.TheVariants.{Ident}
use Rattle.defs_soar.specs.declared.goal.Impasse.{Impasse}
use Rattle.defs_soar.specs.declared.goal.Item.{Item}
use Rattle.defs_soar.specs.Agents.{Agent, Counts}
use Rattle.defs_soar.specs.Decision.{with_decision}
use Rattle.defs_soar.specs.Events.{Event, reaches_goal_limit, substates}
use Rattle.defs_soar.specs.Limits.{Total, first_passed, identifiers_to}
use Rattle.defs_soar.specs.Phases.{halting}
use Rattle.defs_soar.specs.Resettling.{AgentStep}
use Rattle.defs_soar.specs.Trimming.{RemovedGoal}
use Rattle.soar_settle.specs.declared.stop.Stop.{Stop}
use Rattle.soar_settle.specs.declared.stop.Stop.TheVariants as stop
use Rattle.trace_lines.specs.Saying.{goal_event}
use Rattle.trace_lines.specs.declared.impasse.NewGoal.{NewGoal}
use Rattle.wave_parts.specs.Stands.{Stands}
use Rattle.wave_parts.specs.declared.parts.Parts.{Parts as PartsKept}
use Rattle.wave_parts.specs.declared.settings.Settings.{Settings}
use Rattle.wave_parts.proofs.LimitLemmas.{passed_later, within_here}
use Rattle.wave_parts.proofs.StandsLemmas.{remembers_same}
use Rattle.decision_parts.specs.Deciding.{limit_step, settled_from, substate_step, with_substate}
use Rattle.decision_parts.specs.Pushing.{HasPushed}
use Rattle.decision_parts.specs.Stepping.{GoesStep, WentStep}

-- ---- a number that is drawn first

drawn_within : (d : Total) (totals : List Total) → first_passed (d ∷ []) ≡ None → first_passed (d ∷ totals) ≡ first_passed totals
drawn_within d totals h = passed_later d totals (within_here d [] h)

-- the step that draws it besides
drawn_goes : {T : Type 0} (watch : ℕ) (mid new_mid : Bool) (x : AgentStep) (d : Total) (said : List Event) (new : PartsKept) (before after : List ℕ) (r : Result T Stop) → first_passed (d ∷ []) ≡ None
    → GoesStep watch mid (with_decision said x) new new_mid before after r → GoesStep watch mid (with_decision said (record x { totals = d ∷ x.totals })) new new_mid before after r
drawn_goes watch mid new_mid x d said new before after (Ok done) none went = record {
  stepped = record { stands = went.stepped.stands; within = drawn_within d x.totals none ∙ went.stepped.within };
  text = went.text;
  mid_line = went.mid_line;
}
drawn_goes watch mid new_mid x d said new before after (Err (stop.Limit limit)) none stops = record { passed = drawn_within d x.totals none ∙ stops.passed; text = stops.text; mid_line = stops.mid_line }
drawn_goes watch mid new_mid x d said new before after (Err stop.NoMemory) none stops = tt

-- ---- a substate

abbrev state_number : Agent → ℕ
state_number s = last_of s.names.letters 83 + 1

abbrev told_of : Agent → Impasse → List Event
told_of s why = substates s.counts.cycles (length s.holding.goals) (Ident 83 (state_number s)) why ∷ []

-- its line tells the cycle, how deep the goal is, and why it is there
pub record TellsGoal (a : PartsKept) (why : Impasse) (made : NewGoal) : Type 0 where
  pub cycle_is : made.cycle ≡ a.cycles
  pub below_is : made.below ≡ length a.goals
  pub impasse_is : made.impasse ≡ why

pub makes : (T : Type 0) (a between new : PartsKept) (removed : List RemovedGoal) (why : Impasse) (items : List Item) (made : NewGoal) (mid new_mid : Bool) (before after : List ℕ) (r : Result T Stop)
    → between.settings ≡ a.settings → TellsGoal a why made → ((s : Agent) → Stands a s → HasPushed s why items between made.goal)
    → ((s : Agent) → Stands between s → GoesStep between.settings.watch mid (with_decision (goal_event made ∷ []) (settled_from s removed)) new new_mid before after r)
    → (s : Agent) → Stands a s → GoesStep a.settings.watch mid (substate_step s removed why items) new new_mid before after r
makes T a between new removed why items made mid new_mid before after r settings tells pushes steps s stands =
    let pushed = pushes s stands in
    let x = settled_from (with_substate s why items) removed in
    let cycle : made.cycle ≡ s.counts.cycles = tells.cycle_is ∙ ap (λ (c : Counts). c.cycles) stands.counts in
    let below : made.below ≡ length s.holding.goals = tells.below_is ∙ ap length stands.goals in
    let line : goal_event made ∷ [] ≡ told_of s why = λ k. substates (cycle k) (below k) (pushed.goal_is k) (tells.impasse_is k) ∷ [] in
    let went = subst (λ (said : List Event). GoesStep between.settings.watch mid (with_decision said x) new new_mid before after r) line (steps (with_substate s why items) pushed.stands) in
    drawn_goes a.settings.watch mid new_mid x (identifiers_to (state_number s)) (told_of s why) new before after r pushed.within
    (subst (λ (kept : Settings). GoesStep kept.watch mid (with_decision (told_of s why) x) new new_mid before after r) settings went)

-- ---- the limit of goals

or_true : (b : Bool) → true ≡ (b || true)
or_true true = refl
or_true false = refl

abbrev pub halted_parts : PartsKept → PartsKept
halted_parts a = record a { halted = true }

stands_halted : (a : PartsKept) (s : Agent) → Stands a s → Stands (halted_parts a) (record s { halted = true })
stands_halted a s h = record {
  words = h.words;
  letters = h.letters;
  elements = h.elements;
  last_tag = h.last_tag;
  goals = h.goals;
  rows = h.rows;
  inputs = h.inputs;
  live = h.live;
  queues = h.queues;
  rules = h.rules;
  last_rule = h.last_rule;
  chains = h.chains;
  learned_numbers = h.learned_numbers;
  counts = h.counts;
  settings = h.settings;
  output = h.output;
  halted = refl;
  remembers = remembers_same a (halted_parts a) s.history refl refl refl refl refl refl refl h.remembers;
}

halted_stands : (a : PartsKept) (x : AgentStep) → Stands a (halting x) → Stands (halted_parts a) (halting (record x { halted = true }))
halted_stands a x h = subst (λ (b : Bool). Stands (halted_parts a) (record x.agent { halted = b })) (or_true x.agent.halted) (stands_halted a (halting x) h)

pub halts_so : (watch : ℕ) (a between : PartsKept) (removed : List RemovedGoal) (mid new_mid : Bool) (before after : List ℕ)
    → ((s : Agent) → Stands a s → WentStep watch mid (with_decision (reaches_goal_limit ∷ []) (settled_from s removed)) between new_mid before after)
    → (s : Agent) → Stands a s → WentStep watch mid (limit_step s removed) (halted_parts between) new_mid before after
halts_so watch a between removed mid new_mid before after steps s stands =
    let went = steps s stands in
    record {
      stepped = record { stands = halted_stands between (with_decision (reaches_goal_limit ∷ []) (settled_from s removed)) went.stepped.stands; within = went.stepped.within };
      text = went.text;
      mid_line = went.mid_line;
    }
