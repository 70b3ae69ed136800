-- Firing in turn as the code does it: it stops at the first limit, where the definition goes on and notes the totals.
use Rattle.std.specs.Prelude.{◌≡◌, ◌≤◌, ℕ, suc, length, Bool, false, ◌||◌, nat_lt, List, [], ◌∷◌, ◌++◌, map, flat_map, Option, Some, None, Result, Ok, Err, if◌then◌else◌}
use Rattle.soar_sym.specs.Words.{Texts}
use Rattle.soar_sym.specs.declared.symbol.Sym.{Sym}
use Rattle.soar_rule.specs.Symbols.{AreKnown, constants_of}
use Rattle.defs_match.specs.Rules.{RuleOf}
use Rattle.defs_match.specs.declared.instance.Instance.{Instance}
use Rattle.defs_soar.specs.declared.firing.Made.{Made}
use Rattle.defs_soar.specs.declared.goal.Goal.{Goal}
use Rattle.defs_soar.specs.declared.limit.Which.{Which}
use Rattle.defs_soar.specs.declared.limit.Which.TheVariants as which
use Rattle.defs_soar.specs.Firing.{MadeSoFar, made_by}
use Rattle.defs_soar.specs.Limits.{limit_of, first_passed}
use Rattle.defs_soar.specs.Pending.{Firable}
use Rattle.defs_soar.specs.Goals.{goal_ids}
use Rattle.defs_soar.specs.WaveAtHand.{Entry, fired, goals_among}
use Rattle.soar_fire.specs.Fires.{AreWishesKnown, IsMade}
use Rattle.pending_work.specs.Firables.{firables_for}
use Rattle.wave_entries.specs.Entries.{entry_seen}
use Rattle.trace_laws.specs.Events.{AreEventsKnown}
use Rattle.soar_settle.specs.Known.{AreInstancesKnown, AreRowsKnown, AreRulesKnown}
use Rattle.wave_firings.specs.Held.{Against, fresh_made}
use Rattle.wave_firings.specs.Listed.{events_in, rows_in, wishes_in}
use Rattle.wave_firings.specs.declared.firing.Fired.{Fired}
use Rattle.soar_settle.specs.declared.stop.Stop.{Stop}
use Rattle.soar_settle.specs.declared.stop.Stop.TheVariants as stop

-- what the firings so far left: words, letters and the last number, their entries, and whether one halts
pub record Gathered : Type 0 where
  pub words : Texts
  pub letters : List ℕ
  pub last : ℕ
  pub entries : List Entry
  pub halted : Bool

abbrev pub gathered : Texts → List ℕ → ℕ → Fired → Gathered
gathered words letters last made = record { words = words; letters = letters; last = last; entries = map entry_seen made.entries; halted = made.halted }

abbrev pub nothing_fired : Fired
nothing_fired = record { entries = []; halted = false }

-- what was gathered, or the limit that was passed
pub data Outcome : Type 0 where
  reached : Gathered → Outcome
  stopped : Which → Outcome

-- the next step, where none stopped before
abbrev pub then_on : Outcome → (Gathered → Outcome) → Outcome
then_on (stopped limit) f = stopped limit
then_on (reached g) f = f g

abbrev pub within_limits : Option Which → Gathered → Outcome
within_limits None g = reached g
within_limits (Some limit) g = stopped limit

-- ---- one firing

abbrev pub made_for : List Goal → Firable → Texts → List ℕ → MadeSoFar
made_for goals f words letters =
    made_by goals f.rule.production.actions (record { bindings = f.bindings; words = words; letters = letters; vars = f.rule.production.vars; totals = [] })

-- the goals among the symbols of the firing, by the words of its turn
abbrev pub goals_named : List Goal → Firable → Texts → List Sym
goals_named goals f words = goals_among words goals (f.instance.binds ++ constants_of f.rule.production)

abbrev pub with_made : Against → Firable → ℕ → MadeSoFar → Gathered → Gathered
with_made a f number made g = record {
  words = made.naming.words;
  letters = made.naming.letters;
  last = number;
  entries = g.entries ++ fired (fresh_made a f number (goals_named a.reach.goals f g.words) made.wishes made.dropped made.text) ∷ [];
  halted = g.halted || made.halted;
}

-- a firing under its number
abbrev pub firing_outcome : Against → ℕ → Gathered → Firable → Outcome
firing_outcome a number g f =
    let made = made_for a.reach.goals f g.words g.letters in within_limits (first_passed made.naming.totals) (with_made a f number made g)

-- a firing under the next number
abbrev pub next_outcome : Against → Firable → Gathered → Outcome
next_outcome a f g = if nat_lt (limit_of which.Counts) (suc g.last) then stopped which.Counts else firing_outcome a (suc g.last) g f

-- ---- firings in turn

abbrev pub firings_outcome : Against → List Firable → Gathered → Outcome
firings_outcome a [] g = reached g
firings_outcome a (f ∷ firables) g = then_on (next_outcome a f g) (firings_outcome a firables)

abbrev pub instances_outcome : Against → List RuleOf → List Instance → Gathered → Outcome
instances_outcome a rules instances = firings_outcome a (flat_map (firables_for rules a.elements) instances)

-- ---- what a call answers

abbrev pub Leaves : Outcome → Gathered → Result (Unit {0}) Stop → Type 0
Leaves o after (Ok done) = o ≡ reached after
Leaves o after (Err (stop.Limit limit)) = o ≡ stopped limit
Leaves o after (Err stop.NoMemory) = Unit {0}

-- of the one firing in a list
abbrev pub LeavesOne : Against → ℕ → Gathered → List Firable → Gathered → Result (Unit {0}) Stop → Type 0
LeavesOne a number g [] after result = Unit {0}
LeavesOne a number g (f ∷ others) after result = Leaves (firing_outcome a number g f) after result

abbrev pub Makes : Texts → List ℕ → MadeSoFar → Result Made Stop → Type 0
Makes words letters m (Ok made) = IsMade made words letters m
Makes words letters m (Err (stop.Limit limit)) = first_passed m.naming.totals ≡ Some limit
Makes words letters m (Err stop.NoMemory) = Unit {0}

-- ---- facts as records, which lemmas take

pub record KnowsRules (words : Texts) (rules : List RuleOf) : Type 0 where
  pub are_known : AreRulesKnown words rules

pub record KnowsInstances (words : Texts) (instances : List Instance) : Type 0 where
  pub are_known : AreInstancesKnown words instances

-- no more goals than a stack has
pub record KnowsGoals (words : Texts) (goals : List Goal) : Type 0 where
  pub are_known : AreKnown words (goal_ids goals)
  pub are_few : length goals ≤ 100

-- what these entries leave shows words of the table
pub record KnowsEntries (words : Texts) (entries : List Entry) : Type 0 where
  pub rows_known : AreRowsKnown words (rows_in entries)
  pub wishes_known : AreWishesKnown words (wishes_in entries)
  pub events_known : AreEventsKnown words (events_in entries)
