-- Waves: the work of the least level that has any, and what it leaves (Soar manual, chapter 2, elaboration cycle).
use Rattle.std.specs.Prelude.{ℕ, suc, ◌+◌, Bool, true, false, ◌&&◌, ◌==◌, not, List, [], ◌∷◌, ◌++◌, map, flat_map, filter, length, if◌then◌else◌}
use Rattle.std.specs.List.{list_any}
use Rattle.soar_sym.specs.declared.symbol.Sym.{Sym}
use Rattle.defs_match.specs.Rules.{RuleOf}
use Rattle.defs_soar.specs.declared.preference.Preference.{Preference}
use Rattle.defs_soar.specs.Agents.{LiveFiring, Program, Counts, Agent}
use Rattle.defs_soar.specs.Events.{by_instance, by_operator, by_learned, Event, learning, retracts, makes_wish, drops, writes_text}
use Rattle.defs_soar.specs.History.{RecordedFiring}
use Rattle.defs_soar.specs.Limits.{Total, preferences_to, counts_to}
use Rattle.defs_soar.specs.Pending.{Work, is_justification}
use Rattle.defs_soar.specs.Preferences.{as_row, with_row, with_rows, without_firings, is_kept_already, rows_after}
use Rattle.defs_soar.specs.Resettling.{AgentStep, resettled}
use Rattle.defs_soar.specs.Trimming.{numbers_of}
use Rattle.defs_soar.specs.WaveAtHand.{SupportedWish, Fresh, Entry, fired, noted, BeforeWave, Wave, WaveEnd, all_fresh}
use Rattle.defs_soar.specs.WaveFirings.{before_wave, first_wave, with_firings}

-- ---- what the wave leaves

abbrev pub held_row : ℕ → SupportedWish → List Preference
held_row number x = elim (x.wish_support) [
  | by_instance ↦ as_row number false x.wish ∷ []
  | by_operator ↦ as_row number true x.wish ∷ []
  | by_learned ↦ []
]

-- the rows that a firing holds itself
abbrev pub rows_of_fresh : Fresh → List Preference
rows_of_fresh x = flat_map (held_row x.firing.number) x.wishes

abbrev pub live_of : Fresh → LiveFiring
live_of x = record { number = x.firing.number; name = x.firing.name; depth = x.firing.depth; instance = x.firing.instance }

abbrev pub text_events : List ℕ → List Event
text_events [] = []
text_events (b ∷ bytes) = writes_text (b ∷ bytes) ∷ []

abbrev pub entry_events : Entry → List Event
entry_events (noted learning_event) = learning learning_event ∷ []
entry_events (fired x) = x.heading ∷ (map (λ y. makes_wish y.wish y.wish_support) x.wishes ++ (map drops x.dropped ++ text_events x.text))

-- those of these rows, in turn, that are not kept already
abbrev pub rows_added : List Preference → List Preference → List Preference
rows_added rows [] = []
rows_added rows (row ∷ more) = (if is_kept_already rows row then [] else row ∷ []) ++ rows_added (with_row rows row) more

abbrev pub lasting_of : List Preference → ℕ → List Sym
lasting_of added number = map (λ row. row.wish.id) (filter (λ row. (row.firing == number) && row.operator_support) added)

abbrev pub recorded_firing : BeforeWave → List Preference → Fresh → RecordedFiring
recorded_firing m added x = record { firing = x.firing; goal = x.goal; operator_kind = x.operator_kind; lasting = lasting_of added x.firing.number; before = m.reach }

abbrev pub is_retracted : List LiveFiring → LiveFiring → Bool
is_retracted gone l = list_any (λ g. g.number == l.number) gone

abbrev pub retract_event : LiveFiring → Event
retract_event l = retracts l.number l.name l.instance

-- a justification goes with its firing
abbrev pub is_spent : List LiveFiring → RuleOf → Bool
is_spent gone rule = is_justification rule.production.kind && list_any (λ l. l.instance.rule == rule.number) gone

abbrev pub without_spent : List LiveFiring → Program → Program
without_spent gone program = record program {
  rules = filter (λ rule. not (is_spent gone rule)) program.rules;
  chains = filter (λ learnt. list_any (λ rule. (rule.number == learnt.rule) && not (is_spent gone rule)) program.rules) program.chains;
}

abbrev pub counted : Counts → Wave → List LiveFiring → Counts
counted counts w gone = record counts {
  waves = suc counts.waves;
  firings = w.last_firing;
  retractions = counts.retractions + length gone;
  learned = w.learned;
}

-- ---- a wave

-- what the work of a wave makes, with what comes after its firings
abbrev pub worked : WaveEnd → Agent → Work → Wave
worked end a work = end (before_wave a) (with_firings (before_wave a) (first_wave a) work.fired)

-- the number of the wave and of the retractions, then what the firings drew, then preferences, elements and tags
abbrev pub wave_totals : Counts → Wave → List Preference → List Total → List Total
wave_totals counts w rows settling = counts_to counts.waves ∷ counts_to counts.retractions ∷ (w.totals ++ (preferences_to (length rows) ∷ settling))

-- the history of the trim is that before the wave; the wave's firings join it afterwards
abbrev pub after_work : Agent → List LiveFiring → Wave → AgentStep
after_work a gone w =
    let fresh = all_fresh w.entries in
    let new = flat_map rows_of_fresh fresh in
    let stay = without_firings a.holding.rows (numbers_of gone) in
    let counts = counted a.counts w gone in
    let next : Agent = record a { names = w.names; program = without_spent gone w.program; counts = counts } in
    let settled = resettled next (record {
      goals = a.holding.goals;
      rows = rows_after a.holding.rows (numbers_of gone) new;
      inputs = a.holding.inputs;
      live = filter (λ l. not (is_retracted gone l)) a.holding.live ++ map live_of fresh;
      removed = [];
    }) in
    record {
      agent = record settled.agent { history = a.history ++ map (recorded_firing (before_wave a) (rows_added stay new)) fresh };
      events = map retract_event gone ++ (flat_map entry_events w.entries ++ settled.events);
      totals = wave_totals counts w (with_rows stay new) settled.totals;
      halted = w.halted;
    }

-- retractions come first, the oldest firing before the others; then firings, by rule and by tags; then what is learned
unfoldable pub wave_of : WaveEnd → Agent → Work → AgentStep
wave_of end a work = after_work a work.retracted (worked end a work)
