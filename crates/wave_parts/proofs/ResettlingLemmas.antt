-- An agent is settled by its goals, what they depend on, its rows, inputs, live firings and elements.
use Rattle.std.proofs.Common.{◌≡◌, ℕ, false, zero, suc, List, ◌∷◌, [], ◌++◌, map, length, take, drop, Result, Ok, Err, inl, inr, refl, sym, ap, subst, ◌∙◌, arith}
use Rattle.soar_sym.specs.declared.symbol.Triple.{Triple}
use Rattle.soar_wm.specs.WorkingMemory.{WorkingMemory}
use Rattle.soar_wm.specs.declared.element.Element.{Element}
use Rattle.defs_soar.specs.declared.goal.Goal.{Goal}
use Rattle.defs_soar.specs.Agents.{Agent}
use Rattle.defs_soar.specs.Events.{goes, comes}
use Rattle.defs_soar.specs.Goals.{goal_ids}
use Rattle.defs_soar.specs.History.{RecordedFiring}
use Rattle.defs_soar.specs.Laws.{IsIn}
use Rattle.defs_soar.specs.Limits.{elements_to, tags_to, first_passed}
use Rattle.defs_soar.specs.Resettling.{AgentStep, resettled, without_elements, removal_events}
use Rattle.defs_soar.specs.Settling.{kept_triples}
use Rattle.defs_soar.specs.Trimming.{Remains, at_depths, supports_of, trimmed}
use Rattle.agent_laws.specs.Dependence.{firings_in}
use Rattle.agent_laws.proofs.PartLaws.{fewer_roots_need_less}
use Rattle.agent_laws.proofs.RootLaws.{each_root, root_of_goal, root_of_live, root_of_row}
use Rattle.goal_trimming.specs.Doubted.{AreDoubted}
use Rattle.goal_trimming.specs.Held.{held_by, kept_held, supports_held}
use Rattle.live_firings.specs.Living.{Firings, live_seen}
use Rattle.goal_trimming.specs.Trims.{KeepsFirst, Trims, remains_of}
use Rattle.removal_laws.specs.Alone.{RemovalsAlone}
use Rattle.removal_laws.specs.Nested.{RemovalsAreNested}
use Rattle.soar_prefs.specs.Memory.{PreferenceMemory}
use Rattle.soar_record.specs.Recorded.{recorded}
use Rattle.soar_settle.specs.Known.{AreElementsKnown, AreTriplesKnown}
use Rattle.soar_settle.specs.Settles.{after_of, last_of, passed_by, Retags}
use Rattle.soar_settle.specs.declared.changes.Changes.{Changes}
use Rattle.soar_settle.specs.declared.stop.Stop.{Stop}
use Rattle.soar_settle.specs.declared.stop.Stop.TheVariants as stop
use Rattle.step_report.specs.Reports.{removed_seen, settled_events}
use Rattle.step_report.specs.declared.settled.Removed.{Removed}
use Rattle.step_report.specs.declared.settled.Settled.{Settled}
use Rattle.trace_laws.specs.Events.{AreEventsKnown}
use Rattle.kept_triples.specs.Kept.{KeptOf}
use Rattle.wave_parts.specs.KeptUp.{IsKeptUp}
use Rattle.wave_parts.specs.Remembers.{Remembers, RemembersGoals, roots_in}
use Rattle.wave_parts.specs.Resettles.{resettled_now, IsResettled, IsResettledWith, Resettles, ResettlesWith}
use Rattle.wave_parts.specs.Seen.{agent_of, AreGoalsKnown, IsSound, IsToSettle}
use Rattle.wave_parts.specs.declared.parts.Parts.{Parts as PartsKept}
use Rattle.wave_parts.proofs.KnownLemmas.{KnowsSupports, kept_known, after_known, rows_left, triples_left, range_left}
use Rattle.wave_parts.proofs.NamedLemmas.{live_left}
use Rattle.wave_parts.proofs.RemovedLemmas.{length_take, removed_behind, settled_known}
use Rattle.wave_parts.proofs.StandsLemmas.{goals_remembered, stands_for}

-- ---- what trimming left

-- the parts that trimming and tagging change
pub record Left : Type 0 where
  pub goals : List Goal
  pub depends : List (List ℕ)
  pub doubted : List ℕ
  pub prefs : PreferenceMemory
  pub inputs : List Triple
  pub changed : List Triple
  pub live : Firings
  pub kept : KeptOf

abbrev pub with_left : PartsKept → Left → WorkingMemory → PartsKept
with_left a l memory = record a { goals = l.goals; depends = l.depends; doubted = l.doubted; prefs = l.prefs; inputs = l.inputs; changed = l.changed; live = l.live; kept = l.kept; memory = memory }

-- what trimming says of them
pub record HasTrimmed (a : PartsKept) (l : Left) (kept : List Triple) : Type 0 where
  pub trims : (history : List RecordedFiring) → RemembersGoals a history
      → Trims history a.memory.elements (held_by a.goals a.depends a.prefs a.inputs a.live.list) (held_by l.goals l.depends l.prefs l.inputs l.live.list) kept
  pub keeps : KeepsFirst (held_by a.goals a.depends a.prefs a.inputs a.live.list) (held_by l.goals l.depends l.prefs l.inputs l.live.list)
  pub kept_is : kept ≡ kept_held (held_by l.goals l.depends l.prefs l.inputs l.live.list)

-- the goals behind those that are left
pub record HasRemoved (a : PartsKept) (l : Left) (removed : List Removed) : Type 0 where
  pub removed_are : map removed_seen removed ≡ at_depths (suc (length l.goals)) (drop (length l.goals) a.goals)

pub has_removed : (a : PartsKept) (l : Left) (before sliced removed : List Removed) (count : ℕ) → map removed_seen before ≡ at_depths 1 a.goals → sliced ≡ before → count ≡ length l.goals
    → removed ≡ drop count sliced → HasRemoved a l removed
has_removed a l before sliced removed count is same count_is removed_is = record {
  removed_are = ap (map removed_seen) removed_is ∙ (λ k. map removed_seen (drop (count_is k) (same k))) ∙ removed_behind (length l.goals) a.goals before is;
}

-- the elements afterwards
abbrev pub elements_left : PartsKept → Left → List Triple → List Element
elements_left a l kept = after_of a.table l.goals kept a.memory

-- ---- the step

-- from what trimming leaves
abbrev step_to : PartsKept → List RecordedFiring → Remains → AgentStep
step_to a history t =
    let after = after_of a.table t.goals (kept_triples t.goals (supports_of t)) a.memory in
    record {
      agent = record (agent_of a history) {
        names = record { words = a.table; letters = a.letters; last_tag = last_of after a.memory };
        holding = record { elements = after; goals = t.goals; rows = t.rows; inputs = t.inputs; live = t.live };
      };
      events = removal_events t.removed ++ (map goes (without_elements after a.memory.elements) ++ map comes (without_elements a.memory.elements after));
      totals = elements_to (length after) ∷ tags_to (last_of after a.memory) ∷ [];
      halted = false;
    }

abbrev trimmed_of : PartsKept → List RecordedFiring → Remains
trimmed_of a history = trimmed history a.memory.elements (remains_of (held_by a.goals a.depends a.prefs a.inputs a.live.list))

step_is : (a : PartsKept) (history : List RecordedFiring) → resettled_now (agent_of a history) ≡ step_to a history (trimmed_of a history)
unfolding resettled
step_is a history = refl

-- the elements are those of what is left
elements_are : (a : PartsKept) (l : Left) (kept : List Triple) (history : List RecordedFiring) → RemembersGoals a history → HasTrimmed a l kept
    → elements_left a l kept ≡ after_of a.table (trimmed_of a history).goals (kept_triples (trimmed_of a history).goals (supports_of (trimmed_of a history))) a.memory
elements_are a l kept history remembers h =
    let t = h.trims history remembers in
    λ i. after_of a.table (t.goals_are i) (t.kept_are i) a.memory

-- a limit that is passed where memory is made is that of the step
stops_resettling : (a new : PartsKept) (l : Left) (kept : List Triple) (history : List RecordedFiring) (memory : WorkingMemory) (why : Stop) → RemembersGoals a history → HasTrimmed a l kept
    → Retags a.table l.goals kept a.memory memory (Err why) → ResettlesWith new history (resettled_now (agent_of a history)) (Err why)
stops_resettling a new l kept history memory stop.NoMemory remembers h tagged = tt
stops_resettling a new l kept history memory (stop.Limit which) remembers h tagged =
    ap (λ (s : AgentStep). first_passed s.totals) (step_is a history)
    ∙ ap (λ after. passed_by after a.memory) (sym (elements_are a l kept history remembers h))
    ∙ tagged.0

agent_left : (a : PartsKept) (l : Left) (kept : List Triple) (history : List RecordedFiring) (memory : WorkingMemory) → RemembersGoals a history → HasTrimmed a l kept
    → memory ≡ record a.memory { elements = elements_left a l kept; last = last_of (elements_left a l kept) a.memory }
    → agent_of (with_left a l memory) history ≡ (step_to a history (trimmed_of a history)).agent
agent_left a l kept history memory remembers h memory_is = λ i.
    let t = h.trims history remembers in
    let same = elements_are a l kept history remembers h in
    let elements = ap (λ (m : WorkingMemory). m.elements) memory_is ∙ same in
    let last = ap (λ (m : WorkingMemory). m.last) memory_is ∙ ap (λ after. last_of after a.memory) same in
    record (agent_of a history) {
      names = record { words = a.table; letters = a.letters; last_tag = last i };
      holding = record { elements = elements i; goals = t.goals_are i; rows = (t.prefs_are i).rows; inputs = t.inputs_are i; live = t.live_are i };
    }

-- the goals' part of the history is remembered, with the tags of the goals that are left
goals_left_remember : (a : PartsKept) (l : Left) (kept : List Triple) (history : List RecordedFiring) (memory : WorkingMemory) → RemembersGoals a history → HasTrimmed a l kept
    → RemembersGoals (with_left a l memory) history
goals_left_remember a l kept history memory remembers h = record { depends_are = (h.trims history remembers).depends_are; goals_numbered = remembers.goals_numbered }

goal_left : (n : ℕ) (goals : List Goal) (g : Goal) → IsIn g (take n goals) → IsIn g goals
goal_left zero goals g is = absurd is
goal_left (suc n) [] g is = absurd is
goal_left (suc n) (goal ∷ goals) g (inl e) = inl e
goal_left (suc n) (goal ∷ goals) g (inr is) = inr (goal_left n goals g is)

within_left : (a : PartsKept) (l : Left) (kept : List Triple) → HasTrimmed a l kept → (g : Goal) → IsIn g l.goals → IsIn g a.goals
within_left a l kept h g is = goal_left (length l.goals) a.goals g (subst (λ gs. IsIn g gs) h.keeps.goals_are is)

-- no explanation begins elsewhere
roots_left : (a : PartsKept) (l : Left) (kept : List Triple) (memory : WorkingMemory) → HasTrimmed a l kept → (n : ℕ) → IsIn n (roots_in (with_left a l memory)) → IsIn n (roots_in a)
roots_left a l kept memory h =
    each_root (λ n. IsIn n (roots_in a)) (map live_seen l.live.list) l.prefs.rows l.goals (λ x is. root_of_live (map live_seen a.live.list) a.prefs.rows a.goals x (h.keeps.live_are x is))
    (λ row is. root_of_row (map live_seen a.live.list) a.prefs.rows a.goals row (h.keeps.rows_are row is))
    (λ g is n named. root_of_goal (map live_seen a.live.list) a.prefs.rows a.goals g (within_left a l kept h g is) n named)

remembers_left : (a : PartsKept) (l : Left) (kept : List Triple) (history : List RecordedFiring) (memory : WorkingMemory) → Remembers a history → HasTrimmed a l kept
    → Remembers (with_left a l memory) history
remembers_left a l kept history memory remembers h =
    let goals = goals_left_remember a l kept history memory (goals_remembered a history remembers) h in
    record {
      is_record = fewer_roots_need_less (recorded a.past) (firings_in history) (roots_in a) (roots_in (with_left a l memory)) (roots_left a l kept memory h) remembers.is_record;
      makers_kept = remembers.makers_kept;
      numbers_given = remembers.numbers_given;
      makers_earlier = remembers.makers_earlier;
      depends_are = goals.depends_are;
      goals_numbered = goals.goals_numbered;
    }

-- the goals that went are those that trimming removes
goals_removed : RemovalsAreNested → RemovalsAlone → (a : PartsKept) (l : Left) (kept : List Triple) (removed : List Removed) (history : List RecordedFiring) → RemembersGoals a history → HasTrimmed a l kept
    → HasRemoved a l removed → map removed_seen removed ≡ (trimmed_of a history).removed
goals_removed nested alone a l kept removed history remembers h gone =
    let left = trimmed_of a history in
    let same = (h.trims history remembers).goals_are in
    gone.removed_are
    ∙ (λ k. at_depths (suc (length (same k))) (drop (length (same k)) a.goals))
    ∙ sym (alone (suc (length left.goals)) (drop (length left.goals) a.goals))
    ∙ sym (nested history a.memory.elements (remains_of (held_by a.goals a.depends a.prefs a.inputs a.live.list)))

events_left : RemovalsAreNested → RemovalsAlone → (a : PartsKept) (l : Left) (kept : List Triple) (removed : List Removed) (history : List RecordedFiring) (changes : Changes) → RemembersGoals a history
    → HasTrimmed a l kept → HasRemoved a l removed → changes.gone ≡ without_elements (elements_left a l kept) a.memory.elements
    → changes.new ≡ without_elements a.memory.elements (elements_left a l kept)
    → settled_events (record { removed = removed; changes = changes }) ≡ (step_to a history (trimmed_of a history)).events
events_left nested alone a l kept removed history changes remembers h gone gone_are new_are =
    let same = elements_are a l kept history remembers h in
    let went = gone_are ∙ ap (λ after. without_elements after a.memory.elements) same in
    let came = new_are ∙ ap (without_elements a.memory.elements) same in
    λ k. removal_events (goals_removed nested alone a l kept removed history remembers h gone k) ++ (map goes (went k) ++ map comes (came k))

pub settles_each : RemovalsAreNested → RemovalsAlone → (a : PartsKept) (l : Left) (kept : List Triple) (removed : List Removed) (history : List RecordedFiring) (memory : WorkingMemory) (changes : Changes)
    → RemembersGoals a history → HasTrimmed a l kept → HasRemoved a l removed
    → Retags a.table l.goals kept a.memory memory (Ok changes) → IsResettledWith (with_left a l memory) (record { removed = removed; changes = changes }) history (resettled_now (agent_of a history))
settles_each nested alone a l kept removed history memory changes remembers h gone tagged = record {
  agent_is = agent_left a l kept history memory remembers h tagged.memory_is ∙ ap (λ (s : AgentStep). s.agent) (sym (step_is a history));
  remembers = goals_left_remember a l kept history memory remembers h;
  within = ap (λ (s : AgentStep). first_passed s.totals) (step_is a history) ∙ ap (λ after. passed_by after a.memory) (sym (elements_are a l kept history remembers h)) ∙ tagged.within;
  events_are = events_left nested alone a l kept removed history changes remembers h gone tagged.gone_are tagged.new_are ∙ ap (λ (s : AgentStep). s.events) (sym (step_is a history));
}

pub settles : RemovalsAreNested → RemovalsAlone → (a : PartsKept) (l : Left) (kept : List Triple) (removed : List Removed) (history : List RecordedFiring) (memory : WorkingMemory) (changes : Changes)
    → Remembers a history → HasTrimmed a l kept → HasRemoved a l removed
    → Retags a.table l.goals kept a.memory memory (Ok changes) → IsResettled (with_left a l memory) (record { removed = removed; changes = changes }) (resettled_now (agent_of a history))
settles nested alone a l kept removed history memory changes remembers h gone tagged =
    let s = settles_each nested alone a l kept removed history memory changes (goals_remembered a history remembers) h gone tagged in
    record {
      stands = stands_for (with_left a l memory) history (resettled_now (agent_of a history)).agent (remembers_left a l kept history memory remembers h) s.agent_is;
      within = s.within;
      events_are = s.events_are;
    }

stops_each : (new : PartsKept) (history : List RecordedFiring) (s : AgentStep) (why : Stop) → ResettlesWith new history s (Err why) → (a : Agent) → resettled_now a ≡ s → Resettles new a (Err why)
stops_each new history s stop.NoMemory h a same = tt
stops_each new history s (stop.Limit which) h a same = ap (λ (t : AgentStep). first_passed t.totals) same ∙ h

pub settles_not_each : (a new : PartsKept) (l : Left) (kept : List Triple) (history : List RecordedFiring) (memory : WorkingMemory) (r : Result Settled Stop) (why : Stop) → r ≡ Err why → RemembersGoals a history
    → HasTrimmed a l kept → Retags a.table l.goals kept a.memory memory (Err why) → ResettlesWith new history (resettled_now (agent_of a history)) r
settles_not_each a new l kept history memory r why is remembers h tagged =
    subst (ResettlesWith new history (resettled_now (agent_of a history))) (sym is) (stops_resettling a new l kept history memory why remembers h tagged)

pub settles_not : (a new : PartsKept) (l : Left) (kept : List Triple) (history : List RecordedFiring) (memory : WorkingMemory) (r : Result Settled Stop) (why : Stop) → r ≡ Err why → Remembers a history
    → HasTrimmed a l kept → Retags a.table l.goals kept a.memory memory (Err why) → Resettles new (agent_of a history) r
settles_not a new l kept history memory r why is remembers h tagged =
    subst (Resettles new (agent_of a history)) (sym is)
    (stops_each new history (resettled_now (agent_of a history)) why (stops_resettling a new l kept history memory why (goals_remembered a history remembers) h tagged) (agent_of a history) refl)

-- ---- what is sound stays so

goals_left : (a : PartsKept) (l : Left) (kept : List Triple) → HasTrimmed a l kept → IsToSettle a → AreGoalsKnown a.table a.letters l.goals
goals_left a l kept h sound g is = sound.goals_known g (within_left a l kept h g is)

supports_left : (a : PartsKept) (l : Left) (kept : List Triple) → HasTrimmed a l kept → IsToSettle a
    → KnowsSupports a.table (supports_held (held_by l.goals l.depends l.prefs l.inputs l.live.list))
supports_left a l kept h sound = record {
  rows_known = rows_left a.table a.prefs.rows l.prefs.rows h.keeps.rows_are sound.rows_known;
  inputs_known = triples_left a.table a.inputs l.inputs h.keeps.inputs_are sound.inputs_known;
}

pub kept_sound : (a : PartsKept) (l : Left) (kept : List Triple) → HasTrimmed a l kept → IsToSettle a → AreTriplesKnown a.table kept
kept_sound a l kept h sound =
    subst (AreTriplesKnown a.table) (sym h.kept_is)
    (kept_known a.table a.letters l.goals (supports_held (held_by l.goals l.depends l.prefs l.inputs l.live.list)) sound.first_words (goals_left a l kept h sound) (supports_left a l kept h sound))

pub left_sound : (a : PartsKept) (l : Left) (kept : List Triple) (memory : WorkingMemory) → HasTrimmed a l kept → IsToSettle a
    → memory ≡ record a.memory { elements = elements_left a l kept; last = last_of (elements_left a l kept) a.memory } → IsKeptUp l.prefs l.inputs l.changed l.kept memory.elements
    → l.kept.ids ≡ goal_ids l.goals → AreDoubted l.depends memory.elements l.kept.triples l.doubted → IsSound (with_left a l memory)
left_sound a l kept memory h sound memory_is kept_up kept_ids doubted =
    let elements = ap (λ (m : WorkingMemory). m.elements) memory_is in
    record {
      goals_some = h.keeps.some;
      goals_few = omega (arith, ap length h.keeps.goals_are, length_take (length l.goals) a.goals, sound.goals_few);
      goals_known = goals_left a l kept h sound;
      depends_fit = h.keeps.fits;
      doubted = doubted;
      element_limit = ap (λ (m : WorkingMemory). m.limit) memory_is ∙ sound.element_limit;
      row_limit = h.keeps.limit_is ∙ sound.row_limit;
      few_rows = omega (arith, h.keeps.fewer_rows, h.keeps.limit_is, sound.few_rows);
      rows_in_range = range_left a.prefs.rows l.prefs.rows h.keeps.rows_are sound.rows_in_range;
      rows_of_firings = λ row is. sound.rows_of_firings row (h.keeps.rows_are row is);
      makers_of_firings = λ g s is selected. sound.makers_of_firings g s (within_left a l kept h g is) selected;
      recorded_up_to = sound.recorded_up_to;
      makers_earlier = sound.makers_earlier;
      first_words = sound.first_words;
      top_numbered = sound.top_numbered;
      numbered = sound.numbered;
      numbers_given = sound.numbers_given;
      rules_known = sound.rules_known;
      elements_known = subst (AreElementsKnown a.table) (sym elements)
          (after_known a.table l.goals kept a.memory.last a.memory.elements (kept_sound a l kept h sound) sound.elements_known);
      rows_known = (supports_left a l kept h sound).rows_known;
      inputs_known = (supports_left a l kept h sound).inputs_known;
      queue_known = sound.queue_known;
      output_known = sound.output_known;
      live_known = live_left a.table (map live_seen a.live.list) (map live_seen l.live.list) h.keeps.live_are sound.live_known;
      live_given = λ x is. sound.live_given x (h.keeps.live_are x is);
      kept_up = kept_up;
      kept_ids = kept_ids;
      past_named = sound.past_named;
      chains_known = sound.chains_known;
      chains_kept = sound.chains_kept;
    }

-- what is told is known
pub tells_known : (a : PartsKept) (l : Left) (kept : List Triple) (removed : List Removed) (memory : WorkingMemory) (changes : Changes) → HasTrimmed a l kept → HasRemoved a l removed → IsToSettle a
    → Retags a.table l.goals kept a.memory memory (Ok changes) → AreEventsKnown a.table (settled_events (record { removed = removed; changes = changes }))
tells_known a l kept removed memory changes h gone sound tagged =
    settled_known a.table a.letters (length l.goals) a.goals a.memory.elements (elements_left a l kept) (record { removed = removed; changes = changes }) sound.goals_known sound.elements_known
    (after_known a.table l.goals kept a.memory.last a.memory.elements (kept_sound a l kept h sound) sound.elements_known)
    gone.removed_are tagged.gone_are tagged.new_are
