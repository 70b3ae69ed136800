-- An agent that stands for a state, and the state with a history of which it is made. Crates above cite this file.
use Rattle.std.proofs.Common.{◌≡◌, ◌∙◌, List, [], ◌++◌, drop, map, flat_map, refl, sym, ap, subst}
use Rattle.defs_soar.specs.declared.firing.Firing.{Firing}
use Rattle.defs_soar.specs.declared.goal.Goal.{Goal}
use Rattle.defs_soar.specs.declared.preference.Preference.{Preference}
use Rattle.defs_soar.specs.Agents.{Agent, LiveFiring}
use Rattle.defs_soar.specs.History.{RecordedFiring}
use Rattle.defs_soar.specs.Standing.{dependencies_from, makers_of_goal}
use Rattle.defs_soar.specs.Start.{first_holding}
use Rattle.agent_laws.specs.Dependence.{firings_in}
use Rattle.agent_laws.specs.Records.{IsPartOf}
use Rattle.dependency_tables.specs.Tables.{tables_of}
use Rattle.live_firings.specs.Living.{live_seen}
use Rattle.live_firings.specs.declared.live.Live.{Live}
use Rattle.record_laws.specs.Closed.{HasMakers}
use Rattle.soar_record.specs.Recorded.{recorded}
use Rattle.wave_firings.specs.Numbered.{AreRecordedUpTo}
use Rattle.wave_parts.specs.Programs.{program_of}
use Rattle.wave_parts.specs.Remembers.{PastGoalsAreNumbered, Remembers, RemembersGoals, roots_in}
use Rattle.wave_parts.specs.Seen.{agent_of}
use Rattle.wave_parts.specs.Stands.{Stands}
use Rattle.wave_parts.specs.declared.parts.Parts.{Parts as PartsKept}

-- parts with the same firings, count of firings, tags, goals, rows, live firings and letters remember the same
pub remembers_same : (a b : PartsKept) (history : List RecordedFiring) → b.past ≡ a.past → b.firings ≡ a.firings → b.depends ≡ a.depends → b.goals ≡ a.goals → b.prefs.rows ≡ a.prefs.rows → b.live.list ≡ a.live.list
    → b.letters ≡ a.letters → Remembers a history → Remembers b history
remembers_same a b history past firings depends goals rows live letters r = record {
  is_record =
      let roots : roots_in a ≡ roots_in b = λ k. map (λ (l : LiveFiring). l.number) (map live_seen (sym live k)) ++ (map (λ (row : Preference). row.firing) (sym rows k) ++ flat_map makers_of_goal (sym goals k)) in
      subst (λ kept. IsPartOf kept (firings_in history) (roots_in b)) (sym (ap recorded past)) (subst (IsPartOf (recorded a.past) (firings_in history)) roots r.is_record);
  makers_kept = subst HasMakers (sym (ap recorded past)) r.makers_kept;
  numbers_given = subst (λ last. AreRecordedUpTo last (firings_in history)) (sym firings) r.numbers_given;
  makers_earlier = r.makers_earlier;
  depends_are = depends ∙ r.depends_are ∙ ap (λ gs. tables_of (dependencies_from history 2 (drop 1 gs))) (sym goals);
  goals_numbered = subst (λ given. PastGoalsAreNumbered given history) (sym letters) r.goals_numbered;
}

abbrev IsNone : List Firing → List Live → List Preference → List Goal → Type 0
IsNone past live rows goals = IsPartOf (recorded past) [] (map (λ (l : LiveFiring). l.number) (map live_seen live) ++ (map (λ (row : Preference). row.firing) rows ++ flat_map makers_of_goal goals))

-- where nothing fired nothing is kept
pub none_recorded : (past : List Firing) (live : List Live) (rows : List Preference) (goals : List Goal) → past ≡ [] → live ≡ [] → rows ≡ [] → goals ≡ first_holding.goals
    → IsPartOf (recorded past) [] (map (λ l. l.number) (map live_seen live) ++ (map (λ row. row.firing) rows ++ flat_map makers_of_goal goals))
none_recorded past live rows goals past_is live_is rows_is goals_is =
    subst (λ (ps : List Firing). IsNone ps live rows goals) (sym past_is)
    (subst (λ (ls : List Live). IsNone [] ls rows goals) (sym live_is)
    (subst (λ (rs : List Preference). IsNone [] [] rs goals) (sym rows_is)
    (subst (λ (gs : List Goal). IsNone [] [] [] gs) (sym goals_is) (record { apart = tt; from_history = tt; reaches_all = refl }))))

pub none_kept : (past : List Firing) → past ≡ [] → HasMakers (recorded past)
none_kept past past_is = subst (λ (ps : List Firing). HasMakers (recorded ps)) (sym past_is) (λ f is. absurd is)

-- settling goes by a part of it
pub goals_remembered : (a : PartsKept) (history : List RecordedFiring) → Remembers a history → RemembersGoals a history
goals_remembered a history r = record { depends_are = r.depends_are; goals_numbered = r.goals_numbered }

pub stands_at : (a : PartsKept) (history : List RecordedFiring) → Remembers a history → Stands a (agent_of a history)
stands_at a history remembers = record {
  words = refl;
  letters = refl;
  elements = refl;
  last_tag = refl;
  goals = refl;
  rows = refl;
  inputs = refl;
  live = refl;
  queues = refl;
  rules = refl;
  last_rule = refl;
  chains = refl;
  learned_numbers = (refl, refl);
  counts = refl;
  settings = refl;
  output = refl;
  halted = refl;
  remembers = remembers;
}

pub stands_for : (a : PartsKept) (history : List RecordedFiring) (s : Agent) → Remembers a history → agent_of a history ≡ s → Stands a s
stands_for a history s remembers is = subst (Stands a) is (stands_at a history remembers)

pub program_is : (a : PartsKept) (s : Agent) → Stands a s → program_of a ≡ s.program
program_is a s h = λ k. record {
  rules = h.rules k;
  last_rule = h.last_rule k;
  chains = h.chains k;
  chunks = h.learned_numbers.0 k;
  justifications = h.learned_numbers.1 k;
}

-- the parts and the history are the whole state
whole_state : (a : PartsKept) (s : Agent) → Stands a s → agent_of a s.history ≡ s
whole_state a s h = λ k. record {
  names = record { words = h.words k; letters = h.letters k; last_tag = h.last_tag k };
  holding = record { elements = h.elements k; goals = h.goals k; rows = h.rows k; inputs = h.inputs k; live = h.live k };
  queues = h.queues k;
  program = program_is a s h k;
  counts = h.counts k;
  settings = h.settings k;
  history = s.history;
  output = h.output k;
  halted = h.halted k;
}

pub state_is : (a : PartsKept) (s : Agent) → Stands a s → s ≡ agent_of a s.history
state_is a s h = sym (whole_state a s h)

-- what holds of the agent with each history that it remembers holds of each state that it stands for
pub of_each_state : (P : Agent → Type 0) (a : PartsKept) → ((history : List RecordedFiring) → Remembers a history → P (agent_of a history)) → (s : Agent) → Stands a s → P s
of_each_state P a holds s h = subst P (whole_state a s h) (holds s.history h.remembers)
