-- The firings of a wave (Soar manual, chapter 2, elaboration cycle).
use Rattle.std.specs.Prelude.{suc, Bool, false, ◌||◌, List, [], ◌∷◌, ◌++◌, map}
use Rattle.soar_rule.specs.Symbols.{constants_of}
use Rattle.defs_match.specs.WorkingMemory.{triple_of}
use Rattle.defs_soar.specs.Agents.{Agent}
use Rattle.defs_soar.specs.Events.{fires}
use Rattle.defs_soar.specs.Firing.{MadeSoFar, made_by}
use Rattle.defs_soar.specs.History.{FiringOf, Reach}
use Rattle.defs_soar.specs.Levels.{reaches}
use Rattle.defs_soar.specs.Limits.{counts_to}
use Rattle.defs_soar.specs.Pending.{Firable, depth_of, is_of_operator_kind}
use Rattle.defs_soar.specs.Support.{goal_at_depth}
use Rattle.defs_soar.specs.Uses.{elements_matched, all_uses}
use Rattle.defs_soar.specs.WaveAtHand.{Fresh, fired, BeforeWave, Wave, goals_among, supported_wish}

abbrev pub reach_of : Agent → Reach
reach_of a = record { goals = a.holding.goals; reached = reaches a.holding.goals (map triple_of a.holding.elements) }

abbrev pub before_wave : Agent → BeforeWave
before_wave a = record {
  reach = reach_of a;
  rows = a.holding.rows;
  elements = a.holding.elements;
  firings = map (λ past. past.firing) a.history;
  settings = a.settings;
}

abbrev pub first_wave : Agent → Wave
first_wave a = record { names = a.names; program = a.program; last_firing = a.counts.firings; learned = a.counts.learned; entries = []; next = []; halted = false; totals = [] }

-- a firing as it is recorded; words and number are those of its turn, all else is from before the wave
abbrev pub firing_of_work : BeforeWave → Wave → Firable → MadeSoFar → FiringOf
firing_of_work m w f made =
    let depth = depth_of m.reach.goals f in
    record {
      number = suc w.last_firing;
      name = f.rule.production.name;
      rule = f.rule;
      depth = depth;
      instance = f.instance;
      goals = goals_among w.names.words m.reach.goals (f.instance.binds ++ constants_of f.rule.production);
      used = all_uses m.reach m.rows depth (elements_matched m.elements f.instance.tags);
      made = made.wishes;
    }

abbrev pub fresh_firing : BeforeWave → FiringOf → Bool → MadeSoFar → Fresh
fresh_firing m f kind made = record {
  firing = f;
  goal = goal_at_depth f.depth m.reach.goals;
  operator_kind = kind;
  heading = fires f.number f.name f.instance;
  wishes = map (supported_wish m.reach.goals kind) made.wishes;
  dropped = made.dropped;
  text = made.text;
}

abbrev pub made_in : Wave → BeforeWave → Firable → MadeSoFar
made_in w m f =
    made_by m.reach.goals f.rule.production.actions (record { bindings = f.bindings; words = w.names.words; letters = w.names.letters; vars = f.rule.production.vars; totals = [] })

abbrev pub with_firing : BeforeWave → Wave → Firable → Wave
with_firing m w f =
    let made = made_in w m f in
    record w {
      names = record w.names { words = made.naming.words; letters = made.naming.letters };
      last_firing = suc w.last_firing;
      entries = w.entries ++ fired (fresh_firing m (firing_of_work m w f made) (is_of_operator_kind m.reach.goals f) made) ∷ [];
      next = w.next ++ suc w.last_firing ∷ [];
      halted = w.halted || made.halted;
      totals = w.totals ++ (counts_to (suc w.last_firing) ∷ made.naming.totals);
    }

unfoldable pub with_firings : BeforeWave → Wave → List Firable → Wave
with_firings m w [] = w
with_firings m w (f ∷ firables) = with_firings m (with_firing m w f) firables
