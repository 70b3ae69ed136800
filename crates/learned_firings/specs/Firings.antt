-- The firing of a learned rule.
use Rattle.std.specs.Prelude.{ℕ, ◌&&◌, false, nat_lt, List, [], map}
use Rattle.soar_sym.specs.Words.{Texts}
use Rattle.soar_sym.specs.declared.symbol.Sym.{Sym}
use Rattle.soar_wm.specs.declared.element.Element.{Element}
use Rattle.defs_match.specs.Conflict.{bindings_of}
use Rattle.defs_match.specs.Rules.{RuleOf}
use Rattle.defs_soar.specs.declared.choice.Mode.TheVariants as mode
use Rattle.defs_soar.specs.declared.goal.Goal.{Goal}
use Rattle.defs_soar.specs.declared.preference.Wish.{Wish}
use Rattle.defs_soar.specs.Events.{LearningEvent, learning}
use Rattle.defs_soar.specs.LearnedFirings.{learned_firing}
use Rattle.defs_soar.specs.Support.{goal_at_depth, operator_kind}
use Rattle.defs_soar.specs.WaveAtHand.{BeforeWave, Fresh, supported_wish}
use Rattle.wave_entries.specs.Recorded.{RecordedAs, Standing, reach_of}

-- what was before a wave, for the firings of learned rules: neither the history nor the settings count
abbrev pub moment : Standing → BeforeWave
moment s = record {
  reach = reach_of s;
  rows = s.rows;
  elements = s.elements;
  firings = [];
  settings = record { learning = false; local_negations = false; mode = mode.First; max_elaborations = 0; watch = 0 };
}

-- with its match goal, and its kind where that is above this depth
abbrev pub learned_as : Texts → Standing → ℕ → ℕ → RuleOf → List Element → List Sym → List Wish → RecordedAs
learned_as words s explained number rule elements binds wishes =
    let f = learned_firing (moment s) words number rule elements binds wishes in
    record {
      firing = f;
      goal = goal_at_depth f.depth s.goals;
      operator_kind = nat_lt f.depth explained && operator_kind s.goals elements (bindings_of f.rule.production f.instance) f.rule.production;
    }

-- as it is told, under what was learned
abbrev pub told_as_learned : List Goal → RecordedAs → LearningEvent → Fresh
told_as_learned goals r learning_event = record {
  firing = r.firing;
  goal = r.goal;
  operator_kind = r.operator_kind;
  heading = learning learning_event;
  wishes = map (supported_wish goals r.operator_kind) r.firing.made;
  dropped = [];
  text = [];
}
