-- What is there before the first step.
use Rattle.std.specs.Prelude.{◌≡◌, List, [], ◌∷◌}
use Rattle.defs_soar.specs.declared.goal.Goal.{Goal}
use Rattle.defs_soar.specs.declared.goal.Impasse.TheVariants as impasse
use Rattle.defs_soar.specs.Architecture.{top_state}
use Rattle.defs_soar.specs.Decision.{new_goal}
use Rattle.defs_soar.specs.Start.{first_elements, first_letters}
use Rattle.settle_changes.specs.Rest.{IsAtRest}
use Rattle.soar_record.specs.Recorded.{recorded}
use Rattle.wave_parts.specs.declared.parts.Parts.{Parts as PartsKept}
use Rattle.wave_parts.specs.declared.start.Opening.{Opening}

abbrev pub top_goals : List Goal
top_goals = new_goal top_state impasse.Top [] ∷ []

-- the elements of the start, the top goal, no rows and no firings, and what is kept of that
pub record IsOpening (o : Opening) : Type 0 where
  pub memory : o.memory ≡ record { elements = first_elements; limit = 4000000; last = 5 }
  pub prefs : o.prefs ≡ record { rows = []; limit = 1000000; settled = [] }
  pub goals : o.goals ≡ top_goals
  pub past : o.past ≡ []
  pub rest : IsAtRest o.goals [] [] o.kept

-- nothing has come in, fired, or been shown yet
pub record IsBare (a : PartsKept) : Type 0 where
  pub letters : a.letters ≡ first_letters
  pub goals : a.goals ≡ top_goals
  pub elements : a.memory.elements ≡ first_elements
  pub rows : a.prefs.rows ≡ []
  pub inputs : a.inputs ≡ []
  pub queue : a.queue ≡ []
  pub output : a.output ≡ []
  pub live : a.live ≡ record { list = []; told = [] }
  pub past : recorded a.past ≡ []

-- the first of these parts, with the words, the program and the settings of the second, and the live firings that it told
abbrev pub begun_anew : PartsKept → PartsKept → PartsKept
begun_anew first old = record first {
  table = old.table;
  rules = old.rules;
  last_rule = old.last_rule;
  chains = old.chains;
  chunks = old.chunks;
  justifications = old.justifications;
  settings = old.settings;
  live = record { list = []; told = old.live.told };
}
