-- What settling and the removal of goals end with: nothing more goes, and no goal has lost what it depends on.
use Rattle.std.specs.Prelude.{◌≡◌, ℕ, suc, false, List, [], ◌∷◌, drop, None}
use Rattle.std.specs.List.{list_any}
use Rattle.soar_sym.specs.declared.symbol.Triple.{Triple}
use Rattle.soar_wm.specs.declared.element.Element.{Element}
use Rattle.defs_soar.specs.declared.goal.Goal.{Goal}
use Rattle.defs_soar.specs.Agents.{Agent}
use Rattle.defs_soar.specs.Dependencies.{dependency_set}
use Rattle.defs_soar.specs.History.{RecordedFiring}
use Rattle.defs_soar.specs.Resettling.{resettled}
use Rattle.defs_soar.specs.Settling.{kept_triples, settled}
use Rattle.defs_soar.specs.Trimming.{highest_broken, is_lost, supports_of, Remains, trimmed}

-- no goal of these, the first at this depth, has lost an element on which it depends
abbrev pub AreWhole : List RecordedFiring → List Element → List Triple → ℕ → List Goal → Type 0
AreWhole history elements kept depth [] = Unit {0}
AreWhole history elements kept depth (goal ∷ goals) =
    (list_any (is_lost elements kept) (dependency_set history goal.id depth) ≡ false) × AreWhole history elements kept (suc depth) goals

-- settled, and no goal below the top one is broken
pub record IsTrimmed (history : List RecordedFiring) (elements : List Element) (t : Remains) : Type 0 where
  pub rests : settled t.goals (supports_of t) ≡ supports_of t
  pub unbroken : highest_broken history elements (kept_triples t.goals (supports_of t)) 2 (drop 1 t.goals) ≡ None
  pub whole : AreWhole history elements (kept_triples t.goals (supports_of t)) 2 (drop 1 t.goals)

-- whatever goals there are
abbrev pub TrimmingEnds : Type 0
TrimmingEnds = (history : List RecordedFiring) (elements : List Element) (t : Remains) → IsTrimmed history elements (trimmed history elements t)

-- so is the state of an agent that has settled, with the history and the elements from before
abbrev pub held_in : Agent → Remains
held_in a = record { goals = a.holding.goals; rows = a.holding.rows; inputs = a.holding.inputs; live = a.holding.live; removed = [] }

abbrev pub ResettlingEnds : Type 0
ResettlingEnds = (a : Agent) (t : Remains) → IsTrimmed a.history a.holding.elements (held_in (resettled a t).agent)
