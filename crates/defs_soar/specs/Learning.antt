-- Learning from the firings of a wave (Soar manual, chapter 4, chunking; names and numbers are this engine's).
--
-- After all firings of the wave, each that made a result is explained, in order of number, by what was before the wave.
-- A learned rule's firing may in turn have results for a still higher goal; learning goes on from it afterwards.
use Rattle.std.specs.Prelude.{ℕ, ◌&&◌, ◌==◌, nat_lt, List, [], ◌∷◌, ◌++◌, map, filter, length, if◌then◌else◌}
use Rattle.std.specs.List.{list_any}
use Rattle.soar_rule.specs.Repeat.{repeated}
use Rattle.defs_soar.specs.declared.preference.Preference.{Preference}
use Rattle.defs_soar.specs.Events.{by_instance}
use Rattle.defs_soar.specs.Explanation.{chain_of}
use Rattle.defs_soar.specs.History.{FiringOf}
use Rattle.defs_soar.specs.LearnedFirings.{ExplainedFiring, with_support_by}
use Rattle.defs_soar.specs.Results.{is_result, results_of, goes_over}
use Rattle.defs_soar.specs.LearnedRules.{after_explanation}
use Rattle.defs_soar.specs.WaveAtHand.{Fresh, Entry, fired, noted, BeforeWave, Wave, WaveEnd, all_fresh}

-- what explains a firing with these results: the firing itself, and the makers of what hangs on its results
abbrev pub explained_on : BeforeWave → FiringOf → List Preference → ExplainedFiring
explained_on m f results = record {
  explained = f;
  takes_over = goes_over m.reach m.rows f;
  chain = chain_of (m.firings ++ f ∷ []) (f.number ∷ map (λ row. row.firing) results) (map (λ row. row.wish) results);
}

-- from a firing without results nothing is learned, and a firing of the top goal has none
abbrev pub learned_from : BeforeWave → FiringOf → Wave → Wave
learned_from m f w =
    if nat_lt 1 f.depth && list_any (is_result m.reach f.depth) f.made then after_explanation m (explained_on m f (results_of w.names.words m.reach m.rows f)) w else w

abbrev pub learned_from_each : BeforeWave → List ℕ → Wave → Wave
learned_from_each m [] w = w
learned_from_each m (n ∷ numbers) w = learned_from_each m numbers (learned_from_number (filter (λ x. x.firing.number == n) (all_fresh w.entries)))
  where
    learned_from_number : List Fresh → Wave
    learned_from_number [] = w
    learned_from_number (x ∷ others) = learned_from m x.firing w

-- from the firings in `next`, whose learned firings take their turn afterwards
abbrev pub one_round : BeforeWave → Wave → Wave
one_round m w = learned_from_each m w.next (record w { next = [] })

-- each round is about firings of higher goals than the one before, so as many as there are goals are enough
unfoldable pub with_learning : WaveEnd
with_learning m w = repeated (length m.reach.goals) (one_round m) w

-- ---- without learning

-- a firing's own preference for a higher identifier has instance support; a firing of the top goal has none
abbrev pub results_by_instance : BeforeWave → Entry → Entry
results_by_instance m (fired x) =
    if nat_lt 1 x.firing.depth then fired (record x { wishes = map (with_support_by (is_result m.reach x.firing.depth) by_instance) x.wishes }) else fired x
results_by_instance m (noted learning_event) = noted learning_event

-- nothing is learned, and all else is as it is with learning
unfoldable pub without_learning : WaveEnd
without_learning m w = record w { entries = map (results_by_instance m) w.entries; next = [] }
