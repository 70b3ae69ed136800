-- A wave, from its parts.
use Rattle.std.proofs.Common.{◌≡◌, suc, ◌+◌, ◌<◌, ◌≤◌, ◌∙◌, Bool, ◌||◌, List, ◌∷◌, ◌++◌, length, Some, None, refl, sym, ap}
use Rattle.defs_soar.specs.declared.limit.Which.{Which}
use Rattle.defs_soar.specs.declared.limit.Which.TheVariants as which
use Rattle.defs_soar.specs.Agents.{Agent}
use Rattle.defs_soar.specs.History.{RecordedFiring}
use Rattle.defs_soar.specs.Learning.{with_learning}
use Rattle.defs_soar.specs.Limits.{Total, preferences_to, counts_to, first_passed}
use Rattle.defs_soar.specs.Pending.{Work}
use Rattle.defs_soar.specs.Phases.{halting}
use Rattle.defs_soar.specs.Resettling.{resettled}
use Rattle.defs_soar.specs.Waves.{after_work, wave_of}
use Rattle.wave_parts.specs.WaveParts.{ended_in, settled_after, rows_in_all}
use Rattle.wave_parts.proofs.LimitLemmas.{passes_over, passes_not, passed_here, passed_later, passed_front, passed_behind}

-- with what is learned
pub wave_is : (a : Agent) (work : Work) → wave_of with_learning a work ≡ after_work a work.retracted (ended_in a work)
unfolding wave_of
wave_is a work = refl

-- ---- what it draws

abbrev from_rows : Agent → Work → List Total
from_rows a work = preferences_to (rows_in_all a work.retracted (ended_in a work)) ∷ (settled_after a work.retracted (ended_in a work)).totals

abbrev from_work : Agent → Work → List Total
from_work a work = (ended_in a work).totals ++ from_rows a work

abbrev from_retractions : Agent → Work → List Total
from_retractions a work = counts_to (a.counts.retractions + length work.retracted) ∷ from_work a work

abbrev drawn_in : Agent → Work → List Total
drawn_in a work = counts_to (suc a.counts.waves) ∷ from_retractions a work

pub drawn_is : (a : Agent) (work : Work) → (wave_of with_learning a work).totals ≡ drawn_in a work
unfolding resettled
drawn_is a work = ap (λ s. s.totals) (wave_is a work)

pub halted_is : (a : Agent) (work : Work) → (wave_of with_learning a work).halted ≡ (ended_in a work).halted
halted_is a work = ap (λ s. s.halted) (wave_is a work)

-- ---- where it stops

pub stops_at_waves : (a : Agent) (work : Work) → 18446744073709551615 < suc a.counts.waves → first_passed (wave_of with_learning a work).totals ≡ Some which.Counts
stops_at_waves a work over = ap first_passed (drawn_is a work) ∙ passed_here (counts_to (suc a.counts.waves)) (from_retractions a work) which.Counts (passes_over (suc a.counts.waves) which.Counts over)

past_waves : (a : Agent) (work : Work) → suc a.counts.waves ≤ 18446744073709551615
    → first_passed (wave_of with_learning a work).totals ≡ first_passed (from_retractions a work)
past_waves a work few = ap first_passed (drawn_is a work) ∙ passed_later (counts_to (suc a.counts.waves)) (from_retractions a work) (passes_not (suc a.counts.waves) which.Counts few)

pub stops_at_retractions : (a : Agent) (work : Work) → suc a.counts.waves ≤ 18446744073709551615
    → 18446744073709551615 < a.counts.retractions + length work.retracted → first_passed (wave_of with_learning a work).totals ≡ Some which.Counts
stops_at_retractions a work few over = past_waves a work few ∙ passed_here (counts_to (a.counts.retractions + length work.retracted)) (from_work a work) which.Counts (passes_over (a.counts.retractions + length work.retracted) which.Counts over)

-- ---- the counts are within their limits

pub record Counted (a : Agent) (work : Work) : Type 0 where
  pub waves : suc a.counts.waves ≤ 18446744073709551615
  pub retractions : a.counts.retractions + length work.retracted ≤ 18446744073709551615

past_counts : (a : Agent) (work : Work) → Counted a work
    → first_passed (wave_of with_learning a work).totals ≡ first_passed (from_work a work)
past_counts a work few = past_waves a work few.waves ∙ passed_later (counts_to (a.counts.retractions + length work.retracted)) (from_work a work) (passes_not (a.counts.retractions + length work.retracted) which.Counts few.retractions)

pub stops_in_work : (a : Agent) (work : Work) (limit : Which) → Counted a work
    → first_passed (ended_in a work).totals ≡ Some limit → first_passed (wave_of with_learning a work).totals ≡ Some limit
stops_in_work a work limit few passed = past_counts a work few ∙ passed_front (ended_in a work).totals (from_rows a work) limit passed

past_work : (a : Agent) (work : Work) → Counted a work → first_passed (ended_in a work).totals ≡ None
    → first_passed (wave_of with_learning a work).totals ≡ first_passed (from_rows a work)
past_work a work few none = past_counts a work few ∙ passed_behind (ended_in a work).totals (from_rows a work) none

pub stops_at_rows : (a : Agent) (work : Work) → Counted a work → first_passed (ended_in a work).totals ≡ None
    → 1000000 < rows_in_all a work.retracted (ended_in a work) → first_passed (wave_of with_learning a work).totals ≡ Some which.Preferences
stops_at_rows a work few none over = past_work a work few none ∙ passed_here (preferences_to (rows_in_all a work.retracted (ended_in a work))) (settled_after a work.retracted (ended_in a work)).totals which.Preferences
    (passes_over (rows_in_all a work.retracted (ended_in a work)) which.Preferences over)

-- the rest is for settling to say
pub past_rows : (a : Agent) (work : Work) → Counted a work → first_passed (ended_in a work).totals ≡ None
    → rows_in_all a work.retracted (ended_in a work) ≤ 1000000
    → first_passed (wave_of with_learning a work).totals ≡ first_passed (settled_after a work.retracted (ended_in a work)).totals
past_rows a work few none room = past_work a work few none ∙ passed_later (preferences_to (rows_in_all a work.retracted (ended_in a work))) (settled_after a work.retracted (ended_in a work)).totals
    (passes_not (rows_in_all a work.retracted (ended_in a work)) which.Preferences room)

-- ---- the state that it leaves

abbrev pub history_after : Agent → Work → List RecordedFiring
history_after a work = (after_work a work.retracted (ended_in a work)).agent.history

pub stands_after : (a s : Agent) (work : Work) (halted : Bool) → s ≡ (settled_after a work.retracted (ended_in a work)).agent → halted ≡ (ended_in a work).halted
    → record s { history = history_after a work; halted = s.halted || halted } ≡ halting (wave_of with_learning a work)
unfolding resettled
stands_after a s work halted settled is =
    (λ k. record (settled k) { history = history_after a work; halted = (settled k).halted || is k }) ∙ sym (ap halting (wave_is a work))
