-- The goals that settling removed, and that their events are known.
use Rattle.std.proofs.Common.{◌≡◌, ◌≤◌, ◌∙◌, ℕ, zero, suc, ◌+◌, List, [], ◌∷◌, ◌++◌, map, take, drop, length, inl, inr, refl, sym, ap, subst, arith}
use Rattle.std.proofs.lemmas.List.{length-map}
use Rattle.soar_sym.specs.Words.{Texts}
use Rattle.soar_wm.specs.declared.element.Element.{Element}
use Rattle.defs_soar.specs.declared.goal.Goal.{Goal}
use Rattle.defs_soar.specs.Events.{Event, goes, comes}
use Rattle.defs_soar.specs.Laws.{IsIn}
use Rattle.defs_soar.specs.Resettling.{removal_events, without_elements}
use Rattle.defs_soar.specs.Trimming.{RemovedGoal, at_depths}
use Rattle.soar_settle.specs.Known.{AreElementsKnown}
use Rattle.step_report.specs.Reports.{removed_seen, settled_events}
use Rattle.step_report.specs.declared.settled.Removed.{Removed}
use Rattle.step_report.specs.declared.settled.Settled.{Settled}
use Rattle.trace_laws.specs.Events.{AreEventsKnown}
use Rattle.wave_parts.specs.Seen.{AreGoalsKnown}
use Rattle.wave_parts.proofs.KnownLemmas.{elements_filter}

-- ---- the goals behind the first ones

map_drop : (n : ℕ) (before : List Removed) → map removed_seen (drop n before) ≡ drop n (map removed_seen before)
map_drop zero before = refl
map_drop (suc n) [] = refl
map_drop (suc n) (r ∷ before) = map_drop n before

none_more : (depth : ℕ) → 0 + depth ≡ depth
none_more depth = omega arith

next_depth : (n depth : ℕ) → n + suc depth ≡ suc n + depth
next_depth n depth = omega arith

drop_depths : (n depth : ℕ) (goals : List Goal) → drop n (at_depths depth goals) ≡ at_depths (n + depth) (drop n goals)
drop_depths zero depth goals = ap (λ d. at_depths d goals) (sym (none_more depth))
drop_depths (suc n) depth [] = refl
drop_depths (suc n) depth (goal ∷ goals) = drop_depths n (suc depth) goals ∙ ap (λ d. at_depths d (drop n goals)) (next_depth n depth)

from_first : (n : ℕ) → n + 1 ≡ suc n
from_first n = omega arith

pub removed_behind : (n : ℕ) (goals : List Goal) (before : List Removed) → map removed_seen before ≡ at_depths 1 goals → map removed_seen (drop n before) ≡ at_depths (suc n) (drop n goals)
removed_behind n goals before is = map_drop n before ∙ ap (drop n) is ∙ drop_depths n 1 goals ∙ ap (λ d. at_depths d (drop n goals)) (from_first n)

length_depths : (depth : ℕ) (goals : List Goal) → length (at_depths depth goals) ≡ length goals
length_depths depth [] = refl
length_depths depth (goal ∷ goals) = ap suc (length_depths (suc depth) goals)

pub length_take : (n : ℕ) (goals : List Goal) → length (take n goals) ≤ length goals
length_take zero goals = omega arith
length_take (suc n) [] = omega arith
length_take (suc n) (goal ∷ goals) = omega (arith, length_take n goals)

-- the goals that are left are no more than there were
pub no_more_left : (left goals : List Goal) (before : List Removed) → left ≡ take (length left) goals → map removed_seen before ≡ at_depths 1 goals → length left ≤ length before
no_more_left left goals before first is =
    omega (arith, ap length first, length_take (length left) goals, sym (length-map before removed_seen) ∙ ap length is ∙ length_depths 1 goals)

-- ---- known events

pub known_append : (words : Texts) (events more : List Event) → AreEventsKnown words events → AreEventsKnown words more → AreEventsKnown words (events ++ more)
known_append words [] more h k = k
known_append words (e ∷ events) more h k = (h.0, known_append words events more h.1 k)

removals_known : (words : Texts) (letters : List ℕ) (depth : ℕ) (goals : List Goal) → AreGoalsKnown words letters goals → AreEventsKnown words (removal_events (at_depths depth goals))
removals_known words letters depth [] h = tt
removals_known words letters depth (goal ∷ goals) h = ((h goal (inl refl)).id_known, removals_known words letters (suc depth) goals (λ g is. h g (inr is)))

goal_behind : (n : ℕ) (goals : List Goal) (g : Goal) → IsIn g (drop n goals) → IsIn g goals
goal_behind zero goals g is = is
goal_behind (suc n) [] g is = absurd is
goal_behind (suc n) (goal ∷ goals) g is = inr (goal_behind n goals g is)

gone_known : (words : Texts) (elements : List Element) → AreElementsKnown words elements → AreEventsKnown words (map goes elements)
gone_known words [] h = tt
gone_known words (e ∷ elements) h = (h.0, gone_known words elements h.1)

new_known : (words : Texts) (elements : List Element) → AreElementsKnown words elements → AreEventsKnown words (map comes elements)
new_known words [] h = tt
new_known words (e ∷ elements) h = (h.0, new_known words elements h.1)

-- goals that were there, elements that were there, and elements that are there now
pub settled_known : (words : Texts) (letters : List ℕ) (n : ℕ) (goals : List Goal) (old new : List Element) (settled : Settled) → AreGoalsKnown words letters goals
    → AreElementsKnown words old → AreElementsKnown words new → map removed_seen settled.removed ≡ at_depths (suc n) (drop n goals)
    → settled.changes.gone ≡ without_elements new old → settled.changes.new ≡ without_elements old new → AreEventsKnown words (settled_events settled)
settled_known words letters n goals old new settled goals_known old_known new_is_known removed_are gone_are new_are =
    known_append words (removal_events (map removed_seen settled.removed)) _
    (subst (λ (removed : List RemovedGoal). AreEventsKnown words (removal_events removed)) (sym removed_are)
    (removals_known words letters (suc n) (drop n goals) (λ g is. goals_known g (goal_behind n goals g is))))
    (known_append words (map goes settled.changes.gone) _
    (gone_known words settled.changes.gone (subst (AreElementsKnown words) (sym gone_are) (elements_filter words _ old old_known)))
    (new_known words settled.changes.new (subst (AreElementsKnown words) (sym new_are) (elements_filter words _ new new_is_known))))
