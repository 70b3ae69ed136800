-- What is pending, from the conflict set.
use Rattle.std.proofs.Common.{◌≡◌, ℕ, ◌==◌, Bool, true, false, cond, not, List, [], ◌∷◌, ◌++◌, map, flat_map, filter, refl, sym, ◌∙◌, ap, ap₂, subst}
use Rattle.soar_sym.specs.Words.{Texts}
use Rattle.soar_wm.specs.declared.element.Element.{Element}
use Rattle.defs_match.specs.Conflict.{conflict}
use Rattle.defs_match.specs.Rules.{RuleOf}
use Rattle.defs_match.specs.declared.instance.Instance.{Instance}
use Rattle.defs_soar.specs.declared.goal.Goal.{Goal}
use Rattle.defs_soar.specs.Agents.{LiveFiring}
use Rattle.defs_soar.specs.Pending.{Firable, active_level, all_work, depth_of, firables_of, is_listed, least, may_fire, pending_in}
use Rattle.pending_work.specs.declared.work.Work.{Work}
use Rattle.pending_work.specs.Active.{active_of, depth_at, level_of}
use Rattle.pending_work.specs.Candidates.{fires_now}
use Rattle.pending_work.specs.Firables.{AreBound, AreNumbered, IsPending, firables_for}
use Rattle.outstanding.specs.Living.{live_seen}
use Rattle.outstanding.specs.Live.{Live}
use Rattle.outstanding.specs.Known.{AreElementsKnown, AreInstancesKnown}
use Rattle.pending_work.proofs.ConflictLemmas.{bound_conflict, bound_filter, known_conflict, known_filter}
use Rattle.pending_work.proofs.FirableLemmas.{depths_agree, fires_agree, level_agrees}
use Rattle.pending_work.proofs.RuleLemmas.{firables_conflict}

-- firings as they are listed pass a test where what is seen of them does
pub seen_filter : (p : LiveFiring → Bool) (ls : List Live) → map live_seen (filter (λ l. p (live_seen l)) ls) ≡ filter p (map live_seen ls)
seen_filter p [] = refl
seen_filter p (l ∷ ls) = by (p (live_seen l)) (seen_filter p ls)
  where
    by : (b : Bool) → map live_seen (filter (λ l. p (live_seen l)) ls) ≡ filter p (map live_seen ls)
        → map live_seen (cond b (l ∷ filter (λ l. p (live_seen l)) ls) (filter (λ l. p (live_seen l)) ls)) ≡ cond b (live_seen l ∷ filter p (map live_seen ls)) (filter p (map live_seen ls))
    by true h = ap (λ ns. live_seen l ∷ ns) h
    by false h = h

depths_of : (ls : List Live) → map (λ l. l.depth) ls ≡ map (λ l. l.depth) (map live_seen ls)
depths_of [] = refl
depths_of (l ∷ ls) = ap (λ ns. l.depth ∷ ns) (depths_of ls)

module _ (proposing : Bool) (rules : List RuleOf) (elements : List Element) (goals : List Goal) (live : List Live) (numbered : AreNumbered rules) where
  abbrev seen : List LiveFiring
  seen = map live_seen live

  abbrev unmatched : List Live
  unmatched = filter (λ l. not (is_listed (conflict rules elements) l.instance)) live

  abbrev ready : List Instance
  ready = filter (fires_now proposing rules elements goals seen) (conflict rules elements)

  abbrev to_fire : List Firable
  to_fire = filter (may_fire proposing goals seen) (flat_map (firables_of elements) rules)

  ready_bound : AreBound rules ready
  ready_bound = bound_filter rules (fires_now proposing rules elements goals seen) (conflict rules elements) (bound_conflict rules elements numbered)

  all_fired : to_fire ≡ flat_map (firables_for rules elements) ready
  all_fired =
      ap (filter (may_fire proposing goals seen)) (sym (firables_conflict rules elements numbered))
      ∙ fires_agree proposing rules elements goals seen (conflict rules elements) (bound_conflict rules elements numbered)

  unmatched_seen : map live_seen unmatched ≡ filter (λ l. not (is_listed (conflict rules elements) l.instance)) seen
  unmatched_seen = seen_filter (λ l. not (is_listed (conflict rules elements) l.instance)) live

  same_level : level_of goals elements unmatched ready ≡ active_level goals (all_work proposing rules elements goals seen)
  same_level =
      ap least (ap₂ (λ a b. a ++ b) (depths_of unmatched ∙ ap (map (λ l. l.depth)) unmatched_seen)
      (sym (ap (map (depth_of goals)) all_fired ∙ depths_agree rules elements goals ready ready_bound)))

  is_pending : IsPending rules elements (active_of goals elements unmatched ready)
      (pending_in proposing rules elements goals seen)
  unfolding pending_in
  is_pending =
      let level : ℕ = level_of goals elements unmatched ready in
      record {
        retracted_are =
            seen_filter (λ l. l.depth == level) unmatched
            ∙ ap₂ (λ n ls. filter (λ l. l.depth == n) ls) same_level unmatched_seen;
        fired_are =
            sym (level_agrees rules elements goals level ready ready_bound)
            ∙ ap (filter (λ f. depth_of goals f == level)) (sym all_fired)
            ∙ ap (λ n. filter (λ f. depth_of goals f == n) to_fire) same_level;
      }

  -- the part of the active level
  abbrev active : Work
  active = active_of goals elements unmatched ready

  abbrev is_active : Instance → Bool
  is_active i = depth_at goals elements i == level_of goals elements unmatched ready

  is_known : (words : Texts) → AreElementsKnown words elements → AreInstancesKnown words active.fired
  is_known words known =
      known_filter words is_active ready
      (known_filter words (fires_now proposing rules elements goals seen) (conflict rules elements) (known_conflict words rules elements known))

  -- what is promised of the work
  pub record Promised (work : Work) : Type 0 where
    pub work_is : IsPending rules elements work (pending_in proposing rules elements goals seen)
    pub bound : AreBound rules work.fired
    pub known : (words : Texts) → AreElementsKnown words elements → AreInstancesKnown words work.fired

  pub promised : (work : Work) → work ≡ active → Promised work
  promised work e = subst Promised (sym e) (record { work_is = is_pending; bound = bound_filter rules is_active ready ready_bound; known = is_known })
