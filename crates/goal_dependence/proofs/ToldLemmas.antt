-- What levels tell is what was reached before the wave: so the firings that count, and the tags that they add, are those that are defined.
use Rattle.std.proofs.Common.{◌≡◌, ◌∙◌, refl, ap, ap₂, ℕ, suc, ◌+◌, ◌-◌, ◌^◌, ◌<◌, ◌==◌, nat_lt, min, arith, Bool, true, false, ◌&&◌, ◌||◌, cond, List, [], ◌∷◌, ◌++◌, length, map, flat_map, filter, Option, Some, None, option_map}
use Rattle.std.specs.List.{list_any}
use Rattle.soar_sym.specs.declared.symbol.Sym.{Sym}
use Rattle.soar_wm.specs.declared.element.Element.{Element}
use Rattle.soar_wm.specs.WorkingMemory.{triple_of}
use Rattle.defs_soar.specs.declared.goal.Goal.{Goal}
use Rattle.defs_soar.specs.declared.preference.Preference.{Preference}
use Rattle.defs_soar.specs.Dependencies.{counts_for, had_level_below, has_level, higher_grounds, is_goal_of, is_local_to, is_new_in}
use Rattle.defs_soar.specs.Explanation.{chain_of}
use Rattle.defs_soar.specs.History.{FiringOf, Reach, RecordedFiring, firing_seen}
use Rattle.defs_soar.specs.Levels.{level}
use Rattle.defs_soar.specs.Waves.{lasting_of}
use Rattle.level_laws.specs.Labels.{as_told}
use Rattle.firing_records.specs.declared.outcome.Recorded.{Recorded}
use Rattle.goal_dependence.specs.Counted.{counts_as_told, higher_as_told, tags_as_told, tags_as_told_from}
use Rattle.goal_dependence.specs.Remembered.{past_by, reach_over, tags_found_from}
use Rattle.goal_dependence.specs.Told.{Told, is_told_local, was_told_at, was_told_below}

abbrev most : ℕ
most = 2 ^ 32 - 1

at_capped : (n depth : ℕ) → depth < most → (min n most == depth) ≡ (n == depth)
at_capped n depth small = grind arith

below_capped : (n depth : ℕ) → depth < most → nat_lt (min n most) depth ≡ nat_lt n depth
below_capped n depth small = grind arith

any_same : {A : Type 0} (p q : A → Bool) (xs : List A) → ((x : A) → p x ≡ q x) → list_any p xs ≡ list_any q xs
any_same p q xs same = ap (λ f. list_any f xs) (λ k x. same x k)

module _ (told : Told) (before : List Goal) (elements : List Element) (tells : (s : Sym) → told s ≡ option_map as_told (level before (map triple_of elements) s)) where
  abbrev reach : Reach
  reach = reach_over before elements

  at_same : (depth : ℕ) (s : Sym) → depth < most → was_told_at told depth s ≡ has_level reach depth s
  at_same depth s small = ap (λ o. elim o as (λ x. Bool) [ Some n ↦ n == depth | None ↦ false ]) (tells s) ∙ by (level before (map triple_of elements) s)
    where
      by : (o : Option ℕ) → elim (option_map as_told o) as (λ x. Bool) [ Some n ↦ n == depth | None ↦ false ] ≡ elim o as (λ x. Bool) [ Some n ↦ n == depth | None ↦ false ]
      by None = refl
      by (Some n) = at_capped n depth small

  below_same : (depth : ℕ) (s : Sym) → depth < most → was_told_below told depth s ≡ had_level_below reach depth s
  below_same depth s small = ap (λ o. elim o as (λ x. Bool) [ Some n ↦ nat_lt n depth | None ↦ true ]) (tells s) ∙ by (level before (map triple_of elements) s)
    where
      by : (o : Option ℕ) → elim (option_map as_told o) as (λ x. Bool) [ Some n ↦ nat_lt n depth | None ↦ true ] ≡ elim o as (λ x. Bool) [ Some n ↦ nat_lt n depth | None ↦ true ]
      by None = refl
      by (Some n) = below_capped n depth small

  -- ---- firings

  module _ (added : List Preference) where
    abbrev past : Recorded → RecordedFiring
    past = past_by reach added

    counts_same : (goal : Sym) (depth : ℕ) (r : Recorded) → depth < most → counts_as_told told added goal depth r ≡ counts_for goal depth (past r)
    counts_same goal depth r small =
        ap (λ b. r.operator_kind && (is_goal_of r.goal goal && b))
        (any_same (is_told_local told depth (firing_seen r.firing)) (is_local_to depth (past r)) (lasting_of added r.firing.number)
        (λ s. ap (λ b. b || is_new_in (firing_seen r.firing) s) (at_same depth s small)))

    module _ (firings : List FiringOf) where
      higher_same : (depth : ℕ) (r : Recorded) → depth < most → higher_as_told told firings depth r.firing.number ≡ higher_grounds firings depth (past r)
      higher_same depth r small =
          ap (λ p. map (λ (e : Element). e.tag) (filter p (chain_of firings (r.firing.number ∷ []) []).grounds)) (λ k e. below_same depth e.id small k)

      tags_same : (goal : Sym) (depth : ℕ) (recorded : List Recorded) → depth < most
          → tags_as_told told firings added goal depth recorded ≡ flat_map (higher_grounds firings depth) (filter (counts_for goal depth) (map past recorded))
      tags_same goal depth [] small = refl
      tags_same goal depth (r ∷ recorded) small =
          by (filter (counts_for goal depth) (map past recorded)) (counts_as_told told added goal depth r) (counts_for goal depth (past r)) (counts_same goal depth r small) (tags_same goal depth recorded small)
        where
          by : (pasts : List RecordedFiring) (b c : Bool) → b ≡ c → tags_as_told told firings added goal depth recorded ≡ flat_map (higher_grounds firings depth) pasts
              → cond b (higher_as_told told firings depth r.firing.number) [] ++ tags_as_told told firings added goal depth recorded ≡ flat_map (higher_grounds firings depth) (cond c (past r ∷ pasts) pasts)
          by pasts true true e later = ap₂ (λ x y. x ++ y) (higher_same depth r small) later
          by pasts true false e later = absurd (cc)
          by pasts false true e later = absurd (cc)
          by pasts false false e later = later

      pub tags_same_from : (depth : ℕ) (recorded : List Recorded) (goals : List Goal) → depth + length goals < most
          → tags_as_told_from told firings added recorded depth goals ≡ tags_found_from firings (map past recorded) depth goals
      tags_same_from depth recorded [] small = refl
      tags_same_from depth recorded (goal ∷ goals) small =
          ap₂ (λ x y. x ∷ y) (tags_same goal.id depth recorded (omega arith)) (tags_same_from (suc depth) recorded goals (omega arith))
