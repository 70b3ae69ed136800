-- Each time that goals go, they are the last ones of those that are left; so in the end those that went are the last ones of all.
use Rattle.std.proofs.Common.{◌≡◌, refl, sym, ◌∙◌, ap, ℕ, zero, suc, ◌+◌, ◌-◌, ◌≤◌, ◌<◌, Bool, true, false, arith, List, [], ◌∷◌, ◌++◌, length, Option, Some, None}
use Rattle.std.specs.Prelude.{take, drop}
use Rattle.std.specs.List.{list_any}
use Rattle.std.proofs.lemmas.List.{append_assoc, append-nil, length-append, length-drop, length-take-le, take-append-drop}
use Rattle.std.proofs.Math.Seq.{drop-append_seam, take-append_seam}
use Rattle.soar_sym.specs.declared.symbol.Triple.{Triple}
use Rattle.soar_rule.specs.Repeat.{Turn, ends, goes_on, turns}
use Rattle.soar_wm.specs.declared.element.Element.{Element}
use Rattle.defs_soar.specs.declared.goal.Goal.{Goal}
use Rattle.defs_soar.specs.Dependencies.{dependency_set}
use Rattle.defs_soar.specs.History.{RecordedFiring}
use Rattle.defs_soar.specs.Settling.{kept_triples, settled}
use Rattle.defs_soar.specs.Trimming.{at_depths, highest_broken, is_lost, one_trim, Remains, supports_of, trimmed, trimmed_by, with_all_removed, with_supports, without_broken}
use Rattle.removal_laws.specs.Nested.{FirstGoalsAreLeft, RemovalsAreNested}
use Rattle.removal_laws.proofs.OrderLemmas.{later_and_earlier}

-- ---- goals that go from the end

-- the last goals went, and the others are left
pub record Cuts (old new : Remains) : Type 0 where
  pub gone : List Goal
  pub goals_are : old.goals ≡ new.goals ++ gone
  pub removed_are : new.removed ≡ with_all_removed (at_depths (suc (length new.goals)) gone) old.removed

pub cuts_none : (t : Remains) → Cuts t t
cuts_none t = record { gone = []; goals_are = sym (append-nil t.goals); removed_are = refl }

pub cuts_twice : (a b c : Remains) → Cuts a b → Cuts b c → Cuts a c
cuts_twice a b c h k =
    let depth : suc (length b.goals) ≡ suc (length c.goals) + length k.gone = omega (arith, ap length k.goals_are, length-append c.goals k.gone) in
    record {
      gone = k.gone ++ h.gone;
      goals_are = h.goals_are ∙ ap (λ goals. goals ++ h.gone) k.goals_are ∙ append_assoc c.goals k.gone h.gone;
      removed_are =
          k.removed_are
          ∙ ap (with_all_removed (at_depths (suc (length c.goals)) k.gone)) (h.removed_are ∙ ap (λ n. with_all_removed (at_depths n h.gone) a.removed) depth)
          ∙ later_and_earlier (suc (length c.goals)) k.gone h.gone a.removed;
    }

-- ---- one trim

-- the least depth that is broken is that of one of the goals
broken_within : (history : List RecordedFiring) (elements : List Element) (kept : List Triple) (depth : ℕ) (goals : List Goal) (d : ℕ) → highest_broken history elements kept depth goals ≡ Some d
    → (depth ≤ d) × (d < depth + length goals)
broken_within history elements kept depth [] d h = absurd (cc)
broken_within history elements kept depth (g ∷ goals) d h =
    go (list_any (is_lost elements kept) (dependency_set history g.id depth)) h (broken_within history elements kept (suc depth) goals d)
  where
    go : (b : Bool) → ◌≡◌ {A = Option ℕ} (elim b [ true ↦ Some depth | false ↦ highest_broken history elements kept (suc depth) goals ]) (Some d)
        → (highest_broken history elements kept (suc depth) goals ≡ Some d → (suc depth ≤ d) × (d < suc depth + length goals)) → (depth ≤ d) × (d < depth + suc (length goals))
    go true q later = let e : depth ≡ d = cc in (omega arith, omega arith)
    go false q later = let k = later q in let a = k.0 in let b = k.1 in (omega arith, omega arith)

module _ (history : List RecordedFiring) (elements : List Element) where
  trims_cut : (t : Remains) → Cuts t (trimmed_by (one_trim history elements t))
  trims_cut t = go (highest_broken history elements (kept_triples t.goals (settled t.goals (supports_of t))) 2 (drop 1 t.goals)) refl
    where
      go : (o : Option ℕ) → highest_broken history elements (kept_triples t.goals (settled t.goals (supports_of t))) 2 (drop 1 t.goals) ≡ o
          → Cuts t (trimmed_by (without_broken (with_supports t (settled t.goals (supports_of t))) o))
      go None is = record { gone = []; goals_are = sym (append-nil t.goals); removed_are = refl }
      go (Some d) is =
          let k = broken_within history elements (kept_triples t.goals (settled t.goals (supports_of t))) 2 (drop 1 t.goals) d is in
          let low : 2 ≤ d = k.0 in
          let high : d < 2 + length (drop 1 t.goals) = k.1 in
          let few : d - 1 ≤ length t.goals = omega (arith, length-drop 1 t.goals) in
          let depth : d ≡ suc (length (take (d - 1) t.goals)) = omega (arith, length-take-le (d - 1) t.goals few) in
          record {
            gone = drop (d - 1) t.goals;
            goals_are = sym (take-append-drop (d - 1) t.goals);
            removed_are = ap (λ n. with_all_removed (at_depths n (drop (d - 1) t.goals)) t.removed) depth;
          }

  -- ---- turn by turn

  turns_cut : (n : ℕ) (t : Remains) → Cuts t (trimmed_by (turns n (one_trim history elements) t))
  turns_cut zero t = cuts_none t
  turns_cut (suc n) t = go (one_trim history elements t) (trims_cut t) (turns_cut n)
    where
      go : (u : Turn Remains) → Cuts t (trimmed_by u) → ((t : Remains) → Cuts t (trimmed_by (turns n (one_trim history elements) t)))
          → Cuts t (trimmed_by (elim u [ ends b ↦ ends b | goes_on b ↦ turns n (one_trim history elements) b ]))
      go (ends b) k later = k
      go (goes_on b) k later = cuts_twice t b (trimmed_by (turns n (one_trim history elements) b)) k (later b)

pub trimmed_cuts : (history : List RecordedFiring) (elements : List Element) (t : Remains) → Cuts t (trimmed history elements t)
unfolding trimmed
trimmed_cuts history elements t = turns_cut history elements (suc (length t.goals)) t

-- ---- told by the number of goals that are left

first_of : (old new : Remains) → Cuts old new → new.goals ≡ take (length new.goals) old.goals
first_of old new k = sym (ap (take (length new.goals)) k.goals_are ∙ take-append_seam new.goals k.gone)

removed_of : (old new : Remains) → Cuts old new → new.removed ≡ with_all_removed (at_depths (suc (length new.goals)) (drop (length new.goals) old.goals)) old.removed
removed_of old new k =
    k.removed_are
    ∙ ap (λ goals. with_all_removed (at_depths (suc (length new.goals)) goals) old.removed) (sym (ap (drop (length new.goals)) k.goals_are ∙ drop-append_seam new.goals k.gone))

pub removals_are_nested : RemovalsAreNested
removals_are_nested history elements t = removed_of t (trimmed history elements t) (trimmed_cuts history elements t)

pub first_goals_are_left : FirstGoalsAreLeft
first_goals_are_left history elements t = first_of t (trimmed history elements t) (trimmed_cuts history elements t)
