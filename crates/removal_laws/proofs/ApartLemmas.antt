-- Trimming does not ask which goals went before.
use Rattle.std.proofs.Common.{◌≡◌, refl, ◌∙◌, ap, sym, ℕ, zero, suc, List, length, Option, Some, None}
use Rattle.std.specs.Prelude.{drop}
use Rattle.soar_rule.specs.Repeat.{Turn, ends, goes_on, turns}
use Rattle.soar_wm.specs.declared.element.Element.{Element}
use Rattle.defs_soar.specs.History.{RecordedFiring}
use Rattle.defs_soar.specs.Settling.{kept_triples, settled}
use Rattle.defs_soar.specs.Trimming.{highest_broken, one_trim, Remains, supports_of, trimmed, trimmed_by, with_supports, without_broken}
use Rattle.removal_laws.specs.Apart.{left_of, RemovalsApart}

-- what a turn leaves, without the goals that went
abbrev turn_left : Turn Remains → Turn Remains
turn_left (ends t) = ends (left_of t)
turn_left (goes_on t) = goes_on (left_of t)

module _ (history : List RecordedFiring) (elements : List Element) where
  abbrev trim_left : Remains → Turn Remains
  trim_left t = turn_left (one_trim history elements t)

  one_left : (t : Remains) → trim_left t ≡ trim_left (left_of t)
  one_left t = go (highest_broken history elements (kept_triples t.goals (settled t.goals (supports_of t))) 2 (drop 1 t.goals))
    where
      go : (o : Option ℕ)
          → turn_left (without_broken (with_supports t (settled t.goals (supports_of t))) o)
          ≡ turn_left (without_broken (with_supports (left_of t) (settled t.goals (supports_of t))) o)
      go None = refl
      go (Some depth) = refl

  turns_left : (n : ℕ) (t : Remains) → left_of (trimmed_by (turns n (one_trim history elements) t)) ≡ trimmed_by (turns n trim_left (left_of t))
  turns_left zero t = refl
  turns_left (suc n) t =
      go (one_trim history elements t) (turns_left n)
      ∙ ap (λ u. trimmed_by (elim u as (λ _. Turn Remains) [ ends b ↦ ends b | goes_on b ↦ turns n trim_left b ])) (one_left t)
    where
      go : (u : Turn Remains) → ((t : Remains) → left_of (trimmed_by (turns n (one_trim history elements) t)) ≡ trimmed_by (turns n trim_left (left_of t)))
          → left_of (trimmed_by (elim u as (λ _. Turn Remains) [ ends b ↦ ends b | goes_on b ↦ turns n (one_trim history elements) b ]))
          ≡ trimmed_by (elim (turn_left u) as (λ _. Turn Remains) [ ends b ↦ ends b | goes_on b ↦ turns n trim_left b ])
      go (ends b) later = refl
      go (goes_on b) later = later b

pub removals_apart : RemovalsApart
unfolding trimmed
removals_apart history elements t removed =
    let n = suc (length t.goals) in turns_left history elements n (record t { removed = removed }) ∙ sym (turns_left history elements n t)
