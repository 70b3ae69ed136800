-- Trimming ends: each time but the last a goal goes.
use Rattle.std.proofs.Common.{◌≡◌, refl, ◌∙◌, ap, ℕ, zero, suc, ◌+◌, ◌-◌, ◌≤◌, ◌<◌, ◌==◌, Bool, true, false, arith, List, [], ◌∷◌, length, Option, Some, None}
use Rattle.std.specs.Prelude.{take, drop}
use Rattle.std.specs.List.{list_any}
use Rattle.soar_sym.specs.declared.symbol.Triple.{Triple}
use Rattle.soar_rule.specs.Repeat.{Turn, ends, goes_on, turns, until_same}
use Rattle.soar_wm.specs.declared.element.Element.{Element}
use Rattle.defs_soar.specs.declared.goal.Goal.{Goal}
use Rattle.defs_soar.specs.Dependencies.{dependency_set}
use Rattle.defs_soar.specs.History.{RecordedFiring}
use Rattle.defs_soar.specs.Resettling.{resettled}
use Rattle.defs_soar.specs.Settling.{count_of, kept_triples, one_settling, settled, Supports}
use Rattle.defs_soar.specs.Trimming.{highest_broken, is_lost, one_trim, supports_of, Remains, trimmed, trimmed_by, with_supports, without_broken}
use Rattle.learning_laws.proofs.SettlingLemmas.{settled_stays}
use Rattle.learning_laws.proofs.TrimLaws.{broken_within, length_take_less}
use Rattle.agent_laws.specs.Trims.{AreWhole, IsTrimmed, ResettlingEnds, TrimmingEnds}

-- where none is the highest broken one, none is broken
none_broken : (history : List RecordedFiring) (elements : List Element) (kept : List Triple) (depth : ℕ) (goals : List Goal) → highest_broken history elements kept depth goals ≡ None → AreWhole history elements kept depth goals
none_broken history elements kept depth [] h = tt
none_broken history elements kept depth (g ∷ goals) h = go (list_any (is_lost elements kept) (dependency_set history g.id depth)) refl h (none_broken history elements kept (suc depth) goals)
  where
    go : (b : Bool) → list_any (is_lost elements kept) (dependency_set history g.id depth) ≡ b
        → ◌≡◌ {A = Option ℕ} (elim b [ true ↦ Some depth | false ↦ highest_broken history elements kept (suc depth) goals ]) None
        → (highest_broken history elements kept (suc depth) goals ≡ None → AreWhole history elements kept (suc depth) goals) → AreWhole history elements kept depth (g ∷ goals)
    go true q k later = absurd (cc)
    go false q k later = (q, later k)

-- what one round leaves as it is settles to itself
settles_to_itself : (goals : List Goal) (s : Supports) (n : ℕ) → one_settling goals s ≡ s → until_same (λ a b. count_of a == count_of b) n (one_settling goals) s ≡ s
settles_to_itself goals s zero h = refl
settles_to_itself goals s (suc n) h = go (count_of s == count_of (one_settling goals s)) (settles_to_itself goals s n h)
  where
    go : (b : Bool) → until_same (λ a b. count_of a == count_of b) n (one_settling goals) s ≡ s
        → ◌≡◌ {A = Supports} (elim b [ true ↦ s | false ↦ until_same (λ a b. count_of a == count_of b) n (one_settling goals) (one_settling goals s) ]) s
    go true later = refl
    go false later = ap (until_same (λ a b. count_of a == count_of b) n (one_settling goals)) h ∙ later

module _ (history : List RecordedFiring) (elements : List Element) where
  abbrev Trims : ℕ → Turn Remains → Type 0
  Trims size (ends t) = IsTrimmed history elements t
  Trims size (goes_on t) = length t.goals < size

  trim_once : (t : Remains) → Trims (length t.goals) (one_trim history elements t)
  trim_once t = go (highest_broken history elements (kept_triples t.goals (settled t.goals (supports_of t))) 2 (drop 1 t.goals)) refl
    where
      one_less : (goals : List Goal) → 0 < length (drop 1 goals) → suc (length (drop 1 goals)) ≡ length goals
      one_less [] h = absurd (omega arith)
      one_less (g ∷ goals) h = refl

      go : (o : Option ℕ) → highest_broken history elements (kept_triples t.goals (settled t.goals (supports_of t))) 2 (drop 1 t.goals) ≡ o
          → Trims (length t.goals) (without_broken (with_supports t (settled t.goals (supports_of t))) o)
      go None q = record {
        rests = settles_to_itself t.goals (settled t.goals (supports_of t)) (count_of (settled t.goals (supports_of t))) (settled_stays t.goals (supports_of t));
        unbroken = q;
        whole = none_broken history elements (kept_triples t.goals (settled t.goals (supports_of t))) 2 (drop 1 t.goals) q;
      }
      go (Some d) q =
          let k = broken_within history elements (kept_triples t.goals (settled t.goals (supports_of t))) 2 (drop 1 t.goals) d q in
          let low : 2 ≤ d = k.0 in
          let high : d < 2 + length (drop 1 t.goals) = k.1 in
          let one : suc (length (drop 1 t.goals)) ≡ length t.goals = one_less t.goals (omega arith) in
          let size : length (take (d - 1) t.goals) ≡ d - 1 = length_take_less (d - 1) t.goals (omega arith) in
          omega arith

  trims_end : (n : ℕ) (t : Remains) → length t.goals < n → IsTrimmed history elements (trimmed_by (turns n (one_trim history elements) t))
  trims_end zero t l = absurd (omega arith)
  trims_end (suc n) t l = go (one_trim history elements t) (trim_once t) (trims_end n)
    where
      go : (u : Turn Remains) → Trims (length t.goals) u → ((t : Remains) → length t.goals < n → IsTrimmed history elements (trimmed_by (turns n (one_trim history elements) t)))
          → IsTrimmed history elements (trimmed_by (elim u [ ends b ↦ ends b | goes_on b ↦ turns n (one_trim history elements) b ]))
      go (ends b) k later = k
      go (goes_on b) k later = later b (omega arith)

pub trimming_ends : TrimmingEnds
unfolding trimmed
trimming_ends history elements t = trims_end history elements (suc (length t.goals)) t (omega arith)

pub resettling_ends : ResettlingEnds
unfolding resettled
resettling_ends a t = let h = trimming_ends a.history a.holding.elements t in record { rests = h.rests; unbroken = h.unbroken; whole = h.whole }
