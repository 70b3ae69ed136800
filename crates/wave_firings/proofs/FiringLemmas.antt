-- One instance more, as the code fires it.
use Rattle.std.proofs.Common.{◌≡◌, ◌<◌, ◌≤◌, ℕ, ◌+◌, ◌-◌, ◌^◌, suc, true, false, List, [], ◌∷◌, ◌++◌, length, flat_map, drop, get_or, Ok, Err, sym, ap, ◌∙◌, subst, add-one, arith}
use Rattle.std.proofs.lemmas.List.{length-map}
use Rattle.std.specs.Prelude.{nat_lt, if◌then◌else◌}
use Rattle.soar_sym.specs.Words.{Texts}
use Rattle.defs_match.specs.Rules.{RuleOf}
use Rattle.defs_match.specs.declared.instance.Instance.{Instance}
use Rattle.defs_soar.specs.declared.limit.Which.TheVariants as which
use Rattle.defs_soar.specs.Pending.{Firable, firable_of}
use Rattle.pending_work.specs.Firables.{firables_for, rules_of, IsInstance}
use Rattle.wave_firings.specs.FiringOutcome.{Gathered, gathered, stopped, then_on, firing_outcome, next_outcome, firings_outcome, instances_outcome, Leaves, LeavesOne}
use Rattle.wave_firings.specs.Held.{Against}
use Rattle.wave_firings.specs.declared.firing.Fired.{Fired}
use Rattle.soar_settle.specs.declared.stop.Stop.{Stop}
use Rattle.soar_settle.specs.declared.stop.Stop.TheVariants as stop
use Rattle.wave_firings.proofs.FiringKnown.{next_instance}

-- ---- the next number

within_count : (number next : ℕ) → next ≡ number + 1 → next ≤ 2 ^ 64 - 1 → nat_lt 18446744073709551615 (suc number) ≡ false
within_count number next is most = grind arith

over_count : (number : ℕ) → number ≡ 2 ^ 64 - 1 → nat_lt 18446744073709551615 (suc number) ≡ true
over_count number is = grind arith

-- ---- the instance at hand, and those behind it

module _ (a : Against) (words : Texts) (letters : List ℕ) (made : Fired) (number : ℕ) where
  -- what stands before it, with its number or the one before
  abbrev at : ℕ → Gathered
  at n = gathered words letters n made

  next_is : (next : ℕ) (f : Firable) → next ≡ number + 1 → next ≤ 2 ^ 64 - 1 → next_outcome a f (at number) ≡ firing_outcome a next (at next) f
  next_is next f is most =
      ap (λ over. if over then stopped which.Counts else firing_outcome a (suc number) (at number) f) (within_count number next is most)
      ∙ ap (λ n. firing_outcome a n (at number) f) (sym (is ∙ add-one number))

  first_fires : (next : ℕ) (after : Gathered) (firables later : List Firable) → next ≡ number + 1 → next ≤ 2 ^ 64 - 1 → length firables ≡ 1
      → LeavesOne a next (at next) firables after (Ok tt) → firings_outcome a (firables ++ later) (at number) ≡ firings_outcome a later after
  first_fires next after [] later is most one leaves = absurd (omega (arith, one))
  first_fires next after (f ∷ []) later is most one leaves = ap (λ o. then_on o (firings_outcome a later)) (next_is next f is most ∙ leaves)
  first_fires next after (f ∷ g ∷ firables) later is most one leaves = absurd (omega (arith, one))

  first_stops : (next : ℕ) (after last : Gathered) (e : Stop) (firables later : List Firable) → next ≡ number + 1 → next ≤ 2 ^ 64 - 1 → length firables ≡ 1
      → LeavesOne a next (at next) firables after (Err e) → Leaves (firings_outcome a (firables ++ later) (at number)) last (Err e)
  first_stops next after last e [] later is most one leaves = absurd (omega (arith, one))
  first_stops next after last (stop.Limit limit) (f ∷ []) later is most one leaves = ap (λ o. then_on o (firings_outcome a later)) (next_is next f is most ∙ leaves)
  first_stops next after last stop.NoMemory (f ∷ []) later is most one leaves = tt
  first_stops next after last e (f ∷ g ∷ firables) later is most one leaves = absurd (omega (arith, one))

  first_over : (firables later : List Firable) → number ≡ 2 ^ 64 - 1 → length firables ≡ 1 → firings_outcome a (firables ++ later) (at number) ≡ stopped which.Counts
  first_over [] later is one = absurd (omega (arith, one))
  first_over (f ∷ firables) later is one =
      ap (λ over. then_on (if over then stopped which.Counts else firing_outcome a (suc number) (at number) f) (firings_outcome a (firables ++ later))) (over_count number is)

  module _ (rules : List RuleOf) (instances : List Instance) (place : ℕ) (i : Instance) (within : place < length instances) (is_at : i ≡ get_or instances place i) where
    abbrev behind : List Firable
    behind = flat_map (firables_for rules a.elements) (drop (place + 1) instances)

    split : instances_outcome a rules (drop place instances) (at number) ≡ firings_outcome a (firables_for rules a.elements i ++ behind) (at number)
    split = ap (λ left. instances_outcome a rules left (at number)) (next_instance instances place i within is_at)

    one_firable : IsInstance rules i → length (firables_for rules a.elements i) ≡ 1
    one_firable h = length-map (rules_of rules i.rule) (λ rule. firable_of a.elements rule i) ∙ h.one

    pub next_fires : (next : ℕ) (after : Gathered) → next ≡ number + 1 → next ≤ 2 ^ 64 - 1 → IsInstance rules i → LeavesOne a next (at next) (firables_for rules a.elements i) after (Ok tt)
        → instances_outcome a rules (drop place instances) (at number) ≡ instances_outcome a rules (drop (place + 1) instances) after
    next_fires next after is most h leaves = split ∙ first_fires next after (firables_for rules a.elements i) behind is most (one_firable h) leaves

    pub next_stops : (next : ℕ) (after last : Gathered) (e : Stop) → next ≡ number + 1 → next ≤ 2 ^ 64 - 1 → IsInstance rules i → LeavesOne a next (at next) (firables_for rules a.elements i) after (Err e)
        → Leaves (instances_outcome a rules (drop place instances) (at number)) last (Err e)
    next_stops next after last e is most h leaves =
        subst (λ o. Leaves o last (Err e)) (sym split) (first_stops next after last e (firables_for rules a.elements i) behind is most (one_firable h) leaves)

    pub next_over : number ≡ 2 ^ 64 - 1 → IsInstance rules i → instances_outcome a rules (drop place instances) (at number) ≡ stopped which.Counts
    next_over is h = split ∙ first_over (firables_for rules a.elements i) behind is (one_firable h)
