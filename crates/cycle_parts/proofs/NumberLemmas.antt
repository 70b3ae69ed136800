-- Rules in order of number.
use Rattle.std.proofs.Common.{◌≡◌, ℕ, ◌<◌, ◌≤◌, ◌==◌, Bool, true, false, not, ◌||◌, cond, List, [], ◌∷◌, ◌++◌, refl, ap, ◌∙◌, arith}
use Rattle.std.specs.List.{list_any}
use Rattle.defs_match.specs.Contents.{is_numbered, with_rule, without_rule}
use Rattle.defs_match.specs.Rules.{RuleOf}
use Rattle.matching_laws.proofs.TagLemmas.{below_apart}
use Rattle.pending_work.specs.Firables.{IsBelowRules}
use Rattle.decision_parts.specs.Seen.{AreUpTo}

pub or_true : (b : Bool) → (b || true) ≡ true
or_true true = refl
or_true false = refl

-- ---- the rules without it

above_apart : (m n : ℕ) → m < n → (n == m) ≡ false
above_apart m n h = grind arith

pub without_none : (number : ℕ) (rules : List RuleOf) → IsBelowRules number rules → without_rule rules number ≡ rules
without_none number [] below = refl
without_none number (first ∷ rules) below =
    ap (λ b. cond (not b) (first ∷ without_rule rules number) (without_rule rules number)) (above_apart number first.number below.0)
    ∙ ap (λ rest. first ∷ rest) (without_none number rules below.1)

-- ---- a number above the last that was given

pub none_numbered : (last : ℕ) (number : ℕ) (rules : List RuleOf) → AreUpTo last rules → last < number → list_any (is_numbered number) rules ≡ false
none_numbered last number [] given less = refl
none_numbered last number (first ∷ rules) given less =
    ap (λ b. b || list_any (is_numbered number) rules) (below_apart first.number number (omega (arith, given.0, less))) ∙ none_numbered last number rules given.1 less

pub with_last_rule : (last : ℕ) (rules : List RuleOf) (rule : RuleOf) → AreUpTo last rules → last < rule.number → with_rule rules rule ≡ rules ++ rule ∷ []
with_last_rule last [] rule given less = refl
with_last_rule last (first ∷ rules) rule given less =
    let rest : with_rule rules rule ≡ rules ++ rule ∷ [] = with_last_rule last rules rule given.1 less in
    let above : first.number ≤ rule.number = omega (arith, given.0, less) in
    grind arith
