-- Explanations of rules that are there, where rules join and where they go.
use Rattle.std.proofs.Common.{◌≡◌, refl, sym, ap, subst, ◌∙◌, ℕ, Bool, true, false, ◌||◌, ◌==◌, arith, inl, inr, List, [], ◌∷◌, ◌++◌, map, filter, cond}
use Rattle.std.specs.List.{list_any}
use Rattle.defs_match.specs.Rules.{RuleOf}
use Rattle.defs_soar.specs.Agents.{Learnt, Program}
use Rattle.defs_soar.specs.Laws.{IsIn}
use Rattle.settling_laws.proofs.MemberLemmas.{any_more, filter_passes, in_append}
use Rattle.wave_parts.specs.Programs.{AreExplained, chains_of, is_explained_in}

-- none goes
pub all_explained : (rules : List RuleOf) (chains : List Learnt) → AreExplained rules chains → chains_of rules chains ≡ chains
all_explained rules [] kept = refl
all_explained rules (l ∷ chains) kept =
    ap (λ b. cond b (l ∷ chains_of rules chains) (chains_of rules chains)) (kept l (inl refl))
    ∙ ap (λ (ls : List Learnt). l ∷ ls) (all_explained rules chains (λ m is. kept m (inr is)))

pub left_explained : (rules : List RuleOf) (chains : List Learnt) → AreExplained rules (chains_of rules chains)
left_explained rules chains l is = filter_passes (is_explained_in rules) chains l is

-- ---- rules that join, each with its explanation

or_true : (b : Bool) → (b || true) ≡ true
or_true true = refl
or_true false = refl

any_behind : (p : RuleOf → Bool) (rules more : List RuleOf) → list_any p more ≡ true → list_any p (rules ++ more) ≡ true
any_behind p [] more h = h
any_behind p (rule ∷ rules) more h = ap (λ b. p rule || b) (any_behind p rules more h) ∙ or_true (p rule)

eq_self : (n : ℕ) → (n == n) ≡ true
eq_self n = grind arith

any_number : (n : ℕ) (rules : List RuleOf) → list_any (λ m. m == n) (map (λ (r : RuleOf). r.number) rules) ≡ list_any (λ (r : RuleOf). r.number == n) rules
any_number n [] = refl
any_number n (rule ∷ rules) = ap (λ b. (rule.number == n) || b) (any_number n rules)

has_its_number : (l : Learnt) (chains : List Learnt) → IsIn l chains → list_any (λ m. m == l.rule) (map (λ (c : Learnt). c.rule) chains) ≡ true
has_its_number l [] is = absurd is
has_its_number l (c ∷ chains) (inl e) = ap (λ b. b || list_any (λ m. m == l.rule) (map (λ (d : Learnt). d.rule) chains)) (ap (λ (d : Learnt). d.rule == l.rule) e ∙ eq_self l.rule)
has_its_number l (c ∷ chains) (inr is) = ap (λ b. (c.rule == l.rule) || b) (has_its_number l chains is) ∙ or_true (c.rule == l.rule)

of_rules_explained : (rules : List RuleOf) (chains : List Learnt) → map (λ (l : Learnt). l.rule) chains ≡ map (λ (r : RuleOf). r.number) rules → AreExplained rules chains
of_rules_explained rules chains of_rules l is = sym (any_number l.rule rules) ∙ ap (λ ns. list_any (λ m. m == l.rule) ns) (sym of_rules) ∙ has_its_number l chains is

pub join_explained : (p : Program) (rules : List RuleOf) (chains : List Learnt) (more : List RuleOf) (new : List Learnt) → rules ≡ p.rules ++ more → chains ≡ p.chains ++ new
    → map (λ (l : Learnt). l.rule) new ≡ map (λ (r : RuleOf). r.number) more → AreExplained p.rules p.chains → AreExplained rules chains
join_explained p rules chains more new rules_are chains_are of_rules kept =
    subst (λ rs. AreExplained rs chains) (sym rules_are) (subst (AreExplained (p.rules ++ more)) (sym chains_are) (λ l is. elim (in_append l p.chains new is) [
      | inl old ↦ any_more (λ (r : RuleOf). r.number == l.rule) p.rules more (kept l old)
      | inr here ↦ any_behind (λ (r : RuleOf). r.number == l.rule) p.rules more (of_rules_explained more new of_rules l here)
    ]))
