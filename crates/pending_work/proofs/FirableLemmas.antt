-- Instances of one rule each, as firables: what is asked of the firables can be asked of the instances.
use Rattle.std.proofs.Common.{◌≡◌, ℕ, ◌==◌, Bool, true, false, cond, List, [], ◌∷◌, ◌++◌, map, flat_map, filter, length, Option, Some, None, refl, sym, ◌∙◌, ap, ap₂, subst, arith}
use Rattle.std.proofs.lemmas.List.Elements.{filter-append}
use Rattle.std.proofs.lemmas.List.{map-append}
use Rattle.soar_rule.specs.Variables.{bound_variables}
use Rattle.soar_wm.specs.declared.element.Element.{Element}
use Rattle.defs_match.specs.Contents.{is_numbered, rule_numbered}
use Rattle.defs_match.specs.Rules.{RuleOf}
use Rattle.defs_match.specs.declared.instance.Instance.{Instance}
use Rattle.defs_soar.specs.declared.goal.Goal.{Goal}
use Rattle.defs_soar.specs.Agents.{LiveFiring}
use Rattle.defs_soar.specs.Pending.{Firable, depth_of, firable_of, may_fire}
use Rattle.pending_work.specs.Active.{depth_at}
use Rattle.pending_work.specs.Candidates.{fires_by, fires_now}
use Rattle.pending_work.specs.Firables.{AreBound, IsBoundBy, IsInstance, firables_for, rules_of}

-- ---- the one rule of an instance

abbrev first_of : List RuleOf → Option RuleOf
first_of [] = None
first_of (rule ∷ rules) = Some rule

first_numbered : (n : ℕ) (rules : List RuleOf) → rule_numbered n rules ≡ first_of (rules_of rules n)
first_numbered n [] = refl
first_numbered n (rule ∷ rules) = by (is_numbered n rule) (first_numbered n rules)
  where
    by : (b : Bool) → rule_numbered n rules ≡ first_of (rules_of rules n)
        → cond b (Some rule) (rule_numbered n rules) ≡ first_of (cond b (rule ∷ rules_of rules n) (rules_of rules n))
    by true h = refl
    by false h = h

single : (rules : List RuleOf) → length rules ≡ 1 → (rule : RuleOf) × (rules ≡ rule ∷ [])
single [] h = absurd (omega (arith, h))
single (rule ∷ []) h = (rule, refl)
single (rule ∷ other ∷ rules) h = absurd (omega (arith, h))

-- the rule of an instance, which is the only one and so the first of its number
abbrev HasOne : List RuleOf → Instance → Type 0
HasOne rules i = (rule : RuleOf) × (rules_of rules i.rule ≡ rule ∷ []) × (rule_numbered i.rule rules ≡ Some rule)

has_one : (rules : List RuleOf) (i : Instance) → IsInstance rules i → HasOne rules i
has_one rules i h =
    let found = single (rules_of rules i.rule) h.one in
    (found.0, found.1, first_numbered i.rule rules ∙ ap first_of found.1)

same_rule : (a b : RuleOf) → Some a ≡ Some b → a ≡ b
same_rule a b e = cc

-- an instance binds what its rule's conditions bind
pub binds_by_rule : (rules : List RuleOf) (i : Instance) (rule : RuleOf) → IsInstance rules i → rule_numbered i.rule rules ≡ Some rule
    → length i.binds ≡ length (bound_variables rule.production.conditions)
binds_by_rule rules i rule h e =
    let one = has_one rules i h in
    let same : one.0 ≡ rule = same_rule one.0 rule (sym one.2 ∙ e) in
    let bound : IsBoundBy i (one.0 ∷ []) = subst (IsBoundBy i) one.1 h.bound in
    bound.0 ∙ ap (λ (r : RuleOf). length (bound_variables r.production.conditions)) same

-- it is there, and alone
pub rule_there : (rules : List RuleOf) (i : Instance) → IsInstance rules i → rule_numbered i.rule rules ≡ None → ⊥
rule_there rules i h none = let one = has_one rules i h in absurd_rule one.0 (sym one.2 ∙ none)
  where
    absurd_rule : (rule : RuleOf) → Some rule ≡ None → ⊥
    absurd_rule rule e = cc

pub rule_alone : (rules : List RuleOf) (i : Instance) (rule : RuleOf) → IsInstance rules i → rule_numbered i.rule rules ≡ Some rule → rules_of rules i.rule ≡ rule ∷ []
rule_alone rules i rule h e =
    let one = has_one rules i h in one.1 ∙ ap (λ (r : RuleOf). r ∷ []) (same_rule one.0 rule (sym one.2 ∙ e))

-- ---- filters

-- the test of firables says of the instance's own what that of instances says
abbrev Agrees : List RuleOf → List Element → (Firable → Bool) → (Instance → Bool) → Type 0
Agrees rules elements p q =
    (i : Instance) → IsInstance rules i → filter p (firables_for rules elements i) ≡ cond (q i) (firables_for rules elements i) []

filter_firables : (rules : List RuleOf) (elements : List Element) (p : Firable → Bool) (q : Instance → Bool) → Agrees rules elements p q
    → (is : List Instance) → AreBound rules is
    → filter p (flat_map (firables_for rules elements) is) ≡ flat_map (firables_for rules elements) (filter q is)
filter_firables rules elements p q agrees [] h = refl
filter_firables rules elements p q agrees (i ∷ is) h =
    filter-append p (own i) (flat_map own is)
    ∙ ap₂ (λ a b. a ++ b) (agrees i h.0) (filter_firables rules elements p q agrees is h.1)
    ∙ by (q i)
  where
    own : Instance → List Firable
    own j = firables_for rules elements j

    by : (b : Bool) → cond b (own i) [] ++ flat_map own (filter q is) ≡ flat_map own (cond b (i ∷ filter q is) (filter q is))
    by true = refl
    by false = refl

-- where the first test of the instance's one firable is the second of the instance, they agree
agrees_by_rule : (rules : List RuleOf) (elements : List Element) (p : Firable → Bool) (i : Instance) (b : Bool) (rule : RuleOf)
    → rules_of rules i.rule ≡ rule ∷ [] → p (firable_of elements rule i) ≡ b
    → filter p (firables_for rules elements i) ≡ cond b (firables_for rules elements i) []
agrees_by_rule rules elements p i b rule e h =
    let own : List Firable = firable_of elements rule i ∷ [] in
    let is_own : firables_for rules elements i ≡ own = ap (map (λ r. firable_of elements r i)) e in
    ap (filter p) is_own ∙ ap (λ c. cond c own []) h ∙ ap (λ l. cond b l []) (sym is_own)

pub fires_agree : (proposing : Bool) (rules : List RuleOf) (elements : List Element) (goals : List Goal) (live : List LiveFiring)
    (is : List Instance) → AreBound rules is
    → filter (may_fire proposing goals live) (flat_map (firables_for rules elements) is)
    ≡ flat_map (firables_for rules elements) (filter (fires_now proposing rules elements goals live) is)
fires_agree proposing rules elements goals live =
    filter_firables rules elements (may_fire proposing goals live) (fires_now proposing rules elements goals live)
    (λ i h. let one = has_one rules i h in
    agrees_by_rule rules elements (may_fire proposing goals live) i (fires_now proposing rules elements goals live i) one.0 one.1
    (sym (ap (fires_by proposing elements goals live i) one.2)))

pub level_agrees : (rules : List RuleOf) (elements : List Element) (goals : List Goal) (level : ℕ)
    (is : List Instance) → AreBound rules is
    → filter (λ f. depth_of goals f == level) (flat_map (firables_for rules elements) is)
    ≡ flat_map (firables_for rules elements) (filter (λ i. depth_at goals elements i == level) is)
level_agrees rules elements goals level =
    filter_firables rules elements (λ f. depth_of goals f == level) (λ i. depth_at goals elements i == level)
    (λ i h. let one = has_one rules i h in
    agrees_by_rule rules elements (λ f. depth_of goals f == level) i (depth_at goals elements i == level) one.0 one.1 refl)

pub depths_agree : (rules : List RuleOf) (elements : List Element) (goals : List Goal) (is : List Instance) → AreBound rules is
    → map (depth_of goals) (flat_map (firables_for rules elements) is) ≡ map (depth_at goals elements) is
depths_agree rules elements goals [] h = refl
depths_agree rules elements goals (i ∷ is) h =
    let one = has_one rules i h.0 in
    map-append (depth_of goals) (firables_for rules elements i) (flat_map (firables_for rules elements) is)
    ∙ ap₂ (λ a b. a ++ b)
    (ap (λ rs. map (depth_of goals) (map (λ r. firable_of elements r i) rs)) one.1)
    (depths_agree rules elements goals is h.1)
