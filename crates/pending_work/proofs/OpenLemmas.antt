-- What may fire of the instances that no live firing has is what may fire.
use Rattle.std.proofs.Common.{◌≡◌, Bool, true, false, cond, ◌&&◌, not, List, [], ◌∷◌, map, filter, Option, Some, None, refl, ◌∙◌, ap, sym}
use Rattle.std.proofs.lemmas.List.Elements.{filter_agree}
use Rattle.soar_wm.specs.declared.element.Element.{Element}
use Rattle.defs_match.specs.Contents.{rule_numbered}
use Rattle.defs_match.specs.Rules.{RuleOf}
use Rattle.defs_match.specs.declared.instance.Instance.{Instance}
use Rattle.defs_soar.specs.declared.goal.Goal.{Goal}
use Rattle.defs_soar.specs.Pending.{is_listed}
use Rattle.outstanding.specs.Living.{live_seen}
use Rattle.outstanding.specs.Live.{Live}
use Rattle.outstanding.specs.Outstanding.{unfired}
use Rattle.pending_work.specs.Candidates.{fires_by, fires_now}
use Rattle.pending_work.specs.Open.{can_fire_by, can_fire_now}

filter_both : {A : Type 0} (p q : A → Bool) (xs : List A) → filter q (filter p xs) ≡ filter (λ x. p x && q x) xs
filter_both p q [] = refl
filter_both p q (x ∷ xs) = by (p x) (q x) (filter_both p q xs)
  where
    by : (a b : Bool) → filter q (filter p xs) ≡ filter (λ x. p x && q x) xs
        → filter q (cond a (x ∷ filter p xs) (filter p xs)) ≡ cond (a && q x) (x ∷ filter (λ x. p x && q x) xs) (filter (λ x. p x && q x) xs)
    by true b h = ap (λ ys. cond (q x) (x ∷ ys) ys) h
    by false b h = h

never : (b : Bool) → (b && false) ≡ false
never true = refl
never false = refl

module _ (proposing : Bool) (rules : List RuleOf) (elements : List Element) (goals : List Goal) (live : List Live) where
  abbrev is_unfired : Instance → Bool
  is_unfired i = not (is_listed (map (λ l. l.instance) (map live_seen live)) i)

  by_rule : (i : Instance) (rule : Option RuleOf) → (is_unfired i && can_fire_by proposing elements goals i rule) ≡ fires_by proposing elements goals (map live_seen live) i rule
  by_rule i None = never (is_unfired i)
  by_rule i (Some rule) = refl

  pub ready_agree : (instances : List Instance)
      → filter (can_fire_now proposing rules elements goals) (unfired instances live) ≡ filter (fires_now proposing rules elements goals (map live_seen live)) instances
  ready_agree instances =
      filter_both is_unfired (can_fire_now proposing rules elements goals) instances
      ∙ filter_agree (λ i. is_unfired i && can_fire_now proposing rules elements goals i) (fires_now proposing rules elements goals (map live_seen live))
      (λ i. by_rule i (rule_numbered i.rule rules)) instances
