use Rattle.std.proofs.Common.{◌≡◌, ◌∙◌, sym, ap, subst, [], ◌∷◌, ◌++◌, append_assoc}
use Rattle.defs_soar.specs.History.{firing_seen}
use Rattle.soar_record.specs.Recorded.{recorded as kept_in}
use Rattle.learning_laws.proofs.WorkLaws.{map_both}
use Rattle.goal_dependence.specs.Remembered.{firings_of, CanJoin}
use Rattle.goal_dependence.proofs.JoinLemmas.{joins_now, joins_on}
use Rattle.goal_dependence.proofs.joining.join.Goals as goal

pub add-requires : goal.add-requires
add-requires c =
    let kept = kept_in c.recorded.kept in
    joins_now kept (firing_seen c.in-Some.firing.firing) (firings_of c.next.new.self.rest.items)
    (subst (λ l. CanJoin kept (firings_of l)) c.in-Some.ensures.steps.0 c.recorded.invariant.new)

pub recorded-preserved : goal.recorded-preserved
recorded-preserved c =
    let kept = kept_in c.recorded.kept in
    let f = firing_seen c.in-Some.firing.firing in
    let rest = firings_of c.next.new.self.rest.items in
    let new : kept_in c.add.new.self ≡ kept ++ f ∷ [] = ap kept_in c.in_ok-add.ensures.ok ∙ map_both firing_seen c.recorded.kept (c.in-Some.firing.firing ∷ []) in
    record {
      kept = ap (λ l. l ++ rest) new ∙ append_assoc kept (f ∷ []) rest ∙ ap (λ l. kept ++ firings_of l) (sym c.in-Some.ensures.steps.0) ∙ c.recorded.invariant.kept;
      new = subst (λ l. CanJoin l rest) (sym new) (joins_on kept f rest (subst (λ l. CanJoin kept (firings_of l)) c.in-Some.ensures.steps.0 c.recorded.invariant.new));
    }
