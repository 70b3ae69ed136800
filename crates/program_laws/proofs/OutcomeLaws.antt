-- What is told of the outcome of learning is known.
use Rattle.std.proofs.Common.{refl, subst, ℕ, nat_lt, Bool, true, false, ◌&&◌, cond, inl, inr, List, [], ◌∷◌, flat_map, filter, Option, Some, None}
use Rattle.std.specs.Prelude.{not}
use Rattle.soar_sym.specs.Words.{IsKnown, Texts}
use Rattle.soar_sym.specs.declared.symbol.Sym.{Sym}
use Rattle.soar_rule.specs.Canonical.{canonical}
use Rattle.soar_rule.specs.Equality.{same_body}
use Rattle.soar_rule.specs.Productions.{ProductionOf}
use Rattle.soar_rule.specs.Symbols.{constants_of_condition}
use Rattle.soar_wm.specs.declared.element.Element.{Element}
use Rattle.defs_match.specs.Rules.{RuleOf}
use Rattle.defs_soar.specs.declared.learning.Cause.{Cause}
use Rattle.defs_soar.specs.declared.learning.Cause.TheVariants as cause
use Rattle.defs_soar.specs.declared.learning.Learning.{Learning}
use Rattle.defs_soar.specs.declared.preference.Wish.{Wish}
use Rattle.defs_soar.specs.Candidate.{general_form}
use Rattle.defs_soar.specs.CarriedTests.{carried_tests}
use Rattle.defs_soar.specs.ChainIdentifiers.{firings_of, is_made_by}
use Rattle.defs_soar.specs.ConditionOrder.{ordered_grounds}
use Rattle.defs_soar.specs.Dependencies.{symbols_of_referent, symbols_of_wish}
use Rattle.defs_soar.specs.History.{ChainOf}
use Rattle.defs_soar.specs.Laws.{IsIn}
use Rattle.defs_soar.specs.Negations.{has_local_negation, negations_taken_over}
use Rattle.defs_soar.specs.Outcome.{as_cause, blocked, cause_against, chunked, first_firing, groundless, has_grounds, justified, lost, Outcome, outcome_of, reused, rule_like, too_large, unless_blocked, unless_justified, unless_lost, unless_reused, uses_quiescence, whether_off}
use Rattle.defs_soar.specs.Sorted.{has_symbol}
use Rattle.defs_soar.specs.Stale.{blocked_from, Blocking, tag_lost}
use Rattle.defs_soar.specs.Ungrounded.{first_without, led_to, or_else, symbols_of_carried, symbols_of_element, ungrounded, wrong_in_wish, wrong_in_wishes}
use Rattle.defs_soar.specs.Values.{is_identifier}
use Rattle.learning_laws.proofs.Lists.{filter_within, in_left, in_right}
use Rattle.soar_settle.specs.Known.{AreRulesKnown}
use Rattle.trace_laws.specs.Events.{IsCauseKnown, IsOptionKnown}

module _ (words : Texts) where
  -- the name of a rule that is there, and the cause of a justification
  abbrev pub IsOutcomeKnown : Outcome → Type 0
  IsOutcomeKnown (lost tag) = Unit {0}
  IsOutcomeKnown (blocked b) = Unit {0}
  IsOutcomeKnown groundless = Unit {0}
  IsOutcomeKnown (justified why) = IsCauseKnown words why
  IsOutcomeKnown (reused name) = IsKnown words name
  IsOutcomeKnown chunked = Unit {0}

  abbrev IsWhyKnown : Option Cause → Type 0
  IsWhyKnown None = Unit {0}
  IsWhyKnown (Some why) = IsCauseKnown words why

  -- ---- identifiers without a variable

  one_of : (x y : Option Sym) → IsOptionKnown words x → IsOptionKnown words y → IsOptionKnown words (or_else x y)
  one_of None y h k = k
  one_of (Some s) y h k = h

  without_known : (places symbols : List Sym) → ((s : Sym) → IsIn s symbols → IsKnown words s) → IsOptionKnown words (first_without places symbols)
  without_known places [] h = tt
  without_known places (s ∷ symbols) h = go (is_identifier s && not (has_symbol places s)) (without_known places symbols (λ t i. h t (inr i)))
    where
      go : (b : Bool) → IsOptionKnown words (first_without places symbols) → IsOptionKnown words (cond b (Some s) (first_without places symbols))
      go true later = h s (inl refl)
      go false later = later

  wrong_known : (c : ChainOf) (places led : List Sym) (w : Wish) → ((s : Sym) → IsIn s (symbols_of_wish w) → IsKnown words s) → IsOptionKnown words (wrong_in_wish c places led w)
  wrong_known c places led w h =
      one_of (cond (is_made_by c w.id) (cond (has_symbol led w.id) None (Some w.id)) (first_without places (w.id ∷ [])))
      (or_else (first_without places (w.attr ∷ [])) (first_without places (filter (λ s. not (is_made_by c s)) (w.value ∷ symbols_of_referent w.referent)))) (id_known (is_made_by c w.id))
      (one_of (first_without places (w.attr ∷ [])) (first_without places (filter (λ s. not (is_made_by c s)) (w.value ∷ symbols_of_referent w.referent)))
      (without_known places (w.attr ∷ []) (λ s i. elim i [ inl q ↦ subst (IsKnown words) q (h w.attr (inr (inl refl))) | inr j ↦ absurd j ]))
      (without_known places (filter (λ s. not (is_made_by c s)) (w.value ∷ symbols_of_referent w.referent))
      (λ s i. h s (inr (inr (filter_within (λ s. not (is_made_by c s)) (w.value ∷ symbols_of_referent w.referent) s i).0)))))
    where
      led_known : (b : Bool) → IsOptionKnown words (cond b None (Some w.id))
      led_known true = tt
      led_known false = h w.id (inl refl)

      id_known : (b : Bool) → IsOptionKnown words (cond b (cond (has_symbol led w.id) None (Some w.id)) (first_without places (w.id ∷ [])))
      id_known true = led_known (has_symbol led w.id)
      id_known false = without_known places (w.id ∷ []) (λ s i. elim i [ inl q ↦ subst (IsKnown words) q (h w.id (inl refl)) | inr j ↦ absurd j ])

  all_wrong_known : (c : ChainOf) (places led : List Sym) (ws : List Wish) → ((s : Sym) → IsIn s (flat_map symbols_of_wish ws) → IsKnown words s) → IsOptionKnown words (wrong_in_wishes c places led ws)
  all_wrong_known c places led [] h = tt
  all_wrong_known c places led (w ∷ ws) h =
      one_of (wrong_in_wish c places led w) (wrong_in_wishes c places led ws) (wrong_known c places led w (λ s i. h s (in_left s (symbols_of_wish w) (flat_map symbols_of_wish ws) i)))
      (all_wrong_known c places led ws (λ s i. h s (in_right s (symbols_of_wish w) (flat_map symbols_of_wish ws) i)))

  -- ---- the outcome

  module _ (order : Texts) (c : ChainOf) (depth : ℕ) (grounds : (s : Sym) → IsIn s (flat_map symbols_of_element c.grounds) → IsKnown words s)
      (tests : (s : Sym) → IsIn s (flat_map symbols_of_carried (carried_tests c depth)) → IsKnown words s) (negations : (s : Sym) → IsIn s (flat_map constants_of_condition (negations_taken_over c depth)) → IsKnown words s)
      (results : (s : Sym) → IsIn s (flat_map symbols_of_wish c.results) → IsKnown words s) where
    abbrev places : List Sym
    places = (ordered_grounds order c.grounds).places

    ungrounded_known : IsOptionKnown words (ungrounded order c depth)
    ungrounded_known =
        one_of (first_without places (flat_map symbols_of_element c.grounds))
        (or_else (first_without places (flat_map symbols_of_carried (carried_tests c depth)))
        (or_else (first_without places (flat_map constants_of_condition (negations_taken_over c depth))) (wrong_in_wishes c places (led_to places c.results) c.results)))
        (without_known places (flat_map symbols_of_element c.grounds) grounds)
        (one_of (first_without places (flat_map symbols_of_carried (carried_tests c depth)))
        (or_else (first_without places (flat_map constants_of_condition (negations_taken_over c depth))) (wrong_in_wishes c places (led_to places c.results) c.results))
        (without_known places (flat_map symbols_of_carried (carried_tests c depth)) tests)
        (one_of (first_without places (flat_map constants_of_condition (negations_taken_over c depth))) (wrong_in_wishes c places (led_to places c.results) c.results)
        (without_known places (flat_map constants_of_condition (negations_taken_over c depth)) negations) (all_wrong_known c places (led_to places c.results) c.results results)))

    one_why : (x y : Option Cause) → IsWhyKnown x → IsWhyKnown y → IsWhyKnown (or_else x y)
    one_why None y h k = k
    one_why (Some why) y h k = h

    plain_why : (of : ℕ → Cause) → ((n : ℕ) → IsCauseKnown words (of n)) → (o : Option ℕ) → IsWhyKnown (as_cause of o)
    plain_why of h None = tt
    plain_why of h (Some n) = h n

    ungrounded_why : (o : Option Sym) → IsOptionKnown words o → IsWhyKnown (as_cause cause.Ungrounded o)
    ungrounded_why None h = tt
    ungrounded_why (Some s) h = h

    off_why : (s : Learning) → IsWhyKnown (whether_off s)
    off_why s = go s.on
      where
        go : (b : Bool) → IsWhyKnown (cond b None (Some cause.Off))
        go true = tt
        go false = tt

    local_why : (s : Learning) → IsWhyKnown (cond s.local_negations None (as_cause cause.LocalNegation (first_firing (has_local_negation c depth) (firings_of c))))
    local_why s = go s.local_negations
      where
        go : (b : Bool) → IsWhyKnown (cond b None (as_cause cause.LocalNegation (first_firing (has_local_negation c depth) (firings_of c))))
        go true = tt
        go false = plain_why cause.LocalNegation (λ n. tt) (first_firing (has_local_negation c depth) (firings_of c))

    against_known : (s : Learning) → IsWhyKnown (cause_against order c depth s)
    against_known s =
        let large = as_cause cause.TooLarge (too_large (general_form order c depth)) in
        let without = or_else (as_cause cause.Ungrounded (ungrounded order c depth)) large in
        let quiet = or_else (as_cause cause.Quiescence (first_firing uses_quiescence (firings_of c))) without in
        let local = cond s.local_negations None (as_cause cause.LocalNegation (first_firing (has_local_negation c depth) (firings_of c))) in
        one_why (whether_off s) (or_else local quiet) (off_why s)
        (one_why local quiet (local_why s)
        (one_why (as_cause cause.Quiescence (first_firing uses_quiescence (firings_of c))) without (plain_why cause.Quiescence (λ n. tt) (first_firing uses_quiescence (firings_of c)))
        (one_why (as_cause cause.Ungrounded (ungrounded order c depth)) large (ungrounded_why (ungrounded order c depth) ungrounded_known) (plain_why cause.TooLarge (λ n. tt) (too_large (general_form order c depth))))))

    like_known : (p : ProductionOf) (rules : List RuleOf) → AreRulesKnown words rules → IsOptionKnown words (rule_like p rules)
    like_known p [] h = tt
    like_known p (rule ∷ rules) h = go (same_body (canonical p) (canonical rule.production)) (like_known p rules h.1)
      where
        go : (b : Bool) → IsOptionKnown words (rule_like p rules) → IsOptionKnown words (cond b (Some rule.production.name) (rule_like p rules))
        go true later = h.0.0
        go false later = later

    module _ (rules : List RuleOf) (elements : List Element) (s : Learning) (known : AreRulesKnown words rules) where
      few_known : (b : Bool) → IsOutcomeKnown (cond b chunked (justified (cause.TooMany 50)))
      few_known true = tt
      few_known false = tt

      reused_known : (o : Option Sym) → IsOptionKnown words o → IsOutcomeKnown (unless_reused s o)
      reused_known (Some name) h = h
      reused_known None h = few_known (nat_lt s.learned 50)

      justified_known : (o : Option Cause) → IsWhyKnown o → IsOutcomeKnown (unless_justified order c depth rules s o)
      justified_known (Some why) h = h
      justified_known None h = reused_known (rule_like (general_form order c depth).production rules) (like_known (general_form order c depth).production rules known)

      grounded_known : (b : Bool) → IsOutcomeKnown (cond b (unless_justified order c depth rules s (cause_against order c depth s)) groundless)
      grounded_known true = justified_known (cause_against order c depth s) (against_known s)
      grounded_known false = tt

      unblocked_known : (o : Option Blocking) → IsOutcomeKnown (unless_blocked order c depth rules s o)
      unblocked_known (Some b) = tt
      unblocked_known None = grounded_known (has_grounds c)

      found_known : (o : Option ℕ) → IsOutcomeKnown (unless_lost order c depth rules elements s o)
      found_known (Some tag) = tt
      found_known None = unblocked_known (blocked_from 1 elements (negations_taken_over c depth))

      pub outcome_known : IsOutcomeKnown (outcome_of order c depth rules elements s)
      unfolding outcome_of
      outcome_known = found_known (tag_lost elements c.grounds)
