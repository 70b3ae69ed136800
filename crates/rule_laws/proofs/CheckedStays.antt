-- What is checked stays as it is when it is checked once more.
use Rattle.std.proofs.Common.{◌≡◌, false, ◌||◌, nat_lt, [], length, Option, None, Ok, sym, ◌∙◌, ap, subst}
use Rattle.std.specs.Prelude.{not}
use Rattle.std.specs.List.{list_any}
use Rattle.soar_rule.specs.Checking.{Fault, no_state, too_deep, bad_preference, has_state, stop_of, fault_of_actions, fault_of_number, is_bad, fault_if, fault_of, unless_fault, ordered}
use Rattle.soar_rule.specs.Conditions.{Conditions, all_of}
use Rattle.soar_rule.specs.MatchOrder.{Taken, nothing_taken, or_else, taken_in_order}
use Rattle.soar_rule.specs.Productions.{ProductionOf}
use Rattle.soar_rule.specs.Reordering.{Reordered}
use Rattle.soar_rule.specs.Sizes.{size_of_all, calls_of, is_too_deep}
use Rattle.soar_rule.specs.Variables.{plain_outside}
use Rattle.rule_laws.proofs.CheckedLaws.{Checked, Faultless, checked}
use Rattle.rule_laws.proofs.KeptLaws.{size_kept, depth_kept, state_kept, plain_kept}
use Rattle.rule_laws.proofs.NoneLeftLaws.{no_stop}
use Rattle.rule_laws.proofs.PlaceLaws.{InPlace, all_in_place, run_binds}
use Rattle.rule_laws.proofs.StayLaws.{in_order}
use Rattle.rule_laws.proofs.WholeLaws.{is_whole}

no_fault : (p : ProductionOf) (taken : Taken) → Faultless p taken → fault_of p taken ≡ None
no_fault p taken faults =
    none_of (fault_if (not (has_state p.conditions)) no_state) (stop_of p.conditions taken) (fault_of_actions taken.bound p.actions)
    (fault_of_number (size_of_all p.conditions) (length p.vars)) (fault_if (is_too_deep p) too_deep) (fault_if (list_any is_bad p.actions) bad_preference)
    faults.state faults.stop faults.actions faults.number faults.depth faults.preferences
  where
    none_of :
        (a b c d e f : Option Fault) → a ≡ None → b ≡ None → c ≡ None → d ≡ None → e ≡ None → f ≡ None →
        or_else a (or_else b (or_else c (or_else d (or_else e f)))) ≡ None
    none_of a b c d e f p q r s t u = cc

module _ (p : ProductionOf) (q : ProductionOf) (c : Checked p q) where
  abbrev ds : Conditions
  ds = all_of c.taken.order

  abbrev same_conditions : Reordered p.conditions ds
  same_conditions = is_whole c.run

  -- the faults that were absent stay absent
  faultless_still : (t : Taken) → InPlace ds (nothing_taken []) c.taken.order t → Faultless (record p { conditions = ds }) t
  faultless_still t i = record {
    state = ap (λ b. fault_if (not b) no_state) (sym (state_kept same_conditions)) ∙ c.faults.state;
    stop = no_stop ds t i.left;
    actions = ap (λ b. fault_of_actions b p.actions) (i.bound ∙ sym (run_binds c.run)) ∙ c.faults.actions;
    number = ap (λ n. fault_of_number n (length p.vars)) (sym (size_kept same_conditions)) ∙ c.faults.number;
    depth = ap (λ n. fault_if (nat_lt 8 n || list_any (λ a. nat_lt 8 (calls_of a)) p.actions) too_deep) (sym (depth_kept same_conditions)) ∙ c.faults.depth;
    preferences = c.faults.preferences;
  }

  ordered_still : ordered (record p { conditions = ds }) ≡ Ok (record p { conditions = ds })
  unfolding ordered taken_in_order
  ordered_still = of (taken_in_order ds) (all_in_place c.taken.order false (plain_outside ds) [] (in_order (plain_outside ds) (plain_kept same_conditions) c.run))
    where
      of : (t : Taken) → InPlace ds (nothing_taken []) c.taken.order t →
          unless_fault (fault_of (record p { conditions = ds }) t) (record p { conditions = all_of t.order }) ≡ Ok (record p { conditions = ds })
      of t i =
          ap (λ o. unless_fault o (record p { conditions = all_of t.order })) (no_fault (record p { conditions = ds }) t (faultless_still t i))
          ∙ ap (λ o. Ok (record p { conditions = all_of o })) i.order

pub checked_stays : (p q : ProductionOf) → ordered p ≡ Ok q → ordered q ≡ Ok q
checked_stays p q e = let c = checked p q e in subst (λ (r : ProductionOf). ordered r ≡ Ok r) (sym c.same) (ordered_still p q c)
