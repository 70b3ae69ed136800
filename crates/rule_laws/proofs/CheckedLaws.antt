-- What it means that a production is checked.
use Rattle.std.proofs.Common.{◌≡◌, false, [], length, Option, Some, None, Ok, refl, subst}
use Rattle.std.specs.Prelude.{not, option_map}
use Rattle.std.specs.List.{list_any}
use Rattle.soar_rule.specs.Checking.{Fault, no_state, unbound, unconnected, too_deep, bad_preference, told, has_state, lack_of_linked, place_left, stop_of}
use Rattle.soar_rule.specs.Checking.{fault_of_actions, fault_of_number, is_bad, fault_if, fault_of, unless_fault, ordered}
use Rattle.soar_rule.specs.Conditions.{Conditions, no_more, all_of}
use Rattle.soar_rule.specs.MatchOrder.{Taken, first_lack, taken_in_order}
use Rattle.soar_rule.specs.Productions.{ProductionOf}
use Rattle.soar_rule.specs.Sizes.{size_of_all, is_too_deep}
use Rattle.soar_rule.specs.Variables.{plain_outside}
use Rattle.rule_laws.proofs.LackLaws.{none_outside}
use Rattle.rule_laws.proofs.LeftLaws.{left_of}
use Rattle.rule_laws.proofs.ReadyLaws.{neither}
use Rattle.rule_laws.proofs.RunLaws.{Run, Level, level}

-- each fault is absent
pub record Faultless (p : ProductionOf) (taken : Taken) : Type 0 where
  pub state : fault_if (not (has_state p.conditions)) no_state ≡ None
  pub stop : stop_of p.conditions taken ≡ None
  pub actions : fault_of_actions taken.bound p.actions ≡ None
  pub number : fault_of_number (size_of_all p.conditions) (length p.vars) ≡ None
  pub depth : fault_if (is_too_deep p) too_deep ≡ None
  pub preferences : fault_if (list_any is_bad p.actions) bad_preference ≡ None

faultless : (p : ProductionOf) (taken : Taken) → fault_of p taken ≡ None → Faultless p taken
faultless p taken e =
    let state = neither (fault_if (not (has_state p.conditions)) no_state) _ e in
    let stop = neither (stop_of p.conditions taken) _ state.1 in
    let actions = neither (fault_of_actions taken.bound p.actions) _ stop.1 in
    let number = neither (fault_of_number (size_of_all p.conditions) (length p.vars)) _ actions.1 in
    let depth = neither (fault_if (is_too_deep p) too_deep) _ number.1 in
    record { state = state.0; stop = stop.0; actions = actions.0; number = number.0; depth = depth.0; preferences = depth.1 }

not_mapped : {A B : Type 0} (f : A → B) (o : Option A) → option_map f o ≡ None → o ≡ None
not_mapped f None e = refl
not_mapped f (Some a) e = absurd (cc)

-- where nothing stops the order, none is left
all_taken : (cs : Conditions) (t : Taken) → Level cs false (plain_outside cs) [] t → stop_of cs t ≡ None → left_of cs 0 t.places ≡ no_more
all_taken cs t l e =
    let linked = neither (option_map unbound (lack_of_linked cs 0 t)) _ e in
    let placed = neither (option_map (λ k. unconnected (told k)) (place_left cs 0 t)) _ linked.1 in
    none_outside cs (plain_outside cs) 0 t l.settled (not_mapped (λ k. unconnected (told k)) (place_left cs 0 t) placed.0)
    (not_mapped unbound (first_lack cs false false (plain_outside cs) 0 t) placed.1)

-- what is checked: its conditions are those of the production, taken in turn until none is left
pub record Checked (p : ProductionOf) (q : ProductionOf) : Type 0 where
  pub taken : Taken
  pub run : Run false (plain_outside p.conditions) [] p.conditions taken.order taken.bound no_more
  pub faults : Faultless p taken
  pub same : q ≡ record p { conditions = all_of taken.order }

pub checked : (p q : ProductionOf) → ordered p ≡ Ok q → Checked p q
unfolding ordered taken_in_order
checked p q e = of (taken_in_order p.conditions) (level p.conditions false (plain_outside p.conditions) []) e
  where
    passed : (o : Option Fault) (r : ProductionOf) → unless_fault o r ≡ Ok q → (o ≡ None) × (q ≡ r)
    passed None r e = (refl, (cc))
    passed (Some fault) r e = absurd (cc)

    of : (t : Taken) → Level p.conditions false (plain_outside p.conditions) [] t → unless_fault (fault_of p t) (record p { conditions = all_of t.order }) ≡ Ok q → Checked p q
    of t l e =
        let passes = passed (fault_of p t) (record p { conditions = all_of t.order }) e in
        let faults = faultless p t passes.0 in
        record {
          taken = t;
          run = subst (λ (r : Conditions). Run false (plain_outside p.conditions) [] p.conditions t.order t.bound r) (all_taken p.conditions t l faults.stop) l.run;
          faults = faults;
          same = passes.1;
        }
