-- What a production without a fault comes to: each part of the check finds none, and the conditions are in match order.
use Rattle.std.specs.Prelude.{nat_lt, not}
use Rattle.std.specs.List.{list_any}
use Rattle.std.proofs.Common.{◌≡◌, ℕ, ◌||◌, List, Option, Some, None, Ok, refl}
use Rattle.soar_rule.specs.Checking.{Fault, no_state, too_deep, bad_preference, has_state, stop_of, fault_of_actions, fault_of_number, is_bad, fault_if, fault_of, unless_fault, ordered}
use Rattle.soar_rule.specs.Conditions.{Conditions, all_of}
use Rattle.soar_rule.specs.MatchOrder.{or_else, Taken, taken_in_order}
use Rattle.soar_rule.specs.Productions.{ActionOf, ProductionOf}
use Rattle.soar_rule.specs.Sizes.{size_of_all, depth_of_all, calls_of}

-- the fault of these conditions and actions, with so many variables
abbrev pub fault_in : Conditions → List ActionOf → ℕ → Taken → Option Fault
fault_in cs actions count taken =
    or_else (fault_if (not (has_state cs)) no_state)
    (or_else (stop_of cs taken)
    (or_else (fault_of_actions taken.bound actions)
    (or_else (fault_of_number (size_of_all cs) count)
    (or_else (fault_if (nat_lt 8 (depth_of_all cs) || list_any (λ a. nat_lt 8 (calls_of a)) actions) too_deep) (fault_if (list_any is_bad actions) bad_preference)))))

-- no part of the check finds a fault
pub record NoFault (cs : Conditions) (actions : List ActionOf) (count : ℕ) (taken : Taken) : Type 0 where
  pub state : fault_if (not (has_state cs)) no_state ≡ None
  pub stop : stop_of cs taken ≡ None
  pub lack : fault_of_actions taken.bound actions ≡ None
  pub number : fault_of_number (size_of_all cs) count ≡ None
  pub depth : fault_if (nat_lt 8 (depth_of_all cs) || list_any (λ a. nat_lt 8 (calls_of a)) actions) too_deep ≡ None
  pub preference : fault_if (list_any is_bad actions) bad_preference ≡ None

neither : (a b : Option Fault) → or_else a b ≡ None → (a ≡ None) × (b ≡ None)
neither None b e = (refl, e)
neither (Some fault) b e = absurd (cc)

pub each_none : (cs : Conditions) (actions : List ActionOf) (count : ℕ) (taken : Taken) → fault_in cs actions count taken ≡ None → NoFault cs actions count taken
each_none cs actions count taken e =
    let deep : Option Fault = fault_if (nat_lt 8 (depth_of_all cs) || list_any (λ a. nat_lt 8 (calls_of a)) actions) too_deep in
    let bad : Option Fault = fault_if (list_any is_bad actions) bad_preference in
    let number : Option Fault = fault_of_number (size_of_all cs) count in
    let lack : Option Fault = fault_of_actions taken.bound actions in
    let first = neither (fault_if (not (has_state cs)) no_state) (or_else (stop_of cs taken) (or_else lack (or_else number (or_else deep bad)))) e in
    let second = neither (stop_of cs taken) (or_else lack (or_else number (or_else deep bad))) first.1 in
    let third = neither lack (or_else number (or_else deep bad)) second.1 in
    let fourth = neither number (or_else deep bad) third.1 in
    let fifth = neither deep bad fourth.1 in
    record { state = first.0; stop = second.0; lack = third.0; number = fourth.0; depth = fifth.0; preference = fifth.1 }

pub all_none : (cs : Conditions) (actions : List ActionOf) (count : ℕ) (taken : Taken) → NoFault cs actions count taken → fault_in cs actions count taken ≡ None
all_none cs actions count taken h = λ i. or_else (h.state i) (or_else (h.stop i) (or_else (h.lack i) (or_else (h.number i) (or_else (h.depth i) (h.preference i)))))

-- what the check gives: there is no fault, and the conditions are those that were taken
pub checked_as : (p q : ProductionOf) → ordered p ≡ Ok q → (fault_of p (taken_in_order p.conditions) ≡ None) × (q ≡ record p { conditions = all_of (taken_in_order p.conditions).order })
unfolding ordered
checked_as p q e = by (fault_of p (taken_in_order p.conditions)) refl e
  where
    by : (fault : Option Fault) → fault_of p (taken_in_order p.conditions) ≡ fault → unless_fault fault (record p { conditions = all_of (taken_in_order p.conditions).order }) ≡ Ok q
        → (fault_of p (taken_in_order p.conditions) ≡ None) × (q ≡ record p { conditions = all_of (taken_in_order p.conditions).order })
    by None f h = (f, cc)
    by (Some fault) f h = absurd (cc)

-- what stands in match order and has no fault is checked already
pub stays_so : (p : ProductionOf) → fault_of p (taken_in_order p.conditions) ≡ None → all_of (taken_in_order p.conditions).order ≡ p.conditions → ordered p ≡ Ok p
unfolding ordered
stays_so p none same = λ i. unless_fault (none i) (record p { conditions = same i })
