-- What checking a production comes to, in words that are apart from how the order is found; and what the canonical form tells.
use Rattle.std.specs.Prelude.{◌≡◌, ◌≤◌, true, length, Ok}
use Rattle.soar_rule.specs.Alike.{DifferInNames}
use Rattle.soar_rule.specs.AsItStands.{can_be_matched}
use Rattle.soar_rule.specs.Canonical.{canonical}
use Rattle.soar_rule.specs.Checking.{ordered}
use Rattle.soar_rule.specs.Productions.{ProductionOf}
use Rattle.soar_rule.specs.Reordering.{Reordered}

-- checking twice is checking once
abbrev pub CheckedStays : Type 0
CheckedStays = (p q : ProductionOf) → ordered p ≡ Ok q → ordered q ≡ Ok q

-- each variable of a relation is bound where it stands
abbrev pub CheckedIsBound : Type 0
CheckedIsBound = (p q : ProductionOf) → ordered p ≡ Ok q → can_be_matched q ≡ true

-- the conditions are the same in another order: none is lost, and none is added
abbrev pub CheckedIsWhole : Type 0
CheckedIsWhole = (p q : ProductionOf) → ordered p ≡ Ok q → Reordered p.conditions q.conditions

-- other names and numbers of variables change nothing: what is in match order stays so
abbrev pub RenumberedStays : Type 0
RenumberedStays = (p q : ProductionOf) → DifferInNames p q → length q.vars ≤ length p.vars → ordered p ≡ Ok p → ordered q ≡ Ok q

-- productions that differ in names alone have one canonical form
abbrev pub AlikeAreOne : Type 0
AlikeAreOne = (p q : ProductionOf) → DifferInNames p q → canonical p ≡ canonical q

-- productions of one canonical form differ in names alone
abbrev pub OneIsAlike : Type 0
OneIsAlike = (p q : ProductionOf) → canonical p ≡ canonical q → DifferInNames p q
