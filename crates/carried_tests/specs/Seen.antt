-- Tests that are taken over, as plain data.
use Rattle.carried_tests.specs.declared.carrying.CarriedTest.{CarriedTest}
use Rattle.carried_tests.specs.declared.placing.PlacedTest.{PlacedTest}
use Rattle.defs_soar.specs.CarriedTests.{Carried as CarriedOf, Placed as PlacedOf}

abbrev pub carried_seen : CarriedTest → CarriedOf
carried_seen t = record { relation = t.relation; field = t.field; referent = t.referent }

abbrev pub placed_seen : PlacedTest → PlacedOf
placed_seen p = record { at = p.at; relation = p.relation; right = p.right }
