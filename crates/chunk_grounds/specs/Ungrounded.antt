-- The identifier without a variable, from what was found of a chain.
use Rattle.std.specs.Prelude.{List, flat_map, Option}
use Rattle.soar_sym.specs.declared.symbol.Sym.{Sym}
use Rattle.soar_rule.specs.Conditions.{Condition}
use Rattle.soar_rule.specs.Symbols.{constants_of_condition}
use Rattle.defs_soar.specs.declared.chain.Chain.{Chain}
use Rattle.defs_soar.specs.CarriedTests.{Carried}
use Rattle.defs_soar.specs.History.{chain_seen}
use Rattle.defs_soar.specs.Ungrounded.{first_without, led_to, or_else, symbols_of_carried, symbols_of_element, wrong_in_wishes}

-- with the places, tests and negations that were found
abbrev pub is_ungrounded : Chain → List Sym → List Carried → List Condition → Option Sym
is_ungrounded chain places tests negations =
    let c = chain_seen chain in
    or_else (first_without places (flat_map symbols_of_element c.grounds))
    (or_else (first_without places (flat_map symbols_of_carried tests))
    (or_else (first_without places (flat_map constants_of_condition negations)) (wrong_in_wishes c places (led_to places c.results) c.results)))
