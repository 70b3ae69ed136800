use Rattle.std.proofs.Common.{◌≡◌, drop, filter, flat_map}
use Rattle.defs_soar.specs.LearnedRules.{identifiers_of}
use Rattle.defs_soar.specs.Results.{with_each_symbol}
use Rattle.defs_soar.specs.Ungrounded.{symbols_of_element}
use Rattle.defs_soar.specs.Values.{is_identifier}
use Rattle.learned_firings.proofs.identifiers.identifiers_of.Given as goal

abbrev pub invariant-elements : goal.invariant-elements
invariant-elements l = with_each_symbol l.ids (filter is_identifier (flat_map symbols_of_element (drop l.element-index l.elements))) ≡ identifiers_of l.elements
