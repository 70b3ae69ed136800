use Rattle.std.proofs.Common.{◌≡◌, ◌++◌, map, drop}
use Rattle.soar_rule.specs.Productions.{value_seen, values_of}
use Rattle.soar_rule.specs.Symbols.{constants_of_values}
use Rattle.soar_fire.specs.Growth.{OnlyGains}
use Rattle.soar_fire.specs.Known.{Knows, bound_symbols}
use Rattle.soar_fire.specs.Outcomes.{found, standing, then_on, values_outcome}
use Rattle.soar_fire.proofs.value.+values.Given as goal

abbrev pub invariant-evaluated_all-values : goal.invariant-evaluated_all-values
invariant-evaluated_all-values l = record {
  bound : Knows l.table (bound_symbols l.bindings.items);
  constants : Knows l.table (constants_of_values (values_of (map value_seen (drop l.value-index l.values))));
  known : Knows l.table l.symbols;
  gains : OnlyGains l.initial.table l.initial.letters l.table l.letters;
  rest : then_on (values_outcome l.scene.vars.now (values_of (map value_seen (drop l.value-index l.values))) (standing l.bindings.items l.table l.letters)) (λ more s. found (l.symbols ++ more) s)
      ≡ values_outcome l.scene.vars.now (values_of (map value_seen l.values)) (standing l.initial.bindings.items l.initial.table l.initial.letters);
}
