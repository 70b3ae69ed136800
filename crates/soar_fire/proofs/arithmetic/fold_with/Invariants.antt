use Rattle.std.proofs.Common.{◌≡◌, drop}
use Rattle.defs_soar.specs.Functions.{fold_with}
use Rattle.soar_fire.specs.Steps.{step_of}
use Rattle.soar_fire.proofs.arithmetic.fold_with.Given as goal

abbrev pub invariant-symbols : goal.invariant-symbols
invariant-symbols l = fold_with (step_of l.operation) l.number (drop l.symbol-index l.symbols) ≡ fold_with (step_of l.operation) l.initial.number l.symbols
