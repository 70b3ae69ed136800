use Rattle.std.proofs.Common.{◌≡◌, ◌++◌, drop}
use Rattle.settle_changes.specs.Leaving.{inputs_gone, inputs_without}
use Rattle.settle_changes.proofs.leaving.drop_inputs.Given as goal

abbrev pub invariant-ids : goal.invariant-ids
invariant-ids l = record {
  gone : l.gone ++ inputs_gone l.inputs (drop l.id-index l.ids) ≡ inputs_gone l.initial.inputs l.ids;
  inputs : inputs_without l.inputs (drop l.id-index l.ids) ≡ inputs_without l.initial.inputs l.ids;
}
