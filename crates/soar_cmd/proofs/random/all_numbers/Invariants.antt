use Rattle.std.proofs.Common.{◌≡◌, ◌++◌, drop}
use Rattle.std.specs.Prelude.{option_map}
use Rattle.command_orders.specs.Asked.{all_numbers}
use Rattle.soar_cmd.proofs.random.all_numbers.Given as goal

abbrev pub invariant-numbers : goal.invariant-numbers
invariant-numbers l = all_numbers l.numbers ≡ option_map (λ ns. l.words ++ ns) (all_numbers (drop l.number-index l.numbers))
