use Rattle.std.proofs.Common.{◌≡◌, ◌-◌, length}
use Rattle.soar_rule.specs.Repeat.{until_same}
use Rattle.defs_soar.specs.Levels.{same_length}
use Rattle.defs_soar.specs.Ungrounded.{led_to, led_to_by}
use Rattle.chunk_grounds.proofs.leading.led_to.Given as goal

abbrev pub invariant-rounds : goal.invariant-rounds
invariant-rounds l = until_same same_length (length l.wishes - l.index) (led_to_by l.wishes) l.led ≡ led_to l.places l.wishes
