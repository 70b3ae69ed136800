use Rattle.std.proofs.Common.{◌≡◌, ◌++◌}
use Rattle.wave_parts.proofs.living.append.Given as goal

abbrev pub invariant-fired : goal.invariant-fired
invariant-fired l = record {
  list : l.live.list ≡ l.initial.live.list ++ l.yielded;
  told : l.live.told ≡ l.initial.live.told;
}
