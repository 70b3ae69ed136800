use Rattle.std.proofs.Common.{◌≡◌, ◌++◌, map}
use Rattle.defs_soar.specs.Agents.{LiveFiring}
use Rattle.live_firings.specs.Living.{live_seen}
use Rattle.wave_parts.proofs.forgetting.add_live.Given as goal

abbrev pub invariant-live : goal.invariant-live
invariant-live l = l.roots ++ map (λ (x : LiveFiring). x.number) (map live_seen l.firing-iterator) ≡ l.initial.roots ++ map (λ (x : LiveFiring). x.number) (map live_seen l.live.list)
