use Rattle.std.proofs.Common.{◌≡◌, map, take}
use Rattle.defs_soar.specs.WaveAtHand.{supported_wish}
use Rattle.wave_entries.specs.Entries.{held_seen}
use Rattle.learned_firings.proofs.entry.held_wishes.Given as goal

abbrev pub invariant-made : goal.invariant-made
invariant-made l = record {
  held : map held_seen l.held ≡ map (supported_wish l.goals l.kind) (take l.wish-index l.made);
  same : map (λ h. h.wish) l.held ≡ take l.wish-index l.made;
}
