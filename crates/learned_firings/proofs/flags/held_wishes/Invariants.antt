use Rattle.std.proofs.Common.{◌≡◌, ◌++◌, drop, map, take}
use Rattle.wave_entries.specs.Details.{support_of}
use Rattle.wave_entries.specs.Entries.{held_seen}
use Rattle.learned_firings.specs.Flags.{flagged}
use Rattle.learned_firings.proofs.flags.held_wishes.Given as goal

abbrev pub invariant-wishes : goal.invariant-wishes
invariant-wishes l = record {
  held : map held_seen l.held ++ flagged l.rest (support_of l.by) (map held_seen (drop l.wish-index l.wishes)) ≡ flagged l.flags (support_of l.by) (map held_seen l.wishes);
  same : map (λ h. h.wish) l.held ≡ map (λ h. h.wish) (take l.wish-index l.wishes);
}
