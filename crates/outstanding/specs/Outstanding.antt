-- What is outstanding in a conflict set (Soar manual, chapter 2, elaboration cycle).
use Rattle.std.specs.Prelude.{not, List, map, filter}
use Rattle.defs_match.specs.declared.instance.Instance.{Instance}
use Rattle.defs_soar.specs.Pending.{is_listed}
use Rattle.live_firings.specs.Living.{live_seen}
use Rattle.live_firings.specs.declared.live.Live.{Live}

-- the instances that no live firing has
abbrev pub unfired : List Instance → List Live → List Instance
unfired instances live = filter (λ i. not (is_listed (map (λ l. l.instance) (map live_seen live)) i)) instances

-- the live firings whose instances are not among these
abbrev pub unmatched : List Instance → List Live → List Live
unmatched instances live = filter (λ l. not (is_listed instances l.instance)) live
