-- One entry that is held in another way.
use Rattle.std.proofs.Common.{◌≡◌, List, [], ◌∷◌, ◌++◌, map, Result, Ok, Err, OnOk}
use Rattle.defs_soar.specs.WaveAtHand.{Entry as EntryOf}
use Rattle.wave_entries.specs.Entries.{entry_seen}
use Rattle.wave_entries.specs.declared.entry.Entry.{Entry}

pub both_ok : {T E : Type 0} {P Q R : Type 0} (r : Result T E) → (P → Q → R) → OnOk r P → OnOk r Q → OnOk r R
both_ok (Ok x) f p q = f p q
both_ok (Err e) f p q = tt

-- the last of one
pub only_one : (rest : List Entry) (last : Entry) (e : EntryOf) → map entry_seen (rest ++ last ∷ []) ≡ e ∷ [] → entry_seen last ≡ e
only_one [] last e q = cc
only_one (x ∷ []) last e q = absurd (cc)
only_one (x ∷ y ∷ rest) last e q = absurd (cc)
