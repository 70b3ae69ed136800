-- Entries of a wave with some preferences of a firing held in another way, by flags in the order in which they were made.
use Rattle.std.specs.Prelude.{ℕ, Bool, false, ◌==◌, List, [], ◌∷◌, if◌then◌else◌}
use Rattle.defs_soar.specs.Events.{WishSupport}
use Rattle.defs_soar.specs.WaveAtHand.{Entry, Fresh, SupportedWish, fired, noted}

abbrev pub first_flag : List Bool → Bool
first_flag [] = false
first_flag (b ∷ flags) = b

abbrev pub flags_behind : List Bool → List Bool
flags_behind [] = []
flags_behind (b ∷ flags) = flags

abbrev pub held_if : Bool → WishSupport → SupportedWish → SupportedWish
held_if flag wish_support x = if flag then record x { wish_support = wish_support } else x

abbrev pub flagged : List Bool → WishSupport → List SupportedWish → List SupportedWish
flagged flags wish_support [] = []
flagged flags wish_support (x ∷ wishes) = held_if (first_flag flags) wish_support x ∷ flagged (flags_behind flags) wish_support wishes

abbrev pub with_flags_held : List Bool → WishSupport → Fresh → Fresh
with_flags_held flags wish_support x = record x { wishes = flagged flags wish_support x.wishes }

-- the firing of a number
abbrev pub with_flags : ℕ → List Bool → WishSupport → Entry → Entry
with_flags number flags wish_support (fired x) = if x.firing.number == number then fired (with_flags_held flags wish_support x) else fired x
with_flags number flags wish_support (noted learning_event) = noted learning_event
