-- Entries of a wave whose firings hold the wishes that they made. No public clause cites this.
use Rattle.std.specs.Prelude.{◌≡◌, List, [], ◌∷◌, map}
use Rattle.defs_soar.specs.declared.preference.Wish.{Wish}
use Rattle.defs_soar.specs.WaveAtHand.{Entry, Fresh, SupportedWish, fired, noted}

abbrev pub wishes_of : Fresh → List Wish
wishes_of x = map (λ (y : SupportedWish). y.wish) x.wishes

-- each firing holds the wishes that it made
abbrev pub AreHeld : List Entry → Type 0
AreHeld [] = Unit {0}
AreHeld (fired x ∷ entries) = (wishes_of x ≡ x.firing.made) × AreHeld entries
AreHeld (noted learning_event ∷ entries) = AreHeld entries
