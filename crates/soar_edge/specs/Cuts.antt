-- What a cutter answers: the commands of the bytes that were fed, however they were cut into pieces.
use Rattle.std.specs.Prelude.{◌≡◌, ℕ, Bool, true, false, List, [], ◌∷◌, ◌++◌, Result, Ok, Err}
use Rattle.soar_edge.specs.Cutting.{Cut, whole, unfinished, too_long, cuts_from}
use Rattle.soar_edge.specs.declared.cutter.Cut.{Cut as CutRead}
use Rattle.soar_edge.specs.declared.cutter.Cut.TheVariants as cut

-- the bytes behind the commands that were taken, the number of their first line, how many bytes were fed in all, and whether the stream has ended
pub record Uncut : Type 0 where
  pub bytes : List ℕ
  pub line : ℕ
  pub fed : ℕ
  pub closed : Bool

-- nothing was fed
pub record IsUncut (c : Uncut) : Type 0 where
  pub bytes : c.bytes ≡ []
  pub line : c.line ≡ 1
  pub fed : c.fed ≡ 0
  pub closed : c.closed ≡ false

-- what may still follow the bytes that were fed, where the stream ends behind it or goes on: nothing behind a stream that has ended
abbrev pub MayFollow : Bool → Bool → List ℕ → Type 0
MayFollow false ends more = Unit {0}
MayFollow true ends more = (ends ≡ true) × (more ≡ [])

-- the commands of what is not cut yet, once more bytes have followed
abbrev pub cuts_with : Uncut → Bool → List ℕ → List Cut
cuts_with c ends more = cuts_from ends 0 c.line (c.bytes ++ more)

-- whatever follows, this stands first, and then what is left in the cutter
abbrev pub StandsFirst : Uncut → Uncut → (List Cut → List Cut) → Type 0
StandsFirst old new first = (ends : Bool) (more : List ℕ) → MayFollow old.closed ends more → cuts_with old ends more ≡ first (cuts_with new ends more)

-- whatever follows, the commands that are left are the same
abbrev pub Stays : Uncut → Uncut → Type 0
Stays old new = StandsFirst old new (λ cuts. cuts)

-- each answer, exactly where it comes; only want of memory is free
abbrev pub Cuts : {E : Type 0} → Uncut → Uncut → Result CutRead E → Type 0
Cuts old new (Ok (cut.Whole command)) = StandsFirst old new (λ cuts. whole command.line command.text ∷ cuts)
Cuts old new (Ok cut.More) = (old.closed ≡ false) × (cuts_with old false [] ≡ []) × Stays old new
Cuts old new (Ok cut.End) = (old.closed ≡ true) × (cuts_with old true [] ≡ []) × Stays old new
Cuts old new (Ok (cut.Unfinished line)) = (old.closed ≡ true) × (cuts_with old true [] ≡ unfinished line ∷ []) × Stays old new
Cuts old new (Ok cut.TooLong) = StandsFirst old new (λ cuts. too_long ∷ []) × Stays old new
Cuts old new (Err e) = Unit {0}
