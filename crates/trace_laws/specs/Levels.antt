-- What is written at a watch level: piece after piece, and without the lines above it.
use Rattle.std.specs.Prelude.{◌≡◌, ℕ, ◌≤◌, Bool, true, nat_le, List, [], ◌++◌, filter}
use Rattle.soar_sym.specs.Words.{Texts}
use Rattle.defs_soar.specs.Events.{Event}
use Rattle.defs_soar.specs.Trace.{Piece, line, bare, followed_by, piece_of, pieces_of, rendered}
use Rattle.trace_laws.specs.Events.{AreEventsKnown}
use Rattle.trace_laws.specs.Tables.{Later}

-- the piece may be written at this watch level
abbrev pub is_shown_at : ℕ → Piece → Bool
is_shown_at watch (line level text) = nat_le level watch
is_shown_at watch (bare text) = true

-- so may that of the event, with any table
abbrev pub is_told_at : ℕ → Event → Bool
is_told_at watch e = is_shown_at watch (piece_of [] e)

-- pieces are written in turn, each where the text before it ended
abbrev pub WrittenInTurn : Type 0
WrittenInTurn =
    (watch : ℕ) (mid : Bool) (first second : List Piece)
    → rendered watch mid (first ++ second) ≡ followed_by (rendered watch mid first) (rendered watch (rendered watch mid first).mid_line second)

-- up to a watch level, lines above it leave nothing
abbrev pub LowLevelsAlone : Type 0
LowLevelsAlone =
    (most watch : ℕ) (mid : Bool) (pieces : List Piece) → watch ≤ most → rendered watch mid pieces ≡ rendered watch mid (filter (is_shown_at most) pieces)

-- the lines up to a level are those of the events up to it
abbrev pub LowEventsAlone : Type 0
LowEventsAlone =
    (words : Texts) (most : ℕ) (events : List Event) → filter (is_shown_at most) (pieces_of words events) ≡ pieces_of words (filter (is_told_at most) events)

-- where the events up to a level are known, they alone, with their own table, tell what a later table tells of all events
abbrev pub LowEventsKeep : Type 0
LowEventsKeep =
    (words later : Texts) (most watch : ℕ) (mid : Bool) (events : List Event) → AreEventsKnown words (filter (is_told_at most) events) → Later words later
    → watch ≤ most → rendered watch mid (pieces_of later events) ≡ rendered watch mid (pieces_of words (filter (is_told_at most) events))
