-- Pieces are written in turn, and lines above a level leave nothing at it.
use Rattle.std.proofs.Common.{◌≡◌, ℕ, ◌≤◌, Bool, true, false, cond, List, [], ◌∷◌, append_assoc, filter, map, refl, sym, ap, ◌∙◌, arith}
use Rattle.std.specs.Prelude.{nat_le}
use Rattle.std.proofs.lemmas.Bool.Decides.{nat_tests}
use Rattle.soar_sym.specs.Words.{Texts}
use Rattle.defs_soar.specs.Events.{Event, begins, removes, retracts, fires, makes_wish, drops, writes_text, learning, goes, comes, selects, substates, reaches_goal_limit, is_cut, shows_no_longer, shows, halts}
use Rattle.defs_soar.specs.Trace.{Piece, Written, line, bare, followed_by, line_text, piece_of, piece_written, pieces_of, rendered}
use Rattle.trace_laws.specs.Levels.{LowEventsAlone, LowEventsKeep, LowLevelsAlone, WrittenInTurn, is_shown_at, is_told_at}
use Rattle.trace_laws.proofs.EventLemmas.{pieces_keep}

-- ---- in turn

followed_in_turn : (a b c : Written) → followed_by a (followed_by b c) ≡ followed_by (followed_by a b) c
followed_in_turn a b c = λ k. record { text = sym (append_assoc a.text b.text c.text) k; mid_line = c.mid_line }

pub written_in_turn : WrittenInTurn
written_in_turn watch mid [] second = refl
written_in_turn watch mid (p ∷ first) second =
    let w : Written = piece_written watch mid p in
    let r : Written = rendered watch w.mid_line first in
    ap (followed_by w) (written_in_turn watch w.mid_line first second) ∙ followed_in_turn w r (rendered watch r.mid_line second)

-- ---- lines

above : (level most watch : ℕ) → watch ≤ most → nat_le level most ≡ false → nat_le level watch ≡ false
above level most watch le is = grind (arith, nat_tests)

-- a line that is not written, in front of what is written
skipped : (watch : ℕ) (mid : Bool) (level : ℕ) (text : List ℕ) (pieces : List Piece) → nat_le level watch ≡ false
    → rendered watch mid (line level text ∷ pieces) ≡ rendered watch mid pieces
skipped watch mid level text pieces is = by (nat_le level watch) is
  where
    shown : Bool → Written
    shown b = cond b (record { text = line_text mid text; mid_line = false }) (record { text = []; mid_line = mid })

    by : (b : Bool) → b ≡ false → followed_by (shown b) (rendered watch (shown b).mid_line pieces) ≡ rendered watch mid pieces
    by true is = absurd (cc)
    by false is = refl

pub low_levels_alone : LowLevelsAlone
low_levels_alone most watch mid [] le = refl
low_levels_alone most watch mid (bare text ∷ pieces) le =
    let w : Written = piece_written watch mid (bare text) in ap (followed_by w) (low_levels_alone most watch w.mid_line pieces le)
low_levels_alone most watch mid (line level text ∷ pieces) le = by (nat_le level most) refl (λ m. low_levels_alone most watch m pieces le)
  where
    kept : List Piece
    kept = filter (is_shown_at most) pieces

    by : (b : Bool) → nat_le level most ≡ b → ((m : Bool) → rendered watch m pieces ≡ rendered watch m kept)
        → rendered watch mid (line level text ∷ pieces) ≡ rendered watch mid (cond b (line level text ∷ kept) kept)
    by true is rest = let w : Written = piece_written watch mid (line level text) in ap (followed_by w) (rest w.mid_line)
    by false is rest = skipped watch mid level text pieces (above level most watch le is) ∙ rest mid

-- ---- events

-- the level of an event's line is the same with each table
same_level : (words : Texts) (most : ℕ) (e : Event) → is_shown_at most (piece_of words e) ≡ is_told_at most e
same_level words most (begins part) = refl
same_level words most (removes goal) = refl
same_level words most (retracts number name i) = refl
same_level words most (fires number name i) = refl
same_level words most (makes_wish w wish_support) = refl
same_level words most (drops d) = refl
same_level words most (writes_text text) = refl
same_level words most (learning learning_event) = refl
same_level words most (goes e) = refl
same_level words most (comes e) = refl
same_level words most (selects cycle_number below operator name) = refl
same_level words most (substates cycle_number below goal why) = refl
same_level words most reaches_goal_limit = refl
same_level words most (is_cut part) = refl
same_level words most (shows_no_longer t) = refl
same_level words most (shows t) = refl
same_level words most halts = refl

filtered : (words : Texts) (most : ℕ) (events : List Event)
    → filter (is_shown_at most) (map (piece_of words) events) ≡ map (piece_of words) (filter (is_told_at most) events)
filtered words most [] = refl
filtered words most (e ∷ events) = by (is_shown_at most (piece_of words e)) (is_told_at most e) (same_level words most e) (filtered words most events)
  where
    shown : List Piece
    shown = filter (is_shown_at most) (map (piece_of words) events)

    told : List Event
    told = filter (is_told_at most) events

    by : (a b : Bool) → a ≡ b → shown ≡ map (piece_of words) told → cond a (piece_of words e ∷ shown) shown ≡ map (piece_of words) (cond b (e ∷ told) told)
    by true true same rest = ap (λ l. piece_of words e ∷ l) rest
    by true false same rest = absurd (cc)
    by false true same rest = absurd (cc)
    by false false same rest = rest

pub low_events_alone : LowEventsAlone
unfolding pieces_of
low_events_alone words most events = filtered words most events

pub low_events_keep : LowEventsKeep
low_events_keep words later most watch mid events known grown le =
    low_levels_alone most watch mid (pieces_of later events) le
    ∙ ap (rendered watch mid) (low_events_alone later most events ∙ pieces_keep words later (filter (is_told_at most) events) known grown)
