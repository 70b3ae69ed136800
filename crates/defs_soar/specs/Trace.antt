-- What is told, as it is written at a watch level (the lines and levels are this engine's).
use Rattle.std.specs.Prelude.{ℕ, zero, suc, Bool, true, false, ◌==◌, not, nat_le, List, [], ◌∷◌, ◌++◌, map, Option, Some, None, if◌then◌else◌, codes}
use Rattle.std.specs.Fmt.{decimal}
use Rattle.soar_sym.specs.Words.{Texts}
use Rattle.soar_sym.specs.declared.symbol.Sym.{Sym}
use Rattle.defs_text.specs.Symbols.{symbol_text, instance_text, tags_text}
use Rattle.defs_soar.specs.declared.firing.DropCause.{DropCause}
use Rattle.defs_soar.specs.declared.firing.DropCause.TheVariants as drop_cause
use Rattle.defs_soar.specs.declared.goal.Impasse.{Impasse}
use Rattle.defs_soar.specs.declared.goal.Impasse.TheVariants as impasse
use Rattle.defs_soar.specs.declared.learning.Cause.{Cause}
use Rattle.defs_soar.specs.declared.learning.Cause.TheVariants as cause
use Rattle.defs_soar.specs.Events.{Part, input_phase, proposal_phase, decision, application_phase, output_phase, WishSupport, by_instance, by_operator, by_learned, LearningEvent, learns, justifies, has_no_grounds, reuses, has_lost, is_blocked, Event, begins, removes, retracts, fires, makes_wish, drops, writes_text, learning, goes, comes, selects, substates, reaches_goal_limit, is_cut, shows_no_longer, shows, halts}
use Rattle.defs_soar.specs.Texts.{triple_text, tagged_text, wish_text, firing_text}

-- ---- pieces of output

-- a line with the least level at which it is written, or bytes that a production writes at every level
pub data Piece : Type 0 where
  line : ℕ → List ℕ → Piece
  bare : List ℕ → Piece

-- what is written, and whether its last byte is another than a newline
pub record Written : Type 0 where
  pub text : List ℕ
  pub mid_line : Bool

-- whether the last byte is another than a newline, where there is one
abbrev pub is_mid_after : Bool → List ℕ → Bool
is_mid_after mid [] = mid
is_mid_after mid (b ∷ bytes) = is_mid_after (not (b == 10)) bytes

-- a line begins on a line of its own, and ends with a newline
abbrev pub line_text : Bool → List ℕ → List ℕ
line_text true text = 10 ∷ (text ++ (10 ∷ []))
line_text false text = text ++ (10 ∷ [])

abbrev pub piece_written : ℕ → Bool → Piece → Written
piece_written watch mid (line level text) = if nat_le level watch then record { text = line_text mid text; mid_line = false } else record { text = []; mid_line = mid }
piece_written watch mid (bare text) = record { text = text; mid_line = is_mid_after mid text }

abbrev pub followed_by : Written → Written → Written
followed_by a b = record { text = a.text ++ b.text; mid_line = b.mid_line }

-- the pieces as they are written at a watch level, behind text that ended in the middle of a line or not
abbrev pub rendered : ℕ → Bool → List Piece → Written
rendered watch mid [] = record { text = []; mid_line = mid }
rendered watch mid (p ∷ pieces) = let w = piece_written watch mid p in followed_by w (rendered watch w.mid_line pieces)

-- ---- words of the lines

abbrev pub part_text : Part → List ℕ
part_text input_phase = codes "input"
part_text proposal_phase = codes "proposal"
part_text decision = codes "decision"
part_text application_phase = codes "application"
part_text output_phase = codes "output"

abbrev pub support_text : WishSupport → List ℕ
support_text by_instance = codes " i"
support_text by_operator = codes " o"
support_text by_learned = codes " r"

abbrev pub drop_text : DropCause → List ℕ
drop_text drop_cause.Overflow = codes "overflow"
drop_text drop_cause.ZeroDivisor = codes "zero divisor"
drop_text drop_cause.NotANumber = codes "not a number"
drop_text drop_cause.TooLong = codes "too long"
drop_text drop_cause.NotAnIdentifier = codes "not an identifier"
drop_text drop_cause.NotAnOperator = codes "not an operator"
drop_text drop_cause.OutOfRange = codes "out of range"

abbrev pub cause_text : Texts → Cause → List ℕ
cause_text words cause.NoGrounds = codes "no grounds"
cause_text words cause.Off = codes "off"
cause_text words (cause.LocalNegation n) = codes "local negation in " ++ decimal n
cause_text words (cause.Quiescence n) = codes "quiescence in " ++ decimal n
cause_text words (cause.Ungrounded s) = codes "ungrounded " ++ symbol_text words s
cause_text words (cause.TooLarge n) = codes "too large " ++ decimal n
cause_text words (cause.TooMany n) = codes "too many " ++ decimal n

abbrev pub impasse_text : Impasse → List ℕ
impasse_text impasse.Top = codes "none"
impasse_text impasse.Tie = codes "tie"
impasse_text impasse.Conflict = codes "conflict"
impasse_text impasse.Constraint = codes "constraint-failure"
impasse_text impasse.StateNoChange = codes "state no-change"
impasse_text impasse.OperatorNoChange = codes "operator no-change"

-- two spaces for each goal below the top
abbrev pub indent : ℕ → List ℕ
indent zero = []
indent (suc n) = 32 ∷ (32 ∷ indent n)

abbrev pub name_text : Texts → Option Sym → List ℕ
name_text words None = []
name_text words (Some s) = codes " (" ++ (symbol_text words s ++ codes ")")

-- ---- lines

-- `N NAME from M: TAGS`
abbrev pub learned_text : Texts → ℕ → Sym → ℕ → List ℕ → List ℕ
learned_text words number name explained tags =
    decimal number ++ (32 ∷ (symbol_text words name ++ (codes " from " ++ (decimal explained ++ (codes ":" ++ tags_text tags)))))

abbrev pub learning_text : Texts → LearningEvent → List ℕ
learning_text words (learns number name explained tags) = codes "learn " ++ learned_text words number name explained tags
learning_text words (justifies number name explained tags why) =
    codes "justify " ++ (learned_text words number name explained tags ++ (codes " (" ++ (cause_text words why ++ codes ")")))
learning_text words (has_no_grounds explained) = codes "justify from " ++ (decimal explained ++ codes " (no grounds)")
learning_text words (reuses name explained) = codes "reuse " ++ (symbol_text words name ++ (codes " from " ++ decimal explained))
learning_text words (has_lost explained tag) = codes "stale " ++ (decimal explained ++ (codes " lost " ++ decimal tag))
learning_text words (is_blocked explained n tag) = codes "stale " ++ (decimal explained ++ (codes " blocked " ++ (decimal n ++ (codes " by " ++ decimal tag))))

-- `N: ` and the indentation
abbrev pub cycle_text : ℕ → ℕ → List ℕ
cycle_text cycle_number below = decimal cycle_number ++ (codes ": " ++ indent below)

-- each event with its level
abbrev pub piece_of : Texts → Event → Piece
piece_of words (begins part) = line 2 (codes "-- " ++ part_text part)
piece_of words (removes goal) = line 2 (codes "remove " ++ symbol_text words goal)
piece_of words (retracts number name i) = line 3 (codes "retract " ++ (decimal number ++ (32 ∷ instance_text words name i.tags)))
piece_of words (fires number name i) = line 3 (firing_text words number name i)
piece_of words (makes_wish w wish_support) = line 5 (codes "  " ++ (wish_text words w ++ support_text wish_support))
piece_of words (drops d) = line 5 (codes "  drop " ++ (decimal d.action ++ (32 ∷ drop_text d.cause)))
piece_of words (writes_text text) = bare text
piece_of words (learning learning_event) = line 3 (learning_text words learning_event)
piece_of words (goes e) = line 4 (codes "- " ++ tagged_text words e)
piece_of words (comes e) = line 4 (codes "+ " ++ tagged_text words e)
piece_of words (selects cycle_number below operator name) = line 1 (cycle_text cycle_number below ++ (codes "O: " ++ (symbol_text words operator ++ name_text words name)))
piece_of words (substates cycle_number below goal why) =
    line 1 (cycle_text cycle_number below ++ (codes "==>S: " ++ (symbol_text words goal ++ (codes " (" ++ (impasse_text why ++ codes ")")))))
piece_of words reaches_goal_limit = line 1 (codes "goal depth 100")
piece_of words (is_cut part) = line 1 (codes "cut " ++ part_text part)
piece_of words (shows_no_longer t) = line 1 (codes "out - " ++ triple_text words t)
piece_of words (shows t) = line 1 (codes "out + " ++ triple_text words t)
piece_of words halts = line 1 (codes "halt")

unfoldable pub pieces_of : Texts → List Event → List Piece
pieces_of words events = map (piece_of words) events
