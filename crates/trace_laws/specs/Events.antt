-- Events whose symbols are known, and what is told of them with a later table.
use Rattle.std.specs.Prelude.{◌≡◌, List, [], ◌∷◌, ◌++◌, Option, Some, None}
use Rattle.soar_sym.specs.Words.{IsKnown, Texts}
use Rattle.soar_sym.specs.declared.symbol.Sym.{Sym}
use Rattle.soar_sym.specs.declared.symbol.Triple.{Triple}
use Rattle.soar_wm.specs.WorkingMemory.{triple_of}
use Rattle.defs_soar.specs.declared.learning.Cause.{Cause}
use Rattle.defs_soar.specs.declared.learning.Cause.TheVariants as cause
use Rattle.defs_soar.specs.declared.preference.PrefKind.{PrefKind}
use Rattle.defs_soar.specs.declared.preference.PrefKind.TheVariants as kind
use Rattle.defs_soar.specs.declared.preference.Wish.{Wish}
use Rattle.defs_soar.specs.Events.{LearningEvent, learns, justifies, has_no_grounds, reuses, has_lost, is_blocked, Event, begins, removes, retracts, fires, makes_wish, drops, writes_text, learning, goes, comes, selects, substates, reaches_goal_limit, is_cut, shows_no_longer, shows, halts}
use Rattle.defs_soar.specs.Trace.{piece_of, pieces_of}
use Rattle.trace_laws.specs.Tables.{Later}

-- ---- parts of events

abbrev pub IsTripleKnown : Texts → Triple → Type 0
IsTripleKnown words t = IsKnown words t.id × IsKnown words t.attr × IsKnown words t.value

-- where there is one
abbrev pub IsOptionKnown : Texts → Option Sym → Type 0
IsOptionKnown words None = Unit {0}
IsOptionKnown words (Some s) = IsKnown words s

-- the referent, of a kind that shows it
abbrev pub IsSignKnown : Texts → PrefKind → Option Sym → Type 0
IsSignKnown words kind.Accept r = Unit {0}
IsSignKnown words kind.Require r = Unit {0}
IsSignKnown words kind.Reject r = Unit {0}
IsSignKnown words kind.Prohibit r = Unit {0}
IsSignKnown words kind.Better r = IsOptionKnown words r
IsSignKnown words kind.Worse r = IsOptionKnown words r
IsSignKnown words kind.Best r = Unit {0}
IsSignKnown words kind.Worst r = Unit {0}
IsSignKnown words kind.Indifferent r = Unit {0}
IsSignKnown words kind.Numeric r = IsOptionKnown words r
IsSignKnown words kind.IndifferentTo r = IsOptionKnown words r

pub record IsWishKnown (words : Texts) (w : Wish) : Type 0 where
  pub id : IsKnown words w.id
  pub attr : IsKnown words w.attr
  pub value : IsKnown words w.value
  pub sign : IsSignKnown words w.kind w.referent

abbrev pub IsCauseKnown : Texts → Cause → Type 0
IsCauseKnown words cause.NoGrounds = Unit {0}
IsCauseKnown words cause.Off = Unit {0}
IsCauseKnown words (cause.LocalNegation n) = Unit {0}
IsCauseKnown words (cause.Quiescence n) = Unit {0}
IsCauseKnown words (cause.Ungrounded s) = IsKnown words s
IsCauseKnown words (cause.TooLarge n) = Unit {0}
IsCauseKnown words (cause.TooMany n) = Unit {0}

abbrev pub IsLearningKnown : Texts → LearningEvent → Type 0
IsLearningKnown words (learns number name explained tags) = IsKnown words name
IsLearningKnown words (justifies number name explained tags why) = IsKnown words name × IsCauseKnown words why
IsLearningKnown words (has_no_grounds explained) = Unit {0}
IsLearningKnown words (reuses name explained) = IsKnown words name
IsLearningKnown words (has_lost explained tag) = Unit {0}
IsLearningKnown words (is_blocked explained n tag) = Unit {0}

-- ---- events

-- the symbols that the event's line shows are known
abbrev pub IsEventKnown : Texts → Event → Type 0
IsEventKnown words (begins part) = Unit {0}
IsEventKnown words (removes goal) = IsKnown words goal
IsEventKnown words (retracts number name i) = IsKnown words name
IsEventKnown words (fires number name i) = IsKnown words name
IsEventKnown words (makes_wish w wish_support) = IsWishKnown words w
IsEventKnown words (drops d) = Unit {0}
IsEventKnown words (writes_text text) = Unit {0}
IsEventKnown words (learning learning_event) = IsLearningKnown words learning_event
IsEventKnown words (goes e) = IsTripleKnown words (triple_of e)
IsEventKnown words (comes e) = IsTripleKnown words (triple_of e)
IsEventKnown words (selects cycle_number below operator name) = IsKnown words operator × IsOptionKnown words name
IsEventKnown words (substates cycle_number below goal why) = IsKnown words goal
IsEventKnown words reaches_goal_limit = Unit {0}
IsEventKnown words (is_cut part) = Unit {0}
IsEventKnown words (shows_no_longer t) = IsTripleKnown words t
IsEventKnown words (shows t) = IsTripleKnown words t
IsEventKnown words halts = Unit {0}

abbrev pub AreEventsKnown : Texts → List Event → Type 0
AreEventsKnown words [] = Unit {0}
AreEventsKnown words (e ∷ events) = IsEventKnown words e × AreEventsKnown words events

-- ---- laws

-- known events stay known
abbrev pub EventsStayKnown : Type 0
EventsStayKnown = (words later : Texts) (events : List Event) → AreEventsKnown words events → Later words later → AreEventsKnown later events

-- a known event keeps its line
abbrev pub EventsKeep : Type 0
EventsKeep = (words later : Texts) (e : Event) → IsEventKnown words e → Later words later → piece_of later e ≡ piece_of words e

-- known events keep their lines
abbrev pub PiecesKeep : Type 0
PiecesKeep = (words later : Texts) (events : List Event) → AreEventsKnown words events → Later words later → pieces_of later events ≡ pieces_of words events

-- events are told in turn
abbrev pub PiecesInTurn : Type 0
PiecesInTurn = (words : Texts) (first second : List Event) → pieces_of words (first ++ second) ≡ pieces_of words first ++ pieces_of words second
