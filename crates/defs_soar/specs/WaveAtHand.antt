-- The wave at hand: its firings, how their preferences are held, and what it came to so far (Soar manual, chapter 2, elaboration cycle).
use Rattle.std.specs.Prelude.{ℕ, Bool, List, [], ◌∷◌, flat_map, Option, if◌then◌else◌}
use Rattle.soar_sym.specs.Words.{Texts}
use Rattle.soar_sym.specs.declared.symbol.Sym.{Sym}
use Rattle.defs_match.specs.Element.{Element}
use Rattle.defs_soar.specs.declared.firing.Dropped.{Dropped}
use Rattle.defs_soar.specs.declared.goal.Goal.{Goal}
use Rattle.defs_soar.specs.declared.preference.Preference.{Preference}
use Rattle.defs_soar.specs.declared.preference.Wish.{Wish}
use Rattle.defs_soar.specs.Agents.{Names, Program, Settings}
use Rattle.defs_soar.specs.Events.{WishSupport, by_instance, by_operator, LearningEvent, Event}
use Rattle.defs_soar.specs.Goals.{goal_ids}
use Rattle.defs_soar.specs.History.{Reach, FiringOf}
use Rattle.defs_soar.specs.Limits.{Total}
use Rattle.defs_soar.specs.Sorted.{has_symbol, with_symbol}
use Rattle.defs_soar.specs.Support.{has_operator_support}

-- a wish of a firing, and how it is held
pub record SupportedWish : Type 0 where
  pub wish : Wish
  pub wish_support : WishSupport

-- a firing of the wave at hand: its line, what it made, dropped and wrote
pub record Fresh : Type 0 where
  pub firing : FiringOf
  pub goal : Option Sym
  pub operator_kind : Bool
  pub heading : Event
  pub wishes : List SupportedWish
  pub dropped : List Dropped
  pub text : List ℕ

-- a firing, or what learning told without one
pub data Entry : Type 0 where
  fired : Fresh → Entry
  noted : LearningEvent → Entry

-- what was before the wave
pub record BeforeWave : Type 0 where
  pub reach : Reach
  pub rows : List Preference
  pub elements : List Element
  pub firings : List FiringOf
  pub settings : Settings

-- what the wave came to so far; `next` are the learned firings from which learning goes on
pub record Wave : Type 0 where
  pub names : Names
  pub program : Program
  pub last_firing : ℕ
  pub learned : ℕ
  pub entries : List Entry
  pub next : List ℕ
  pub halted : Bool
  pub totals : List Total

-- what a wave does after its firings: it learns, or it does not
abbrev pub WaveEnd : Type 0
WaveEnd = BeforeWave → Wave → Wave

abbrev pub fresh_of : Entry → List Fresh
fresh_of (fired x) = x ∷ []
fresh_of (noted learning_event) = []

abbrev pub all_fresh : List Entry → List Fresh
all_fresh entries = flat_map fresh_of entries

-- the goals among symbols, in their order
abbrev pub goals_among : Texts → List Goal → List Sym → List Sym
goals_among words goals [] = []
goals_among words goals (s ∷ symbols) = if has_symbol (goal_ids goals) s then with_symbol words (goals_among words goals symbols) s else goals_among words goals symbols

abbrev pub support_by_kind : List Goal → Bool → Wish → WishSupport
support_by_kind goals kind w = if has_operator_support goals kind w then by_operator else by_instance

abbrev pub supported_wish : List Goal → Bool → Wish → SupportedWish
supported_wish goals kind w = record { wish = w; wish_support = support_by_kind goals kind w }
