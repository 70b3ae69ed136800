-- What a step does that can be told, apart from how it is written and at which level.
use Rattle.std.specs.Prelude.{ℕ, List, Option}
use Rattle.soar_sym.specs.declared.symbol.Sym.{Sym}
use Rattle.soar_sym.specs.declared.symbol.Triple.{Triple}
use Rattle.defs_match.specs.Element.{Element}
use Rattle.defs_match.specs.declared.instance.Instance.{Instance}
use Rattle.defs_soar.specs.declared.preference.Wish.{Wish}
use Rattle.defs_soar.specs.declared.firing.Dropped.{Dropped}
use Rattle.defs_soar.specs.declared.goal.Impasse.{Impasse}
use Rattle.defs_soar.specs.declared.learning.Cause.{Cause}

-- the phases of a cycle
pub data Part : Type 0 where
  input_phase proposal_phase decision application_phase output_phase : Part

-- how a preference is held: with instance support, with operator support, or by the learned firing to which it went over
pub data WishSupport : Type 0 where
  by_instance by_operator by_learned : WishSupport

-- what learning from a firing came to
pub data LearningEvent : Type 0 where
  learns : ℕ → Sym → ℕ → List ℕ → LearningEvent  -- the learned firing, the chunk's name, the firing explained, the tags
  justifies : ℕ → Sym → ℕ → List ℕ → Cause → LearningEvent
  has_no_grounds : ℕ → LearningEvent
  reuses : Sym → ℕ → LearningEvent  -- the name of the rule that is there
  has_lost : ℕ → ℕ → LearningEvent  -- the tag that is gone
  is_blocked : ℕ → ℕ → ℕ → LearningEvent  -- the place of the negation, and the tag that blocks it

pub data Event : Type 0 where
  begins : Part → Event
  -- a goal that went
  removes : Sym → Event
  -- a firing, by its number, the name of its rule and its instance
  retracts fires : ℕ → Sym → Instance → Event
  -- under a firing: a preference, a dropped action, a written text
  makes_wish : Wish → WishSupport → Event
  drops : Dropped → Event
  writes_text : List ℕ → Event
  learning : LearningEvent → Event
  -- an element that went, and one that came
  goes comes : Element → Event
  -- in the cycle of a number, so many goals below the top: an operator, with its name where it has one; a substate
  selects : ℕ → ℕ → Sym → Option Sym → Event
  substates : ℕ → ℕ → Sym → Impasse → Event
  reaches_goal_limit : Event
  is_cut : Part → Event
  -- what the output link shows no longer, and what is new there
  shows_no_longer shows : Triple → Event
  halts : Event
