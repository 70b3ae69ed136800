-- The state of an agent, grouped by meaning.
use Rattle.std.specs.Prelude.{ℕ, Bool, List}
use Rattle.soar_sym.specs.Words.{Texts}
use Rattle.soar_sym.specs.declared.symbol.Sym.{Sym}
use Rattle.soar_sym.specs.declared.symbol.Triple.{Triple}
use Rattle.defs_match.specs.Element.{Element}
use Rattle.defs_match.specs.Rules.{RuleOf}
use Rattle.defs_match.specs.declared.instance.Instance.{Instance}
use Rattle.defs_soar.specs.declared.choice.Mode.{Mode}
use Rattle.defs_soar.specs.declared.preference.Preference.{Preference}
use Rattle.defs_soar.specs.declared.goal.Goal.{Goal}
use Rattle.defs_soar.specs.History.{RecordedFiring, ChainOf}

-- a firing that was not retracted yet, with the depth of its match goal
pub record LiveFiring : Type 0 where
  pub number : ℕ
  pub name : Sym
  pub depth : ℕ
  pub instance : Instance

-- the words, the last number of each letter, and the last tag
pub record Names : Type 0 where
  pub words : Texts
  pub letters : List ℕ
  pub last_tag : ℕ

-- working memory and what holds it up
pub record Holding : Type 0 where
  pub elements : List Element
  pub goals : List Goal
  pub rows : List Preference
  pub inputs : List Triple
  pub live : List LiveFiring

-- a change of the inputs that waits for the next input phase
pub record Queued : Type 0 where
  pub adds : Bool
  pub triple : Triple

pub record Queues : Type 0 where
  pub input : List Queued
  pub random : List ℕ

-- a learned rule, by its number, with its explanation
pub record Learnt : Type 0 where
  pub rule : ℕ
  pub chain : ChainOf

-- the rules by number, the last number given, the explanations, and the last numbers of learned names
pub record Program : Type 0 where
  pub rules : List RuleOf
  pub last_rule : ℕ
  pub chains : List Learnt
  pub chunks : ℕ
  pub justifications : ℕ

-- how many there were since the start, and how many chunks were learned in this cycle
pub record Counts : Type 0 where
  pub cycles : ℕ
  pub waves : ℕ
  pub firings : ℕ
  pub retractions : ℕ
  pub learned : ℕ

pub record Settings : Type 0 where
  pub learning : Bool
  pub local_negations : Bool
  pub mode : Mode
  pub max_elaborations : ℕ
  pub watch : ℕ

pub record Agent : Type 0 where
  pub names : Names
  pub holding : Holding
  pub queues : Queues
  pub program : Program
  pub counts : Counts
  pub settings : Settings
  pub history : List RecordedFiring
  pub output : List Triple  -- as of the last output phase
  pub halted : Bool
