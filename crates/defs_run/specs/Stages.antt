-- A stage of the program: how it cuts its input, which commands it reads, and how a cycle goes. The last stage is the whole.
use Rattle.std.specs.Prelude.{ℕ, Bool, List, Result}
use Rattle.soar_sym.specs.Words.{Texts}
use Rattle.soar_edge.specs.Cutting.{Cut}
use Rattle.defs_soar.specs.Agents.{Agent}
use Rattle.defs_soar.specs.Phases.{Course}
use Rattle.defs_run.specs.Orders.{Order, Refusal}

-- a command that was read: the table with its words, and the order, or the refusal that its words alone decide
pub record Reading : Type 0 where
  pub words : Texts
  pub order : Result Order Refusal

pub record Stage : Type 0 where
  pub cuts : Bool → List ℕ → List Cut  -- of a stream that ends, or of the front of one
  pub read : Texts → List ℕ → Reading
  pub run : ℕ → Agent → Course
