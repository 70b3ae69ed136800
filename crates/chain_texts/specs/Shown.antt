-- The symbols that an explanation shows.
use Rattle.std.specs.Prelude.{List, ◌∷◌, ◌++◌, flat_map}
use Rattle.std.specs.List.{All}
use Rattle.soar_sym.specs.Words.{IsKnown, Texts}
use Rattle.soar_sym.specs.declared.symbol.Sym.{Sym}
use Rattle.soar_wm.specs.WorkingMemory.{triple_of}
use Rattle.defs_soar.specs.declared.chain.Chain.{Chain}
use Rattle.defs_soar.specs.Dependencies.{symbols_of_wish}
use Rattle.defs_soar.specs.History.{StepOf, architecture_step, item_step, select_step, fire_step, ChainOf, step_seen}
use Rattle.defs_soar.specs.Ungrounded.{symbols_of_element}
use Rattle.trace_laws.specs.Events.{IsTripleKnown, IsWishKnown}

abbrev pub symbols_of_step : StepOf → List Sym
symbols_of_step (architecture_step e) = symbols_of_element e
symbols_of_step (item_step e tag) = symbols_of_element e
symbols_of_step (select_step e tag) = symbols_of_element e
symbols_of_step (fire_step f) = f.name ∷ flat_map symbols_of_wish f.made

-- those of the grounds, the steps and the results
abbrev pub shown_symbols : ChainOf → List Sym
shown_symbols c = flat_map symbols_of_element c.grounds ++ (flat_map symbols_of_step c.steps ++ flat_map symbols_of_wish c.results)

-- ---- as the code goes through them

abbrev pub IsStepKnown : Texts → StepOf → Type 0
IsStepKnown words (architecture_step e) = IsTripleKnown words (triple_of e)
IsStepKnown words (item_step e tag) = IsTripleKnown words (triple_of e)
IsStepKnown words (select_step e tag) = IsTripleKnown words (triple_of e)
IsStepKnown words (fire_step f) = IsKnown words f.name × All (IsWishKnown words) f.made

-- the symbols of each line
pub record AreLinesKnown (words : Texts) (c : Chain) : Type 0 where
  pub grounds : All (λ e. IsTripleKnown words (triple_of e)) c.grounds
  pub steps : All (λ s. IsStepKnown words (step_seen s)) c.steps
  pub results : All (IsWishKnown words) c.results
