-- What is the goals' own.
use Rattle.std.specs.Prelude.{◌≡◌, false, List, [], ◌∷◌}
use Rattle.std.specs.Bool.{⊤}
use Rattle.soar_sym.specs.declared.symbol.Sym.{Sym}
use Rattle.soar_sym.specs.declared.symbol.Triple.{Triple}
use Rattle.defs_soar.specs.declared.goal.Goal.{Goal}
use Rattle.defs_soar.specs.Goals.{goal_ids}
use Rattle.defs_soar.specs.Values.{has_triple_among}
use Rattle.settling_laws.specs.Changes.{own_triples}

-- the goals' own elements and selected operators, and the goals' identifiers from the top
pub record OwnOf : Type 0 where
  pub triples : List Triple
  pub ids : List Sym

-- they are those of these goals
pub record TellsOwn (goals : List Goal) (own : OwnOf) : Type 0 where
  pub triples : own.triples ≡ own_triples goals
  pub ids : own.ids ≡ goal_ids goals

-- the set has the triples of the list, and no others
abbrev pub IsSetOf : List Triple → List Triple → Type 0
IsSetOf triples set = (t : Triple) → has_triple_among set t ≡ has_triple_among triples t

-- none of the triples is marked
abbrev pub ArePlain : List Triple → Type 0
ArePlain [] = ⊤
ArePlain (t ∷ triples) = (t.accept ≡ false) × ArePlain triples
