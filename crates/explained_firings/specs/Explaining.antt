-- The explanation of a firing, over what was before its wave.
use Rattle.std.specs.Prelude.{◌≡◌, Bool, false, true, ◌&&◌, nat_lt, List, [], ◌∷◌, ◌++◌, map, Option, Some, None}
use Rattle.std.specs.List.{list_any}
use Rattle.soar_sym.specs.Words.{Texts}
use Rattle.chunk_back.specs.Makers.{MakersAreEarlier}
use Rattle.chunk_results.specs.Reached.{AreRowsKnown, AreWishesKnown}
use Rattle.defs_soar.specs.Explanation.{chain_of, firing_of}
use Rattle.defs_soar.specs.History.{ChainOf, FiringOf, chain_seen}
use Rattle.defs_soar.specs.Results.{goes_over, is_result, results_of}
use Rattle.firing_records.specs.Recorded.{Standing, reach_of}
use Rattle.explained_firings.specs.declared.explained.Explained.{Explained}

-- the firings of the record, and one more
abbrev pub with_firing : List FiringOf → FiringOf → List FiringOf
with_firing past f = past ++ f ∷ []

-- a firing below the top goal that made something for a higher one
abbrev pub teaches : Standing → FiringOf → Bool
teaches s f = nat_lt 1 f.depth && list_any (is_result (reach_of s) f.depth) f.made

-- the chain behind a firing and the makers of what hangs on its results
abbrev pub chain_in : Texts → Standing → List FiringOf → FiringOf → ChainOf
chain_in words s past f =
    let results = results_of words (reach_of s) s.rows f in
    chain_of (with_firing past f) (f.number ∷ map (λ row. row.firing) results) (map (λ row. row.wish) results)

-- its words are in the table, as those of preference memory are; it is not of the past; and each firing used what earlier ones made
pub record CanBeExplained (words : Texts) (s : Standing) (past : List FiringOf) (f : FiringOf) : Type 0 where
  pub rows_known : AreRowsKnown words s.rows
  pub made_known : AreWishesKnown words f.made
  pub new : firing_of past f.number ≡ []
  pub earlier : MakersAreEarlier (with_firing past f)

pub record IsExplanation (words : Texts) (s : Standing) (past : List FiringOf) (f : FiringOf) (e : Explained) : Type 0 where
  pub number_is : e.number ≡ f.number
  pub depth_is : e.depth ≡ f.depth
  pub flags_are : e.goes_over ≡ map (goes_over (reach_of s) s.rows f) f.made
  pub chain_is : chain_seen e.chain ≡ chain_in words s past f

-- there is one exactly where the firing made something for a higher goal
abbrev pub TellsExplanation : Texts → Standing → List FiringOf → FiringOf → Option Explained → Type 0
TellsExplanation words s past f None = teaches s f ≡ false
TellsExplanation words s past f (Some e) = (teaches s f ≡ true) × IsExplanation words s past f e
