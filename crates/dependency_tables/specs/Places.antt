-- Tables by their places: how the code goes, cited by no public clause.
use Rattle.std.specs.Prelude.{ℕ, suc, zero, List, [], ◌∷◌}
use Rattle.dependency_tables.specs.Tables.{each_with_tags, with_tags}

-- the table at a place with more tags
abbrev pub with_tags_at : ℕ → List ℕ → List (List ℕ) → List (List ℕ)
with_tags_at place more [] = []
with_tags_at zero more (table ∷ tables) = with_tags more table ∷ tables
with_tags_at (suc place) more (table ∷ tables) = table ∷ with_tags_at place more tables

-- each table from a place on with the tags at its place
abbrev pub each_from : ℕ → List (List ℕ) → List (List ℕ) → List (List ℕ)
each_from zero tables more = each_with_tags tables more
each_from (suc place) [] more = []
each_from (suc place) (table ∷ tables) more = table ∷ each_from place tables more
