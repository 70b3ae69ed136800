-- Tags that may be lost.
use Rattle.std.specs.Prelude.{◌≡◌, ℕ, true, List}
use Rattle.dependency_tables.specs.Tables.{is_among, is_in_tables}

-- the tags of the tables are among these
abbrev pub AreOf : List (List ℕ) → List ℕ → Type 0
AreOf tables tags = (tag : ℕ) → is_in_tables tables tag ≡ true → is_among tags tag ≡ true
