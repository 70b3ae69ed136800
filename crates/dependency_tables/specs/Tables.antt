-- Tables of tags: each in order, and each tag once.
use Rattle.std.specs.Prelude.{ℕ, suc, Bool, true, false, ◌==◌, List, [], ◌∷◌, ◌++◌, map, Option, Some, None}
use Rattle.std.specs.BTreeSet.{insert_key}
use Rattle.std.specs.List.{list_any}
use Rattle.std.specs.Ordering.{nat_cmp}

-- a table with more tags, each at its place, once
abbrev pub with_tags : List ℕ → List ℕ → List ℕ
with_tags [] table = table
with_tags (tag ∷ tags) table = with_tags tags (insert_key nat_cmp table tag)

-- the tags of a list, in order, each once
abbrev pub table_of : List ℕ → List ℕ
table_of tags = with_tags tags []

abbrev pub tables_of : List (List ℕ) → List (List ℕ)
tables_of lists = map table_of lists

-- each table with the tags at its place
abbrev pub each_with_tags : List (List ℕ) → List (List ℕ) → List (List ℕ)
each_with_tags [] more = []
each_with_tags (table ∷ tables) [] = table ∷ tables
each_with_tags (table ∷ tables) (tags ∷ more) = with_tags tags table ∷ each_with_tags tables more

-- all tags of some lists
abbrev pub all_tags : List (List ℕ) → List ℕ
all_tags [] = []
all_tags (tags ∷ lists) = tags ++ all_tags lists

-- ---- what is found

abbrev pub is_among : List ℕ → ℕ → Bool
is_among tags tag = list_any (λ t. t == tag) tags

-- a table has the tag
abbrev pub is_in_tables : List (List ℕ) → ℕ → Bool
is_in_tables tables tag = list_any (λ table. is_among table tag) tables

-- the least depth, from this one on, of a table that has such a tag
abbrev pub first_with : (ℕ → Bool) → ℕ → List (List ℕ) → Option ℕ
first_with p depth [] = None
first_with p depth (table ∷ tables) = elim (list_any p table) [ true ↦ Some depth | false ↦ first_with p (suc depth) tables ]
