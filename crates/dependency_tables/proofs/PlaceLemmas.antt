-- Tables of which some got more tags.
use Rattle.std.proofs.Common.{◌≡◌, ◌∙◌, refl, sym, ap, ℕ, zero, suc, ◌+◌, ◌≤◌, ◌<◌, add-one, arith, List, [], ◌∷◌, length, drop, drop-cons, get_or, map, Result, Ok, Err, OnOk}
use Rattle.std.specs.BTreeSet.{BTreeSet, keys}
use Rattle.std.specs.Prelude.{slice_index_or, slice_set}
use Rattle.dependency_tables.specs.Places.{each_from, with_tags_at}
use Rattle.dependency_tables.specs.Tables.{with_tags}

-- ---- at one place

pub set_more : (place : ℕ) (more : List ℕ) (tables : List (BTreeSet ℕ)) (table new : BTreeSet ℕ) → table ≡ slice_index_or tables place table → new.keys ≡ with_tags more table.keys
    → map keys (slice_set tables place new) ≡ with_tags_at place more (map keys tables)
set_more place more [] table new at is = refl
set_more zero more (x ∷ tables) table new at is = ap (λ l. l ∷ map keys tables) (is ∙ ap (λ (t : BTreeSet ℕ). with_tags more t.keys) at)
set_more (suc place) more (x ∷ tables) table new at is = ap (λ l. x.keys ∷ l) (set_more place more tables table new at is)

pub past_all : (place : ℕ) (more : List ℕ) (tables : List (BTreeSet ℕ)) → length tables ≤ place → with_tags_at place more (map keys tables) ≡ map keys tables
past_all place more [] past = refl
past_all zero more (x ∷ tables) past = absurd (omega arith)
past_all (suc place) more (x ∷ tables) past = ap (λ l. x.keys ∷ l) (past_all place more tables (omega arith))

-- ---- from a place on

one_more : (place : ℕ) (tables : List (List ℕ)) (here : List ℕ) (more : List (List ℕ)) → each_from place tables (here ∷ more) ≡ each_from (suc place) (with_tags_at place here tables) more
one_more zero [] here more = refl
one_more zero (table ∷ tables) here more = refl
one_more (suc place) [] here more = refl
one_more (suc place) (table ∷ tables) here more = ap (λ l. table ∷ l) (one_more place tables here more)

pub none_more : (place : ℕ) (tables : List (List ℕ)) → each_from place tables [] ≡ tables
none_more zero [] = refl
none_more zero (table ∷ tables) = refl
none_more (suc place) [] = refl
none_more (suc place) (table ∷ tables) = ap (λ l. table ∷ l) (none_more place tables)

-- the item at a place, and those behind it
drop_item : {A : Type 0} (xs : List A) (i : ℕ) (x : A) → i < length xs → x ≡ get_or xs i x → drop i xs ≡ x ∷ drop (i + 1) xs
drop_item xs i x within at = drop-cons xs i x within ∙ rw (← at, add-one i) refl

-- the tags of one place, and then those behind it
pub one_table : (tags : List (List ℕ)) (place : ℕ) (item more : List ℕ) (tables : List (List ℕ)) → place < length tags → item ≡ get_or tags place item → more ≡ item
    → each_from (place + 1) (with_tags_at place more tables) (drop (place + 1) tags) ≡ each_from place tables (drop place tags)
one_table tags place item more tables within at is =
    ap (λ n. each_from n (with_tags_at place more tables) (drop (place + 1) tags)) (add-one place)
    ∙ sym (one_more place tables more (drop (place + 1) tags))
    ∙ ap (λ x. each_from place tables (x ∷ drop (place + 1) tags)) is
    ∙ ap (each_from place tables) (sym (drop_item tags place item within at))

-- ---- answers

pub where_ok : {T E : Type 0} {P Q : Type 0} (r : Result T E) → (P → Q) → OnOk r P → OnOk r Q
where_ok (Ok x) f p = f p
where_ok (Err e) f p = tt
