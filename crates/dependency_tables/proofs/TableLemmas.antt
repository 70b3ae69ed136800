-- What tables have of the lists that they stand for.
use Rattle.std.proofs.Common.{◌≡◌, ◌∙◌, refl, sym, ap, ℕ, suc, ◌||◌, Bool, true, false, arith, List, [], ◌∷◌, ◌++◌, length}
use Rattle.std.specs.BTreeSet.{insert_key}
use Rattle.std.specs.List.{list_any}
use Rattle.std.specs.Ordering.{match_ordering, nat_cmp}
use Rattle.std.specs.declared.cmp.Ordering.{Ordering}
use Rattle.std.specs.declared.cmp.Ordering.TheVariants.{Less, Equal, Greater}
use Rattle.dependency_tables.specs.Tables.{each_with_tags, table_of, with_tags}

-- ---- tags behind others

pub with_both : (xs ys table : List ℕ) → with_tags (xs ++ ys) table ≡ with_tags ys (with_tags xs table)
with_both [] ys table = refl
with_both (x ∷ xs) ys table = with_both xs ys (insert_key nat_cmp table x)

pub length_each : (tables more : List (List ℕ)) → length (each_with_tags tables more) ≡ length tables
length_each [] more = refl
length_each (table ∷ tables) [] = refl
length_each (table ∷ tables) (tags ∷ more) = ap suc (length_each tables more)

-- ---- what is found in a table

module _ (p : ℕ → Bool) where
  same_numbers : (m n : ℕ) → nat_cmp m n ≡ Equal → m ≡ n
  same_numbers m n e = grind arith

  twice : (a b : Bool) → (a || b) ≡ (a || (a || b))
  twice true b = refl
  twice false b = refl

  turned : (a b c : Bool) → (a || (b || c)) ≡ (b || (a || c))
  turned true true c = refl
  turned true false c = refl
  turned false true c = refl
  turned false false c = refl

  any_inserted : (n : ℕ) (table : List ℕ) → list_any p (insert_key nat_cmp table n) ≡ (p n || list_any p table)
  any_inserted n [] = refl
  any_inserted n (x ∷ xs) = by (nat_cmp n x) refl (any_inserted n xs)
    where
      by : (o : Ordering) → nat_cmp n x ≡ o → list_any p (insert_key nat_cmp xs n) ≡ (p n || list_any p xs)
          → list_any p (match_ordering o (n ∷ x ∷ xs) (x ∷ xs) (x ∷ insert_key nat_cmp xs n)) ≡ (p n || (p x || list_any p xs))
      by Less e later = refl
      by Equal e later = twice (p x) (list_any p xs) ∙ ap (λ k. p k || (p x || list_any p xs)) (sym (same_numbers n x e))
      by Greater e later = ap (λ b. p x || b) later ∙ turned (p x) (p n) (list_any p xs)

  pub any_with : (tags table : List ℕ) → list_any p (with_tags tags table) ≡ (list_any p tags || list_any p table)
  any_with [] table = refl
  any_with (tag ∷ tags) table =
      any_with tags (insert_key nat_cmp table tag) ∙ ap (λ b. list_any p tags || b) (any_inserted tag table) ∙ grouped (p tag) (list_any p tags) (list_any p table)
    where
      grouped : (a b c : Bool) → (b || (a || c)) ≡ ((a || b) || c)
      grouped true true c = refl
      grouped true false c = refl
      grouped false true c = refl
      grouped false false c = refl

  -- a table has what its list has
  pub any_of_table : (tags : List ℕ) → list_any p (table_of tags) ≡ list_any p tags
  any_of_table tags = any_with tags [] ∙ with_none (list_any p tags)
    where
      with_none : (b : Bool) → (b || false) ≡ b
      with_none true = refl
      with_none false = refl
