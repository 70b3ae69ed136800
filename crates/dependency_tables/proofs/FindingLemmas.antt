-- What is found in tables.
use Rattle.std.proofs.Common.{◌≡◌, ◌∙◌, refl, sym, ap, ap₂, ℕ, zero, suc, ◌+◌, ◌≤◌, ◌<◌, ◌==◌, ◌||◌, Bool, true, false, arith, List, [], ◌∷◌, ◌++◌, length, Option, Some, None}
use Rattle.std.specs.Prelude.{take}
use Rattle.std.specs.List.{list_any}
use Rattle.std.specs.Ordering.{is_eq, nat_cmp}
use Rattle.std.proofs.lemmas.List.Folds.{list_any-append}
use Rattle.dependency_tables.specs.Tables.{all_tags, each_with_tags, first_with, is_among, is_in_tables}
use Rattle.dependency_tables.proofs.TableLemmas.{any_with}

-- ---- tags among others

found_flip : (n k : ℕ) → is_eq (nat_cmp n k) ≡ (k == n)
found_flip n k = grind arith

-- what a set finds
pub found : (n : ℕ) (ms : List ℕ) → list_any (λ k. is_eq (nat_cmp n k)) ms ≡ is_among ms n
found n [] = refl
found n (m ∷ ms) = ap₂ (λ a b. a || b) (found_flip n m) (found n ms)

turned : (a b c d : Bool) → ((a || b) || (c || d)) ≡ ((a || c) || (b || d))
turned true b c d = refl
turned false true true d = refl
turned false true false d = refl
turned false false c d = refl

same_turned : (m n : ℕ) → (m == n) ≡ (n == m)
same_turned m n = grind arith

no_tags : (table : List ℕ) → list_any (is_among []) table ≡ false
no_tags [] = refl
no_tags (x ∷ table) = no_tags table

one_among : (x : ℕ) (tags table : List ℕ) → list_any (is_among (x ∷ tags)) table ≡ (is_among table x || list_any (is_among tags) table)
one_among x tags [] = refl
one_among x tags (y ∷ table) =
    ap₂ (λ a b. (a || is_among tags y) || b) (same_turned x y) (one_among x tags table)
    ∙ turned (y == x) (is_among tags y) (is_among table x) (list_any (is_among tags) table)

-- one of these is among those exactly if one of those is among these
pub any_turned : (table tags : List ℕ) → list_any (is_among table) tags ≡ list_any (is_among tags) table
any_turned table [] = sym (no_tags table)
any_turned table (x ∷ tags) = ap (λ b. is_among table x || b) (any_turned table tags) ∙ sym (one_among x tags table)

-- ---- the first table

none_with : (depth : ℕ) (tables : List (List ℕ)) → first_with (is_among []) depth tables ≡ None
none_with depth [] = refl
none_with depth (table ∷ tables) = ap (λ (b : Bool). elim b as (λ _. Option ℕ) [ true ↦ Some depth | false ↦ first_with (is_among []) (suc depth) tables ]) (no_tags table) ∙ none_with (suc depth) tables

-- without tags none is found
pub none_found : (tags : List ℕ) (tables : List (List ℕ)) → length tags ≡ 0 → first_with (is_among tags) 2 tables ≡ None
none_found [] tables h = none_with 2 tables
none_found (tag ∷ tags) tables h = absurd (omega arith)

-- the depth is that of one of the tables
pub found_within : (p : ℕ → Bool) (depth : ℕ) (tables : List (List ℕ)) (d : ℕ) → first_with p depth tables ≡ Some d → (depth ≤ d) × (d < depth + length tables)
found_within p depth [] d h = absurd (cc)
found_within p depth (table ∷ tables) d h = go (list_any p table) h (found_within p (suc depth) tables d)
  where
    go : (b : Bool) → ◌≡◌ {A = Option ℕ} (elim b [ true ↦ Some depth | false ↦ first_with p (suc depth) tables ]) (Some d)
        → (first_with p (suc depth) tables ≡ Some d → (suc depth ≤ d) × (d < suc depth + length tables)) → (depth ≤ d) × (d < depth + suc (length tables))
    go true q later = let e : depth ≡ d = cc in (omega arith, omega arith)
    go false q later = let k = later q in let a = k.0 in let b = k.1 in (omega arith, omega arith)

-- ---- what is true of each tag

itself : (n : ℕ) → (n == n) ≡ true
itself n = grind arith

first_true : (a b : Bool) → a ≡ true → (a || b) ≡ true
first_true a b h = ap (λ x. x || b) h

then_true : (a b : Bool) → b ≡ true → (a || b) ≡ true
then_true true b h = refl
then_true false b h = h

same_any : (p q : ℕ → Bool) (table : List ℕ) → ((tag : ℕ) → is_among table tag ≡ true → p tag ≡ q tag) → list_any p table ≡ list_any q table
same_any p q [] h = refl
same_any p q (x ∷ table) h =
    ap₂ (λ a b. a || b) (h x (first_true (x == x) (is_among table x) (itself x))) (same_any p q table (λ tag i. h tag (then_true (x == tag) (is_among table tag) i)))

-- what is the same of each tag finds the same
pub same_first : (p q : ℕ → Bool) (depth : ℕ) (tables : List (List ℕ)) → ((tag : ℕ) → is_in_tables tables tag ≡ true → p tag ≡ q tag) → first_with p depth tables ≡ first_with q depth tables
same_first p q depth [] h = refl
same_first p q depth (table ∷ tables) h =
    ap₂ (λ (b : Bool) (later : Option ℕ). elim b as (λ _. Option ℕ) [ true ↦ Some depth | false ↦ later ])
    (same_any p q table (λ tag i. h tag (first_true (is_among table tag) (is_in_tables tables tag) i)))
    (same_first p q (suc depth) tables (λ tag i. h tag (then_true (is_among table tag) (is_in_tables tables tag) i)))

both_none : (a b : Bool) → (a || b) ≡ false → (a ≡ false) × (b ≡ false)
both_none true b h = absurd (cc)
both_none false b h = (refl, h)

same_number : (m n : ℕ) → (m == n) ≡ true → m ≡ n
same_number m n h = grind arith

none_any : (p : ℕ → Bool) (table : List ℕ) → list_any p table ≡ false → (tag : ℕ) → is_among table tag ≡ true → p tag ≡ false
none_any p [] h tag i = absurd (cc)
none_any p (x ∷ table) h tag i = let k = both_none (p x) (list_any p table) h in by (x == tag) refl i k.0 (none_any p table k.1 tag)
  where
    by : (b : Bool) → (x == tag) ≡ b → (b || is_among table tag) ≡ true → p x ≡ false → (is_among table tag ≡ true → p tag ≡ false) → p tag ≡ false
    by true e k here later = ap p (sym (same_number x tag e)) ∙ here
    by false e k here later = later k

-- where none is found, no tag is such
pub none_such : (p : ℕ → Bool) (depth : ℕ) (tables : List (List ℕ)) → first_with p depth tables ≡ None → (tag : ℕ) → is_in_tables tables tag ≡ true → p tag ≡ false
none_such p depth [] h tag i = absurd (cc)
none_such p depth (table ∷ tables) h tag i = by (list_any p table) refl h (is_among table tag) refl i (none_such p (suc depth) tables)
  where
    by : (b : Bool) → list_any p table ≡ b → ◌≡◌ {A = Option ℕ} (elim b [ true ↦ Some depth | false ↦ first_with p (suc depth) tables ]) None
        → (c : Bool) → is_among table tag ≡ c → (c || is_in_tables tables tag) ≡ true
        → (first_with p (suc depth) tables ≡ None → (tag : ℕ) → is_in_tables tables tag ≡ true → p tag ≡ false) → p tag ≡ false
    by true e none c f k later = absurd (cc)
    by false e none true f k later = none_any p table e tag f
    by false e none false f k later = later none tag k

-- ---- tables that change

-- what the first of them have, all have
pub in_first : (n : ℕ) (tables : List (List ℕ)) (tag : ℕ) → is_in_tables (take n tables) tag ≡ true → is_in_tables tables tag ≡ true
in_first zero tables tag i = absurd (cc)
in_first (suc n) [] tag i = i
in_first (suc n) (table ∷ tables) tag i = by (is_among table tag) i (in_first n tables tag)
  where
    by : (b : Bool) → (b || is_in_tables (take n tables) tag) ≡ true → (is_in_tables (take n tables) tag ≡ true → is_in_tables tables tag ≡ true) → (b || is_in_tables tables tag) ≡ true
    by true k later = refl
    by false k later = later k

-- a table without tags has none
pub in_pushed : (tables : List (List ℕ)) (tag : ℕ) → is_in_tables (tables ++ [] ∷ []) tag ≡ is_in_tables tables tag
in_pushed [] tag = refl
in_pushed (table ∷ tables) tag = ap (λ b. is_among table tag || b) (in_pushed tables tag)

-- what tables have with more tags, they had, or it is among these
pub in_joined : (tables more : List (List ℕ)) (tag : ℕ) → is_in_tables (each_with_tags tables more) tag ≡ true → (is_in_tables tables tag || is_among (all_tags more) tag) ≡ true
in_joined [] more tag i = absurd (cc)
in_joined (table ∷ tables) [] tag i = first_true (is_in_tables (table ∷ tables) tag) false i
in_joined (table ∷ tables) (tags ∷ more) tag i =
    ap (λ b. (is_among table tag || is_in_tables tables tag) || b) (list_any-append (λ t. t == tag) tags (all_tags more))
    ∙ by (is_among tags tag) (is_among table tag) (is_in_tables (each_with_tags tables more) tag) (is_in_tables tables tag) (is_among (all_tags more) tag)
    (ap (λ b. b || is_in_tables (each_with_tags tables more) tag) (sym (any_with (λ t. t == tag) tags table)) ∙ i) (in_joined tables more tag)
  where
    by : (a b r s m : Bool) → ((a || b) || r) ≡ true → (r ≡ true → (s || m) ≡ true) → ((b || s) || (a || m)) ≡ true
    by true true r s m h k = refl
    by true false r true m h k = refl
    by true false r false m h k = refl
    by false true r s m h k = refl
    by false false r true m h k = refl
    by false false r false m h k = k h
