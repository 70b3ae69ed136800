-- The set of what has a variable, and the places in it.
use Rattle.std.proofs.Common.{◌≡◌, ℕ, suc, ◌+◌, ◌≤◌, nat_lt, Bool, true, false, ◌||◌, cond, Some, None, not, List, [], ◌∷◌, ◌++◌, length, map, position, refl, sym, ap, ap₂, ◌∙◌, arith}
use Rattle.std.specs.List.{list_any, position_or_len}
use Rattle.std.proofs.lemmas.Bool.{ltb-false}
use Rattle.std.proofs.lemmas.List.{map-append}
use Rattle.std.proofs.lemmas.List.Recursion.{is_position_or_len}
use Rattle.std.proofs.lemmas.List.Sums.{prefix_len-le-length}
use Rattle.indexmap.specs.IndexSet.{insert_key}
use Rattle.defs_soar.specs.Candidate.{variablized_place}
use Rattle.defs_soar.specs.Variablized.{Variablized as VariablizedOf, each_variablized_once, variablized_eq}
use Rattle.chunk_variables.specs.declared.variables.Variablized.{Variablized}
use Rattle.chunk_variables.specs.declared.variables.Variablized.TheVariants.{Identifier, Own}
use Rattle.chunk_variables.specs.Seen.{variablized_seen}
use Rattle.chunk_variables.specs.contracts.variables.VariablizedPartialEq.TheImpl as derived

-- as the set tells whether two are one
abbrev pub item_eq : Variablized → Variablized → Bool
item_eq = derived.ghosts.eq

eq_seen : (a b : Variablized) → variablized_eq (variablized_seen a) (variablized_seen b) ≡ item_eq a b
eq_seen (Identifier a m) (Identifier b n) = refl
eq_seen (Own m) (Own n) = refl
eq_seen (Identifier a m) (Own n) = refl
eq_seen (Own m) (Identifier b n) = refl

-- ---- one item more

any_seen : (x : Variablized) (ks : List Variablized) → list_any (variablized_eq (variablized_seen x)) (map variablized_seen ks) ≡ list_any (item_eq x) ks
any_seen x [] = refl
any_seen x (k ∷ ks) = ap₂ (λ a b. a || b) (eq_seen x k) (any_seen x ks)

pub insert_seen : (ks : List Variablized) (k : Variablized)
    → map variablized_seen (insert_key item_eq ks k) ≡ each_variablized_once (map variablized_seen ks) (variablized_seen k ∷ [])
insert_seen ks k = by (list_any (item_eq k) ks) ∙ sym (ap (λ b. cond b (map variablized_seen ks) (map variablized_seen ks ++ variablized_seen k ∷ [])) (any_seen k ks))
  where
    by : (b : Bool) → map variablized_seen (cond b ks (ks ++ k ∷ [])) ≡ cond b (map variablized_seen ks) (map variablized_seen ks ++ variablized_seen k ∷ [])
    by true = refl
    by false = map-append variablized_seen ks (k ∷ [])

-- ---- places

pub place_later : (n : ℕ) (vs : List VariablizedOf) (s : VariablizedOf) → variablized_place (suc n) vs s ≡ suc (variablized_place n vs s)
place_later n [] s = refl
place_later n (t ∷ vs) s = by (variablized_eq s t) (place_later (suc n) vs s)
  where
    by : (b : Bool) → variablized_place (suc (suc n)) vs s ≡ suc (variablized_place (suc n) vs s)
        → cond b (suc n) (variablized_place (suc (suc n)) vs s) ≡ suc (cond b n (variablized_place (suc n) vs s))
    by true later = refl
    by false later = later

one_more : (m : ℕ) → suc m ≡ 1 + m
one_more m = omega arith

pub first_place : (x : Variablized) (ks : List Variablized) → variablized_place 0 (map variablized_seen ks) (variablized_seen x) ≡ position_or_len (item_eq x) ks
first_place x = is_position_or_len (λ ks. variablized_place 0 (map variablized_seen ks) (variablized_seen x)) (item_eq x) refl
    (λ k ks. ap₂ (λ b n. cond b 0 n) (eq_seen x k) (place_later 0 (map variablized_seen ks) (variablized_seen x) ∙ one_more (variablized_place 0 (map variablized_seen ks) (variablized_seen x))))

-- an item that is found has its place there
pub place_of_found : (x : Variablized) (ks : List Variablized) (at : ℕ) → Some at ≡ position (item_eq x) ks → at ≡ variablized_place 0 (map variablized_seen ks) (variablized_seen x)
place_of_found x ks at found = by (nat_lt (position_or_len (item_eq x) ks) (length ks)) found ∙ sym (first_place x ks)
  where
    by : (b : Bool) → Some at ≡ cond b (Some (position_or_len (item_eq x) ks)) None → at ≡ position_or_len (item_eq x) ks
    by true e = cc
    by false e = absurd (cc)

-- one that is not found has its place behind all
pub place_of_missing : (x : Variablized) (ks : List Variablized) → None ≡ position (item_eq x) ks → length ks ≡ variablized_place 0 (map variablized_seen ks) (variablized_seen x)
place_of_missing x ks missing = by (nat_lt (position_or_len (item_eq x) ks) (length ks)) refl missing ∙ sym (first_place x ks)
  where
    by : (b : Bool) → nat_lt (position_or_len (item_eq x) ks) (length ks) ≡ b → None ≡ cond b (Some (position_or_len (item_eq x) ks)) None → length ks ≡ position_or_len (item_eq x) ks
    by true e f = absurd (cc)
    by false e f =
        let least : length ks ≤ position_or_len (item_eq x) ks = ltb-false (position_or_len (item_eq x) ks) (length ks) e in
        let most : position_or_len (item_eq x) ks ≤ length ks = prefix_len-le-length (λ k. not (item_eq x k)) ks in
        omega arith
