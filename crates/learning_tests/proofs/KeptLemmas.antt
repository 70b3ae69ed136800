-- Firings whose makers are earlier, with one more.
use Rattle.std.proofs.Common.{◌≡◌, refl, sym, ap, subst, ℕ, ◌<◌, nat_lt, Bool, true, false, ◌&&◌, ◌⊎◌, inl, inr, arith, List, [], ◌∷◌, ◌++◌, flat_map, None}
use Rattle.std.specs.List.{list_all, slice_get}
use Rattle.defs_soar.specs.Explanation.{explaining, maker_named}
use Rattle.defs_soar.specs.History.{FiringOf}
use Rattle.defs_soar.specs.Laws.{IsIn}
use Rattle.chunk_back.specs.Makers.{MakersAreEarlier}
use Rattle.chunk_back.proofs.Lists.{filter_within, in_append}
use Rattle.soar_record.specs.Recorded.{is_of, reached_by}

each_less : (number : ℕ) (ns : List ℕ) → list_all (λ n. nat_lt n number) ns ≡ true → (n : ℕ) → IsIn n ns → n < number
each_less number [] h n i = absurd i
each_less number (m ∷ ns) h n i = go (nat_lt m number) refl h i (λ k j. each_less number ns k n j)
  where
    go : (b : Bool) → nat_lt m number ≡ b → (b && list_all (λ k. nat_lt k number) ns) ≡ true → (m ≡ n) ⊎ IsIn n ns → (list_all (λ k. nat_lt k number) ns ≡ true → IsIn n ns → n < number) → n < number
    go true p k (inl e) later = let less : m < number = grind arith in subst (λ x. x < number) e less
    go true p k (inr j) later = later k j
    go false p k j later = absurd (cc)

pub earlier_more : (firings : List FiringOf) (f : FiringOf) → MakersAreEarlier firings → list_all (λ n. nat_lt n f.number) (flat_map maker_named f.used) ≡ true → MakersAreEarlier (firings ++ f ∷ [])
earlier_more firings f h less g i n j = go (in_append g firings (f ∷ []) i)
  where
    go : IsIn g firings ⊎ ((f ≡ g) ⊎ ⊥) → n < g.number
    go (inl k) = h g k n j
    go (inr (inl e)) = subst (λ (x : FiringOf). IsIn n (flat_map maker_named x.used) → n < x.number) e (each_less f.number (flat_map maker_named f.used) less n) j
    go (inr (inr z)) = absurd z

pub none_there : (fs : List FiringOf) → None ≡ slice_get fs 0 → fs ≡ []
none_there [] e = refl
none_there (f ∷ fs) e = absurd (cc)

pub earlier_left : (firings : List FiringOf) (roots : List ℕ) → MakersAreEarlier firings → MakersAreEarlier (reached_by roots firings)
earlier_left firings roots h f i = h f (filter_within (is_of (explaining firings roots)) firings f i).0
