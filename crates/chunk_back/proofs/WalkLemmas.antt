-- The walk back through firings finds just what explains the roots.
use Rattle.std.proofs.Common.{◌≡◌, refl, sym, ◌∙◌, ap, subst, ℕ, ◌≤◌, ◌<◌, ◌==◌, inl, inr, ◌⊎◌, arith, List, [], ◌∷◌, ◌++◌, flat_map, Option, Some, None}
use Rattle.std.proofs.lemmas.List.{append-nil}
use Rattle.std.specs.List.{slice_get}
use Rattle.std.specs.Option.{option_to_list}
use Rattle.defs_soar.specs.Explanation.{explaining, firing_of, with_numbers}
use Rattle.defs_soar.specs.History.{FiringOf}
use Rattle.defs_soar.specs.Laws.{IsIn}
use Rattle.defs_soar.specs.Standing.{AreFrom}
use Rattle.chunk_back.specs.Makers.{MakersAreEarlier}
use Rattle.chunk_back.specs.Walk.{above_all, AllAbove, IsWalk, makers_behind, numbers_of_makers, Rising}
use Rattle.chunk_back.proofs.Lists.{filter_within, in_append, in_flat_map, in_flat_mapped, in_left, in_right, same_number}
use Rattle.chunk_back.proofs.NumberLemmas.{from_all, rising_all, with_left, with_right}
use Rattle.chunk_back.proofs.ReachLemmas.{explaining_has_makers, explaining_has_roots, explaining_rises, explaining_within, same_members}

all_above : (n : ℕ) (ms : List ℕ) → ((m : ℕ) → IsIn m ms → n < m) → AllAbove n ms
all_above n [] h = tt
all_above n (m ∷ ms) h = (h m (inl refl), all_above n ms (λ k i. h k (inr i)))

all_at_most : (n : ℕ) (ms : List ℕ) → ((m : ℕ) → IsIn m ms → m < n) → above_all ms ≤ n
all_at_most n [] h = omega arith
all_at_most n (m ∷ ms) h = let a : m < n = h m (inl refl) in let b = all_at_most n ms (λ k i. h k (inr i)) in omega arith

one_below : (n : ℕ) (ms : List ℕ) → IsIn n ms → n < above_all ms
one_below n [] i = absurd i
one_below n (m ∷ ms) (inl e) = omega arith
one_below n (m ∷ ms) (inr i) = let a = one_below n ms i in omega arith

-- numbers in order are their own set
in_order : (ns : List ℕ) → Rising ns → with_numbers ns [] ≡ ns
in_order ns r = same_members (with_numbers ns []) ns (rising_all ns [] tt) r (λ n i. elim (from_all ns [] n i) [ inl j ↦ j | inr j ↦ absurd j ]) (λ n i. with_left ns [] n i)

module _ (firings : List FiringOf) (roots : List ℕ) where
  -- at the start the roots wait
  pub starts : IsWalk firings roots (with_numbers roots []) []
  starts = record {
    below = λ m n i j. absurd j;
    rising = tt;
    waiting_explains = λ n i. elim (from_all roots [] n i) [ inl j ↦ explaining_has_roots firings roots n j | inr j ↦ absurd j ];
    found_explains = λ n i. absurd i;
    has_roots = λ n i. inl (with_left roots [] n i);
    has_makers = λ n m i j. absurd i;
  }

  -- at the end what was found is what explains the roots
  pub ends : (found : List ℕ) → IsWalk firings roots [] found → found ≡ explaining firings roots
  ends found h = same_members found (explaining firings roots) h.rising (explaining_rises firings roots) h.found_explains
      (explaining_within firings (λ n. IsIn n found) roots (λ n i. there n (h.has_roots n i))
      (λ n f i j m k. there m (h.has_makers n m i (makers n f m j k))))
    where
      there : (n : ℕ) → IsIn n [] ⊎ IsIn n found → IsIn n found
      there n (inl i) = absurd i
      there n (inr i) = i

      makers : (n : ℕ) (f : FiringOf) (m : ℕ) → IsIn f (firing_of firings n) → IsIn m (numbers_of_makers f) → IsIn m (makers_behind firings n)
      makers n f m i j = in_flat_mapped numbers_of_makers f m (firing_of firings n) i j

  -- which is a set as it stands
  pub as_a_set : with_numbers (explaining firings roots) [] ≡ explaining firings roots
  as_a_set = in_order (explaining firings roots) (explaining_rises firings roots)

  module _ (earlier : MakersAreEarlier firings) where
    makers_less : (n m : ℕ) → IsIn m (makers_behind firings n) → m < n
    makers_less n m i =
        let f = in_flat_map numbers_of_makers m (firing_of firings n) i in
        let k = filter_within (λ g. g.number == n) firings f.0 f.1 in
        let less : m < f.0.number = earlier f.0 k.0 m f.2 in
        let same : f.0.number ≡ n = same_number f.0.number n k.1 in omega arith

    -- a step takes the greatest number that waits, and lets the makers behind it wait
    pub goes_on : (rest found : List ℕ) (n : ℕ) → IsWalk firings roots (rest ++ n ∷ []) found → ((m : ℕ) → IsIn m rest → m < n)
        → IsWalk firings roots (with_numbers (makers_behind firings n) rest) (n ∷ found)
    goes_on rest found n h less = record {
      below = below;
      rising = (all_above n found (λ m i. h.below n m last i), h.rising);
      waiting_explains = waiting;
      found_explains = λ m i. elim i [ inl e ↦ subst (λ x. IsIn x (explaining firings roots)) e itself | inr j ↦ h.found_explains m j ];
      has_roots = λ m i. still m (h.has_roots m i);
      has_makers = λ m k i j. elim i [ inl e ↦ inl (with_left (makers_behind firings n) rest k (subst (λ x. IsIn k (makers_behind firings x)) (sym e) j)) | inr l ↦ still k (h.has_makers m k l j) ];
    }
      where
        last : IsIn n (rest ++ n ∷ [])
        last = in_right n rest (n ∷ []) (inl refl)

        itself : IsIn n (explaining firings roots)
        itself = h.waiting_explains n last

        below : (m k : ℕ) → IsIn m (with_numbers (makers_behind firings n) rest) → IsIn k (n ∷ found) → m < k
        below m k i j = go (from_all (makers_behind firings n) rest m i) j
          where
            under : IsIn m (makers_behind firings n) ⊎ IsIn m rest → m < n
            under (inl l) = makers_less n m l
            under (inr l) = less m l

            go : IsIn m (makers_behind firings n) ⊎ IsIn m rest → (n ≡ k) ⊎ IsIn k found → m < k
            go l (inl e) = subst (λ x. m < x) e (under l)
            go l (inr f) = let a : m < n = under l in let b : n < k = h.below n k last f in omega arith

        waiting : (m : ℕ) → IsIn m (with_numbers (makers_behind firings n) rest) → IsIn m (explaining firings roots)
        waiting m i = go (from_all (makers_behind firings n) rest m i)
          where
            go : IsIn m (makers_behind firings n) ⊎ IsIn m rest → IsIn m (explaining firings roots)
            go (inl l) = let f = in_flat_map numbers_of_makers m (firing_of firings n) l in explaining_has_makers firings roots n f.0 m itself f.1 f.2
            go (inr l) = h.waiting_explains m (in_left m rest (n ∷ []) l)

        still : (m : ℕ) → IsIn m (rest ++ n ∷ []) ⊎ IsIn m found → IsIn m (with_numbers (makers_behind firings n) rest) ⊎ ((n ≡ m) ⊎ IsIn m found)
        still m (inr i) = inr (inr i)
        still m (inl i) = go (in_append m rest (n ∷ []) i)
          where
            go : IsIn m rest ⊎ ((n ≡ m) ⊎ ⊥) → IsIn m (with_numbers (makers_behind firings n) rest) ⊎ ((n ≡ m) ⊎ IsIn m found)
            go (inl j) = inl (with_right (makers_behind firings n) rest m j)
            go (inr (inl e)) = inr (inl e)
            go (inr (inr z)) = absurd z

    -- and what waits then is less
    pub falls : (rest : List ℕ) (n : ℕ) → ((m : ℕ) → IsIn m rest → m < n) → above_all (with_numbers (makers_behind firings n) rest) < above_all (rest ++ n ∷ [])
    falls rest n less =
        let a : above_all (with_numbers (makers_behind firings n) rest) ≤ n = all_at_most n (with_numbers (makers_behind firings n) rest) (λ m i. elim (from_all (makers_behind firings n) rest m i) [ inl l ↦ makers_less n m l | inr l ↦ less m l ]) in
        let b : n < above_all (rest ++ n ∷ []) = one_below n (rest ++ n ∷ []) (in_right n rest (n ∷ []) (inl refl)) in omega arith

-- ---- the firing of a number, where each number stands once

one_at_most : (firings : List FiringOf) (n : ℕ) → ((f : FiringOf) → IsIn f firings → firing_of firings f.number ≡ f ∷ []) → (f : FiringOf) (fs : List FiringOf) → firing_of firings n ≡ f ∷ fs → firing_of firings n ≡ f ∷ []
one_at_most firings n h f fs e =
    let k = filter_within (λ g. g.number == n) firings f (subst (IsIn f) (sym e) (inl refl)) in
    ap (firing_of firings) (sym (same_number f.number n k.1)) ∙ h f k.0

from_there : (history kept : List FiringOf) (f : FiringOf) → AreFrom history kept → IsIn f kept → firing_of history f.number ≡ f ∷ []
from_there history [] f h i = absurd i
from_there history (g ∷ kept) f h (inl e) = subst (λ (x : FiringOf). firing_of history x.number ≡ x ∷ []) e h.0
from_there history (g ∷ kept) f h (inr i) = from_there history kept f h.1 i

-- the first one is all
pub only_one : (firings : List FiringOf) → AreFrom firings firings → (n : ℕ) (o : Option FiringOf) → o ≡ slice_get (firing_of firings n) 0 → firing_of firings n ≡ option_to_list o
only_one firings once n o e = go (firing_of firings n) refl o e
  where
    go : (fs : List FiringOf) → firing_of firings n ≡ fs → (x : Option FiringOf) → x ≡ slice_get fs 0 → firing_of firings n ≡ option_to_list x
    go [] p x q = p ∙ ap option_to_list (sym q)
    go (f ∷ fs) p x q = one_at_most firings n (λ g i. from_there firings firings g once i) f fs p ∙ ap option_to_list (sym q)

-- the makers behind a number, with a firing there and with none
pub makers_of_one : (firings : List FiringOf) → AreFrom firings firings → (n : ℕ) (f : FiringOf) → Some f ≡ slice_get (firing_of firings n) 0 → makers_behind firings n ≡ numbers_of_makers f
makers_of_one firings once n f e = ap (flat_map numbers_of_makers) (only_one firings once n (Some f) e) ∙ append-nil (numbers_of_makers f)

pub makers_of_none : (firings : List FiringOf) → AreFrom firings firings → (n : ℕ) → None ≡ slice_get (firing_of firings n) 0 → makers_behind firings n ≡ []
makers_of_none firings once n e = ap (flat_map numbers_of_makers) (only_one firings once n None e)
