-- The triples of a hash table.
use Rattle.std.proofs.Common.{◌≡◌, suc, Bool, true, false, cond, not, ◌&&◌, ◌||◌, List, [], ◌∷◌, MatchBool, IsPermutation, length, filter, ap, refl, sym, ◌∙◌}
use Rattle.std.specs.Bool.{OnFalse}
use Rattle.std.specs.Set.{remove_key}
use Rattle.std.proofs.lemmas.List.Sorted.{sum_by-IsPermutation}
use Rattle.std.proofs.lemmas.List.Sums.{length-filter}
use Rattle.soar_sym.specs.declared.symbol.Triple.{Triple}
use Rattle.soar_sym.proofs.KeyLemmas.{triple_same, triple_turned}
use Rattle.defs_soar.specs.Values.{has_triple_among, triple_eq}
use Rattle.kept_triples.specs.Counts.{how_many}

-- equal triples are one
pub triple_is : (t u : Triple) → triple_eq t u ≡ true → t ≡ u
triple_is = triple_same

-- ---- what the set has

pub found_same : (triples : List Triple) (k t : Triple) → k ≡ t → has_triple_among triples k ≡ has_triple_among triples t
found_same triples k t is = ap (has_triple_among triples) is

pub added_same : (old new : List Triple) (k triple : Triple) → k ≡ triple → ((q : Triple) → has_triple_among new q ≡ cond (triple_eq k q) true (has_triple_among old q))
    → (t : Triple) → has_triple_among new t ≡ (triple_eq t triple || has_triple_among old t)
added_same old new k triple is up t =
    up t ∙ ap (λ a. cond a true (has_triple_among old t)) (ap (λ u. triple_eq u t) is ∙ triple_turned triple t) ∙ by (triple_eq t triple) (has_triple_among old t)
  where
    by : (a b : Bool) → cond a true b ≡ (a || b)
    by true b = refl
    by false b = refl

pub removed_same : (old new : List Triple) (k triple : Triple) → k ≡ triple → ((q : Triple) → has_triple_among new q ≡ cond (triple_eq k q) false (has_triple_among old q))
    → (t : Triple) → has_triple_among new t ≡ (not (triple_eq t triple) && has_triple_among old t)
removed_same old new k triple is up t =
    up t ∙ ap (λ a. cond a false (has_triple_among old t)) (ap (λ u. triple_eq u t) is ∙ triple_turned triple t) ∙ by (triple_eq t triple) (has_triple_among old t)
  where
    by : (a b : Bool) → cond a false b ≡ (not a && b)
    by true b = refl
    by false b = refl

-- ---- how many there are

-- in another order there are as many
as_many : (p : Triple → Bool) (old new : List Triple) → IsPermutation old new → how_many p new ≡ how_many p old
as_many p old new same = length-filter p new ∙ sum_by-IsPermutation (λ t. cond (p t) 1 0) old new same ∙ sym (length-filter p old)

one_more : (p : Triple → Bool) (u : Triple) (xs ys : List Triple) → how_many p xs ≡ how_many p ys → how_many p (u ∷ xs) ≡ how_many p (u ∷ ys)
one_more p u xs ys h = by (p u)
  where
    by : (b : Bool) → length (cond b (u ∷ filter p xs) (filter p xs)) ≡ length (cond b (u ∷ filter p ys) (filter p ys))
    by true = ap suc h
    by false = h

turned : (p : Triple → Bool) (t u : Triple) (xs : List Triple) → how_many p (t ∷ u ∷ xs) ≡ how_many p (u ∷ t ∷ xs)
turned p t u xs = by (p t) (p u)
  where
    by : (a b : Bool)
        → length (cond a (t ∷ cond b (u ∷ filter p xs) (filter p xs)) (cond b (u ∷ filter p xs) (filter p xs)))
        ≡ length (cond b (u ∷ cond a (t ∷ filter p xs) (filter p xs)) (cond a (t ∷ filter p xs) (filter p xs)))
    by true true = refl
    by true false = refl
    by false true = refl
    by false false = refl

-- a new triple is one more, and of one that was there are as many
pub inserted : (p : Triple → Bool) (old new : List Triple) (k t : Triple) (added : Bool) → k ≡ t → MatchBool added (IsPermutation (k ∷ old) new) (new ≡ old)
    → how_many p new ≡ how_many p (cond added (t ∷ old) old)
inserted p old new k t true is put = as_many p (k ∷ old) new put ∙ ap (λ x. how_many p (x ∷ old)) is
inserted p old new k t false is put = ap (how_many p) put

taken : (p : Triple → Bool) (triples : List Triple) (k : Triple) → has_triple_among triples k ≡ true → how_many p (k ∷ remove_key (triple_eq k) triples) ≡ how_many p triples
taken p [] k found = absurd (cc)
taken p (u ∷ triples) k found = by (triple_eq k u) refl found (taken p triples k)
  where
    rest : List Triple
    rest = remove_key (triple_eq k) triples

    by : (b : Bool) → triple_eq k u ≡ b → (b || has_triple_among triples k) ≡ true → (has_triple_among triples k ≡ true → how_many p (k ∷ rest) ≡ how_many p triples)
        → how_many p (k ∷ cond b triples (u ∷ rest)) ≡ how_many p (u ∷ triples)
    by true e h later = ap (λ v. how_many p (v ∷ triples)) (triple_is k u e)
    by false e h later = turned p k u rest ∙ one_more p u (k ∷ rest) triples (later h)

-- a triple that is removed is one less, and where there was none there are as many
pub removed : (p : Triple → Bool) (old new : List Triple) (k t : Triple) (was : Bool) → k ≡ t → was ≡ has_triple_among old k
    → IsPermutation (remove_key (triple_eq k) old) new → OnFalse was (new ≡ old) → how_many p (cond was (t ∷ new) new) ≡ how_many p old
removed p old new k t true is told same stays =
    ap (λ x. how_many p (x ∷ new)) (sym is)
    ∙ one_more p k new (remove_key (triple_eq k) old) (as_many p (remove_key (triple_eq k) old) new same)
    ∙ taken p old k (sym told)
removed p old new k t false is told same stays = ap (how_many p) stays
