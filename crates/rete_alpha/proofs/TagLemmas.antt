-- What a set of tags makes of a change is what a rising list makes of it.
use Rattle.std.proofs.Common.{◌≡◌, ℕ, Bool, true, false, cond, ◌==◌, nat_lt, List, [], ◌∷◌, refl, ap, ◌∙◌, arith, eqb-true}
use Rattle.std.specs.BTreeMap.{is_at}
use Rattle.std.specs.BTreeSet.{insert_key}
use Rattle.std.specs.Cmp.{unsigned_tied}
use Rattle.std.specs.Ordering.{match_ordering, nat_cmp}
use Rattle.std.specs.Set.{remove_key}
use Rattle.std.specs.declared.cmp.Ordering.TheVariants.{Less, Equal, Greater}
use Rattle.std.proofs.lemmas.Bool.{ltb-true}
use Rattle.rete_alpha.specs.Numbers.{with_number, without_number}

pub put : (x : ℕ) (ns : List ℕ) → insert_key nat_cmp ns x ≡ with_number x ns
put x [] = refl
put x (n ∷ ns) = by (nat_lt x n) refl (x == n) refl (put x ns)
  where
    by : (d : Bool) → nat_lt x n ≡ d → (b : Bool) → (x == n) ≡ b → insert_key nat_cmp ns x ≡ with_number x ns
        → match_ordering (cond d Less (cond b Equal Greater)) (x ∷ n ∷ ns) (n ∷ ns) (n ∷ insert_key nat_cmp ns x) ≡ cond b (n ∷ ns) (cond d (x ∷ n ∷ ns) (n ∷ with_number x ns))
    by true less true same deep = absurd (omega (arith, ltb-true x n less, eqb-true x n same))
    by true less false same deep = refl
    by false less true same deep = refl
    by false less false same deep = ap (λ l. n ∷ l) deep

pub taken : (x : ℕ) (ns : List ℕ) → remove_key (is_at (nat_cmp x)) ns ≡ without_number x ns
taken x [] = refl
taken x (n ∷ ns) = ap (λ b. cond b ns (n ∷ remove_key (is_at (nat_cmp x)) ns)) (unsigned_tied x n) ∙ ap (λ l. cond (x == n) ns (n ∷ l)) (taken x ns)
