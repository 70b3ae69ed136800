-- Nodes that read those before them.
use Rattle.std.proofs.Common.{◌≡◌, refl, subst, ◌⊎◌, inl, inr, ℕ, List, [], ◌∷◌, ◌++◌, Option, Some}
use Rattle.defs_match.specs.Laws.{IsIn}
use Rattle.node_table.specs.declared.node.NodeKey.{NodeKey}
use Rattle.rete_net.specs.Requests.{Reads, AreGrounded}

pub reads_weaker : (keys : ℕ → Option NodeKey) (P Q : ℕ → Type 0) (n : ℕ) → ((u : ℕ) → P u → Q u) → Reads keys P n → Reads keys Q n
reads_weaker keys P Q n f r = (r.0, r.1, λ u i. f u (r.2 u i))

pub grounded_weaker : (keys : ℕ → Option NodeKey) (P Q : ℕ → Type 0) (ns : List ℕ) → ((u : ℕ) → P u → Q u) → AreGrounded keys P ns → AreGrounded keys Q ns
grounded_weaker keys P Q [] f g = tt
grounded_weaker keys P Q (n ∷ ns) f g = (
  reads_weaker keys P Q n f g.0,
  grounded_weaker keys (λ u. (n ≡ u) ⊎ P u) (λ u. (n ≡ u) ⊎ Q u) ns (λ u h. elim h [ inl e ↦ inl e | inr p ↦ inr (f u p) ]) g.1,
)

pub grounded_both : (keys : ℕ → Option NodeKey) (P : ℕ → Type 0) (xs ys : List ℕ) → AreGrounded keys P xs → AreGrounded keys (λ u. IsIn u xs ⊎ P u) ys → AreGrounded keys P (xs ++ ys)
grounded_both keys P [] ys g h = grounded_weaker keys (λ u. IsIn u [] ⊎ P u) P ys (λ u i. elim i [ inl e ↦ absurd e | inr p ↦ p ]) h
grounded_both keys P (n ∷ xs) ys g h = (
  g.0,
  grounded_both keys (λ u. (n ≡ u) ⊎ P u) xs ys g.1
      (grounded_weaker keys (λ u. IsIn u (n ∷ xs) ⊎ P u) (λ u. IsIn u xs ⊎ ((n ≡ u) ⊎ P u)) ys (λ u i. swap u i) h),
)
  where
    swap : (u : ℕ) → ((n ≡ u) ⊎ IsIn u xs) ⊎ P u → IsIn u xs ⊎ ((n ≡ u) ⊎ P u)
    swap u (inl (inl e)) = inr (inl e)
    swap u (inl (inr i)) = inl i
    swap u (inr p) = inr (inr p)

pub grounded_front : (keys : ℕ → Option NodeKey) (P : ℕ → Type 0) (xs ys : List ℕ) → AreGrounded keys P (xs ++ ys) → AreGrounded keys P xs
grounded_front keys P [] ys g = tt
grounded_front keys P (n ∷ xs) ys g = (g.0, grounded_front keys (λ u. (n ≡ u) ⊎ P u) xs ys g.1)

back : (P : ℕ → Type 0) (n : ℕ) (xs : List ℕ) (u : ℕ) → IsIn u xs ⊎ ((n ≡ u) ⊎ P u) → ((n ≡ u) ⊎ IsIn u xs) ⊎ P u
back P n xs u (inl i) = inl (inr i)
back P n xs u (inr (inl e)) = inl (inl e)
back P n xs u (inr (inr p)) = inr p

pub grounded_last : (keys : ℕ → Option NodeKey) (P : ℕ → Type 0) (xs : List ℕ) (z : ℕ) → AreGrounded keys P (xs ++ z ∷ []) → Reads keys (λ u. IsIn u xs ⊎ P u) z
grounded_last keys P [] z g = reads_weaker keys P (λ u. IsIn u [] ⊎ P u) z (λ u p. inr p) g.0
grounded_last keys P (n ∷ xs) z g =
    reads_weaker keys (λ u. IsIn u xs ⊎ ((n ≡ u) ⊎ P u)) (λ u. IsIn u (n ∷ xs) ⊎ P u) z (back P n xs) (grounded_last keys (λ u. (n ≡ u) ⊎ P u) xs z g.1)

pub grounded_in : (keys : ℕ → Option NodeKey) (P : ℕ → Type 0) (xs : List ℕ) (k : ℕ) → AreGrounded keys P xs → IsIn k xs → Reads keys (λ u. IsIn u xs ⊎ P u) k
grounded_in keys P [] k g i = absurd i
grounded_in keys P (n ∷ xs) k g (inl e) = subst (λ m. Reads keys (λ u. IsIn u (n ∷ xs) ⊎ P u) m) e (reads_weaker keys P (λ u. IsIn u (n ∷ xs) ⊎ P u) n (λ u p. inr p) g.0)
grounded_in keys P (n ∷ xs) k g (inr i) =
    reads_weaker keys (λ u. IsIn u xs ⊎ ((n ≡ u) ⊎ P u)) (λ u. IsIn u (n ∷ xs) ⊎ P u) k (back P n xs) (grounded_in keys (λ u. (n ≡ u) ⊎ P u) xs k g.1 i)

pub grounded_kept : (keys new : ℕ → Option NodeKey) (P : ℕ → Type 0) (xs : List ℕ) → ((k : ℕ) → IsIn k xs → (key : NodeKey) → keys k ≡ Some key → new k ≡ Some key)
    → AreGrounded keys P xs → AreGrounded new P xs
grounded_kept keys new P [] kept g = tt
grounded_kept keys new P (n ∷ xs) kept g = (
  (g.0.0, kept n (inl refl) g.0.0 g.0.1, g.0.2),
  grounded_kept keys new (λ u. (n ≡ u) ⊎ P u) xs (λ k i. kept k (inr i)) g.1,
)
