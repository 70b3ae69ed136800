-- The nodes on the way of conditions: while other nodes come and go, one condition more, and what they read.
use Rattle.std.proofs.Common.{◌≡◌, refl, sym, ◌∙◌, ap, subst, ◌⊎◌, inl, inr, ℕ, List, [], ◌∷◌, ◌++◌, append_assoc, append-nil, Option, Some}
use Rattle.soar_rule.specs.Conditions.{Condition, positive, negated, conjunctive, Conditions, no_more, condition_and}
use Rattle.defs_match.specs.Laws.{IsIn, followed_by}
use Rattle.node_table.specs.declared.node.Step.{Step}
use Rattle.node_table.specs.declared.node.Step.TheVariants.{Join, Negation}
use Rattle.node_table.specs.declared.node.NodeKey.{NodeKey}
use Rattle.node_table.specs.Nodes.{uppers}
use Rattle.rete_beta.specs.Networks.{key_made}
use Rattle.rete_net.specs.Leading.{LeadsBy, Leads}
use Rattle.rete_net.specs.Requests.{Reads, AreGrounded}
use Rattle.rete_net.proofs.CountLemmas.{in_front, in_back}
use Rattle.rete_net.proofs.GroundLemmas.{grounded_both}

-- ---- while other nodes come and go

abbrev KeepsAt : (ℕ → Option NodeKey) → (ℕ → Option NodeKey) → List ℕ → Type 0
KeepsAt keys new l = (k : ℕ) → IsIn k l → (key : NodeKey) → keys k ≡ Some key → new k ≡ Some key

keeps_front : (keys new : ℕ → Option NodeKey) (l xs ys : List ℕ) → l ≡ xs ++ ys → KeepsAt keys new l → KeepsAt keys new xs
keeps_front keys new l xs ys e kept k i = kept k (subst (IsIn k) (sym e) (in_front k xs ys i))

keeps_back : (keys new : ℕ → Option NodeKey) (l xs ys : List ℕ) → l ≡ xs ++ ys → KeepsAt keys new l → KeepsAt keys new ys
keeps_back keys new l xs ys e kept k i = kept k (subst (IsIn k) (sym e) (in_back k xs ys i))

mutual
  by_kept : (c : Condition) (keys new : ℕ → Option NodeKey) (m : ℕ) (l : List ℕ) (n : ℕ) → KeepsAt keys new l → LeadsBy keys c m l n → LeadsBy new c m l n
  by_kept (positive p) keys new m l n kept h = (h.0, kept n (subst (IsIn n) (sym h.0) (inl refl)) (key_made m (Join p)) h.1)
  by_kept (negated p) keys new m l n kept h = (
    h.0,
    h.1,
    kept h.0 (subst (IsIn h.0) (sym h.1) (inl refl)) (key_made m (Join p)) h.2,
    kept n (subst (IsIn n) (sym h.1) (inr (inl refl))) (key_made m (Negation h.0)) h.3,
  )
  by_kept (conjunctive cs) keys new m l n kept h = (
    h.0,
    h.1,
    h.2,
    leads_kept cs keys new m h.1 h.0 (keeps_front keys new l h.1 (n ∷ []) h.2 kept) h.3,
    keeps_back keys new l h.1 (n ∷ []) h.2 kept n (inl refl) (key_made m (Negation h.0)) h.4,
  )

  pub leads_kept : (cs : Conditions) (keys new : ℕ → Option NodeKey) (m : ℕ) (l : List ℕ) (n : ℕ) → KeepsAt keys new l → Leads keys cs m l n → Leads new cs m l n
  leads_kept no_more keys new m l n kept h = h
  leads_kept (condition_and c cs) keys new m l n kept h = (
    h.0,
    h.1,
    h.2,
    h.3,
    by_kept c keys new m h.1 h.0 (keeps_front keys new l h.1 h.2 h.3 kept) h.4,
    leads_kept cs keys new h.0 h.2 n (keeps_back keys new l h.1 h.2 h.3 kept) h.5,
  )

-- ---- one condition more

pub leads_more : (cs : Conditions) (keys : ℕ → Option NodeKey) (c : Condition) (m k n : ℕ) (xs ys : List ℕ) → Leads keys cs m xs k → LeadsBy keys c k ys n
    → Leads keys (followed_by cs (condition_and c no_more)) m (xs ++ ys) n
leads_more no_more keys c m k n xs ys h by = (n, ys, [], ap (λ (l : List ℕ). l ++ ys) h.0 ∙ sym (append-nil ys), subst (λ j. LeadsBy keys c j ys n) h.1 by, (refl, refl))
leads_more (condition_and d ds) keys c m k n xs ys h by = (
  h.0,
  h.1,
  h.2 ++ ys,
  ap (λ (l : List ℕ). l ++ ys) h.3 ∙ append_assoc h.1 h.2 ys,
  h.4,
  leads_more ds keys c h.0 k n h.2 ys h.5 by,
)

-- ---- what they read

reads_one : (keys : ℕ → Option NodeKey) (P : ℕ → Type 0) (n m : ℕ) (p : Step) (inner : List ℕ) → keys n ≡ Some (key_made m p) → uppers (key_made m p) ≡ m ∷ inner
    → P m → ((u : ℕ) → IsIn u inner → P u) → Reads keys P n
reads_one keys P n m p inner at is here there = (
  key_made m p,
  at,
  λ u i. elim (subst (IsIn u) is i) [ inl e ↦ subst P e here | inr j ↦ there u j ],
)

only : (P : ℕ → Type 0) (i : ℕ) → P i → (u : ℕ) → IsIn u (i ∷ []) → P u
only P i p u (inl e) = subst P e p
only P i p u (inr h) = absurd h

mutual
  by_grounded : (c : Condition) (keys : ℕ → Option NodeKey) (P : ℕ → Type 0) (m : ℕ) (l : List ℕ) (n : ℕ) → P m → LeadsBy keys c m l n → AreGrounded keys P l × IsIn n l
  by_grounded (positive p) keys P m l n here h = (
    subst (AreGrounded keys P) (sym h.0) (reads_one keys P n m (Join p) [] h.1 refl here (λ u i. absurd i), tt),
    subst (IsIn n) (sym h.0) (inl refl),
  )
  by_grounded (negated p) keys P m l n here h = (
    subst (AreGrounded keys P) (sym h.1) (
      reads_one keys P h.0 m (Join p) [] h.2 refl here (λ u i. absurd i),
      (reads_one keys (λ u. (h.0 ≡ u) ⊎ P u) n m (Negation h.0) (h.0 ∷ []) h.3 refl (inr here) (only (λ u. (h.0 ≡ u) ⊎ P u) h.0 (inl refl)), tt),
    ),
    subst (IsIn n) (sym h.1) (inr (inl refl)),
  )
  by_grounded (conjunctive cs) keys P m l n here h =
      let inner = leads_grounded cs keys P m h.1 h.0 here h.3 in (
        subst (AreGrounded keys P) (sym h.2)
            (grounded_both keys P h.1 (n ∷ []) inner.0
            (reads_one keys (λ u. IsIn u h.1 ⊎ P u) n m (Negation h.0) (h.0 ∷ []) h.4 refl (inr here) (only (λ u. IsIn u h.1 ⊎ P u) h.0 inner.1), tt)),
        subst (IsIn n) (sym h.2) (in_back n h.1 (n ∷ []) (inl refl)),
      )

  pub leads_grounded : (cs : Conditions) (keys : ℕ → Option NodeKey) (P : ℕ → Type 0) (m : ℕ) (l : List ℕ) (n : ℕ) → P m → Leads keys cs m l n → AreGrounded keys P l × (IsIn n l ⊎ P n)
  leads_grounded no_more keys P m l n here h = (subst (AreGrounded keys P) (sym h.0) tt, inr (subst P (sym h.1) here))
  leads_grounded (condition_and c cs) keys P m l n here h =
      let first = by_grounded c keys P m h.1 h.0 here h.4 in
      let later = leads_grounded cs keys (λ u. IsIn u h.1 ⊎ P u) h.0 h.2 n (inl first.1) h.5 in (
        subst (AreGrounded keys P) (sym h.3) (grounded_both keys P h.1 h.2 first.0 later.0),
        last later.1,
      )
    where
      last : IsIn n h.2 ⊎ (IsIn n h.1 ⊎ P n) → IsIn n l ⊎ P n
      last (inl i) = inl (subst (IsIn n) (sym h.3) (in_back n h.1 h.2 i))
      last (inr (inl i)) = inl (subst (IsIn n) (sym h.3) (in_front n h.1 h.2 i))
      last (inr (inr p)) = inr p
