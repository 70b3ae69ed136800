-- Requests that are taken back, from the last to the first.
use Rattle.std.proofs.Common.{◌≡◌, ◌≢◌, refl, sym, ◌∙◌, ap, subst, ◌⊎◌, inl, inr, ℕ, ◌+◌, ◌-◌, ◌<◌, ◌≤◌, Bool, true, false, nat_lt, cond, List, [], ◌∷◌, ◌++◌, Option, Some, None, option_and_then, arith, ltb-false}
use Rattle.std.proofs.lemmas.Bool.{cases_lt}
use Rattle.std.proofs.lemmas.Option.{same_Some}
use Rattle.defs_match.specs.Laws.{IsIn}
use Rattle.node_table.specs.declared.node.NodeKey.{NodeKey}
use Rattle.node_table.specs.Nodes.{uppers}
use Rattle.rete_beta.specs.Joins.{Asked, AreNodes, CanDrop, Drops, asked_less, key_of}
use Rattle.rete_net.specs.Requests.{CanDropAll, DropsTo, Reads, key_in, requests_of, times}
use Rattle.rete_net.proofs.CountLemmas.{in_times, times_in, times_both, times_own, times_other, in_either, same_or_not}
use Rattle.rete_net.proofs.GroundLemmas.{grounded_front, grounded_last, grounded_in, grounded_kept}

none_not_some : (key : NodeKey) (o : Option NodeKey) → o ≡ None → o ≡ Some key → ⊥
none_not_some key o e f = absurd (cc)

pub asked_at : (nodes : ℕ → Option Asked) (k : ℕ) (key : NodeKey) → key_in nodes k ≡ Some key → (a : Asked) × (nodes k ≡ Some a) × (a.key ≡ Some key)
asked_at nodes k key keyed = by (nodes k) refl
  where
    by : (o : Option Asked) → nodes k ≡ o → (a : Asked) × (nodes k ≡ Some a) × (a.key ≡ Some key)
    by None e = absurd (none_not_some key (key_in nodes k) (ap (option_and_then key_of) e) keyed)
    by (Some a) e = (a, e, sym (ap (option_and_then key_of) e) ∙ keyed)

-- ---- the last may be dropped

module _ (nodes : ℕ → Option Asked) (l : List ℕ) (z : ℕ) (can : CanDropAll nodes (l ++ z ∷ [])) where
  last_reads : Reads (key_in nodes) (λ u. IsIn u l ⊎ (u ≡ 0)) z
  last_reads = grounded_last (key_in nodes) (λ u. u ≡ 0) l z can.grounded

  not_root : z ≡ 0 → ⊥
  not_root e = none_not_some last_reads.0 (key_in nodes z) (ap (key_in nodes) e ∙ can.bare) last_reads.1

  times_last : times z (l ++ z ∷ []) ≡ times z l + 1
  times_last = times_both z l (z ∷ []) ∙ ap (λ t. times z l + t) (times_own z)

  times_others : (k : ℕ) → k ≢ z → times k (l ++ z ∷ []) ≡ times k l
  times_others k ne = let none = times_other k z ne in let both = times_both k l (z ∷ []) in omega arith

  -- who reads it is asked for here alone, and so stands in the list; but none there reads it
  unread : requests_of (nodes z) ≤ 1 → AreNodes nodes → (k : ℕ) (b : Asked) (other : NodeKey) → nodes k ≡ Some b → b.key ≡ Some other → IsIn z (uppers other) → ⊥
  unread few are k b other at keyed reads = by (cases_lt (times k (l ++ z ∷ [])) (requests_of (nodes k)))
    where
      key_at : key_in nodes k ≡ Some other
      key_at = ap (option_and_then key_of) at ∙ keyed

      none_before : times z l ≡ 0
      none_before = let enough = can.enough z in omega (arith, enough, few, times_last)

      not_before : IsIn z l → ⊥
      not_before i = let some = in_times z l i in absurd (omega (arith, some, none_before))

      here : (own : Reads (key_in nodes) (λ u. IsIn u l ⊎ (u ≡ 0)) k) → ⊥
      here own =
          let same : own.0 ≡ other = same_Some own.0 other (sym own.1 ∙ key_at) in
          elim (own.2 z (subst (λ key. IsIn z (uppers key)) (sym same) reads)) [ inl i ↦ not_before i | inr e ↦ not_root e ]

      asked : requests_of (nodes k) ≡ b.requests
      asked = ap requests_of at

      by : (times k (l ++ z ∷ []) < requests_of (nodes k)) ⊎ (requests_of (nodes k) ≤ times k (l ++ z ∷ [])) → ⊥
      by (inl less) =
          elim (can.elsewhere k other z key_at less reads) [
            | inl e ↦ not_root e
            | inr more ↦ absurd (omega (arith, more, few, times_last))
          ]
      by (inr all) =
          let some = are.asked k b at in
          let there : IsIn k (l ++ z ∷ []) = times_in k (l ++ z ∷ []) (omega (arith, some, all, asked)) in
          elim (in_either k l (z ∷ []) there) [
            | inl i ↦ here (grounded_in (key_in nodes) (λ u. u ≡ 0) l k (grounded_front (key_in nodes) (λ u. u ≡ 0) l (z ∷ []) can.grounded) i)
            | inr i ↦ elim i [ inl e ↦ here (subst (λ m. Reads (key_in nodes) (λ u. IsIn u l ⊎ (u ≡ 0)) m) e last_reads) | inr none ↦ absurd none ]
          ]

  pub can_drop : AreNodes nodes → CanDrop nodes z
  can_drop are =
      let a = asked_at nodes z last_reads.0 last_reads.1 in
      record {
        asked = a.0;
        key = last_reads.0;
        here = a.1;
        keyed = a.2;
        last = λ none. unread (let few = ltb-false 1 a.0.requests none in let is = ap requests_of a.1 in omega arith) are;
      }

  -- ---- after it was dropped

  module _ (new : ℕ → Option Asked) (drops : Drops nodes new z) where
    one_fewer : (o : Option Asked) → 0 < requests_of o → requests_of (asked_less o) + 1 ≡ requests_of o
    one_fewer None h = absurd (omega (arith, h))
    one_fewer (Some a) h = by (nat_lt 1 a.requests) refl
      where
        by : (b : Bool) → nat_lt 1 a.requests ≡ b → requests_of (cond b (Some (record { key = a.key; requests = a.requests - 1 })) None) + 1 ≡ a.requests
        by true e = omega (arith, h)
        by false e = let few = ltb-false 1 a.requests e in omega (arith, h, few)

    some_last : 0 < requests_of (nodes z)
    some_last = let enough = can.enough z in omega (arith, enough, times_last)

    -- what is left of requests and of the list goes by the same number
    pub balance : (k : ℕ) → requests_of (new k) + times k (l ++ z ∷ []) ≡ requests_of (nodes k) + times k l
    balance k = by (same_or_not k z)
      where
        by : (k ≡ z) ⊎ (k ≢ z) → requests_of (new k) + times k (l ++ z ∷ []) ≡ requests_of (nodes k) + times k l
        by (inl e) =
            let less : requests_of (new z) + 1 ≡ requests_of (nodes z) = ap (λ o. requests_of o + 1) drops.here ∙ one_fewer (nodes z) some_last in
            subst (λ j. requests_of (new j) + times j (l ++ z ∷ []) ≡ requests_of (nodes j) + times j l) (sym e) (omega (arith, less, times_last))
        by (inr ne) = let same = ap requests_of (drops.others k ne) in omega (arith, same, times_others k ne)

    key_less : (o : Option Asked) → 1 < requests_of o → option_and_then key_of (asked_less o) ≡ option_and_then key_of o
    key_less None h = refl
    key_less (Some a) h = by (nat_lt 1 a.requests) refl
      where
        by : (b : Bool) → nat_lt 1 a.requests ≡ b → option_and_then key_of (cond b (Some (record { key = a.key; requests = a.requests - 1 })) None) ≡ a.key
        by true e = refl
        by false e = let few = ltb-false 1 a.requests e in absurd (omega (arith, h, few))

    -- who has another request stays the same node
    pub key_stays : (k : ℕ) → times k (l ++ z ∷ []) < requests_of (nodes k) + times k l → key_in new k ≡ key_in nodes k
    key_stays k more = by (same_or_not k z)
      where
        by : (k ≡ z) ⊎ (k ≢ z) → key_in new k ≡ key_in nodes k
        by (inl e) =
            let two : 1 < requests_of (nodes z) = let m = subst (λ j. times j (l ++ z ∷ []) < requests_of (nodes j) + times j l) e more in omega (arith, m, times_last) in
            subst (λ j. key_in new j ≡ key_in nodes j) (sym e) (ap (option_and_then key_of) drops.here ∙ key_less (nodes z) two)
        by (inr ne) = ap (option_and_then key_of) (drops.others k ne)

    key_back : (o : Option Asked) (key : NodeKey) → option_and_then key_of (asked_less o) ≡ Some key → option_and_then key_of o ≡ Some key
    key_back None key h = h
    key_back (Some a) key h = by (nat_lt 1 a.requests) h
      where
        by : (b : Bool) → option_and_then key_of (cond b (Some (record { key = a.key; requests = a.requests - 1 })) None) ≡ Some key → a.key ≡ Some key
        by true e = e
        by false e = absurd (cc)

    was_keyed : (k : ℕ) (key : NodeKey) → key_in new k ≡ Some key → key_in nodes k ≡ Some key
    was_keyed k key keyed = by (same_or_not k z)
      where
        by : (k ≡ z) ⊎ (k ≢ z) → key_in nodes k ≡ Some key
        by (inl e) =
            subst (λ j. key_in nodes j ≡ Some key) (sym e)
            (key_back (nodes z) key (sym (ap (option_and_then key_of) drops.here) ∙ subst (λ j. key_in new j ≡ Some key) e keyed))
        by (inr ne) = sym (ap (option_and_then key_of) (drops.others k ne)) ∙ keyed

    pub can_still : CanDropAll new l
    can_still = record {
      enough = λ k. omega (arith, can.enough k, balance k);
      grounded =
          grounded_kept (key_in nodes) (key_in new) (λ u. u ≡ 0) l (λ k i key keyed. key_stays k (kept k i) ∙ keyed)
          (grounded_front (key_in nodes) (λ u. u ≡ 0) l (z ∷ []) can.grounded);
      bare = ap (option_and_then key_of) (drops.others 0 (λ e. not_root (sym e))) ∙ can.bare;
      elsewhere = λ k key u keyed less reads.
          elim (can.elsewhere k key u (was_keyed k key keyed) (omega (arith, less, balance k)) reads) [
            | inl e ↦ inl e
            | inr more ↦ inr (omega (arith, more, balance u))
          ];
    }
      where
        kept : (k : ℕ) → IsIn k l → times k (l ++ z ∷ []) < requests_of (nodes k) + times k l
        kept k i = let some = in_times k l i in omega (arith, some, can.enough k)

    pub drops_more : (first : ℕ → Option Asked) (all : List ℕ) → DropsTo first nodes all (l ++ z ∷ []) → DropsTo first new all l
    drops_more first all d = record {
      requests = λ k. omega (arith, d.requests k, balance k);
      keys = λ k more. key_stays k (omega (arith, more, d.requests k)) ∙ d.keys k more;
    }

pub drops_none : (nodes : ℕ → Option Asked) (all : List ℕ) → DropsTo nodes nodes all all
drops_none nodes all = record {
  requests = λ k. refl;
  keys = λ k more. refl;
}
