-- Keys of an index, some more or some less.
use Rattle.std.proofs.Common.{◌≡◌, ◌≢◌, ◌↔◌, ◌⊎◌, inl, inr, refl, Bool, true, false, List, [], ◌∷◌}
use Rattle.defs_match.specs.Laws.{IsIn}
use Rattle.node_agenda.specs.declared.turns.TurnKey.{TurnKey}
use Rattle.node_agenda.specs.Links.{where_heard, Relinks}

pub nothing_more : (old : List TurnKey) (c : TurnKey) → IsIn c old ↔ (IsIn c [] ⊎ IsIn c old)
nothing_more old c = ((λ i. inr i), (λ h. elim h [ inl i ↦ absurd i | inr i ↦ i ]))

pub one_more : (k : TurnKey) (old new : List TurnKey) (c : TurnKey) → IsIn c new ↔ ((k ≡ c) ⊎ IsIn c old) → IsIn c new ↔ (IsIn c (k ∷ []) ⊎ IsIn c old)
one_more k old new c h = (
  (λ i. elim (h.0 i) [ inl e ↦ inl (inl e) | inr j ↦ inr j ]),
  (λ g. elim g [ inl i ↦ elim i [ inl e ↦ h.1 (inl e) | inr j ↦ absurd j ] | inr j ↦ h.1 (inr j) ]),
)

pub then_more : (k : TurnKey) (rest old mid new : List TurnKey) (c : TurnKey) → IsIn c mid ↔ ((k ≡ c) ⊎ IsIn c old) → IsIn c new ↔ (IsIn c rest ⊎ IsIn c mid) → IsIn c new ↔ (IsIn c (k ∷ rest) ⊎ IsIn c old)
then_more k rest old mid new c first then_ = (
  (λ i. elim (then_.0 i) [ inl j ↦ inl (inr j) | inr j ↦ elim (first.0 j) [ inl e ↦ inl (inl e) | inr m ↦ inr m ] ]),
  (λ g. elim g [ inl i ↦ elim i [ inl e ↦ then_.1 (inr (first.1 (inl e))) | inr j ↦ then_.1 (inl j) ] | inr j ↦ then_.1 (inr (first.1 (inr j))) ]),
)

pub nothing_less : (old : List TurnKey) (c : TurnKey) → IsIn c old ↔ (IsIn c old × (IsIn c [] → ⊥))
nothing_less old c = ((λ i. (i, λ j. j)), (λ h. h.0))

pub one_less : (k : TurnKey) (old new : List TurnKey) (c : TurnKey) → IsIn c new ↔ (IsIn c old × (k ≢ c)) → IsIn c new ↔ (IsIn c old × (IsIn c (k ∷ []) → ⊥))
one_less k old new c h = (
  (λ i. (let p = h.0 i in (p.0, λ j. elim j [ inl e ↦ p.1 e | inr n ↦ absurd n ]))),
  (λ g. h.1 (g.0, λ e. g.1 (inl e))),
)

pub then_less : (k : TurnKey) (rest old mid new : List TurnKey) (c : TurnKey) → IsIn c mid ↔ (IsIn c old × (k ≢ c)) → IsIn c new ↔ (IsIn c mid × (IsIn c rest → ⊥)) → IsIn c new ↔ (IsIn c old × (IsIn c (k ∷ rest) → ⊥))
then_less k rest old mid new c first then_ = (
  (λ i. (let p = then_.0 i in let q = first.0 p.0 in (q.0, λ j. elim j [ inl e ↦ q.1 e | inr n ↦ p.1 n ]))),
  (λ g. then_.1 (first.1 (g.0, λ e. g.1 (inl e)), λ n. g.1 (inr n))),
)

-- ---- what is heard, or not

pub less_heard : (b : Bool) (own old new : List TurnKey) (c : TurnKey) → b ≡ true → IsIn c new ↔ (IsIn c old × (IsIn c own → ⊥)) → IsIn c new ↔ (IsIn c old × (IsIn c (where_heard b own) → ⊥))
less_heard true own old new c is h = h
less_heard false own old new c is h = absurd (cc)

pub less_unheard : (b : Bool) (own old : List TurnKey) (c : TurnKey) → b ≡ false → IsIn c old ↔ (IsIn c old × (IsIn c (where_heard b own) → ⊥))
less_unheard false own old c is = nothing_less old c
less_unheard true own old c is = absurd (cc)

pub relinks_kept : (was is : Bool) (own old : List TurnKey) → was ≡ is → Relinks was is own old old
relinks_kept true true own old same = refl
relinks_kept false false own old same = refl
relinks_kept true false own old same = absurd (cc)
relinks_kept false true own old same = absurd (cc)

pub relinks_more : (was is : Bool) (own old new : List TurnKey) → was ≡ false → is ≡ true → ((c : TurnKey) → IsIn c new ↔ (IsIn c own ⊎ IsIn c old)) → Relinks was is own old new
relinks_more false true own old new before after h = h
relinks_more true is own old new before after h = absurd (cc)
relinks_more false false own old new before after h = absurd (cc)

pub relinks_less : (was is : Bool) (own old new : List TurnKey) → was ≡ true → is ≡ false → ((c : TurnKey) → IsIn c new ↔ (IsIn c old × (IsIn c own → ⊥))) → Relinks was is own old new
relinks_less true false own old new before after h = h
relinks_less false is own old new before after h = absurd (cc)
relinks_less true true own old new before after h = absurd (cc)
