-- The first agenda of a change.
use Rattle.std.proofs.Common.{◌≡◌, ◌↔◌, ◌⊎◌, inl, inr, refl, sym, subst, ℕ, ◌+◌, ◌<◌, ◌≤◌, length, drop, get_or, List, []}
use Rattle.std.proofs.lemmas.List.{drop_all}
use Rattle.defs_match.specs.Laws.{IsIn}
use Rattle.soar_wm.specs.declared.element.Element.{Element}
use Rattle.rete_alpha.specs.Alphas.{AlphaOf, Accepts}
use Rattle.node_memory.proofs.MemoryLemmas.{from_here}
use Rattle.node_agenda.specs.declared.turns.Turn.{Turn}
use Rattle.node_agenda.specs.declared.turns.TurnKey.{TurnKey}
use Rattle.node_agenda.specs.Turns.{under}
use Rattle.rete_beta.specs.Networks.{IsUnderAny, IsFirst}

pub under_step : (ns : List ℕ) (takers : List TurnKey) (i : ℕ) (cur new init : List Turn) (t : Turn) → i < length ns
    → (IsUnderAny (drop i ns) takers t ⊎ IsIn t cur) ↔ (IsUnderAny ns takers t ⊎ IsIn t init) → IsIn t new ↔ (IsIn (under (get_or ns i 0) t) takers ⊎ IsIn t cur)
    → (IsUnderAny (drop (i + 1) ns) takers t ⊎ IsIn t new) ↔ (IsUnderAny ns takers t ⊎ IsIn t init)
under_step ns takers i cur new init t lt inv added =
    let whole = subst (λ (ms : List ℕ). (IsUnderAny ms takers t ⊎ IsIn t cur) ↔ (IsUnderAny ns takers t ⊎ IsIn t init)) (from_here ns i 0 lt) inv in (
      (λ h. whole.0 (elim h [ inl j ↦ inl (j.0, inr j.1, j.2) | inr n ↦ elim (added.0 n) [ inl u ↦ inl (get_or ns i 0, inl refl, u) | inr k ↦ inr k ] ])),
      (λ h. elim (whole.1 h) [
        | inl j ↦ elim (j.1) [ inl e ↦ inr (added.1 (inl (subst (λ (a : ℕ). IsIn (under a t) takers) (sym e) j.2))) | inr later ↦ inl (j.0, later, j.2) ]
        | inr k ↦ inr (added.1 (inr k))
      ]),
    )

pub under_all : (ns : List ℕ) (takers : List TurnKey) (i : ℕ) (cur init : List Turn) (t : Turn) → length ns ≤ i
    → (IsUnderAny (drop i ns) takers t ⊎ IsIn t cur) ↔ (IsUnderAny ns takers t ⊎ IsIn t init) → IsIn t cur ↔ (IsUnderAny ns takers t ⊎ IsIn t init)
under_all ns takers i cur init t past inv =
    let whole = subst (λ (ms : List ℕ). (IsUnderAny ms takers t ⊎ IsIn t cur) ↔ (IsUnderAny ns takers t ⊎ IsIn t init)) (drop_all i ns past) inv in
    ((λ h. whole.0 (inr h)), λ h. elim (whole.1 h) [ inl j ↦ absurd (j.1) | inr k ↦ k ])

-- the turns under the numbers that take an element
pub first_of : (alpha : AlphaOf) (takers : List TurnKey) (e : Element) (numbers : List ℕ) (agenda empty : List Turn) → Accepts alpha e numbers → empty ≡ []
    → ((t : Turn) → IsIn t agenda ↔ (IsUnderAny numbers takers t ⊎ IsIn t empty)) → IsFirst alpha takers e agenda
first_of alpha takers e numbers agenda empty accepts none all t = (
  (λ i. elim ((all t).0 i) [
    | inl u ↦ (u.0, (accepts.each u.0).0 u.1, u.2)
    | inr k ↦ absurd (subst (λ (ts : List Turn). IsIn t ts) none k)
  ]),
  (λ h. (all t).1 (inl (h.0, (accepts.each h.0).1 h.1, h.2))),
)
