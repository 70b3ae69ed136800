-- What is left is acceptable or required.
use Rattle.std.proofs.Common.{◌≡◌, ◌⊎◌, inl, inr, Bool, true, false, cond, not, ◌&&◌, ◌||◌, List, [], ◌∷◌, refl, sym, ◌∙◌, ap}
use Rattle.std.specs.Ordering.{is_lt}
use Rattle.soar_sym.specs.Equality.{symbol_eq}
use Rattle.soar_sym.specs.Order.{symbol_cmp}
use Rattle.soar_sym.specs.Words.{Texts}
use Rattle.soar_sym.specs.declared.symbol.Sym.{Sym}
use Rattle.defs_soar.specs.declared.preference.PrefKind.{PrefKind}
use Rattle.defs_soar.specs.declared.preference.PrefKind.TheVariants as kind
use Rattle.defs_soar.specs.declared.preference.Preference.{Preference}
use Rattle.defs_soar.specs.declared.choice.Scored.{Scored}
use Rattle.defs_soar.specs.declared.choice.Choice.TheVariants as choice
use Rattle.defs_soar.specs.Choice.{all_scored, has_kind, is_beaten, candidates, with_required, values_of}
use Rattle.defs_soar.specs.Sorted.{has_symbol, with_symbol}
use Rattle.defs_soar.specs.Values.{is_kind}
use Rattle.soar_choose.specs.Laws.{values_left, LeftIsAcceptable}
use Rattle.soar_choose.proofs.LawLemmas.{symbol_same, in_filter, left_candidates, values_scored}

pub either : (a b : Bool) → (a || b) ≡ true → (a ≡ true) ⊎ (b ≡ true)
either true b h = inl refl
either false b h = inr h

second : (a b : Bool) → b ≡ true → (a || b) ≡ true
second true b h = refl
second false b h = h

neither : (a b : Bool) → not (a || b) ≡ true → (a ≡ false) × (b ≡ false)
neither true b h = cc
neither false true h = cc
neither false false h = (refl, refl)

pub turned : (a b : Sym) → symbol_eq a b ≡ true → symbol_eq b a ≡ true
turned a b h = let q : a ≡ b = symbol_same a b h in ap (symbol_eq b) q ∙ ap (λ w. symbol_eq w b) (sym q) ∙ h

in_with : (words : Texts) (xs : List Sym) (s v : Sym) → has_symbol (with_symbol words xs s) v ≡ true → (symbol_eq v s ≡ true) ⊎ (has_symbol xs v ≡ true)
in_with words [] s v h = either (symbol_eq v s) false h
in_with words (t ∷ xs) s v h = by (symbol_eq s t) (is_lt (symbol_cmp words s t)) h (in_with words xs s v)
  where
    after : (symbol_eq v s ≡ true) ⊎ (has_symbol xs v ≡ true) → (symbol_eq v s ≡ true) ⊎ ((symbol_eq v t || has_symbol xs v) ≡ true)
    after (inl e) = inl e
    after (inr e) = inr (second (symbol_eq v t) (has_symbol xs v) e)

    by : (b d : Bool) → has_symbol (cond b (t ∷ xs) (cond d (s ∷ t ∷ xs) (t ∷ with_symbol words xs s))) v ≡ true
        → (has_symbol (with_symbol words xs s) v ≡ true → (symbol_eq v s ≡ true) ⊎ (has_symbol xs v ≡ true))
        → (symbol_eq v s ≡ true) ⊎ ((symbol_eq v t || has_symbol xs v) ≡ true)
    by true d k rest = inr k
    by false true k rest = either (symbol_eq v s) (symbol_eq v t || has_symbol xs v) k
    by false false k rest =
        elim (either (symbol_eq v t) (has_symbol (with_symbol words xs s) v) k)
        [ inl e ↦ inr (ap (λ b. b || has_symbol xs v) e) | inr e ↦ after (rest e) ]

pub in_values : (words : Texts) (k : PrefKind) (rows : List Preference) (v : Sym) → has_symbol (values_of words k rows) v ≡ true → has_kind rows k v ≡ true
in_values words k [] v h = cc
in_values words k (row ∷ rows) v h = by (is_kind row.wish.kind k) h (in_values words k rows v)
  where
    by : (b : Bool) → has_symbol (cond b (with_symbol words (values_of words k rows) row.wish.value) (values_of words k rows)) v ≡ true
        → (has_symbol (values_of words k rows) v ≡ true → has_kind rows k v ≡ true)
        → ((b && symbol_eq row.wish.value v) || has_kind rows k v) ≡ true
    by true e rest =
        elim (in_with words (values_of words k rows) row.wish.value v e)
        [ inl q ↦ ap (λ b. b || has_kind rows k v) (turned v row.wish.value q) | inr q ↦ second (symbol_eq row.wish.value v) (has_kind rows k v) (rest q) ]
    by false e rest = rest e

acceptable : (words : Texts) (rows : List Preference) (left : List Scored) (v : Sym) (required : List Sym) → required ≡ values_of words kind.Require rows
    → with_required words rows required ≡ choice.Left left → has_symbol (values_left left) v ≡ true
    → ((has_kind rows kind.Accept v ≡ true) × (has_kind rows kind.Prohibit v ≡ false) × (has_kind rows kind.Reject v ≡ false)) ⊎ (has_kind rows kind.Require v ≡ true)
acceptable words rows left v [] q e h =
    let unbeaten = in_filter (λ w. not (is_beaten rows (candidates words rows) w)) (candidates words rows) v (left_candidates rows (candidates words rows) left v e h) in
    let allowed = in_filter (λ w. not (has_kind rows kind.Prohibit w || has_kind rows kind.Reject w)) (values_of words kind.Accept rows) v unbeaten.1 in
    let free = neither (has_kind rows kind.Prohibit v) (has_kind rows kind.Reject v) allowed.0 in
    inl (in_values words kind.Accept rows v allowed.1, free.0, free.1)
acceptable words rows left v (a ∷ []) q e h =
    let is : values_left left ≡ a ∷ [] = ap values_left (sym (by (has_kind rows kind.Prohibit a) (all_scored rows (a ∷ [])) e)) ∙ values_scored rows (a ∷ []) in
    inr (in_values words kind.Require rows v (ap (λ xs. has_symbol xs v) (sym (is ∙ q)) ∙ h))
  where
    by : (t : Bool) (all : List Scored) → cond t (choice.Constraint all) (choice.Left all) ≡ choice.Left left → all ≡ left
    by true all k = cc
    by false all k = cc
acceptable words rows left v (a ∷ b ∷ required) q e h = cc

pub left_is_acceptable : LeftIsAcceptable
left_is_acceptable words rows left v e h = acceptable words rows left v (values_of words kind.Require rows) refl e h
