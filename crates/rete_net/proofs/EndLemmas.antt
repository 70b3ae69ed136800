-- At which nodes rules end, as rules come and go.
use Rattle.std.proofs.Common.{◌≡◌, ◌≢◌, ◌↔◌, ◌⊎◌, inl, inr, refl, sym, ◌∙◌, ap, subst, ℕ, zero, suc, ◌<◌, ◌==◌, Bool, true, false, cond, eq-eqb, length, List, [], ◌∷◌, ◌++◌, map, insert, remove, take, drop, drop-cons, take-append-drop, get_or, Option, Some, arith}
use Rattle.std.specs.BTreeMap.{insert_entry, is_at}
use Rattle.std.specs.List.{list_any}
use Rattle.std.specs.Map.{lookup, remove_entry, values_of}
use Rattle.std.specs.Ordering.{nat_cmp}
use Rattle.std.proofs.lemmas.Option.{same_Some}
use Rattle.defs_match.specs.Contents.{is_numbered}
use Rattle.defs_match.specs.Laws.{IsIn}
use Rattle.node_agenda.specs.declared.turns.TurnKey.{TurnKey}
use Rattle.rete_beta.specs.Joins.{Asked}
use Rattle.rete_net.specs.declared.chain.Chain.{Chain}
use Rattle.rete_net.specs.Chains.{AreApart, AreNumbered, Entries, rule_of}
use Rattle.rete_net.specs.Ends.{AreEnds, end_of}
use Rattle.rete_net.specs.Loads.{IsWhole}
use Rattle.rete_net.proofs.CountLemmas.{in_at, in_either, in_front, in_back}
use Rattle.rete_net.proofs.LoadLemmas.{around}
use Rattle.rete_net.proofs.RuleLemmas.{first_false, place_with, place_without, with_chain}

-- ---- who stands in a list with one more, and with one less

in_middle : (xs : List Chain) (c : Chain) (ys : List Chain) (d : Chain) → IsIn d (xs ++ c ∷ ys) ↔ ((c ≡ d) ⊎ IsIn d (xs ++ ys))
in_middle xs c ys d = (
  (λ i. elim (in_either d xs (c ∷ ys) i) [
    | inl a ↦ inr (in_front d xs ys a)
    | inr b ↦ elim b [ inl e ↦ inl e | inr k ↦ inr (in_back d xs ys k) ]
  ]),
  (λ h. elim h [
    | inl e ↦ in_back d xs (c ∷ ys) (inl e)
    | inr i ↦ elim (in_either d xs ys i) [ inl a ↦ in_front d xs (c ∷ ys) a | inr b ↦ in_back d xs (c ∷ ys) (inr b) ]
  ]),
)

in_inserted : (cs : List Chain) (i : ℕ) (c d : Chain) → IsIn d (insert cs i c) ↔ ((c ≡ d) ⊎ IsIn d cs)
in_inserted cs i c d = subst (λ (l : List Chain). IsIn d (insert cs i c) ↔ ((c ≡ d) ⊎ IsIn d l)) (take-append-drop i cs) (in_middle (take i cs) c (drop i cs) d)

in_whole : (cs : List Chain) (i : ℕ) (c d : Chain) → i < length cs → c ≡ get_or cs i c → IsIn d cs ↔ ((c ≡ d) ⊎ IsIn d (remove cs i))
in_whole cs i c d within is = subst (λ (l : List Chain). IsIn d l ↔ ((c ≡ d) ⊎ IsIn d (remove cs i))) (sym (around cs i c within is)) (in_middle (take i cs) c (drop (suc i) cs) d)

-- ---- numbers differ

pub none_numbered : (cs : List Chain) (number : ℕ) (d : Chain) → list_any (is_numbered number) (map rule_of cs) ≡ false → IsIn d cs → d.rule.number ≡ number → ⊥
none_numbered [] number d none i is = absurd i
none_numbered (c ∷ cs) number d none i is =
    let both = first_false (is_numbered number (rule_of c)) (list_any (is_numbered number) (map rule_of cs)) none in
    elim i [
      | inl e ↦ (let bad : true ≡ false = sym (eq-eqb c.rule.number number (ap (λ (x : Chain). x.rule.number) e ∙ is)) ∙ both.0 in cc)
      | inr k ↦ none_numbered cs number d both.1 k is
    ]

others_differ : (cs : List Chain) (i : ℕ) (c d : Chain) → AreApart (map rule_of cs) → i < length cs → c ≡ get_or cs i c → IsIn d (remove cs i) → d.rule.number ≡ c.rule.number → ⊥
others_differ [] i c d apart within is there same = absurd (omega (arith, within))
others_differ (x ∷ cs) zero c d apart within is there same = none_numbered cs x.rule.number d apart.0 there (same ∙ ap (λ (y : Chain). y.rule.number) is)
others_differ (x ∷ cs) (suc i) c d apart within is there same = elim there [
  | inl e ↦ none_numbered cs x.rule.number c apart.0 (subst (λ (y : Chain). IsIn y cs) (sym is) (in_at cs i c (omega (arith, within)))) (sym same ∙ ap (λ (y : Chain). y.rule.number) (sym e))
  | inr k ↦ others_differ cs i c d apart.1 (omega (arith, within)) is k same
]

-- ---- a rule comes

ends_more : (cs ds : List Chain) (c : Chain) (old new : List TurnKey) → AreEnds cs old → ((d : Chain) → IsIn d ds ↔ ((c ≡ d) ⊎ IsIn d cs))
    → ((x : TurnKey) → IsIn x new ↔ ((end_of c.last c.rule.number ≡ x) ⊎ IsIn x old)) → AreEnds ds new
ends_more cs ds c old new ends chains added x = (
  (λ i. elim ((added x).0 i) [
    | inl e ↦ (c, (chains c).1 (inl refl), e)
    | inr k ↦ (let d = (ends x).0 k in (d.0, (chains d.0).1 (inr d.1), d.2))
  ]),
  (λ h. elim ((chains h.0).0 h.1) [
    | inl e ↦ (added x).1 (inl (ap (λ (d : Chain). end_of d.last d.rule.number) e ∙ h.2))
    | inr k ↦ (added x).1 (inr ((ends x).1 (h.0, k, h.2)))
  ]),
)

pub ends_inserted : (es ds : Entries) (c : Chain) (number : ℕ) → c.rule.number ≡ number → ds ≡ insert_entry nat_cmp es number c → AreNumbered es → list_any (is_numbered number) (map rule_of (values_of es)) ≡ false
    → (old new : List TurnKey) → AreEnds (values_of es) old → ((x : TurnKey) → IsIn x new ↔ ((end_of c.last c.rule.number ≡ x) ⊎ IsIn x old)) → AreEnds (values_of ds) new
ends_inserted es ds c number is inserted numbered fresh old new ends added =
    ends_more (values_of es) (values_of ds) c old new ends (λ d. subst (λ (l : List Chain). IsIn d l ↔ ((c ≡ d) ⊎ IsIn d (values_of es))) (sym values) (in_inserted (values_of es) place.0 c d)) added
  where
    place : (i : ℕ) × (values_of (with_chain es c) ≡ insert (values_of es) i c)
    place = place_with es c numbered (ap (λ n. list_any (is_numbered n) (map rule_of (values_of es))) is ∙ fresh)

    values : values_of ds ≡ insert (values_of es) place.0 c
    values = ap values_of (inserted ∙ ap (λ n. insert_entry nat_cmp es n c) (sym is)) ∙ place.1

-- ---- a rule goes

ends_less : (cs : List Chain) (i : ℕ) (c : Chain) (old new : List TurnKey) → AreApart (map rule_of cs) → i < length cs → c ≡ get_or cs i c → AreEnds cs old
    → ((x : TurnKey) → IsIn x new ↔ (IsIn x old × (end_of c.last c.rule.number ≢ x))) → AreEnds (remove cs i) new
ends_less cs i c old new apart within is ends removed x = (
  (λ j. (
      let k = (removed x).0 j in
      let d = (ends x).0 k.0 in
      elim ((in_whole cs i c d.0 within is).0 d.1) [
        | inl e ↦ absurd (k.1 (ap (λ (y : Chain). end_of y.last y.rule.number) e ∙ d.2))
        | inr r ↦ (d.0, r, d.2)
      ])),
  (λ h. (removed x).1 (
    (ends x).1 (h.0, (in_whole cs i c h.0 within is).1 (inr h.1), h.2),
    λ e. others_differ cs i c h.0 apart within is h.1 (ap (λ (y : TurnKey). y.turn.made) (h.2 ∙ sym e)),
  )),
)

pub ends_removed : (es ds : Entries) (number : ℕ) (c : Chain) (nodes : ℕ → Option Asked) → Some c ≡ lookup (is_at (nat_cmp number)) es → IsWhole (values_of es) nodes → ds ≡ remove_entry (is_at (nat_cmp number)) es
    → (old new : List TurnKey) → AreEnds (values_of es) old → ((x : TurnKey) → IsIn x new ↔ (IsIn x old × (end_of c.last c.rule.number ≢ x))) → AreEnds (values_of ds) new
ends_removed es ds number c nodes there whole gone old new ends removed =
    let place = place_without es number c there in
    subst (λ (l : List Chain). AreEnds l new) (sym (ap values_of gone ∙ place.3)) (ends_less (values_of es) place.0 c old new whole.apart place.1 place.2 ends removed)

-- ---- the chain of a number

same_number : (m n : ℕ) → m ≡ n → is_at (nat_cmp m) n ≡ true
same_number m n h = grind arith

other_number : (m n : ℕ) → is_at (nat_cmp m) n ≡ true → m ≡ n
other_number m n h = grind arith

-- the chain of a number is found under it
pub chain_found : (es : Entries) (number : ℕ) (c : Chain) → AreNumbered es → AreApart (map rule_of (values_of es)) → IsIn c (values_of es) → c.rule.number ≡ number → lookup (is_at (nat_cmp number)) es ≡ Some c
chain_found [] number c numbered apart i is = absurd i
chain_found (e ∷ es) number c numbered apart i is = by (is_at (nat_cmp number) e.0) refl i (λ k. chain_found es number c numbered.1 apart.1 k is)
  where
    by : (b : Bool) → is_at (nat_cmp number) e.0 ≡ b → (e.1 ≡ c) ⊎ IsIn c (values_of es) → (IsIn c (values_of es) → lookup (is_at (nat_cmp number)) es ≡ Some c)
        → cond b (Some e.1) (lookup (is_at (nat_cmp number)) es) ≡ Some c
    by true at (inl same) later = ap Some same
    by true at (inr k) later = absurd (none_numbered (values_of es) e.1.rule.number c apart.0 k (is ∙ other_number number e.0 at ∙ sym numbered.0))
    by false at (inl same) later =
        (let bad : true ≡ false = sym (same_number number e.0 (sym is ∙ ap (λ (x : Chain). x.rule.number) (sym same) ∙ numbered.0)) ∙ at in absurd (cc))
    by false at (inr k) later = later k

-- what is found under a number is its chain
pub found_chain : (es : Entries) (number : ℕ) (c : Chain) → AreNumbered es → Some c ≡ lookup (is_at (nat_cmp number)) es → IsIn c (values_of es) × (c.rule.number ≡ number)
found_chain [] number c numbered there = absurd (cc)
found_chain (e ∷ es) number c numbered there = by (is_at (nat_cmp number) e.0) refl there (found_chain es number c numbered.1)
  where
    by : (b : Bool) → is_at (nat_cmp number) e.0 ≡ b → Some c ≡ cond b (Some e.1) (lookup (is_at (nat_cmp number)) es)
        → (Some c ≡ lookup (is_at (nat_cmp number)) es → IsIn c (values_of es) × (c.rule.number ≡ number)) → IsIn c (e.1 ∷ values_of es) × (c.rule.number ≡ number)
    by true at is later = (let same = same_Some c e.1 is in (inl (sym same), ap (λ (x : Chain). x.rule.number) same ∙ numbered.0 ∙ sym (other_number number e.0 at)))
    by false at is later = (let d = later is in (inr d.0, d.1))
