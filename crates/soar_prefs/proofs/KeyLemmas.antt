-- The orders of keys, and of places.
use Rattle.std.proofs.Common.{◌≡◌, ℕ, ◌<◌, Bool, true, false, ◌&&◌, ◌==◌, refl, sym, ap, ap₂, ◌∙◌, arith}
use Rattle.std.specs.Cmp.{IsTotalOrder}
use Rattle.std.proofs.lemmas.Cmp.{then_total, on_total, nat_cmp_total, tied_itself}
use Rattle.std.proofs.lemmas.Map.Lookups.{CmpEqualImpliesEq, exact_pairs, exact_unsigned}
use Rattle.std.specs.declared.cmp.Ordering.{Ordering}
use Rattle.std.specs.declared.cmp.Ordering.TheVariants.{Less}
use Rattle.std.specs.Ordering.{is_eq, nat_cmp, bool_cmp, ordering_then}
use Rattle.soar_sym.specs.Equality.{symbol_eq, mark_eq}
use Rattle.soar_sym.specs.contracts.symbol.SymOrd.TheImpl.Laws as laws
use Rattle.soar_sym.specs.declared.symbol.Sym.{Sym}
use Rattle.defs_soar.specs.declared.preference.Preference.{Preference}
use Rattle.soar_wm.proofs.KeyLemmas.{nat_same, then_same, cmp_same, symbol_is, mark_same, sym_tied}
use Rattle.soar_prefs.specs.declared.key.Key.TheVariants.{Triple}
use Rattle.soar_prefs.specs.Places.{place_cmp, firing_cmp, sym_cmp, slot_cmp, triple_cmp}
use Rattle.soar_prefs.specs.Store.{is_of, triple_key}

-- ---- which keys are one

pub firing_same : (a b : Bool × ℕ) → is_eq (firing_cmp a b) ≡ (mark_eq a.0 b.0 && (a.1 == b.1))
firing_same a b = then_same (bool_cmp a.0 b.0) (nat_cmp a.1 b.1) ∙ ap₂ (λ x y. x && y) (mark_same a.0 b.0) (nat_same a.1 b.1)

pub slot_same : (a b : Sym × Sym) → is_eq (slot_cmp a b) ≡ (symbol_eq a.0 b.0 && symbol_eq a.1 b.1)
slot_same a b = then_same (sym_cmp a.0 b.0) (sym_cmp a.1 b.1) ∙ ap₂ (λ x y. x && y) (cmp_same a.0 b.0) (cmp_same a.1 b.1)

pub triple_same : (a b : Sym × Sym × Sym) → is_eq (triple_cmp a b) ≡ (symbol_eq a.0 b.0 && (symbol_eq a.1 b.1 && symbol_eq a.2 b.2))
triple_same a b =
    then_same (ordering_then (sym_cmp a.0 b.0) (sym_cmp a.1 b.1)) (sym_cmp a.2 b.2)
    ∙ ap₂ (λ x y. x && y) (then_same (sym_cmp a.0 b.0) (sym_cmp a.1 b.1) ∙ ap₂ (λ x y. x && y) (cmp_same a.0 b.0) (cmp_same a.1 b.1)) (cmp_same a.2 b.2)
    ∙ regroup (symbol_eq a.0 b.0) (symbol_eq a.1 b.1) (symbol_eq a.2 b.2)
  where
    regroup : (x y z : Bool) → ((x && y) && z) ≡ (x && (y && z))
    regroup true y z = refl
    regroup false y z = refl

left : (a b : Bool) → (a && b) ≡ true → a ≡ true
left true b h = refl
left false b h = cc

right : (a b : Bool) → (a && b) ≡ true → b ≡ true
right true b h = h
right false b h = cc

-- ---- the orders are total, and tell keys apart

sym_total : IsTotalOrder sym_cmp
sym_total = laws.total-law

sym_exact : CmpEqualImpliesEq sym_cmp
sym_exact a b h = symbol_is a b (sym (cmp_same a b) ∙ ap is_eq h)

pub slot_total : IsTotalOrder slot_cmp
slot_total = then_total (on_total (λ q. q.0) sym_total) (on_total (λ q. q.1) sym_total)

pub slot_exact : CmpEqualImpliesEq slot_cmp
slot_exact = exact_pairs sym_cmp sym_cmp sym_exact sym_exact

pub triple_total : IsTotalOrder triple_cmp
triple_total = then_total (then_total (on_total (λ t. t.0) sym_total) (on_total (λ t. t.1) sym_total)) (on_total (λ t. t.2) sym_total)

pub triple_exact : CmpEqualImpliesEq triple_cmp
triple_exact a b h =
    let same : (symbol_eq a.0 b.0 && (symbol_eq a.1 b.1 && symbol_eq a.2 b.2)) ≡ true = sym (triple_same a b) ∙ ap is_eq h in
    let more : (symbol_eq a.1 b.1 && symbol_eq a.2 b.2) ≡ true = right (symbol_eq a.0 b.0) (symbol_eq a.1 b.1 && symbol_eq a.2 b.2) same in
    let p : a.0 ≡ b.0 = symbol_is a.0 b.0 (left (symbol_eq a.0 b.0) (symbol_eq a.1 b.1 && symbol_eq a.2 b.2) same) in
    let q : a.1 ≡ b.1 = symbol_is a.1 b.1 (left (symbol_eq a.1 b.1) (symbol_eq a.2 b.2) more) in
    let r : a.2 ≡ b.2 = symbol_is a.2 b.2 (right (symbol_eq a.1 b.1) (symbol_eq a.2 b.2) more) in
    λ i. (p i, q i, r i)

-- ---- places

module _ {K : Type 0} {cmp : K → K → Ordering} where
  pub place_total : IsTotalOrder cmp → IsTotalOrder (place_cmp cmp)
  place_total total = then_total (on_total (λ q. q.0) total) (on_total (λ q. q.1) nat_cmp_total)

  pub place_exact : CmpEqualImpliesEq cmp → CmpEqualImpliesEq (place_cmp cmp)
  place_exact exact = exact_pairs cmp nat_cmp exact exact_unsigned

  pub later_place : IsTotalOrder cmp → (key : K) (m n : ℕ) → m < n → place_cmp cmp (key, m) (key, n) ≡ Less
  later_place total key m n less = ap (λ o. ordering_then o (nat_cmp m n)) (tied_itself total key) ∙ nat_less m n less
    where
      nat_less : (m n : ℕ) → m < n → nat_cmp m n ≡ Less
      nat_less m n h = grind arith

-- ---- the triple of a row

itself : (a : Sym) → symbol_eq a a ≡ true
itself a = sym (cmp_same a a) ∙ ap is_eq (sym_tied a)

pub own_triple : (row : Preference) → is_of (triple_key row) row ≡ true
own_triple row = ap₂ (λ x y. x && y) (itself row.wish.id) (ap₂ (λ x y. x && y) (itself row.wish.attr) (itself row.wish.value))

pub one_triple : (row other : Preference) → is_of (triple_key row) other ≡ true → triple_key other ≡ triple_key row
one_triple row other h =
    let more : (symbol_eq other.wish.attr row.wish.attr && symbol_eq other.wish.value row.wish.value) ≡ true = right (symbol_eq other.wish.id row.wish.id) _ h in
    let p : other.wish.id ≡ row.wish.id = symbol_is other.wish.id row.wish.id (left (symbol_eq other.wish.id row.wish.id) _ h) in
    let q : other.wish.attr ≡ row.wish.attr = symbol_is other.wish.attr row.wish.attr (left (symbol_eq other.wish.attr row.wish.attr) _ more) in
    let r : other.wish.value ≡ row.wish.value = symbol_is other.wish.value row.wish.value (right (symbol_eq other.wish.attr row.wish.attr) _ more) in
    λ i. Triple (p i) (q i) (r i)
