-- The orders of numbers, of places, and of keys with numbers.
use Rattle.std.proofs.Common.{◌≡◌, ℕ, ◌<◌, ◌&&◌, ◌==◌, Bool, true, false, refl, arith}
use Rattle.std.specs.Ordering.{is_eq, nat_cmp, int_cmp, bool_cmp, ordering_then}
use Rattle.std.specs.declared.cmp.Ordering.{Ordering}
use Rattle.std.specs.declared.cmp.Ordering.TheVariants.{Less, Equal, Greater}
use Rattle.std.proofs.lemmas.Map.Lookups.{CmpEqualImpliesEq, exact_pairs, exact_signed, exact_unsigned}
use Rattle.input_memory.specs.Numbered.{numbered_cmp}
use Rattle.input_memory.specs.Order.{attr_cmp, id_cmp, place_cmp, rest_cmp, value_cmp}

pub nat_same : (m n : ℕ) → is_eq (nat_cmp m n) ≡ (m == n)
nat_same m n = grind arith

pub nat_is : (m n : ℕ) → (m == n) ≡ true → m ≡ n
nat_is m n h = grind arith

pub nat_self : (n : ℕ) → is_eq (nat_cmp n n) ≡ true
nat_self n = grind arith

pub nat_less : (m n : ℕ) → m < n → nat_cmp m n ≡ Less
nat_less m n h = grind arith

pub then_same : (x y : Ordering) → is_eq (ordering_then x y) ≡ (is_eq x && is_eq y)
then_same Less y = refl
then_same Equal y = refl
then_same Greater y = refl

pub equal : (o : Ordering) → is_eq o ≡ true → o ≡ Equal
equal Less h = cc
equal Equal h = refl
equal Greater h = cc

-- ---- keys with numbers

pub numbered_exact : {K : Type 0} {cmp : K → K → Ordering} → CmpEqualImpliesEq cmp → CmpEqualImpliesEq (numbered_cmp cmp)
numbered_exact {K} {cmp} exact = exact_pairs cmp nat_cmp exact exact_unsigned

-- ---- places

both : (x y : Ordering) → ordering_then x y ≡ Equal → (x ≡ Equal) × (y ≡ Equal)
both Less y h = cc
both Equal y h = (refl, h)
both Greater y h = cc

mark_exact : (a b : Bool) → bool_cmp a b ≡ Equal → a ≡ b
mark_exact true true h = refl
mark_exact true false h = cc
mark_exact false true h = cc
mark_exact false false h = refl

-- places that compare as equal are one
pub place_exact : CmpEqualImpliesEq place_cmp
place_exact p q h =
    let parts = both (id_cmp p q) (rest_cmp p q) h in
    let id = both (int_cmp p.id q.id) (nat_cmp p.id_kind q.id_kind) parts.0 in
    let rest = both (attr_cmp p q) (value_cmp p q) parts.1 in
    let attr = both (nat_cmp p.attr_kind q.attr_kind) (int_cmp p.attr q.attr) rest.0 in
    let marked = both (ordering_then (int_cmp p.value q.value) (nat_cmp p.value_kind q.value_kind)) (bool_cmp p.accept q.accept) rest.1 in
    let value = both (int_cmp p.value q.value) (nat_cmp p.value_kind q.value_kind) marked.0 in
    λ i. record {
      id = exact_signed p.id q.id id.0 i;
      attr = exact_signed p.attr q.attr attr.1 i;
      value = exact_signed p.value q.value value.0 i;
      id_kind = exact_unsigned p.id_kind q.id_kind id.1 i;
      attr_kind = exact_unsigned p.attr_kind q.attr_kind attr.0 i;
      value_kind = exact_unsigned p.value_kind q.value_kind value.1 i;
      accept = mark_exact p.accept q.accept marked.1 i;
    }
