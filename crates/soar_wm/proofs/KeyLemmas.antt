-- The order of the maps' keys, and equality of what they hold.
use Rattle.std.proofs.Common.{◌≡◌, ℕ, ◌<◌, Bool, true, false, ◌&&◌, ◌==◌, ℤ, refl, sym, ap, ap₂, ◌∙◌, arith}
use Rattle.std.specs.Cmp.{IsTotalOrder}
use Rattle.std.proofs.lemmas.Cmp.{then_total, on_total, nat_cmp_total, tied_itself}
use Rattle.std.proofs.lemmas.Map.Lookups.{CmpEqualImpliesEq, exact_pairs, exact_unsigned}
use Rattle.std.specs.declared.cmp.Ordering.{Ordering}
use Rattle.std.specs.declared.cmp.Ordering.TheVariants.{Less, Equal, Greater}
use Rattle.std.specs.Ordering.{is_eq, nat_cmp, int_cmp, int_eq, bool_cmp, ordering_then}
use Rattle.soar_sym.specs.Equality.{symbol_eq, mark_eq}
use Rattle.soar_sym.specs.declared.symbol.Sym.{Sym}
use Rattle.soar_sym.specs.declared.symbol.Sym.TheVariants.{Ident, Word, Int}
use Rattle.soar_sym.specs.declared.symbol.Triple.{Triple}
use Rattle.soar_sym.specs.contracts.symbol.SymOrd.TheImpl.{ghosts}
use Rattle.soar_sym.specs.contracts.symbol.SymOrd.TheImpl.Laws as laws
use Rattle.soar_wm.specs.declared.element.Element.{Element}
use Rattle.soar_wm.specs.Shelf.{Place, place_of, place_cmp, id_cmp, is_id_of}
use Rattle.soar_wm.specs.WorkingMemory.{has_triple, triple_of}

abbrev pub sym_cmp : Sym → Sym → Ordering
sym_cmp = ghosts.cmp

pub nat_same : (m n : ℕ) → is_eq (nat_cmp m n) ≡ (m == n)
nat_same m n = grind arith

pub nat_turned : (m n : ℕ) → (m == n) ≡ (n == m)
nat_turned m n = grind arith

pub nat_is : (m n : ℕ) → (m == n) ≡ true → m ≡ n
nat_is m n h = grind arith

int_same : (m n : ℤ) → is_eq (int_cmp m n) ≡ int_eq m n
int_same m n = grind arith

pub then_same : (x y : Ordering) → is_eq (ordering_then x y) ≡ (is_eq x && is_eq y)
then_same Less y = refl
then_same Equal y = refl
then_same Greater y = refl

pub cmp_same : (a b : Sym) → is_eq (sym_cmp a b) ≡ symbol_eq a b
cmp_same (Ident a m) (Ident b n) = then_same (nat_cmp a b) (nat_cmp m n) ∙ ap₂ (λ x y. x && y) (nat_same a b) (nat_same m n)
cmp_same (Word m) (Word n) = nat_same m n
cmp_same (Int m) (Int n) = int_same m n
cmp_same (Ident a m) (Word n) = refl
cmp_same (Ident a m) (Int n) = refl
cmp_same (Word m) (Ident b n) = refl
cmp_same (Word m) (Int n) = refl
cmp_same (Int m) (Ident b n) = refl
cmp_same (Int m) (Word n) = refl

pub mark_same : (a b : Bool) → is_eq (bool_cmp a b) ≡ mark_eq a b
mark_same true true = refl
mark_same true false = refl
mark_same false true = refl
mark_same false false = refl

-- a map finds a key that is equal, and no other
pub id_same : (e : Element) (q : Place × ℕ) → is_eq (id_cmp (place_of e.id, e.tag) q) ≡ is_id_of e q
id_same e q = then_same (place_cmp (place_of e.id) q.0) (nat_cmp e.tag q.1) ∙ ap (λ y. is_eq (place_cmp (place_of e.id) q.0) && y) (nat_same e.tag q.1)

-- equal symbols are one

ident_is : (a m b n : ℕ) → ((a == b) && (m == n)) ≡ true → Ident a m ≡ Ident b n
ident_is a m b n h = grind arith

word_is : (m n : ℕ) → (m == n) ≡ true → Word m ≡ Word n
word_is m n h = grind arith

int_is : (m n : ℤ) → int_eq m n ≡ true → Int m ≡ Int n
int_is m n h = grind arith

pub symbol_is : (a b : Sym) → symbol_eq a b ≡ true → a ≡ b
symbol_is (Ident a m) (Ident b n) h = ident_is a m b n h
symbol_is (Word m) (Word n) h = word_is m n h
symbol_is (Int m) (Int n) h = int_is m n h
symbol_is (Ident a m) (Word n) h = cc
symbol_is (Ident a m) (Int n) h = cc
symbol_is (Word m) (Ident b n) h = cc
symbol_is (Word m) (Int n) h = cc
symbol_is (Int m) (Ident b n) h = cc
symbol_is (Int m) (Word n) h = cc

pub mark_is : (a b : Bool) → mark_eq a b ≡ true → a ≡ b
mark_is true true h = refl
mark_is false false h = refl
mark_is true false h = cc
mark_is false true h = cc

left : (a b : Bool) → (a && b) ≡ true → a ≡ true
left true b h = refl
left false b h = cc

right : (a b : Bool) → (a && b) ≡ true → b ≡ true
right true b h = h
right false b h = cc

triple_made : (t u : Triple) → t.id ≡ u.id → t.attr ≡ u.attr → t.value ≡ u.value → t.accept ≡ u.accept → t ≡ u
triple_made t u a b c d = λ i. record { id = a i; attr = b i; value = c i; accept = d i }

pub triple_is : (t : Triple) (e : Element) → has_triple t e ≡ true → triple_of e ≡ t
triple_is t e h =
    let more = right (symbol_eq e.id t.id) (symbol_eq e.attr t.attr && (symbol_eq e.value t.value && mark_eq e.accept t.accept)) h in
    let last = right (symbol_eq e.attr t.attr) (symbol_eq e.value t.value && mark_eq e.accept t.accept) more in
    triple_made (triple_of e) t (symbol_is e.id t.id (left _ _ h)) (symbol_is e.attr t.attr (left _ _ more))
    (symbol_is e.value t.value (left _ _ last)) (mark_is e.accept t.accept (right (symbol_eq e.value t.value) _ last))

-- the laws of the orders

sym_total : IsTotalOrder sym_cmp
sym_total = laws.total-law

pub sym_tied : (id : Sym) → sym_cmp id id ≡ Equal
sym_tied id = tied_itself sym_total id

place_total : IsTotalOrder place_cmp
place_total = then_total (on_total (λ p. p.0) nat_cmp_total) (on_total (λ p. p.1) nat_cmp_total)

pub place_tied : (place : Place) → place_cmp place place ≡ Equal
place_tied place = tied_itself place_total place

pub id_total : IsTotalOrder id_cmp
id_total = then_total (on_total (λ q. q.0) place_total) (on_total (λ q. q.1) nat_cmp_total)

place_exact : CmpEqualImpliesEq place_cmp
place_exact = exact_pairs nat_cmp nat_cmp exact_unsigned exact_unsigned

pub id_exact : CmpEqualImpliesEq id_cmp
id_exact = exact_pairs place_cmp nat_cmp place_exact exact_unsigned

pub equal : (o : Ordering) → is_eq o ≡ true → o ≡ Equal
equal Less h = cc
equal Equal h = refl
equal Greater h = cc

pub place_is : (a b : Place) → is_eq (place_cmp a b) ≡ true → a ≡ b
place_is a b h = place_exact a b (equal (place_cmp a b) h)

pub place_turned : (a b : Place) → is_eq (place_cmp a b) ≡ is_eq (place_cmp b a)
place_turned a b =
    then_same (nat_cmp a.0 b.0) (nat_cmp a.1 b.1) ∙ ap₂ (λ x y. x && y) (turned a.0 b.0) (turned a.1 b.1)
    ∙ sym (then_same (nat_cmp b.0 a.0) (nat_cmp b.1 a.1))
  where
    turned : (m n : ℕ) → is_eq (nat_cmp m n) ≡ is_eq (nat_cmp n m)
    turned m n = nat_same m n ∙ nat_turned m n ∙ sym (nat_same n m)

pub later_id : (place : Place) (m n : ℕ) → m < n → id_cmp (place, m) (place, n) ≡ Less
later_id place m n less = ap (λ o. ordering_then o (nat_cmp m n)) (place_tied place) ∙ nat_less m n less
  where
    nat_less : (m n : ℕ) → m < n → nat_cmp m n ≡ Less
    nat_less m n h = grind arith
