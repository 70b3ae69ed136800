-- Equality of symbols and of triples, and the order in which a map keeps them as keys.
use Rattle.std.proofs.Common.{◌≡◌, ℕ, ◌==◌, ◌&&◌, Bool, true, false, ℤ, refl, sym, ap, ◌∙◌, arith}
use Rattle.std.specs.Cmp.{IsTotalOrder}
use Rattle.std.specs.Ordering.{is_eq, nat_cmp, int_cmp, bool_cmp, int_eq, ordering_then}
use Rattle.std.specs.declared.cmp.Ordering.{Ordering}
use Rattle.std.specs.declared.cmp.Ordering.TheVariants.{Less, Equal, Greater}
use Rattle.std.proofs.lemmas.Map.Lookups.{CmpEqualImpliesEq}
use Rattle.soar_sym.specs.Equality.{symbol_eq, mark_eq, triple_eq}
use Rattle.soar_sym.specs.declared.symbol.Sym.{Sym}
use Rattle.soar_sym.specs.declared.symbol.Sym.TheVariants.{Ident, Word, Int}
use Rattle.soar_sym.specs.declared.symbol.Triple.{Triple}
use Rattle.soar_sym.specs.contracts.symbol.SymPartialEq.TheImpl as equality
use Rattle.soar_sym.specs.contracts.symbol.SymOrd.TheImpl as symbols
use Rattle.soar_sym.specs.contracts.symbol.SymOrd.TheImpl.Laws as symbol_laws
use Rattle.soar_sym.specs.contracts.symbol.TripleOrd.TheImpl as triples
use Rattle.soar_sym.specs.contracts.symbol.TripleOrd.TheImpl.Laws as triple_laws

-- what `cmp` answers, which is the order of a map's keys
abbrev pub symbol_order : Sym → Sym → Ordering
symbol_order = symbols.ghosts.cmp

abbrev pub triple_order : Triple → Triple → Ordering
triple_order = triples.ghosts.cmp

-- ---- numbers and marks

nat_self : (m : ℕ) → (m == m) ≡ true
nat_self m = grind arith

int_self : (m : ℤ) → int_eq m m ≡ true
int_self m = grind arith

pair_self : (a m : ℕ) → ((a == a) && (m == m)) ≡ true
pair_self a m = grind arith

nat_turned : (m n : ℕ) → (m == n) ≡ (n == m)
nat_turned m n = grind arith

int_turned : (m n : ℤ) → int_eq m n ≡ int_eq n m
int_turned m n = grind arith

pair_turned : (a b m n : ℕ) → ((a == b) && (m == n)) ≡ ((b == a) && (n == m))
pair_turned a b m n = ap (λ x. x && (m == n)) (nat_turned a b) ∙ ap (λ x. (b == a) && x) (nat_turned m n)

nat_same : (m n : ℕ) → is_eq (nat_cmp m n) ≡ (m == n)
nat_same m n = grind arith

int_same : (m n : ℤ) → is_eq (int_cmp m n) ≡ int_eq m n
int_same m n = grind arith

bool_same : (a b : Bool) → is_eq (bool_cmp a b) ≡ mark_eq a b
bool_same true true = refl
bool_same true false = refl
bool_same false true = refl
bool_same false false = refl

mark_self : (a : Bool) → mark_eq a a ≡ true
mark_self true = refl
mark_self false = refl

mark_turned : (a b : Bool) → mark_eq a b ≡ mark_eq b a
mark_turned true true = refl
mark_turned true false = refl
mark_turned false true = refl
mark_turned false false = refl

pub mark_same : (a b : Bool) → mark_eq a b ≡ true → a ≡ b
mark_same true true h = refl
mark_same true false h = cc
mark_same false true h = cc
mark_same false false h = refl

-- ---- symbols

pub symbol_self : (a : Sym) → symbol_eq a a ≡ true
symbol_self (Ident a m) = pair_self a m
symbol_self (Word m) = nat_self m
symbol_self (Int m) = int_self m

pub symbol_turned : (a b : Sym) → symbol_eq a b ≡ symbol_eq b a
symbol_turned (Ident a m) (Ident b n) = pair_turned a b m n
symbol_turned (Word m) (Word n) = nat_turned m n
symbol_turned (Int m) (Int n) = int_turned m n
symbol_turned (Ident a m) (Word n) = refl
symbol_turned (Ident a m) (Int n) = refl
symbol_turned (Word m) (Ident b n) = refl
symbol_turned (Word m) (Int n) = refl
symbol_turned (Int m) (Ident b n) = refl
symbol_turned (Int m) (Word n) = refl

ident_are : (a m b n : ℕ) → ((a == b) && (m == n)) ≡ true → Ident a m ≡ Ident b n
ident_are a m b n h = grind arith

word_are : (m n : ℕ) → (m == n) ≡ true → Word m ≡ Word n
word_are m n h = grind arith

int_are : (m n : ℤ) → int_eq m n ≡ true → Int m ≡ Int n
int_are m n h = grind arith

pub symbol_same : (a b : Sym) → symbol_eq a b ≡ true → a ≡ b
symbol_same (Ident a m) (Ident b n) h = ident_are a m b n h
symbol_same (Word m) (Word n) h = word_are m n h
symbol_same (Int m) (Int n) h = int_are m n h
symbol_same (Ident a m) (Word n) h = cc
symbol_same (Ident a m) (Int n) h = cc
symbol_same (Word m) (Ident b n) h = cc
symbol_same (Word m) (Int n) h = cc
symbol_same (Int m) (Ident b n) h = cc
symbol_same (Int m) (Word n) h = cc

-- what `==` answers
pub symbol_derived : (a b : Sym) → equality.ghosts.eq a b ≡ symbol_eq a b
symbol_derived (Ident a m) (Ident b n) = refl
symbol_derived (Word m) (Word n) = refl
symbol_derived (Int m) (Int n) = refl
symbol_derived (Ident a m) (Word n) = refl
symbol_derived (Ident a m) (Int n) = refl
symbol_derived (Word m) (Ident b n) = refl
symbol_derived (Word m) (Int n) = refl
symbol_derived (Int m) (Ident b n) = refl
symbol_derived (Int m) (Word n) = refl

then_same : (x y : Ordering) → is_eq (ordering_then x y) ≡ (is_eq x && is_eq y)
then_same Less y = refl
then_same Equal y = refl
then_same Greater y = refl

-- `cmp` answers Equal for the same symbol alone
pub symbol_order_same : (a b : Sym) → is_eq (symbol_order a b) ≡ symbol_eq a b
symbol_order_same (Ident a m) (Ident b n) = then_same (nat_cmp a b) (nat_cmp m n) ∙ ap (λ x. x && is_eq (nat_cmp m n)) (nat_same a b) ∙ ap (λ x. (a == b) && x) (nat_same m n)
symbol_order_same (Word m) (Word n) = nat_same m n
symbol_order_same (Int m) (Int n) = int_same m n
symbol_order_same (Ident a m) (Word n) = refl
symbol_order_same (Ident a m) (Int n) = refl
symbol_order_same (Word m) (Ident b n) = refl
symbol_order_same (Word m) (Int n) = refl
symbol_order_same (Int m) (Ident b n) = refl
symbol_order_same (Int m) (Word n) = refl

pub symbol_order_exact : CmpEqualImpliesEq symbol_order
symbol_order_exact a b h = symbol_same a b (sym (symbol_order_same a b) ∙ ap is_eq h)

pub symbol_order_total : IsTotalOrder symbol_order
symbol_order_total = symbol_laws.total-law

-- ---- triples

both : (a b : Bool) → (a && b) ≡ true → (a ≡ true) × (b ≡ true)
both true b h = (refl, h)
both false b h = cc

four : (p q r s p' q' r' s' : Bool) → p ≡ p' → q ≡ q' → r ≡ r' → s ≡ s' → (p && (q && (r && s))) ≡ (p' && (q' && (r' && s')))
four p q r s p' q' r' s' e f g h = λ i. e i && (f i && (g i && h i))

pub triple_self : (t : Triple) → triple_eq t t ≡ true
triple_self t =
    four (symbol_eq t.id t.id) (symbol_eq t.attr t.attr) (symbol_eq t.value t.value) (mark_eq t.accept t.accept) true true true true
    (symbol_self t.id) (symbol_self t.attr) (symbol_self t.value) (mark_self t.accept)

pub triple_turned : (t u : Triple) → triple_eq t u ≡ triple_eq u t
triple_turned t u = λ i. symbol_turned t.id u.id i && (symbol_turned t.attr u.attr i && (symbol_turned t.value u.value i && mark_turned t.accept u.accept i))

pub triple_same : (t u : Triple) → triple_eq t u ≡ true → t ≡ u
triple_same t u h =
    let first = both (symbol_eq t.id u.id) (symbol_eq t.attr u.attr && (symbol_eq t.value u.value && mark_eq t.accept u.accept)) h in
    let second = both (symbol_eq t.attr u.attr) (symbol_eq t.value u.value && mark_eq t.accept u.accept) first.1 in
    let third = both (symbol_eq t.value u.value) (mark_eq t.accept u.accept) second.1 in
    λ i. record {
      id = symbol_same t.id u.id first.0 i;
      attr = symbol_same t.attr u.attr second.0 i;
      value = symbol_same t.value u.value third.0 i;
      accept = mark_same t.accept u.accept third.1 i;
    }

-- `cmp` answers Equal for the same triple alone
pub triple_order_same : (t u : Triple) → is_eq (triple_order t u) ≡ triple_eq t u
triple_order_same t u =
    let ids = symbol_order t.id u.id in
    let attrs = symbol_order t.attr u.attr in
    let values = symbol_order t.value u.value in
    let marks = bool_cmp t.accept u.accept in
    then_same ids (ordering_then attrs (ordering_then values marks))
    ∙ ap (λ b. is_eq ids && b) (then_same attrs (ordering_then values marks) ∙ ap (λ b. is_eq attrs && b) (then_same values marks))
    ∙ (λ i. symbol_order_same t.id u.id i && (symbol_order_same t.attr u.attr i && (symbol_order_same t.value u.value i && bool_same t.accept u.accept i)))

pub triple_order_exact : CmpEqualImpliesEq triple_order
triple_order_exact t u h = triple_same t u (sym (triple_order_same t u) ∙ ap is_eq h)

pub triple_order_total : IsTotalOrder triple_order
triple_order_total = triple_laws.total-law
