-- The order of symbols is total, and tells the symbols of a table apart.
use Rattle.std.proofs.Common.{◌≡◌, ◌∙◌, ap, ap₂, sym, refl, subst, ℕ, ◌<◌, true, false, true≢false, ℤ, pos, List, [], length, Some, nat_cmp, int_cmp, Ordering, Less, Equal, Greater, is_lt, arith, ◌==◌, ◌&&◌}
use Rattle.std.specs.Cmp.{IsTotalOrder}
use Rattle.std.specs.Cmp.Lexicographic.{slice_cmp}
use Rattle.std.specs.Ordering.{int_eq, on, ordering_then, ordering_reverse, then_cmp}
use Rattle.std.proofs.lemmas.Cmp.{int_cmp_total, nat_cmp_total, nat_list_cmp_total, on_total, then_total, tied_itself}
use Rattle.std.proofs.lemmas.Map.Lookups.{exact_bytes, exact_signed, exact_unsigned}
use Rattle.std.proofs.lemmas.Option.{slice_get-get_or, unwrap_or-slice_get}
use Rattle.soar_sym.specs.Equality.{symbol_eq}
use Rattle.soar_sym.specs.Order.{symbol_cmp}
use Rattle.soar_sym.specs.Words.{Texts, IsTable, IsKnown, place_of, text_of}
use Rattle.soar_sym.specs.declared.symbol.Sym.{Sym}
use Rattle.soar_sym.specs.declared.symbol.Sym.TheVariants.{Ident, Word, Int}

-- ---- equality

pub symbol_itself : (s : Sym) → symbol_eq s s ≡ true
symbol_itself (Ident a m) = ident_itself a m
  where
    ident_itself : (a m : ℕ) → ((a == a) && (m == m)) ≡ true
    ident_itself a m = grind arith
symbol_itself (Word n) = word_itself n
  where
    word_itself : (n : ℕ) → (n == n) ≡ true
    word_itself n = grind arith
symbol_itself (Int z) = int_itself z
  where
    int_itself : (z : ℤ) → int_eq z z ≡ true
    int_itself z = grind arith

-- ---- the order by keys

abbrev rank : Sym → ℕ
rank (Ident letter number) = 0
rank (Int value) = 1
rank (Word n) = 2

abbrev letter_of : Sym → ℕ
letter_of (Ident letter number) = letter
letter_of (Int value) = 0
letter_of (Word n) = 0

abbrev number_of : Sym → ℕ
number_of (Ident letter number) = number
number_of (Int value) = 0
number_of (Word n) = 0

abbrev value_of : Sym → ℤ
value_of (Ident letter number) = pos 0
value_of (Int value) = value
value_of (Word n) = pos 0

abbrev bytes_of : Texts → Sym → List ℕ
bytes_of words (Ident letter number) = []
bytes_of words (Int value) = []
bytes_of words (Word n) = text_of words n

abbrev by_keys : Texts → Sym → Sym → Ordering
by_keys words = then_cmp (on rank nat_cmp) (then_cmp (on letter_of nat_cmp) (then_cmp (on number_of nat_cmp) (then_cmp (on value_of int_cmp) (on (bytes_of words) (slice_cmp nat_cmp)))))

then_equal : (o : Ordering) → o ≡ ordering_then o Equal
then_equal Less = refl
then_equal Equal = refl
then_equal Greater = refl

same_by_keys : (words : Texts) (s t : Sym) → by_keys words s t ≡ symbol_cmp words s t
same_by_keys words (Ident a m) (Ident b n) = ap (ordering_then (nat_cmp a b)) (sym (then_equal (nat_cmp m n)))
same_by_keys words (Ident a m) (Int n) = refl
same_by_keys words (Ident a m) (Word n) = refl
same_by_keys words (Int m) (Ident b n) = refl
same_by_keys words (Int m) (Int n) = sym (then_equal (int_cmp m n))
same_by_keys words (Int m) (Word n) = refl
same_by_keys words (Word m) (Ident b n) = refl
same_by_keys words (Word m) (Int n) = refl
same_by_keys words (Word m) (Word n) = refl

pub symbols_total : (words : Texts) → IsTotalOrder (symbol_cmp words)
symbols_total words = subst IsTotalOrder (λ i s t. same_by_keys words s t i)
    (then_total (on_total rank nat_cmp_total) (then_total (on_total letter_of nat_cmp_total) (then_total (on_total number_of nat_cmp_total)
    (then_total (on_total value_of int_cmp_total) (on_total (bytes_of words) nat_list_cmp_total)))))

-- ---- symbols of a table that tie are one

both_tie : (o p : Ordering) → ordering_then o p ≡ Equal → (o ≡ Equal) × (p ≡ Equal)
both_tie Less p e = cc
both_tie Equal p e = (refl, e)
both_tie Greater p e = cc

placed : (words : Texts) (n : ℕ) → IsTable words → n < length words → place_of words (text_of words n) ≡ Some n
placed words n table lt = table.once n (text_of words n) (slice_get-get_or words n [] lt ∙ ap Some (sym (unwrap_or-slice_get words n [])))

some_same : (m n : ℕ) → Some m ≡ Some n → m ≡ n
some_same m n e = cc

pub tied_are_one : (words : Texts) (s t : Sym) → IsTable words → IsKnown words s → IsKnown words t → symbol_cmp words s t ≡ Equal → s ≡ t
tied_are_one words (Ident a m) (Ident b n) table hs ht e =
    let two = both_tie (nat_cmp a b) (nat_cmp m n) e in
    ap₂ Ident (exact_unsigned a b two.0) (exact_unsigned m n two.1)
tied_are_one words (Int m) (Int n) table hs ht e = ap Int (exact_signed m n e)
tied_are_one words (Word m) (Word n) table hs ht e =
    let texts : text_of words m ≡ text_of words n = exact_bytes (text_of words m) (text_of words n) e in
    ap Word (some_same m n (sym (placed words m table hs) ∙ ap (place_of words) texts ∙ placed words n table ht))
tied_are_one words (Ident a m) (Int n) table hs ht e = cc
tied_are_one words (Ident a m) (Word n) table hs ht e = cc
tied_are_one words (Int m) (Ident b n) table hs ht e = cc
tied_are_one words (Int m) (Word n) table hs ht e = cc
tied_are_one words (Word m) (Ident b n) table hs ht e = cc
tied_are_one words (Word m) (Int n) table hs ht e = cc

-- of two symbols that are not one and the first not before the second, the second comes first
pub comes_before : (words : Texts) (s t : Sym) → IsTable words → IsKnown words s → IsKnown words t → symbol_eq s t ≡ false → is_lt (symbol_cmp words s t) ≡ false
    → symbol_cmp words t s ≡ Less
comes_before words s t table hs ht apart late = by (symbol_cmp words s t) refl late
  where
    by : (o : Ordering) → symbol_cmp words s t ≡ o → is_lt o ≡ false → symbol_cmp words t s ≡ Less
    by Less e k = cc
    by Equal e k = absurd (true≢false (sym (symbol_itself s) ∙ ap (symbol_eq s) (tied_are_one words s t table hs ht e) ∙ apart))
    by Greater e k = (symbols_total words).antisymm t s ∙ ap ordering_reverse e

pub is_before : (o : Ordering) → is_lt o ≡ true → o ≡ Less
is_before Less e = refl
is_before Equal e = cc
is_before Greater e = cc

pub not_before_itself : (words : Texts) (s : Sym) → symbol_cmp words s s ≡ Less → ⊥
not_before_itself words s e = apart (sym (tied_itself (symbols_total words) s) ∙ e)
  where
    apart : Equal ≡ Less → ⊥
    apart k = cc
