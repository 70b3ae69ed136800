-- Symbols are one where their numbers and kinds are.
use Rattle.std.proofs.Common.{◌≡◌, ℤ, Bool, true, false, ◌&&◌, refl, sym, ap, ap₂, ◌∙◌}
use Rattle.std.specs.Ordering.{int_eq}
use Rattle.std.proofs.lemmas.Bool.{and_parts}
use Rattle.soar_sym.specs.Equality.{symbol_eq}
use Rattle.soar_sym.specs.declared.symbol.Sym.TheVariants.{Int}
use Rattle.soar_sym.proofs.KeyLemmas.{symbol_same, symbol_self}
use Rattle.packed_triples.specs.declared.symbol.Kind.{Kind}
use Rattle.packed_triples.specs.declared.symbol.Kind.TheVariants.{Identifier, Name, Integer}
use Rattle.packed_triples.specs.Packed.{IsExact, kind_eq, kind_exact, kind_of, number_of, symbol_at}

kind_self : (a : Kind) → kind_eq a a ≡ true
kind_self Identifier = refl
kind_self Name = refl
kind_self Integer = refl

kind_is : (a b : Kind) → kind_eq a b ≡ true → a ≡ b
kind_is Identifier Identifier h = refl
kind_is Identifier Name h = absurd (cc)
kind_is Identifier Integer h = absurd (cc)
kind_is Name Identifier h = absurd (cc)
kind_is Name Name h = refl
kind_is Name Integer h = absurd (cc)
kind_is Integer Identifier h = absurd (cc)
kind_is Integer Name h = absurd (cc)
kind_is Integer Integer h = refl

number_self : (n : ℤ) → int_eq n n ≡ true
number_self n = symbol_self (Int n)

number_is : (n m : ℤ) → int_eq n m ≡ true → n ≡ m
number_is n m h = ap number_of (symbol_same (Int n) (Int m) h)

two_ways : (a b : Bool) → (a ≡ true → b ≡ true) → (b ≡ true → a ≡ true) → a ≡ b
two_ways true true there back = refl
two_ways true false there back = sym (there refl)
two_ways false true there back = back refl
two_ways false false there back = refl

pub same_symbol : (k : Kind) (n : ℤ) (l : Kind) (m : ℤ) → IsExact k n → IsExact l m → (int_eq n m && kind_eq k l) ≡ symbol_eq (symbol_at k n) (symbol_at l m)
same_symbol k n l m first second = two_ways (int_eq n m && kind_eq k l) (symbol_eq (symbol_at k n) (symbol_at l m)) there back
  where
    there : (int_eq n m && kind_eq k l) ≡ true → symbol_eq (symbol_at k n) (symbol_at l m) ≡ true
    there h =
        let parts = and_parts (int_eq n m) (kind_eq k l) h in
        ap₂ (λ a b. symbol_eq (symbol_at a b) (symbol_at l m)) (kind_is k l parts.1) (number_is n m parts.0) ∙ symbol_self (symbol_at l m)

    back : symbol_eq (symbol_at k n) (symbol_at l m) ≡ true → (int_eq n m && kind_eq k l) ≡ true
    back h =
        let one : symbol_at k n ≡ symbol_at l m = symbol_same (symbol_at k n) (symbol_at l m) h in
        let numbers : n ≡ m = sym first ∙ ap number_of one ∙ second in
        let kinds : k ≡ l = sym (kind_exact k n) ∙ ap kind_of one ∙ kind_exact l m in
        ap₂ (λ a b. int_eq a m && kind_eq b l) numbers kinds ∙ ap₂ (λ a b. a && b) (number_self m) (kind_self l)
