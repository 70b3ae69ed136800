-- What the sides of a key tell, and how keys compare by them.
use Rattle.std.proofs.Common.{◌≡◌, ℕ, ℤ, refl, sym, ap, ap₂, ◌∙◌, Bool, true, false, cond, ◌&&◌, ◌==◌, List, Option, Some, None}
use Rattle.std.specs.Cmp.{tied_itself}
use Rattle.std.specs.Cmp.Lexicographic.{slice_cmp}
use Rattle.std.specs.Ordering.{int_cmp, is_eq, nat_cmp, ordering_then}
use Rattle.std.specs.declared.cmp.Ordering.{Ordering}
use Rattle.std.specs.declared.cmp.Ordering.TheVariants.{Less, Equal, Greater}
use Rattle.std.proofs.lemmas.Bool.{and_parts}
use Rattle.std.proofs.lemmas.Map.Lookups.{exact_signed}
use Rattle.soar_sym.specs.declared.symbol.Sym.{Sym}
use Rattle.packed_triples.specs.declared.symbol.Kind.{Kind}
use Rattle.packed_triples.specs.declared.symbol.Kind.TheVariants.{Identifier, Name, Integer}
use Rattle.packed_triples.specs.Packed.{kind_of, symbol_at}
use Rattle.node_memory.specs.declared.packed.Side.{Side}
use Rattle.node_memory.specs.declared.symbols.Joined.{Joined}
use Rattle.node_memory.specs.declared.symbols.Symbols.{Symbols}
use Rattle.node_memory.specs.declared.symbols.SymbolKey.{SymbolKey}
use Rattle.node_memory.specs.contracts.packed.SideOrd.TheImpl.Laws as laws
use Rattle.node_memory.specs.Sides.{IsSide, key_at, kind_at, kind_mark, side_cmp, side_eq, side_of, side_total, variable_mark, variable_number}
use Rattle.node_memory.specs.Symbols.{is_of, joined_eq, joined_total, symbol_cmp, symbols_eq, symbols_total, whole_cmp}
use Rattle.node_memory.proofs.SymbolLemmas.{equal_told, joined_itself, joined_told, number_tied, symbols_itself, symbols_told, then_parts}

-- ---- what is told

pub variable_told : (v : Option ℕ) → cond (variable_mark v == 0) None (Some (variable_number v)) ≡ v
variable_told None = refl
variable_told (Some v) = refl

kind_told : (k : Kind) (n : ℤ) → cond (kind_mark k == 0) None (Some (symbol_at (kind_at (kind_mark k)) n)) ≡ Some (symbol_at k n)
kind_told Identifier n = refl
kind_told Name n = refl
kind_told Integer n = refl

pub symbol_told : (s : Sym) (n : ℤ) → symbol_at (kind_of s) n ≡ s → cond (kind_mark (kind_of s) == 0) None (Some (symbol_at (kind_at (kind_mark (kind_of s))) n)) ≡ Some s
symbol_told s n told = kind_told (kind_of s) n ∙ ap (λ x. Some x) told

-- ---- sides that compare equal are one

side_tied : (p q : Side) → side_cmp p q ≡ Equal → p ≡ q
side_tied p q h =
    let a = then_parts (int_cmp p.number q.number) (ordering_then (nat_cmp p.variable q.variable) (ordering_then (nat_cmp p.bound q.bound) (nat_cmp p.kind q.kind))) h in
    let b = then_parts (nat_cmp p.variable q.variable) (ordering_then (nat_cmp p.bound q.bound) (nat_cmp p.kind q.kind)) a.1 in
    let c = then_parts (nat_cmp p.bound q.bound) (nat_cmp p.kind q.kind) b.1 in
    let number = exact_signed p.number q.number a.0 in
    let variable = number_tied p.variable q.variable b.0 in
    let bound = number_tied p.bound q.bound c.0 in
    let kind = number_tied p.kind q.kind c.1 in
    λ i. record { number = number i; variable = variable i; bound = bound i; kind = kind i }

side_told : (p q : Side) → side_eq p q ≡ true → p ≡ q
side_told p q h = side_tied p q (equal_told (side_cmp p q) (sym (laws.matches_eq-law p q) ∙ h))

side_itself : (p : Side) → side_eq p p ≡ true
side_itself p = laws.matches_eq-law p p ∙ ap is_eq (tied_itself side_total p)

-- ---- keys of the same sides

two_ways : (a b : Bool) → (a ≡ true → b ≡ true) → (b ≡ true → a ≡ true) → a ≡ b
two_ways true true there back = refl
two_ways true false there back = sym (there refl)
two_ways false true there back = back refl
two_ways false false there back = refl

-- keys have the same sides where they are of the same variables and of the same that these stand for
same_sides : (p q r t : Side) (tags : List ℕ) → IsSide p → IsSide q → IsSide r → IsSide t → (side_eq p r && side_eq q t) ≡ is_of (key_at r t tags).joined (key_at r t tags).symbols (key_at p q tags)
same_sides p q r t tags ep eq er et = two_ways (side_eq p r && side_eq q t) (is_of (key_at r t tags).joined (key_at r t tags).symbols (key_at p q tags)) there back
  where
    there : (side_eq p r && side_eq q t) ≡ true → is_of (key_at r t tags).joined (key_at r t tags).symbols (key_at p q tags) ≡ true
    there h =
        let parts = and_parts (side_eq p r) (side_eq q t) h in
        ap₂ (λ x y. is_of (key_at r t tags).joined (key_at r t tags).symbols (key_at x y tags)) (side_told p r parts.0) (side_told q t parts.1)
        ∙ ap₂ (λ x y. x && y) (joined_itself (key_at r t tags).joined) (symbols_itself (key_at r t tags).symbols)

    back : is_of (key_at r t tags).joined (key_at r t tags).symbols (key_at p q tags) ≡ true → (side_eq p r && side_eq q t) ≡ true
    back h =
        let parts = and_parts (joined_eq (key_at p q tags).joined (key_at r t tags).joined) (symbols_eq (key_at p q tags).symbols (key_at r t tags).symbols) h in
        let a = joined_told (key_at p q tags).joined (key_at r t tags).joined parts.0 in
        let b = symbols_told (key_at p q tags).symbols (key_at r t tags).symbols parts.1 in
        let id : p ≡ r = sym ep ∙ ap₂ side_of (ap (λ (x : Joined). x.id) a) (ap (λ (x : Symbols). x.id) b) ∙ er in
        let value : q ≡ t = sym eq ∙ ap₂ side_of (ap (λ (x : Joined). x.value) a) (ap (λ (x : Symbols). x.value) b) ∙ et in
        ap₂ (λ x y. side_eq x r && side_eq y t) id value ∙ ap₂ (λ x y. x && y) (side_itself r) (side_itself t)

pub told_by_key : (other k : SymbolKey) (p q r t : Side) (tags more : List ℕ) → key_at p q tags ≡ k → key_at r t more ≡ other → IsSide p → IsSide q → IsSide r → IsSide t
    → (side_eq p r && side_eq q t) ≡ is_of other.joined other.symbols k
told_by_key other k p q r t tags more is its ep eq er et = same_sides p q r t tags ep eq er et ∙ ap₂ (λ (x y : SymbolKey). is_of x.joined x.symbols y) its is

-- keys of the same variables and of the same that they stand for compare by tags
same_front : (p q : Side) (t u : List ℕ) → slice_cmp nat_cmp t u ≡ whole_cmp (key_at p q t) (key_at p q u)
same_front p q t u =
    sym (ap₂ (λ o r. ordering_then o (ordering_then r (slice_cmp nat_cmp t u))) (tied_itself joined_total (key_at p q t).joined) (tied_itself symbols_total (key_at p q t).symbols))

-- keys compare by their sides and then by tags
pub keys_by_sides : (a b : SymbolKey) (p q r s : Side) (t u : List ℕ) → key_at p q t ≡ a → key_at r s u ≡ b → IsSide p → IsSide q → IsSide r → IsSide s
    → ordering_then (side_cmp p r) (ordering_then (side_cmp q s) (slice_cmp nat_cmp t u)) ≡ symbol_cmp a b
keys_by_sides a b p q r s t u first second ep eq er es =
    by (side_cmp p r) refl (side_cmp q s) refl ∙ ap₂ (λ o w. ordering_then o (ordering_then w (whole_cmp (key_at p q t) (key_at r s u)))) (ap₂ side_cmp (sym ep) (sym er)) (ap₂ side_cmp (sym eq) (sym es))
    ∙ ap₂ symbol_cmp first second
  where
    by : (o : Ordering) → side_cmp p r ≡ o → (w : Ordering) → side_cmp q s ≡ w → ordering_then o (ordering_then w (slice_cmp nat_cmp t u)) ≡ ordering_then o (ordering_then w (whole_cmp (key_at p q t) (key_at r s u)))
    by Less h w g = refl
    by Greater h w g = refl
    by Equal h Less g = refl
    by Equal h Greater g = refl
    by Equal h Equal g = same_front p q t u ∙ ap₂ (λ x y. whole_cmp (key_at p q t) (key_at x y u)) (side_tied p r h) (side_tied q s g)
