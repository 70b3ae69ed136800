-- The order of names with numbers, and lists of numbers that rise.
use Rattle.std.proofs.Common.{◌≡◌, refl, sym, ◌∙◌, ap, ap₂, ℕ, ◌<◌, Bool, true, false, ◌&&◌, ◌==◌, cond, List, [], ◌∷◌, ◌++◌, arith}
use Rattle.std.specs.BTreeMap.{is_at}
use Rattle.std.specs.BTreeSet.{insert_key}
use Rattle.std.specs.Ordering.{is_eq, match_ordering, nat_cmp}
use Rattle.std.specs.Set.{remove_key}
use Rattle.std.specs.declared.cmp.Ordering.TheVariants.{Greater}
use Rattle.soar_sym.specs.Equality.{symbol_eq}
use Rattle.soar_sym.specs.declared.symbol.Sym.{Sym}
use Rattle.soar_wm.proofs.KeyLemmas.{sym_cmp, cmp_same, nat_same, nat_is, symbol_is, then_same}
use Rattle.rule_shelf.specs.Marks.{place_cmp, print_cmp}

-- ---- names with numbers

pub same_place : (p q : Sym × ℕ) → is_at (place_cmp p) q ≡ (symbol_eq p.0 q.0 && (p.1 == q.1))
same_place p q = then_same (sym_cmp p.0 q.0) (nat_cmp p.1 q.1) ∙ ap₂ (λ x y. x && y) (cmp_same p.0 q.0) (nat_same p.1 q.1)

left : (a b : Bool) → (a && b) ≡ true → a ≡ true
left true b h = refl
left false b h = cc

right : (a b : Bool) → (a && b) ≡ true → b ≡ true
right true b h = h
right false b h = cc

pub place_is : (p q : Sym × ℕ) → is_at (place_cmp p) q ≡ true → p ≡ q
place_is p q h =
    let both : (symbol_eq p.0 q.0 && (p.1 == q.1)) ≡ true = sym (same_place p q) ∙ h in
    let names : p.0 ≡ q.0 = symbol_is p.0 q.0 (left (symbol_eq p.0 q.0) (p.1 == q.1) both) in
    let numbers : p.1 ≡ q.1 = nat_is p.1 q.1 (right (symbol_eq p.0 q.0) (p.1 == q.1) both) in
    λ i. (names i, numbers i)

-- ---- fingerprints with numbers

pub same_print : (p q : ℕ × ℕ) → is_at (print_cmp p) q ≡ ((p.0 == q.0) && (p.1 == q.1))
same_print p q = then_same (nat_cmp p.0 q.0) (nat_cmp p.1 q.1) ∙ ap₂ (λ x y. x && y) (nat_same p.0 q.0) (nat_same p.1 q.1)

pub print_is : (p q : ℕ × ℕ) → is_at (print_cmp p) q ≡ true → p ≡ q
print_is p q h =
    let both : ((p.0 == q.0) && (p.1 == q.1)) ≡ true = sym (same_print p q) ∙ h in
    let prints : p.0 ≡ q.0 = nat_is p.0 q.0 (left (p.0 == q.0) (p.1 == q.1) both) in
    let numbers : p.1 ≡ q.1 = nat_is p.1 q.1 (right (p.0 == q.0) (p.1 == q.1) both) in
    λ i. (prints i, numbers i)

-- ---- numbers

-- all are below this one
abbrev pub KeysBelow : ℕ → List ℕ → Type 0
KeysBelow n [] = Unit {0}
KeysBelow n (k ∷ ks) = (k < n) × KeysBelow n ks

greater : (m n : ℕ) → n < m → nat_cmp m n ≡ Greater
greater m n h = grind arith

unequal_below : (m n : ℕ) → n < m → is_eq (nat_cmp m n) ≡ false
unequal_below m n h = grind arith

itself : (n : ℕ) → is_eq (nat_cmp n n) ≡ true
itself n = grind arith

pub insert_last : (n : ℕ) (ks : List ℕ) → KeysBelow n ks → insert_key nat_cmp ks n ≡ ks ++ n ∷ []
insert_last n [] below = refl
insert_last n (k ∷ ks) below =
    ap (λ o. match_ordering o (n ∷ k ∷ ks) (k ∷ ks) (k ∷ insert_key nat_cmp ks n)) (greater n k below.0) ∙ ap (λ (l : List ℕ). k ∷ l) (insert_last n ks below.1)

pub remove_last : (n : ℕ) (ks : List ℕ) → KeysBelow n ks → remove_key (is_at (nat_cmp n)) (ks ++ n ∷ []) ≡ ks
remove_last n [] below = ap (λ b. cond b [] (n ∷ [])) (itself n)
remove_last n (k ∷ ks) below =
    ap (λ b. cond b (ks ++ n ∷ []) (k ∷ remove_key (is_at (nat_cmp n)) (ks ++ n ∷ []))) (unequal_below n k below.0) ∙ ap (λ (l : List ℕ). k ∷ l) (remove_last n ks below.1)

pub remove_below : (n : ℕ) (ks : List ℕ) → KeysBelow n ks → remove_key (is_at (nat_cmp n)) ks ≡ ks
remove_below n [] below = refl
remove_below n (k ∷ ks) below = ap (λ b. cond b ks (k ∷ remove_key (is_at (nat_cmp n)) ks)) (unequal_below n k below.0) ∙ ap (λ (l : List ℕ). k ∷ l) (remove_below n ks below.1)
