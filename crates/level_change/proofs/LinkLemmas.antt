-- What a map of links and a map of levels have after a step.
use Rattle.std.proofs.Common.{◌≡◌, ℕ, zero, suc, ◌==◌, ◌&&◌, Bool, true, false, cond, [], ◌∷◌, Option, Some, None, unwrap_or, Result, Ok, Err, IfOk, OnErr, OnOk, refl, sym, ap, ap₂, ◌∙◌, arith}
use Rattle.std.specs.Map.{lookup}
use Rattle.std.specs.Ordering.{is_eq, nat_cmp, ordering_then}
use Rattle.std.specs.declared.cmp.Ordering.{Ordering}
use Rattle.std.specs.declared.cmp.Ordering.TheVariants.{Less, Equal, Greater}
use Rattle.soar_sym.specs.Equality.{symbol_eq}
use Rattle.soar_sym.specs.declared.symbol.Sym.{Sym}
use Rattle.soar_sym.specs.declared.symbol.Sym.TheVariants.{Ident, Word, Int}
use Rattle.level_laws.proofs.SymbolLemmas.{symbol_same}
use Rattle.level_change.specs.Links.{Id, id_of, symbol_of, id_cmp, link_place, Place, Facts, Late, Levels, LateLevels, placed, value_in, level_at, place_cmp, times, Counts, if_any, IsCounted, PutsLink}

pub then_same : (x y : Ordering) → is_eq (ordering_then x y) ≡ (is_eq x && is_eq y)
then_same Less y = refl
then_same Equal y = refl
then_same Greater y = refl

pub nat_same : (m n : ℕ) → is_eq (nat_cmp m n) ≡ (m == n)
nat_same m n = grind arith

pub id_same : (a b : Id) → is_eq (id_cmp a b) ≡ symbol_eq (symbol_of a) (symbol_of b)
id_same a b = then_same (nat_cmp a.0 b.0) (nat_cmp a.1 b.1) ∙ ap₂ (λ c d. c && d) (nat_same a.0 b.0) (nat_same a.1 b.1)

-- the same link
pub link_same : (a b x y : Id) → is_eq (place_cmp (a, b) (x, y)) ≡ (symbol_eq (symbol_of a) (symbol_of x) && symbol_eq (symbol_of b) (symbol_of y))
link_same a b x y = then_same (id_cmp a x) (id_cmp b y) ∙ ap₂ (λ c d. c && d) (id_same a x) (id_same b y)

and_false : (b : Bool) → (b && false) ≡ false
and_false true = refl
and_false false = refl

and_parts : (a b : Bool) → (a && b) ≡ true → (a ≡ true) × (b ≡ true)
and_parts true b h = (refl, h)
and_parts false b h = cc

pub number_of : (n : ℕ) → unwrap_or (if_any n) 0 ≡ n
number_of zero = refl
number_of (suc n) = refl

-- at one place this stands now, and at others what stood there
abbrev pub IsPut : Facts → Late → Late → Place → Option ℕ → Type 0
IsPut base old new p w = (q : Place) → value_in base new q ≡ cond (is_eq (place_cmp p q)) w (value_in base old q)

-- what stands at a place, as the maps tell it
pub value_is : (base : Facts) (late : Late) (q : Place) → unwrap_or (lookup (λ k. is_eq (place_cmp q k)) late) (lookup (λ k. is_eq (place_cmp q k)) base) ≡ value_in base late q
value_is base [] q = refl
value_is base (e ∷ late) q = by (is_eq (place_cmp q e.0)) (value_is base late q)
  where
    by : (b : Bool) → unwrap_or (lookup (λ k. is_eq (place_cmp q k)) late) (lookup (λ k. is_eq (place_cmp q k)) base) ≡ value_in base late q
        → unwrap_or (cond b (Some e.1) (lookup (λ k. is_eq (place_cmp q k)) late)) (lookup (λ k. is_eq (place_cmp q k)) base) ≡ cond b e.1 (value_in base late q)
    by true h = refl
    by false h = h

-- the later map has one value more
pub put_late : (base : Facts) (old new : Late) (p : Place) (w : Option ℕ) → ((q : Place) → lookup (λ k. is_eq (place_cmp q k)) new ≡ cond (is_eq (place_cmp p q)) (Some w) (lookup (λ k. is_eq (place_cmp q k)) old)) → IsPut base old new p w
put_late base old new p w up q = sym (value_is base new q) ∙ ap (λ o. unwrap_or o kept) (up q) ∙ by (is_eq (place_cmp p q)) (value_is base old q)
  where
    kept : Option ℕ
    kept = lookup (λ k. is_eq (place_cmp q k)) base

    by : (b : Bool) → unwrap_or (lookup (λ k. is_eq (place_cmp q k)) old) kept ≡ value_in base old q → unwrap_or (cond b (Some w) (lookup (λ k. is_eq (place_cmp q k)) old)) kept ≡ cond b w (value_in base old q)
    by true h = refl
    by false h = h

pub put_at : (base : Facts) (old new : Late) (from to : Sym) (p : Place) (w : Option ℕ) → link_place (id_of from) (id_of to) ≡ Some p → IsPut base old new p w
    → (x y : Sym) → times base new x y ≡ cond (symbol_eq from x && symbol_eq to y) w (times base old x y)
put_at base old new (Ident l n) (Ident k m) p w is up x y = by x y
  where
    here : ((l, n), (k, m)) ≡ p
    here = ap (λ o. unwrap_or o p) is

    by : (x y : Sym) → times base new x y ≡ cond (symbol_eq (Ident l n) x && symbol_eq (Ident k m) y) w (times base old x y)
    by (Ident a b) (Ident c d) =
        up ((a, b), (c, d))
        ∙ ap (λ q. cond (is_eq (place_cmp q ((a, b), (c, d)))) w (value_in base old ((a, b), (c, d)))) (sym here)
        ∙ ap (λ t. cond t w (value_in base old ((a, b), (c, d)))) (link_same (l, n) (k, m) (a, b) (c, d))
    by (Ident a b) (Word c) = sym (ap (λ t. cond t w None) (and_false (symbol_eq (Ident l n) (Ident a b))))
    by (Ident a b) (Int c) = sym (ap (λ t. cond t w None) (and_false (symbol_eq (Ident l n) (Ident a b))))
    by (Word a) y = refl
    by (Int a) y = refl
put_at base old new (Ident l n) (Word k) p w is up x y = cc
put_at base old new (Ident l n) (Int k) p w is up x y = cc
put_at base old new (Word l) to p w is up x y = cc
put_at base old new (Int l) to p w is up x y = cc

-- a link has another number
pub put_counted : (base : Facts) (old new : Late) (from to : Sym) (w : Option ℕ) (other : ℕ → ℕ) (counts : Counts) → PutsLink old new from to w → w ≡ if_any (other (counts from to)) → IsCounted counts base old
    → IsCounted (λ x y. cond (symbol_eq from x && symbol_eq to y) (other (counts x y)) (counts x y)) base new
put_counted base old new from to w other counts puts is counted x y = puts base x y ∙ by (symbol_eq from x && symbol_eq to y) refl
  where
    here : (symbol_eq from x && symbol_eq to y) ≡ true → counts from to ≡ counts x y
    here same = let p = and_parts (symbol_eq from x) (symbol_eq to y) same in ap (λ a. counts a to) (symbol_same from x p.0) ∙ ap (counts x) (symbol_same to y p.1)

    by : (b : Bool) → (symbol_eq from x && symbol_eq to y) ≡ b → cond b w (times base old x y) ≡ if_any (cond b (other (counts x y)) (counts x y))
    by true e = is ∙ ap (λ n. if_any (other n)) (here e)
    by false e = counted x y

-- an identifier that has a letter and a number is of them
pub symbol_id : (s : Sym) (i : Id) → id_of s ≡ Some i → symbol_of i ≡ s
symbol_id (Ident l n) i is = ap symbol_of (sym (ap (λ o. unwrap_or o i) is))
symbol_id (Word w) i is = cc
symbol_id (Int z) i is = cc

pub if_ok : {T E : Type 0} {P Q : T → Type 0} (r : Result T E) → ((t : T) → P t → Q t) → IfOk r P → IfOk r Q
if_ok (Ok t) f p = f t p
if_ok (Err e) f p = p

pub err_of : {T E P : Type 0} (r : Result T E) → P → OnErr r P
err_of (Ok t) p = tt
err_of (Err e) p = p

pub on_ok : {T E P Q : Type 0} (r : Result T E) → (P → Q) → OnOk r P → OnOk r Q
on_ok (Ok t) f p = f p
on_ok (Err e) f p = p

-- ---- levels

pub set_level : (base : Levels) (old new : LateLevels) (id : Sym) (p : Id) (w : Option ℕ) → id_of id ≡ Some p → IsPut (placed base) (placed old) (placed new) (p, (0, 0)) w → (s : Sym) → level_at base new s ≡ cond (symbol_eq id s) w (level_at base old s)
set_level base old new (Ident l n) p w is up s = by s
  where
    here : (l, n) ≡ p
    here = ap (λ o. unwrap_or o p) is

    and_true : (b : Bool) → (b && true) ≡ b
    and_true true = refl
    and_true false = refl

    by : (s : Sym) → level_at base new s ≡ cond (symbol_eq (Ident l n) s) w (level_at base old s)
    by (Ident k m) =
        up ((k, m), (0, 0))
        ∙ ap (λ q. cond (is_eq (place_cmp (q, (0, 0)) ((k, m), (0, 0)))) w (value_in (placed base) (placed old) ((k, m), (0, 0)))) (sym here)
        ∙ ap (λ t. cond t w (value_in (placed base) (placed old) ((k, m), (0, 0)))) (link_same (l, n) (0, 0) (k, m) (0, 0) ∙ and_true (symbol_eq (Ident l n) (Ident k m)))
    by (Word k) = refl
    by (Int k) = refl
set_level base old new (Word l) p w is up s = cc
set_level base old new (Int l) p w is up s = cc
