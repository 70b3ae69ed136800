-- The order of a set's keys.
use Rattle.std.proofs.Common.{◌≡◌, Bool, true, false, cond, ◌&&◌, ◌||◌, List, ap, ap₂, refl, sym, ◌∙◌}
use Rattle.std.specs.declared.cmp.Ordering.{Ordering}
use Rattle.std.specs.declared.cmp.Ordering.TheVariants.{Less, Equal, Greater}
use Rattle.std.specs.List.{list_any}
use Rattle.std.specs.Ordering.{is_eq, bool_cmp, ordering_then}
use Rattle.soar_sym.specs.Equality.{mark_eq}
use Rattle.soar_sym.specs.declared.symbol.Triple.{Triple}
use Rattle.soar_sym.specs.contracts.symbol.TripleOrd.TheImpl.{ghosts}
use Rattle.defs_soar.specs.Values.{has_triple_among, triple_eq}
use Rattle.level_graph.proofs.SymbolLemmas.{symbol_turned}
use Rattle.level_graph.proofs.KeyLemmas.{sym_cmp, cmp_same}

abbrev pub triple_cmp : Triple → Triple → Ordering
triple_cmp = ghosts.cmp

then_same : (x y : Ordering) → is_eq (ordering_then x y) ≡ (is_eq x && is_eq y)
then_same Less y = refl
then_same Equal y = refl
then_same Greater y = refl

mark_same : (a b : Bool) → is_eq (bool_cmp a b) ≡ mark_eq a b
mark_same true true = refl
mark_same true false = refl
mark_same false true = refl
mark_same false false = refl

-- a key is found at an equal triple, and at no other
pub triple_same : (t u : Triple) → is_eq (triple_cmp t u) ≡ triple_eq t u
triple_same t u =
    then_same (sym_cmp t.id u.id) _
    ∙ ap₂ (λ x y. x && y) (cmp_same t.id u.id)
    (then_same (sym_cmp t.attr u.attr) _
    ∙ ap₂ (λ x y. x && y) (cmp_same t.attr u.attr)
    (then_same (sym_cmp t.value u.value) (bool_cmp t.accept u.accept) ∙ ap₂ (λ x y. x && y) (cmp_same t.value u.value) (mark_same t.accept u.accept)))

mark_turned : (a b : Bool) → mark_eq a b ≡ mark_eq b a
mark_turned true true = refl
mark_turned true false = refl
mark_turned false true = refl
mark_turned false false = refl

pub triple_turned : (t u : Triple) → triple_eq t u ≡ triple_eq u t
triple_turned t u = λ k. symbol_turned t.id u.id k && (symbol_turned t.attr u.attr k && (symbol_turned t.value u.value k && mark_turned t.accept u.accept k))

-- whether the set's order finds a key
abbrev pub finds : List Triple → Triple → Bool
finds keys t = list_any (λ u. is_eq (triple_cmp t u)) keys

pub found_same : (keys : List Triple) (t : Triple) → finds keys t ≡ has_triple_among keys t
found_same keys t = ap (λ p. list_any p keys) (λ i u. triple_same t u i)

pub added_same : (old new : List Triple) (triple : Triple) → ((q : Triple) → finds new q ≡ cond (is_eq (triple_cmp triple q)) true (finds old q))
    → (t : Triple) → has_triple_among new t ≡ (triple_eq t triple || has_triple_among old t)
added_same old new triple up t =
    sym (found_same new t) ∙ up t
    ∙ ap₂ (λ a b. cond a true b) (triple_same triple t ∙ triple_turned triple t) (found_same old t)
    ∙ by (triple_eq t triple) (has_triple_among old t)
  where
    by : (a b : Bool) → cond a true b ≡ (a || b)
    by true b = refl
    by false b = refl
