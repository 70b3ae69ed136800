-- One triple more in a set.
use Rattle.std.proofs.Common.{◌≡◌, ℕ, ◌+◌, ◌<◌, ◌||◌, Bool, true, false, List, length, drop, get_or, refl, sym, ap, ◌∙◌}
use Rattle.std.proofs.lemmas.List.{drop_more}
use Rattle.soar_sym.specs.declared.symbol.Sym.TheVariants.{Ident}
use Rattle.soar_sym.specs.declared.symbol.Triple.{Triple}
use Rattle.defs_soar.specs.Values.{has_triple_among, triple_eq}

abbrev pub no_triple : Triple
no_triple = record { id = Ident 0 0; attr = Ident 0 0; value = Ident 0 0; accept = false }

turned : (a b c : Bool) → ((b || a) || c) ≡ (a || (b || c))
turned true true c = refl
turned true false c = refl
turned false true c = refl
turned false false c = refl

pub one_added : (triples : List Triple) (i : ℕ) (old new : List Triple) (t : Triple) → i < length triples → has_triple_among new t ≡ (triple_eq t (get_or triples i no_triple) || has_triple_among old t)
    → (has_triple_among old t || has_triple_among (drop i triples) t) ≡ has_triple_among triples t
    → (has_triple_among new t || has_triple_among (drop (i + 1) triples) t) ≡ has_triple_among triples t
one_added triples i old new t within added so_far =
    let left : List Triple = drop (i + 1) triples in
    ap (λ b. b || has_triple_among left t) added
    ∙ turned (has_triple_among old t) (triple_eq t (get_or triples i no_triple)) (has_triple_among left t)
    ∙ ap (λ l. has_triple_among old t || has_triple_among l t) (sym (drop_more triples i no_triple within))
    ∙ so_far
