-- What lists hold.
use Rattle.std.proofs.Common.{◌≡◌, ◌∙◌, refl, sym, ap, Bool, true, false, ◌||◌, ◌⊎◌, inl, inr, List, [], ◌∷◌}
use Rattle.soar_sym.specs.declared.symbol.Triple.{Triple}
use Rattle.defs_soar.specs.Laws.{IsIn}
use Rattle.defs_soar.specs.Values.{has_triple_among, triple_eq}
use Rattle.soar_prefs.proofs.SlotLemmas.{triple_itself}
use Rattle.soar_settle.proofs.TripleOrderLemmas.{triple_same}

pub has_member : (triples : List Triple) (t : Triple) → has_triple_among triples t ≡ true → IsIn t triples
has_member [] t h = absurd (cc)
has_member (u ∷ triples) t h = by (has_member triples t) (triple_eq t u) refl h
  where
    by : (has_triple_among triples t ≡ true → IsIn t triples) → (b : Bool) → triple_eq t u ≡ b → (b || has_triple_among triples t) ≡ true → (u ≡ t) ⊎ IsIn t triples
    by later true e k = inl (sym (triple_same t u e))
    by later false e k = inr (later k)

pub member_has : (triples : List Triple) (t : Triple) → IsIn t triples → has_triple_among triples t ≡ true
member_has [] t i = absurd i
member_has (u ∷ triples) t (inl e) = by (triple_eq t u) (ap (triple_eq t) e ∙ triple_itself t)
  where
    by : (b : Bool) → b ≡ true → (b || has_triple_among triples t) ≡ true
    by true k = refl
    by false k = absurd (cc)
member_has (u ∷ triples) t (inr i) = by (triple_eq t u) (member_has triples t i)
  where
    by : (b : Bool) → has_triple_among triples t ≡ true → (b || has_triple_among triples t) ≡ true
    by true k = refl
    by false k = k
