-- Parts of known triples, and those that are not among others.
use Rattle.std.proofs.Common.{◌≡◌, Bool, true, false, cond, not, List, [], ◌∷◌, map, filter, Result, Ok, Err, sym, ap, subst}
use Rattle.std.specs.Result.{IfOk}
use Rattle.soar_sym.specs.Words.{Texts}
use Rattle.soar_sym.specs.declared.symbol.Triple.{Triple}
use Rattle.soar_wm.specs.declared.element.Element.{Element}
use Rattle.soar_wm.specs.WorkingMemory.{triple_of}
use Rattle.defs_soar.specs.Cycle.{without_triples}
use Rattle.defs_soar.specs.Values.{has_triple_among}
use Rattle.settling_laws.proofs.FilterLemmas.{filter_same}
use Rattle.soar_settle.specs.Known.{AreElementsKnown, AreTriplesKnown}

-- what is the same among others goes in the same way
pub without_same : (others same triples : List Triple) → ((t : Triple) → has_triple_among others t ≡ has_triple_among same t) → without_triples others triples ≡ without_triples same triples
without_same others same triples e =
    filter_same (λ t. not (has_triple_among others t)) (λ t. not (has_triple_among same t)) triples (λ t. ap not (e t))

pub known_filter : (words : Texts) (p : Triple → Bool) (triples : List Triple) → AreTriplesKnown words triples → AreTriplesKnown words (filter p triples)
known_filter words p [] known = tt
known_filter words p (t ∷ triples) known = by (p t) (known_filter words p triples known.1)
  where
    by : (b : Bool) → AreTriplesKnown words (filter p triples) → AreTriplesKnown words (cond b (t ∷ filter p triples) (filter p triples))
    by true rest = (known.0, rest)
    by false rest = rest

-- triples of some of the elements
pub known_shown : (words : Texts) (p : Element → Bool) (elements : List Element) → AreElementsKnown words elements → AreTriplesKnown words (map triple_of (filter p elements))
known_shown words p [] known = tt
known_shown words p (e ∷ elements) known = by (p e) (known_shown words p elements known.1)
  where
    by : (b : Bool) → AreTriplesKnown words (map triple_of (filter p elements)) → AreTriplesKnown words (map triple_of (cond b (e ∷ filter p elements) (filter p elements)))
    by true rest = (known.0, rest)
    by false rest = rest

-- an answer that is known triples
pub known_answer : {E : Type 0} (words : Texts) (result : Result (List Triple) E) (triples : List Triple) → IfOk result (λ out. out ≡ triples) → AreTriplesKnown words triples
    → IfOk result (λ out. AreTriplesKnown words out)
known_answer words (Ok out) triples is known = subst (AreTriplesKnown words) (sym is) known
known_answer words (Err e) triples is known = tt
