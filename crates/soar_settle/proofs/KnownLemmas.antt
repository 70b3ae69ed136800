-- Parts of triples that are known are known.
use Rattle.std.proofs.Common.{refl, subst, inl, inr, take, ℕ, zero, suc, ◌<◌, List, [], ◌∷◌, length, get_or, drop}
use Rattle.std.proofs.lemmas.List.{drop_more}
use Rattle.soar_sym.specs.Words.{Texts}
use Rattle.soar_sym.specs.declared.symbol.Triple.{Triple}
use Rattle.defs_soar.specs.Laws.{IsIn}
use Rattle.soar_settle.specs.Known.{AreTriplesKnown}
use Rattle.soar_settle.specs.Tagging.{IsTripleKnown}
use Rattle.soar_settle.proofs.TripleOrderLemmas.{no_triple}

pub known_from : (words : Texts) (at : ℕ) (triples : List Triple) → AreTriplesKnown words triples → AreTriplesKnown words (drop at triples)
known_from words zero triples known = known
known_from words (suc at) [] known = tt
known_from words (suc at) (t ∷ triples) known = known_from words at triples known.1

pub known_at : (words : Texts) (kept : List Triple) (at : ℕ) → at < length kept → AreTriplesKnown words kept → IsTripleKnown words (get_or kept at no_triple)
known_at words kept at less known =
    let P : List Triple → Type 0 = AreTriplesKnown words in (subst P (drop_more kept at no_triple less) (known_from words at kept known)).0

pub known_each : (words : Texts) (triples : List Triple) → ((t : Triple) → IsIn t triples → IsTripleKnown words t) → AreTriplesKnown words triples
known_each words [] known = tt
known_each words (t ∷ triples) known = (known t (inl refl), known_each words triples (λ u i. known u (inr i)))

pub known_in : (words : Texts) (triples : List Triple) (t : Triple) → AreTriplesKnown words triples → IsIn t triples → IsTripleKnown words t
known_in words [] t known i = absurd i
known_in words (u ∷ triples) t known (inl q) = let P : Triple → Type 0 = IsTripleKnown words in subst P q known.0
known_in words (u ∷ triples) t known (inr i) = known_in words triples t known.1 i

pub known_to : (words : Texts) (at : ℕ) (triples : List Triple) → AreTriplesKnown words triples → AreTriplesKnown words (take at triples)
known_to words zero triples known = tt
known_to words (suc at) [] known = tt
known_to words (suc at) (t ∷ triples) known = (known.0, known_to words at triples known.1)
