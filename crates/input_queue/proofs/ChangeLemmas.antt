-- Changes of known triples leave known triples.
use Rattle.std.proofs.Common.{◌≡◌, Bool, true, false, cond, not, List, [], ◌∷◌, ◌++◌, map, filter, sym, subst}
use Rattle.soar_sym.specs.Words.{Texts}
use Rattle.soar_sym.specs.declared.symbol.Triple.{Triple}
use Rattle.defs_soar.specs.Cycle.{with_change, with_changes}
use Rattle.defs_soar.specs.Values.{has_triple_among, triple_eq}
use Rattle.soar_settle.specs.Known.{AreTriplesKnown}
use Rattle.input_queue.specs.declared.queued.Queued.{Queued}
use Rattle.input_queue.specs.Seen.{queued_seen, triple_queued}

known_append : (words : Texts) (xs ys : List Triple) → AreTriplesKnown words xs → AreTriplesKnown words ys → AreTriplesKnown words (xs ++ ys)
known_append words [] ys known more = more
known_append words (t ∷ xs) ys known more = (known.0, known_append words xs ys known.1 more)

known_filter : (words : Texts) (p : Triple → Bool) (triples : List Triple) → AreTriplesKnown words triples → AreTriplesKnown words (filter p triples)
known_filter words p [] known = tt
known_filter words p (t ∷ triples) known = by (p t) (known_filter words p triples known.1)
  where
    by : (b : Bool) → AreTriplesKnown words (filter p triples) → AreTriplesKnown words (cond b (t ∷ filter p triples) (filter p triples))
    by true rest = (known.0, rest)
    by false rest = rest

-- of inputs and of one triple that are known
known_change : (words : Texts) (inputs : List Triple) (q : Queued) → AreTriplesKnown words inputs → AreTriplesKnown words (triple_queued q ∷ []) → AreTriplesKnown words (with_change inputs (queued_seen q))
known_change words inputs q known more = by q.adds (has_triple_among inputs q.triple)
  where
    by : (adds there : Bool) → AreTriplesKnown words (cond adds (cond there inputs (inputs ++ q.triple ∷ [])) (filter (λ t. not (triple_eq t q.triple)) inputs))
    by true true = known
    by true false = known_append words inputs (q.triple ∷ []) known more
    by false there = known_filter words (λ t. not (triple_eq t q.triple)) inputs known

known_changes : (words : Texts) (inputs : List Triple) (queue : List Queued) → AreTriplesKnown words inputs → AreTriplesKnown words (map triple_queued queue)
    → AreTriplesKnown words (with_changes inputs (map queued_seen queue))
known_changes words inputs [] known more = known
known_changes words inputs (q ∷ queue) known more = known_changes words (with_change inputs (queued_seen q)) queue (known_change words inputs q known (more.0, tt)) more.1

-- what is the changed inputs
pub known_changed : (words : Texts) (inputs : List Triple) (queue : List Queued) (changed : List Triple) → changed ≡ with_changes inputs (map queued_seen queue)
    → AreTriplesKnown words inputs → AreTriplesKnown words (map triple_queued queue) → AreTriplesKnown words changed
known_changed words inputs queue changed is known more = subst (AreTriplesKnown words) (sym is) (known_changes words inputs queue known more)
