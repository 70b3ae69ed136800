use Rattle.std.proofs.Common.{◌≡◌, ◌∙◌, ◌++◌, List, sym, ap₂, subst, arith, length, ◌/◌}
use Rattle.std.proofs.lemmas.List.{take-append-drop}
use Rattle.soar_sym.specs.declared.symbol.Triple.{Triple}
use Rattle.soar_settle.specs.Known.{AreTriplesKnown}
use Rattle.soar_settle.specs.Merging.{IsSorting, merged}
use Rattle.soar_settle.proofs.KnownLemmas.{known_from, known_to}
use Rattle.soar_settle.proofs.MergeLemmas.{known_sorted, rising_sorted, sorting_merged}
use Rattle.soar_settle.proofs.TripleOrderLemmas.{two_where_not_rising}
use Rattle.soar_settle.proofs.tagging.ordering.+sorted.Goals as goal

pub returns-then-is_rising : goal.returns-then-is_rising
returns-then-is_rising t c =
    subst (IsSorting c.args.table.now c.args.triples.now) (sym c.in_ok-same.ensures) (rising_sorted c.args.table.now c.args.triples.now (sym c.is_rising.ensures ∙ c.if-is_rising.true))

pub sorted-requires : goal.sorted-requires
sorted-requires t c =
    let words = c.args.table.now in let n = length c.args.triples.now / 2 in
    let P : List Triple → Type 0 = AreTriplesKnown words in (
      omega (arith, c.decreases, two_where_not_rising words c.args.triples.now (sym c.is_rising.ensures ∙ c.if-is_rising.false), c.split_at.ensures.front_len),
      subst P (sym c.split_at.ensures.front) (known_to words n c.args.triples.now c.requires),
    )

pub sorted-requires-2 : goal.sorted-requires-2
sorted-requires-2 t c =
    let words = c.args.table.now in let n = length c.args.triples.now / 2 in
    let P : List Triple → Type 0 = AreTriplesKnown words in (
      omega (arith, c.decreases, two_where_not_rising words c.args.triples.now (sym c.is_rising.ensures ∙ c.if-is_rising.false), c.split_at.ensures.back_len),
      subst P (sym c.split_at.ensures.back) (known_from words n c.args.triples.now c.requires),
    )

pub merged-requires-clause-first : goal.merged-requires-clause-first
merged-requires-clause-first t c =
    let words = c.args.table.now in let P : List Triple → Type 0 = AreTriplesKnown words in
    subst P (sym c.as_slice.ensures)
    (known_sorted words c.law.ensures.table c.split_at.result.0.now c.in_ok-first.first c.in_ok-first.ensures
    (subst P (sym c.split_at.ensures.front) (known_to words (length c.args.triples.now / 2) c.args.triples.now c.requires)))

pub merged-requires-clause-second : goal.merged-requires-clause-second
merged-requires-clause-second t c =
    let words = c.args.table.now in let P : List Triple → Type 0 = AreTriplesKnown words in
    subst P (sym c.as_slice-2.ensures)
    (known_sorted words c.law.ensures.table c.split_at.result.1.now c.in_ok-second.second c.in_ok-second.ensures
    (subst P (sym c.split_at.ensures.back) (known_from words (length c.args.triples.now / 2) c.args.triples.now c.requires)))

pub returns : goal.returns
returns t c =
    let words = c.args.table.now in let P : List Triple → Type 0 = AreTriplesKnown words in
    let n = length c.args.triples.now / 2 in
    let front = c.split_at.result.0.now in let back = c.split_at.result.1.now in
    let parts : front ++ back ≡ c.args.triples.now = ap₂ (λ a b. a ++ b) c.split_at.ensures.front c.split_at.ensures.back ∙ take-append-drop n c.args.triples.now in
    subst (IsSorting words c.args.triples.now)
    (sym (c.in_ok-both.ensures ∙ ap₂ (merged words) c.as_slice.ensures c.as_slice-2.ensures))
    (sorting_merged words c.law.ensures.table c.args.triples.now front back c.in_ok-first.first c.in_ok-second.second parts c.in_ok-first.ensures c.in_ok-second.ensures
    (subst P (sym c.split_at.ensures.front) (known_to words n c.args.triples.now c.requires))
    (subst P (sym c.split_at.ensures.back) (known_from words n c.args.triples.now c.requires)))
