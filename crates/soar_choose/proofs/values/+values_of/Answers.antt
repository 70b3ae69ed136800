use Rattle.std.proofs.Common.{◌≡◌, ◌∙◌, ◌++◌, List, sym, ap₂, subst, arith, length, ◌/◌}
use Rattle.std.proofs.lemmas.List.{take-append-drop}
use Rattle.soar_sym.specs.declared.symbol.Sym.{Sym}
use Rattle.defs_soar.specs.declared.preference.Preference.{Preference}
use Rattle.soar_choose.specs.Merging.{merged}
use Rattle.soar_choose.specs.Parts.{AreSymbolsKnown}
use Rattle.soar_choose.specs.Rows.{AreKnown}
use Rattle.soar_choose.proofs.MergeLemmas.{values_merged}
use Rattle.soar_choose.proofs.RowLemmas.{known_after, known_before, known_values}
use Rattle.soar_choose.proofs.values.+values_of.Goals as goal

pub values_of-requires : goal.values_of-requires
values_of-requires t c =
    let words = c.args.table.now in let n = length c.args.rows.now / 2 in
    let P : List Preference → Type 0 = AreKnown words in (
      omega (arith, c.decreases, c.if-rows-le-FEW.false, c.split_at.ensures.front_len),
      subst P (sym c.split_at.ensures.front) (known_before words n c.args.rows.now c.requires),
    )

pub values_of-requires-2 : goal.values_of-requires-2
values_of-requires-2 t c =
    let words = c.args.table.now in let n = length c.args.rows.now / 2 in
    let P : List Preference → Type 0 = AreKnown words in (
      omega (arith, c.decreases, c.if-rows-le-FEW.false, c.split_at.ensures.back_len),
      subst P (sym c.split_at.ensures.back) (known_after words n c.args.rows.now c.requires),
    )

pub merged-requires-clause-first : goal.merged-requires-clause-first
merged-requires-clause-first t c =
    let words = c.args.table.now in
    let K : List Preference → Type 0 = AreKnown words in
    let P : List Sym → Type 0 = AreSymbolsKnown words in
    subst P (sym (c.as_slice.ensures.value ∙ c.in_ok-first.ensures))
    (known_values words c.args.kind c.split_at.result.0.now (subst K (sym c.split_at.ensures.front) (known_before words (length c.args.rows.now / 2) c.args.rows.now c.requires)))

pub merged-requires-clause-second : goal.merged-requires-clause-second
merged-requires-clause-second t c =
    let words = c.args.table.now in
    let K : List Preference → Type 0 = AreKnown words in
    let P : List Sym → Type 0 = AreSymbolsKnown words in
    subst P (sym (c.as_slice-2.ensures.value ∙ c.in_ok-second.ensures))
    (known_values words c.args.kind c.split_at.result.1.now (subst K (sym c.split_at.ensures.back) (known_after words (length c.args.rows.now / 2) c.args.rows.now c.requires)))

pub returns : goal.returns
returns t c =
    let words = c.args.table.now in let n = length c.args.rows.now / 2 in
    let P : List Preference → Type 0 = AreKnown words in
    let rows = c.args.rows.now in let front = c.split_at.result.0.now in let back = c.split_at.result.1.now in
    let parts : front ++ back ≡ rows = ap₂ (λ a b. a ++ b) c.split_at.ensures.front c.split_at.ensures.back ∙ take-append-drop n rows in
    c.in_ok-both.ensures ∙ ap₂ (merged words) (c.as_slice.ensures.value ∙ c.in_ok-first.ensures) (c.as_slice-2.ensures.value ∙ c.in_ok-second.ensures)
    ∙ values_merged words c.law.ensures.table c.args.kind rows front back parts c.requires
    (subst P (sym c.split_at.ensures.front) (known_before words n rows c.requires))
    (subst P (sym c.split_at.ensures.back) (known_after words n rows c.requires))
