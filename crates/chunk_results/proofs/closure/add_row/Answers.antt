use Rattle.std.proofs.Common.{◌≡◌, ◌∙◌, ◌++◌, ap, arith, length, take, drop}
use Rattle.std.proofs.lemmas.Result.{on_ok_weaker}
use Rattle.std.specs.List.{prefix_len}
use Rattle.chunk_results.specs.Placed.{is_behind, put_row}
use Rattle.chunk_results.proofs.PlaceLemmas.{placed, within}
use Rattle.chunk_results.proofs.closure.add_row.Goals as goal

pub put-requires : goal.put-requires
put-requires c =
    let words = c.args.table.now in
    omega (arith, within (is_behind words c.args.row) c.as_slice.result.now, c.place-at.ensures, ap length c.as_slice.ensures.value)

pub returns : goal.returns
returns c =
    let words = c.args.table.now in
    let row = c.args.row in
    let rows = c.args.closure.now.items in
    let at : c.place-at.result ≡ prefix_len (is_behind words row) rows = c.place-at.ensures ∙ ap (prefix_len (is_behind words row)) c.as_slice.ensures.value in
    on_ok_weaker c.put.result (λ new. new ∙ ap (λ n. take n rows ++ put_row row (drop n rows)) at ∙ placed words row rows) c.put.ensures
