use Rattle.std.proofs.Common.{rules, ◌∙◌, ◌<◌, sym, ap, length}
use Rattle.std.proofs.Math.ListN.{set}
use Rattle.std.proofs.lemmas.List.{get_or_default}
use Rattle.defs_soar.specs.Values.{same_triple}
use Rattle.chunk_results.specs.Placed.{lesser_maker}
use Rattle.chunk_results.proofs.PlaceLemmas.{put_same}
use Rattle.chunk_results.proofs.closure.put.Goals as goal

pub returns-then-is_same_triple : goal.returns-then-is_same_triple
returns-then-is_same_triple c =
    let xs = c.args.closure.now.items in
    let at = c.args.at in
    let row = c.args.row in
    let other = c.index.result.now in
    let less : at < length xs = search rules in
    ap (set xs at) (c.lesser_maker.ensures ∙ ap (lesser_maker row) (c.index-then-is_same_triple.ensures ∙ get_or_default xs at c.index-then-is_same_triple.result.now other less))
    ∙ put_same xs at row other less (ap (same_triple row) (sym c.index.ensures) ∙ sym c.is_same_triple.ensures ∙ c.if-is_same_triple.true)
