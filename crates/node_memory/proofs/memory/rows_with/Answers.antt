use Rattle.std.proofs.Common.{◌≡◌, ◌↔◌, ◌∙◌, sym, ap, subst, flat_map, List}
use Rattle.std.specs.Ordering.{nat_cmp}
use Rattle.std.specs.Cmp.Lexicographic.{slice_cmp}
use Rattle.std.specs.BTreeMap.{get}
use Rattle.std.proofs.lemmas.Result.{IfOk-weaker}
use Rattle.defs_match.specs.Laws.{IsIn}
use Rattle.defs_match.specs.Rows.{Row}
use Rattle.node_memory.specs.Memories.{has, symbols_in, row_found}
use Rattle.node_memory.proofs.MemoryLemmas.{rows_with}
use Rattle.node_memory.proofs.memory.rows_with.Goals as goal

pub returns : goal.returns
returns c =
    IfOk-weaker c.rows_at.result _ _
    (λ v same x.
    let found = get (slice_cmp nat_cmp) c.args.memory.now.rows in
    subst (λ (rs : List Row). IsIn x rs ↔ (has found x × (symbols_in c.args.joined x.bindings ≡ c.args.symbols)))
    (sym (same ∙ ap (flat_map (λ t. row_found t (found t))) c.in_ok-all.ensures))
    (rows_with c.args.memory.now.joined.items found c.args.memory.now.index c.args.joined c.args.symbols c.requires.indexed c.requires.joined x)) c.rows_at.ensures
