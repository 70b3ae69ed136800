use Rattle.std.proofs.Common.{◌≡◌, ◌∙◌, ap, ap₂, List, filter, flat_map}
use Rattle.soar_sym.specs.declared.symbol.Sym.{Sym}
use Rattle.defs_soar.specs.declared.preference.Wish.{Wish}
use Rattle.defs_soar.specs.History.{firing_seen}
use Rattle.defs_soar.specs.Results.{named_by, with_each_symbol}
use Rattle.defs_soar.specs.Sorted.{has_symbol}
use Rattle.chunk_results.specs.Held.{held_from}
use Rattle.chunk_results.specs.Told.{first_held, hangs_as_told, is_told_result}
use Rattle.chunk_results.proofs.ToldLemmas.{hanging_is_identifier}
use Rattle.chunk_results.proofs.WalkLemmas.{ends}
use Rattle.chunk_results.proofs.hanging.held_by_results.Goals as goal

pub returns : goal.returns
returns g c = λ s.
    let told = g.L.Leveled.told c.args.before.now.levels.now in
    let goals = c.args.before.now.goals.now in
    let f = firing_seen c.args.before.now.firing.now in
    let hangs = hangs_as_told told goals f in
    let rows = c.args.rows.now in
    let first : List Sym = c.add_first.new.held.order in
    let order : List Sym = c.add_from_rows.new.held.order in
    let is : first ≡ first_held hangs (filter (is_told_result told f.depth) f.made) =
    c.in_ok-add_first.ensures.order
    ∙ ap₂ (λ (o : List Sym) (ws : List Wish). with_each_symbol o (filter hangs (flat_map named_by (filter (is_told_result told f.depth) ws)))) c.new-2.ensures c.as_slice.ensures in
    c.in_ok-add_from_rows.ensures.same s
    ∙ ends hangs rows first order (hanging_is_identifier told goals f) c.in_ok-add_from_rows.ensures.walk s
    ∙ ap (λ l. has_symbol (held_from hangs rows l) s) is
