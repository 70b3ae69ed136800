use Rattle.std.proofs.Common.{◌≡◌, ◌∙◌, ◌++◌, sym, ap, ap₂, subst, List}
use Rattle.soar_sym.specs.declared.symbol.Sym.{Sym}
use Rattle.defs_soar.specs.declared.goal.Goal.{Goal}
use Rattle.defs_soar.specs.declared.preference.Preference.{Preference}
use Rattle.defs_soar.specs.History.{firing_seen}
use Rattle.defs_soar.specs.Results.{accepted_for, each_triple_once, rows_seen}
use Rattle.defs_soar.specs.Sorted.{has_symbol}
use Rattle.chunk_results.specs.Held.{AreSame, held_as_told}
use Rattle.chunk_results.specs.Reached.{AreRowsKnown}
use Rattle.chunk_results.proofs.PlaceLemmas.{known_seen}
use Rattle.chunk_results.proofs.ToldLemmas.{results_same}
use Rattle.chunk_results.proofs.firing_results.results.Goals as goal

pub closure_of-requires : goal.closure_of-requires
closure_of-requires g c =
    let f = firing_seen c.args.firing.now in
    let P : List Preference → Type 0 = AreRowsKnown c.args.table.now in
    subst P (sym (c.as_slice-4.ensures ∙ c.in_ok-seen.ensures ∙ ap (λ rs. rows_seen rs f) c.as_slice-2.ensures)) (known_seen c.args.table.now f c.args.rows.now c.requires.rows c.requires.made)

pub returns : goal.returns
returns g c = λ before is tells.
    let told = g.L.Leveled.told c.args.levels.now in
    let goals = c.args.goals.now in
    let f = firing_seen c.args.firing.now in
    let rows = c.args.rows.now in
    let words = c.args.table.now in
    let held : List Sym = c.in_ok-held.held in
    let seen : c.in_ok-seen.seen ≡ rows_seen rows f = c.in_ok-seen.ensures ∙ ap (λ rs. rows_seen rs f) c.as_slice-2.ensures in
    let same : AreSame held (held_as_told told goals f (rows_seen rows f)) = λ s. c.in_ok-held.ensures s ∙ ap₂ (λ (gs : List Goal) (rs : List Preference). has_symbol (held_as_told told gs f rs) s) c.as_slice.ensures (c.as_slice-3.ensures ∙ seen) in
    c.in_ok-extend_from_slice.ensures.ok
    ∙ ap₂ (λ xs ys. xs ++ ys) c.in_ok-found.ensures (c.as_slice-5.ensures ∙ c.in_ok-closure.ensures ∙ ap (λ rs. each_triple_once words (accepted_for rs held)) (c.as_slice-4.ensures ∙ seen))
    ∙ results_same told before goals is tells f words rows held same
