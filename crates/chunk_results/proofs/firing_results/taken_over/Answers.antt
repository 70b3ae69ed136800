use Rattle.std.proofs.Common.{◌≡◌, ◌∙◌, ap, ap₂, List, map}
use Rattle.std.proofs.lemmas.Result.{IfOk-weaker}
use Rattle.soar_sym.specs.declared.symbol.Sym.{Sym}
use Rattle.defs_soar.specs.declared.goal.Goal.{Goal}
use Rattle.defs_soar.specs.declared.preference.Preference.{Preference}
use Rattle.defs_soar.specs.History.{firing_seen}
use Rattle.defs_soar.specs.Results.{goes_over, rows_seen}
use Rattle.defs_soar.specs.Sorted.{has_symbol}
use Rattle.chunk_results.specs.Held.{AreSame, held_as_told}
use Rattle.chunk_results.specs.Told.{goes_as_told}
use Rattle.chunk_results.proofs.ToldLemmas.{flags_same}
use Rattle.chunk_results.proofs.firing_results.taken_over.Goals as goal

pub returns : goal.returns
returns g c = λ before is tells.
    let told = g.L.Leveled.told c.args.levels.now in
    let goals = c.args.goals.now in
    let f = firing_seen c.args.firing.now in
    let rows = c.args.rows.now in
    let held : List Sym = c.in_ok-held.held in
    let seen : c.in_ok-seen.seen ≡ rows_seen rows f = c.in_ok-seen.ensures ∙ ap (λ rs. rows_seen rs f) c.as_slice-2.ensures in
    let same : AreSame held (held_as_told told goals f (rows_seen rows f)) = λ s. c.in_ok-held.ensures s ∙ ap₂ (λ (gs : List Goal) (rs : List Preference). has_symbol (held_as_told told gs f rs) s) c.as_slice.ensures (c.as_slice-3.ensures ∙ seen) in
    IfOk-weaker c.flags_of.result (λ flags. flags ≡ map (goes_as_told told f.depth held) f.made) (λ flags. flags ≡ map (goes_over before rows f) f.made)
    (λ flags e. e ∙ flags_same told before goals is tells f rows held same)
    c.flags_of.ensures
