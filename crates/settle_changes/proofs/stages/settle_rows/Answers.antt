use Rattle.std.proofs.Common.{◌≡◌, not, List, filter, is_some, sym, ◌∙◌, ap, subst}
use Rattle.soar_sym.specs.declared.symbol.Triple.{Triple}
use Rattle.defs_soar.specs.declared.preference.Preference.{Preference}
use Rattle.soar_prefs.specs.Memory.{CoversRows, PreferenceMemory}
use Rattle.kept_triples.specs.Kept.{HoldsTriples, IsCovered, level_in_kept}
use Rattle.settle_changes.specs.Leaving.{rows_without}
use Rattle.settle_changes.specs.Stages.{reached_rows}
use Rattle.settle_changes.proofs.StepLemmas.{rows_covered, rows_left}
use Rattle.settle_changes.proofs.stages.settle_rows.Goals as goal

pub returns-clause-prefs : goal.returns-clause-prefs
returns-clause-prefs c =
    let goals = c.args.goals.now in
    let prefs = c.args.prefs.now in
    let inputs = c.args.inputs.now in
    let k0 = c.args.kept.now in
    let ids : c.as_slice.result.now ≡ filter (λ id. not (is_some (level_in_kept k0 id))) c.args.ids.now = c.as_slice.ensures ∙ c.in_ok-ids.ensures in
    let left : c.drop_rows.new.prefs.rows ≡ reached_rows goals prefs.rows inputs =
    ap (λ (p : PreferenceMemory). p.rows) c.drop_rows.ensures ∙ ap (rows_without prefs.rows) ids
    ∙ rows_left c.kept_levels_are_levels.ensures goals prefs.rows inputs c.args.ids.now k0 c.requires.state.holds c.requires.state.reached in
    let limit = ap (λ (p : PreferenceMemory). p.limit) c.drop_rows.ensures in
    c.in_ok-gone.ensures.ok ∙ (λ i. record { rows = left i; limit = limit i; settled = left i })

pub returns-clause-holds : goal.returns-clause-holds
returns-clause-holds c =
    let goals = c.args.goals.now in
    let prefs = c.args.prefs.now in
    let inputs = c.args.inputs.now in
    let k0 = c.args.kept.now in
    let k = c.reconsider.new.self in
    let ids : c.as_slice.result.now ≡ filter (λ id. not (is_some (level_in_kept k0 id))) c.args.ids.now = c.as_slice.ensures ∙ c.in_ok-ids.ensures in
    let left : c.drop_rows.new.prefs.rows ≡ reached_rows goals prefs.rows inputs =
    ap (λ (p : PreferenceMemory). p.rows) c.drop_rows.ensures ∙ ap (rows_without prefs.rows) ids
    ∙ rows_left c.kept_levels_are_levels.ensures goals prefs.rows inputs c.args.ids.now k0 c.requires.state.holds c.requires.state.reached in
    let taken : c.take_changes.new.self.rows ≡ c.drop_rows.new.prefs.rows = ap (λ (p : PreferenceMemory). p.rows) c.in_ok-gone.ensures.ok in
    let before : c.drop_rows.new.prefs.settled ≡ prefs.rows = ap (λ (p : PreferenceMemory). p.settled) c.drop_rows.ensures ∙ c.requires.settled in
    let rows : CoversRows c.in_ok-gone.gone prefs.rows c.drop_rows.new.prefs.rows =
    subst (λ (r : List Preference). CoversRows c.in_ok-gone.gone r c.drop_rows.new.prefs.rows) before c.in_ok-gone.ensures.covers in
    let covers : IsCovered goals prefs.rows inputs goals c.take_changes.new.self.rows inputs c.as_slice-2.result.now =
    subst (λ (l : List Triple). IsCovered goals prefs.rows inputs goals c.take_changes.new.self.rows inputs l) (sym c.as_slice-2.ensures)
    (
    rows_covered goals prefs.rows c.take_changes.new.self.rows inputs c.in_ok-gone.gone
    (subst (CoversRows c.in_ok-gone.gone prefs.rows) (sym taken) rows)
    ) in
    subst (λ (r : List Preference). HoldsTriples goals r inputs k) (taken ∙ left)
    (c.in_ok-reconsider.ensures.holds goals prefs.rows inputs c.requires.state.holds covers)
