use Rattle.std.proofs.Common.{◌≡◌, List, sym, ◌∙◌, ap, subst}
use Rattle.defs_soar.specs.declared.goal.Goal.{Goal}
use Rattle.defs_soar.specs.declared.preference.Preference.{Preference}
use Rattle.settling_laws.specs.Once.{top_inputs}
use Rattle.soar_prefs.specs.Memory.{PreferenceMemory}
use Rattle.kept_triples.specs.Kept.{HoldsTriples, OwnIs}
use Rattle.settle_changes.specs.Rest.{settled_from}
use Rattle.settle_changes.specs.Stages.{reached_rows, supports}
use Rattle.settle_changes.proofs.StepLemmas.{at_rest, inputs_settled, rows_settled}
use Rattle.settle_changes.proofs.settling.settle_changes.Goals as goal

pub returns-clause-prefs : goal.returns-clause-prefs
returns-clause-prefs c =
    let prefs = c.args.prefs.now in
    let inputs = c.args.inputs.now in
    let same = c.as_slice-goals.ensures in
    let rows = ap (λ (p : PreferenceMemory). p.rows) c.in_ok-ids.ensures.prefs in
    let limit = ap (λ (p : PreferenceMemory). p.limit) c.in_ok-ids.ensures.prefs in
    let top : c.settle_inputs.new.inputs ≡ top_inputs c.args.goals.now (supports prefs.rows inputs) =
    c.in_ok-settle_inputs.ensures.inputs ∙ (λ i. top_inputs (same i) (supports (rows i) inputs)) in
    let left =
    (λ i. reached_rows (same i) (rows i) c.settle_inputs.new.inputs) ∙ rows_settled c.args.goals.now prefs.rows inputs c.settle_inputs.new.inputs top in
    c.in_ok-settle_rows.ensures.prefs ∙ (λ i. record { rows = left i; limit = limit i; settled = left i })

pub returns-clause-inputs : goal.returns-clause-inputs
returns-clause-inputs c =
    let prefs = c.args.prefs.now in
    let inputs = c.args.inputs.now in
    let same = c.as_slice-goals.ensures in
    let rows = ap (λ (p : PreferenceMemory). p.rows) c.in_ok-ids.ensures.prefs in
    inputs_settled c.args.goals.now prefs.rows inputs c.settle_inputs.new.inputs
    (c.in_ok-settle_inputs.ensures.inputs ∙ (λ i. top_inputs (same i) (supports (rows i) inputs)))

pub returns-clause-rest : goal.returns-clause-rest
returns-clause-rest c =
    let goals = c.args.goals.now in
    let prefs = c.args.prefs.now in
    let inputs = c.args.inputs.now in
    let top = c.settle_inputs.new.inputs in
    let k = c.settle_rows.new.kept in
    let now = c.settle_rows.new.prefs.rows in
    let same = c.as_slice-goals.ensures in
    let rows = ap (λ (p : PreferenceMemory). p.rows) c.in_ok-ids.ensures.prefs in
    let tops : top ≡ top_inputs goals (supports prefs.rows inputs) = c.in_ok-settle_inputs.ensures.inputs ∙ (λ i. top_inputs (same i) (supports (rows i) inputs)) in
    let new : now ≡ reached_rows c.as_slice-goals.result.now c.take_up.new.prefs.rows top = ap (λ (p : PreferenceMemory). p.rows) c.in_ok-settle_rows.ensures.prefs in
    let left : now ≡ (settled_from goals prefs.rows inputs).rows =
    new ∙ (λ i. reached_rows (same i) (rows i) top) ∙ rows_settled goals prefs.rows inputs top tops in
    at_rest goals prefs.rows now inputs top k left (inputs_settled goals prefs.rows inputs top tops)
    (
    subst (λ (g : List Goal). HoldsTriples g now top k) same
    (subst (λ (r : List Preference). HoldsTriples c.as_slice-goals.result.now r top k) (sym new) c.in_ok-settle_rows.ensures.holds)
    )
    (subst (λ (g : List Goal). OwnIs g k) same c.in_ok-settle_rows.ensures.own)
