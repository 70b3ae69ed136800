use Rattle.std.proofs.Common.{◌+◌, ◌∙◌, drop, get_or, sym, ap}
use Rattle.std.proofs.lemmas.List.{at_drop_more, at_drop_all}
use Rattle.soar_prefs.specs.Memory.{without_triple}
use Rattle.soar_settle.specs.Renewal.{not_rejected}
use Rattle.soar_settle.proofs.RenewalLemmas.{no_row, none_rejected, one_rejected, not_one_rejected}
use Rattle.soar_settle.proofs.renewal.reject_all.Goals as goal
use Rattle.soar_settle.proofs.renewal.reject_all.Goals.{then-is_reject_now, else-is_reject_now}

pub made-preserved : goal.made-preserved
made-preserved c =
    let made = c.args.made.now in
    let i = c.made.row-index in
    let r = get_or made i no_row in
    let step = at_drop_more (λ l. not_rejected l c.made.prefs.rows) made i no_row c.made-test.true in
    elim c.if-is_reject_now.branch [
      | then-is_reject_now w ↦ record {
        limit = ap (λ p. p.limit) (w.prefs-is ∙ w.reject_now.ensures) ∙ c.made.invariant.limit;
        settled = ap (λ p. p.settled) (w.prefs-is ∙ w.reject_now.ensures) ∙ c.made.invariant.settled;
        rows = ap (λ p. not_rejected (drop (i + 1) made) p.rows) (w.prefs-is ∙ w.reject_now.ensures)
            ∙ ap (λ t. not_rejected (drop (i + 1) made) (without_triple c.made.prefs.rows t)) w.triple_of.ensures
            ∙ one_rejected r (drop (i + 1) made) c.made.prefs.rows (sym c.is_reject_now.ensures ∙ w.if-is_reject_now.true) ∙ sym step ∙ c.made.invariant.rows;
      }
      | else-is_reject_now w ↦ record {
        limit = ap (λ p. p.limit) w.prefs-is ∙ c.made.invariant.limit;
        settled = ap (λ p. p.settled) w.prefs-is ∙ c.made.invariant.settled;
        rows = ap (λ p. not_rejected (drop (i + 1) made) p.rows) w.prefs-is ∙ not_one_rejected r (drop (i + 1) made) c.made.prefs.rows (sym c.is_reject_now.ensures ∙ w.if-is_reject_now.false) ∙ sym step ∙ c.made.invariant.rows;
      }
    ]

pub returns : goal.returns
returns c =
    let rows = sym (none_rejected c.made.prefs.rows) ∙ sym (at_drop_all (λ l. not_rejected l c.made.prefs.rows) c.args.made.now c.made.row-index c.made-test.false) ∙ c.made.invariant.rows in
    λ k. record { rows = rows k; limit = c.made.invariant.limit k; settled = c.made.invariant.settled k }
