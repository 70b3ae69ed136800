use Rattle.std.proofs.Common.{◌≡◌, ◌+◌, ◌∙◌, drop, slice_index_or, sym, ap, arith}
use Rattle.std.specs.Prelude.{length}
use Rattle.std.proofs.lemmas.List.{at_drop_more, at_drop_all}
use Rattle.defs_soar.specs.Preferences.{without_firings}
use Rattle.soar_settle.proofs.RenewalLemmas.{none_left, one_left, fewer_left}
use Rattle.soar_settle.proofs.renewal.retract_all.Goals as goal

pub gone-preserved : goal.gone-preserved
gone-preserved c =
    let gone = c.args.gone.now in
    let i = c.gone.number-index in
    let n = slice_index_or gone i 0 in
    record {
      limit = ap (λ p. p.limit) c.retract.ensures ∙ c.gone.invariant.limit;
      settled = ap (λ p. p.settled) c.retract.ensures ∙ c.gone.invariant.settled;
      rows = ap (λ p. without_firings p.rows (drop (i + 1) gone)) c.retract.ensures
          ∙ one_left c.gone.prefs.rows n (drop (i + 1) gone)
          ∙ sym (at_drop_more (without_firings c.gone.prefs.rows) gone i 0 c.gone-test.true)
          ∙ c.gone.invariant.rows;
    }

pub returns-clause-rows : goal.returns-clause-rows
returns-clause-rows c =
    let rows : c.gone.prefs.rows ≡ without_firings c.args.prefs.now.rows c.args.gone.now =
    sym (none_left c.gone.prefs.rows) ∙ sym (at_drop_all (without_firings c.gone.prefs.rows) c.args.gone.now c.gone.number-index c.gone-test.false) ∙ c.gone.invariant.rows in
    λ k. record { rows = rows k; limit = c.gone.invariant.limit k; settled = c.gone.invariant.settled k }

pub returns-clause-fewer : goal.returns-clause-fewer
returns-clause-fewer c =
    let rows : c.gone.prefs.rows ≡ without_firings c.args.prefs.now.rows c.args.gone.now =
    sym (none_left c.gone.prefs.rows) ∙ sym (at_drop_all (without_firings c.gone.prefs.rows) c.args.gone.now c.gone.number-index c.gone-test.false) ∙ c.gone.invariant.rows in
    omega (arith, ap length rows, fewer_left c.args.prefs.now.rows c.args.gone.now)
