use Rattle.std.proofs.Common.{◌∙◌, ap}
use Rattle.defs_soar.specs.Uses.{maker_of}
use Rattle.firing_records.proofs.MakerLemmas.{maker_in_slot}
use Rattle.firing_records.proofs.makers.maker_of.Goals as goal

pub returns : goal.returns
returns c =
    c.least_of.ensures
    ∙ ap (λ rows. maker_of rows c.args.element.now) (c.as_slice.ensures ∙ c.in_ok-rows.ensures)
    ∙ maker_in_slot c.args.prefs.now.rows c.args.element.now
