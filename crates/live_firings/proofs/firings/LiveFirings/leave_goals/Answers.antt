use Rattle.std.proofs.Common.{◌∙◌, ap, map}
use Rattle.std.specs.Map.{values_of}
use Rattle.defs_soar.specs.Preferences.{without_firings}
use Rattle.defs_soar.specs.Trimming.{numbers_of}
use Rattle.live_firings.specs.Living.{Firings, live_above, live_from, live_seen}
use Rattle.live_firings.proofs.DropLemmas.{seen_above, seen_numbers}
use Rattle.live_firings.proofs.firings.LiveFirings.leave_goals.Goals as goal

pub returns-clause-rows : goal.returns-clause-rows
returns-clause-rows c =
    let old = c.args.prefs.now in
    c.leave_from.ensures.prefs
    ∙ ap (λ ns. record old { rows = without_firings old.rows ns }) (seen_numbers c.args.depth (values_of c.self.inside.store.rows.entries))
    ∙ ap (λ (f : Firings). record old { rows = without_firings old.rows (numbers_of (live_from c.args.depth (map live_seen f.list))) }) c.self.view_is

pub returns-clause-live : goal.returns-clause-live
returns-clause-live c =
    ap (map live_seen) c.leave_from.ensures.rows ∙ seen_above c.args.depth (values_of c.self.inside.store.rows.entries) ∙ ap (λ (f : Firings). live_above c.args.depth (map live_seen f.list)) c.self.view_is
