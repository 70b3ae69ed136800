use Rattle.std.proofs.Common.{◌∙◌, ap, Some}
use Rattle.std.specs.List.{slice_get}
use Rattle.std.specs.Option.{option_map}
use Rattle.defs_soar.specs.declared.firing.Firing.{Firing}
use Rattle.defs_soar.specs.Explanation.{firing_of}
use Rattle.defs_soar.specs.History.{firing_seen}
use Rattle.soar_record.specs.Recorded.{recorded}
use Rattle.soar_record.proofs.RecordLemmas.{found}
use Rattle.soar_record.proofs.record.RecordKeeps.firing.Goals as goal

pub returns-in-Some : goal.returns-in-Some
returns-in-Some c =
    ap (λ (f : Firing). Some (firing_seen f)) c.deref.ensures
    ∙ ap (option_map firing_seen) c.in-Some.ensures.value ∙ found c.args.number c.self.inside.firings.entries c.self.invariant.numbered.own_numbers
    ∙ ap (λ fs. slice_get (firing_of (recorded fs) c.args.number) 0) c.self.view_is

pub returns-in-None : goal.returns-in-None
returns-in-None c =
    ap (option_map firing_seen) c.in-None.ensures.value ∙ found c.args.number c.self.inside.firings.entries c.self.invariant.numbered.own_numbers
    ∙ ap (λ fs. slice_get (firing_of (recorded fs) c.args.number) 0) c.self.view_is
