use Rattle.std.proofs.Common.{◌∙◌, sym}
use Rattle.cycle_parts.proofs.OutputLemmas.{gives_output}
use Rattle.cycle_parts.proofs.SoundLemmas.{sound_with_output}
use Rattle.cycle_parts.proofs.LawfulLemmas.{lawful_with_output}
use Rattle.cycle_parts.proofs.engine.Engine.give_output.Goals as goal

pub output_changes-requires-clause-now : goal.output_changes-requires-clause-now
output_changes-requires-clause-now g c = c.in_ok-now.ensures.known c.args.self.now.parts.table c.requires.sound.elements_known

pub returns-clause-step : goal.returns-clause-step
returns-clause-step g c =
    gives_output c.args.self.now.parts.settings.watch c.args.self.now.parts c.in_ok-now.now c.in_ok-changes.changes.gone c.in_ok-changes.changes.new c.args.mid_line.now c.say_output.new.mid_line c.args.out.now c.say_output.new.out
    (λ s goals elements. c.in_ok-now.ensures.shown s (goals ∙ sym c.list.ensures.goals) elements) c.in_ok-changes.ensures.gone c.in_ok-changes.ensures.new c.in_ok-say_output.ensures

pub returns-clause-sound : goal.returns-clause-sound
returns-clause-sound g c =
    sound_with_output c.args.self.now.parts c.in_ok-now.now c.requires.sound (c.in_ok-now.ensures.known c.args.self.now.parts.table c.requires.sound.elements_known)

pub returns-clause-lawful : goal.returns-clause-lawful
returns-clause-lawful g c =
    let a = c.args.self.now.parts in
    lawful_with_output a (record a { output = c.in_ok-now.now }) c.requires.lawful (λ s stands. (returns-clause-step g c s stands).stepped)
