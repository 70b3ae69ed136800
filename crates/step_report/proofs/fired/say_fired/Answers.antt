use Rattle.std.proofs.Common.{[], ◌∷◌, ◌++◌, map, ap, ◌∙◌}
use Rattle.defs_soar.specs.Events.{drops}
use Rattle.defs_soar.specs.Trace.{is_mid_after}
use Rattle.defs_soar.specs.Waves.{text_events}
use Rattle.wave_entries.specs.Entries.{heading_event, held_event}
use Rattle.step_report.proofs.KnownLemmas.{known_first}
use Rattle.step_report.proofs.SayingLemmas.{says_both, says_text}
use Rattle.step_report.proofs.fired.say_fired.Goals as goal

pub say_heading-requires : goal.say_heading-requires
say_heading-requires c = c.requires.0

pub say_wishes-requires : goal.say_wishes-requires
say_wishes-requires c =
    let t = c.args.told.now in rw (c.as_slice.ensures) (known_first c.args.table.now (map held_event t.wishes) (map drops t.dropped ++ text_events t.text) c.requires.1)

pub returns : goal.returns
returns c =
    let watch = c.args.watch in
    let words = c.args.table.now in
    let t = c.args.told.now in
    let text =
    says_text watch words t.text c.say_drops.new.mid_line c.say_text.new.mid_line c.say_drops.new.out c.say_text.new.out
    (c.in_ok-say_text.ensures.out ∙ ap (λ bytes. c.say_drops.new.out ++ bytes) c.as_str.ensures) (c.in_ok-say_text.ensures.mid_line ∙ ap (is_mid_after c.say_drops.new.mid_line) c.as_str.ensures) in
    let under =
    says_both watch words (map drops t.dropped) (text_events t.text)
    c.say_wishes.new.mid_line c.say_drops.new.mid_line c.say_text.new.mid_line c.say_wishes.new.out c.say_drops.new.out c.say_text.new.out
    (rw (c.as_slice-2.ensures) at c.in_ok-say_drops.ensures) text in
    let rest =
    says_both watch words (map held_event t.wishes) (map drops t.dropped ++ text_events t.text)
    c.say_heading.new.mid_line c.say_wishes.new.mid_line c.say_text.new.mid_line c.say_heading.new.out c.say_wishes.new.out c.say_text.new.out
    (rw (c.as_slice.ensures) at c.in_ok-say_wishes.ensures) under in
    says_both watch words (heading_event t.heading ∷ []) (map held_event t.wishes ++ (map drops t.dropped ++ text_events t.text))
    c.args.mid_line.now c.say_heading.new.mid_line c.say_text.new.mid_line c.args.out.now c.say_heading.new.out c.say_text.new.out
    c.in_ok-say_heading.ensures rest
