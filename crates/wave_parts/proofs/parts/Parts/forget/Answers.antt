use Rattle.std.proofs.Common.{◌∙◌}
use Rattle.wave_parts.proofs.ForgettingLemmas.{sound_left, stands_left}
use Rattle.wave_parts.proofs.parts.Parts.forget.Goals as goal

pub keep_only-requires : goal.keep_only-requires
keep_only-requires c = c.requires.sound.makers_earlier

pub returns-clause-stands : goal.returns-clause-stands
returns-clause-stands c =
    stands_left c.args.self.now c.keep_only.new.record c.as_slice.result.now (c.as_slice.ensures ∙ c.in_ok-roots.ensures) c.in_ok-keep_only.ensures.part c.in_ok-keep_only.ensures.makers

pub returns-clause-sound : goal.returns-clause-sound
returns-clause-sound c = sound_left c.args.self.now c.keep_only.new.record c.as_slice.result.now c.in_ok-keep_only.ensures.kept c.requires.sound
