use Rattle.std.proofs.Common.{◌∙◌, map}
use Rattle.live_firings.specs.Living.{live_seen}
use Rattle.wave_parts.proofs.TeachingLemmas.{sound_left, spent_left}
use Rattle.wave_parts.proofs.parts.Parts.drop_spent.Goals as goal

pub drop_numbered-requires : goal.drop_numbered-requires
drop_numbered-requires c = c.requires.chains_kept

pub returns-clause-program : goal.returns-clause-program
returns-clause-program c =
    spent_left (map live_seen c.args.gone.now) c.args.self.now c.drop_numbered.new.self c.as_slice.result.now c.requires.numbered
    (c.as_slice.ensures ∙ c.in_ok-numbers.ensures)
    (record { rules_are = c.drop_numbered.ensures.rules; chains_are = c.drop_numbered.ensures.chains; same = c.drop_numbered.ensures.same })

pub returns-clause-sound : goal.returns-clause-sound
returns-clause-sound c =
    sound_left c.args.self.now c.drop_numbered.new.self c.as_slice.result.now c.requires
    (record { rules_are = c.drop_numbered.ensures.rules; chains_are = c.drop_numbered.ensures.chains; same = c.drop_numbered.ensures.same })
