use Rattle.std.proofs.Common.{map}
use Rattle.defs_match.specs.Rules.{rule_seen}
use Rattle.wave_parts.specs.Programs.{is_justified}
use Rattle.wave_parts.proofs.TeachingLemmas.{justifications_left, numbers_left, sound_left}
use Rattle.wave_parts.proofs.parts.Parts.drop_justifications.Goals as goal

pub drop_numbered-requires : goal.drop_numbered-requires
drop_numbered-requires c = c.requires.sound.chains_kept

pub returns-clause-program : goal.returns-clause-program
returns-clause-program c =
    justifications_left c.args.self.now c.drop_numbered.new.self c.args.numbers.now c.requires.sound.numbered c.requires.numbers
    (record { rules_are = c.drop_numbered.ensures.rules; chains_are = c.drop_numbered.ensures.chains; same = c.drop_numbered.ensures.same })

pub returns-clause-numbers : goal.returns-clause-numbers
returns-clause-numbers c = numbers_left is_justified (map rule_seen c.args.self.now.rules) c.args.numbers.now c.requires.sound.numbered c.requires.numbers

pub returns-clause-sound : goal.returns-clause-sound
returns-clause-sound c =
    sound_left c.args.self.now c.drop_numbered.new.self c.args.numbers.now c.requires.sound
    (record { rules_are = c.drop_numbered.ensures.rules; chains_are = c.drop_numbered.ensures.chains; same = c.drop_numbered.ensures.same })
