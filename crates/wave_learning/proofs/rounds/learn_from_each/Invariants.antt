use Rattle.std.proofs.Common.{◌≡◌, drop}
use Rattle.firing_records.specs.Recorded.{standing}
use Rattle.soar_fire.specs.Growth.{OnlyGrows}
use Rattle.soar_record.specs.Recorded.{recorded as kept_in}
use Rattle.wave_learning.specs.Course.{from_each, moment}
use Rattle.wave_learning.specs.Lawful.{IsLawfulCourse}
use Rattle.wave_learning.specs.Seen.{course_of}
use Rattle.wave_learning.proofs.rounds.learn_from_each.Given as goal

abbrev pub invariant-numbers : goal.invariant-numbers
invariant-numbers l = record {
  lawful : IsLawfulCourse (standing l.scene.before.now) (kept_in l.scene.past.now) l.scene.on l.scene.local_negations (course_of l.table l.going);
  grown : OnlyGrows l.initial.table l.table;
  rest : from_each (moment (standing l.scene.before.now) (kept_in l.scene.past.now) l.scene.on l.scene.local_negations) (drop l.number-index l.numbers) (course_of l.table l.going)
      ≡ from_each (moment (standing l.scene.before.now) (kept_in l.scene.past.now) l.scene.on l.scene.local_negations) l.numbers (course_of l.initial.table l.initial.going);
}
