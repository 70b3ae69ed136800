use Rattle.std.proofs.Common.{◌≡◌, ◌-◌}
use Rattle.firing_records.specs.Recorded.{standing}
use Rattle.soar_fire.specs.Growth.{OnlyGrows}
use Rattle.soar_record.specs.Recorded.{recorded as kept_in}
use Rattle.wave_learning.specs.Course.{moment, rounds_of}
use Rattle.wave_learning.specs.Lawful.{IsLawfulCourse}
use Rattle.wave_learning.specs.Seen.{course_of}
use Rattle.wave_learning.proofs.rounds.learn_in_rounds.Given as goal

abbrev pub invariant-rounds : goal.invariant-rounds
invariant-rounds l = record {
  lawful : IsLawfulCourse (standing l.scene.before.now) (kept_in l.scene.past.now) l.scene.on l.scene.local_negations (course_of l.table l.going);
  grown : OnlyGrows l.initial.table l.table;
  rest : rounds_of (moment (standing l.scene.before.now) (kept_in l.scene.past.now) l.scene.on l.scene.local_negations) (l.rounds - l.counter) (course_of l.table l.going)
      ≡ rounds_of (moment (standing l.scene.before.now) (kept_in l.scene.past.now) l.scene.on l.scene.local_negations) l.rounds (course_of l.initial.table l.initial.going);
}
