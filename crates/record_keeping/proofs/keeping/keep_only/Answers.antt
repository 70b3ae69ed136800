use Rattle.std.proofs.Common.{◌∙◌, ap}
use Rattle.soar_record.specs.Recorded.{of_numbers, recorded}
use Rattle.record_keeping.proofs.PartLemmas.{makers_left, part_left}
use Rattle.record_keeping.proofs.keeping.keep_only.Goals as goal

pub returns-clause-kept : goal.returns-clause-kept
returns-clause-kept c = c.keep.ensures ∙ ap (λ numbers. of_numbers numbers (recorded c.args.record.now)) c.in_ok-numbers.ensures

pub returns-clause-part : goal.returns-clause-part
returns-clause-part c =
    part_left c.explanations_need_what_they_reach.ensures.numbers c.parts_are_kept.ensures.parts (recorded c.keep.new.self) (recorded c.args.record.now) c.args.roots.now c.numbers_stand_once.ensures (returns-clause-kept c)

pub returns-clause-makers : goal.returns-clause-makers
returns-clause-makers c = makers_left (recorded c.keep.new.self) (recorded c.args.record.now) c.args.roots.now c.numbers_stand_once.ensures (returns-clause-kept c)
