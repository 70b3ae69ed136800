use Rattle.std.proofs.Common.{◌∙◌, ap}
use Rattle.dependency_tables.specs.Tables.{all_tags}
use Rattle.wave_tests.proofs.DoubtLemmas.{of_three}
use Rattle.wave_tests.proofs.trimming.tags_of.Goals as goal

pub returns : goal.returns
returns c = of_three c.in_ok-depends.depends c.add.new.self c.as_slice.result.now c.args.tags.now c.in_ok-depends.ensures (ap all_tags c.as_slice.ensures ∙ c.in_ok-found.ensures) c.in_ok-add.ensures
