use Rattle.wave_chunk_laws.proofs.StepLaws.{lawful_waves_learn_well}
use Rattle.wave_chunk_laws.proofs.chunks_of_waves_go_again.Goals as goal

-- src/lib.rt:8:1
pub returns : goal.returns
returns c = lawful_waves_learn_well
