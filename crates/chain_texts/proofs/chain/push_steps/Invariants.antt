use Rattle.std.proofs.Common.{◌≡◌, ◌++◌, drop, flat_map, map}
use Rattle.std.specs.List.{All}
use Rattle.defs_soar.specs.History.{step_seen}
use Rattle.chain_texts.specs.Lines.{step_text}
use Rattle.chain_texts.specs.Shown.{IsStepKnown}
use Rattle.chain_texts.proofs.chain.push_steps.Given as goal

abbrev pub invariant-steps : goal.invariant-steps
invariant-steps l = record {
  known : All (λ s. IsStepKnown l.table (step_seen s)) (drop l.step-index l.steps);
  text : l.out ++ flat_map (step_text l.table) (map step_seen (drop l.step-index l.steps)) ≡ l.initial.out ++ flat_map (step_text l.table) (map step_seen l.steps);
}
