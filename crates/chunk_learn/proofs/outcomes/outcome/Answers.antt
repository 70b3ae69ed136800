use Rattle.std.proofs.Common.{ap, ◌∙◌, List, flat_map, map}
use Rattle.defs_match.specs.Rules.{rule_seen}
use Rattle.defs_soar.specs.declared.chain.Step.{Step}
use Rattle.defs_soar.specs.CandidateOf.{learned_seen}
use Rattle.defs_soar.specs.ChainIdentifiers.{firing_in}
use Rattle.defs_soar.specs.History.{chain_seen, step_seen}
use Rattle.chunk_learn.specs.Candidates.{depth_of_last}
use Rattle.chunk_learn.proofs.ToldLemmas.{is_learned}
use Rattle.chunk_learn.proofs.outcomes.outcome.Goals as goal

pub returns : goal.returns
returns c = λ words depth deep is.
    let told = c.in_ok-told.told in
    let last = c.in_ok-told.ensures.depth ∙ (c.depth_of-depth.ensures ∙ ap (λ (steps : List Step). depth_of_last 0 (flat_map firing_in (map step_seen steps))) c.as_slice.ensures) in
    is_learned words (chain_seen c.args.chain.now) depth c.args.c.now (map rule_seen c.args.rules.now) c.args.w.now.elements c.args.s.now (learned_seen c.in_ok-found.found)
    (chain_seen told.chain.now) told.depth deep is (ap chain_seen c.in_ok-told.ensures.chain) last c.in_ok-found.ensures
