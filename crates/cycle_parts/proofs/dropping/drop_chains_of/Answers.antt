use Rattle.std.proofs.Common.{◌<◌, ◌++◌, Bool, length, map, filter, not, take, drop, get_or, ap, sym, ◌∙◌, arith}
use Rattle.std.proofs.lemmas.List.Edits.{length-remove}
use Rattle.defs_match.specs.Rules.{rule_seen}
use Rattle.defs_soar.specs.Agents.{Learnt}
use Rattle.decision_parts.specs.Hands.{learned_rule_seen}
use Rattle.decision_parts.specs.LearnedRule.{LearnedRule}
use Rattle.cycle_parts.specs.Dropping.{is_of_name}
use Rattle.cycle_parts.proofs.ListLemmas.{removed_next}
use Rattle.cycle_parts.proofs.dropping.drop_chains_of.Goals as goal

pub chains-preserved-then-is_of_name : goal.chains-preserved-then-is_of_name
chains-preserved-then-is_of_name c =
    let within : c.chains.at < length c.chains.chains = omega (arith, c.len.ensures, c.chains-test.true) in
    let of_name : LearnedRule → Bool = λ learned. is_of_name c.args.name (map rule_seen c.args.rules.now) learned.rule in
    let p : Learnt → Bool = λ learnt. not (is_of_name c.args.name (map rule_seen c.args.rules.now) learnt.rule) in
    record {
      within = rw c.remove.ensures.rest (omega (arith, length-remove c.chains.chains c.chains.at within));
      kept = ap (λ chains. map learned_rule_seen (take c.chains.at chains) ++ filter p (map learned_rule_seen (drop c.chains.at chains))) c.remove.ensures.rest
          ∙ removed_next learned_rule_seen p c.chains.chains c.chains.at c.index-as_slice-at.result within
          (c.index-as_slice-at.is ∙ ap (λ chains. get_or chains c.chains.at c.index-as_slice-at.result) c.as_slice.ensures) (ap not (ap of_name c.index-as_slice-at.is ∙ sym c.is_of_name.ensures ∙ c.if-is_of_name.true))
          ∙ c.chains.invariant.kept;
    }
