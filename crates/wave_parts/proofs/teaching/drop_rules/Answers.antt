use Rattle.std.proofs.Common.{◌∙◌, map, drop_of_length-le, ap, sym, arith}
use Rattle.defs_match.specs.Rules.{rule_seen}
use Rattle.wave_parts.specs.Spent.{without_each}
use Rattle.wave_parts.proofs.SpentLemmas.{each_gone}
use Rattle.wave_parts.proofs.teaching.drop_rules.Goals as goal

pub returns : goal.returns
returns c =
    let whole = c.numbers.invariant in
    sym (ap (without_each (map rule_seen c.numbers.rules)) (drop_of_length-le c.args.numbers.now (omega (arith, c.numbers-test.false)))) ∙ whole ∙ each_gone c.args.numbers.now (map rule_seen c.args.rules.now)
