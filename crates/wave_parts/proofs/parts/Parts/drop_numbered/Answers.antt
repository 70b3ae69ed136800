use Rattle.std.proofs.Common.{◌≡◌, ◌∙◌, [], map, length, ap, sym, arith}
use Rattle.std.proofs.lemmas.List.{nil_from_length}
use Rattle.defs_match.specs.Rules.{rule_seen}
use Rattle.wave_parts.specs.Teaching.{without_numbers}
use Rattle.wave_parts.proofs.SpentLemmas.{none_gone}
use Rattle.wave_parts.proofs.parts.Parts.drop_numbered.Goals as goal

pub returns-then-is_empty-clause-rules : goal.returns-then-is_empty-clause-rules
returns-then-is_empty-clause-rules c =
    let rules = map rule_seen c.args.self.now.rules in
    let none : length c.args.numbers.now ≡ 0 = grind (arith, c.is_empty.ensures, c.if-is_empty.true) in
    sym (ap (λ numbers. without_numbers numbers rules) (nil_from_length c.args.numbers.now none) ∙ none_gone rules)
