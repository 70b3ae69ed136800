use Rattle.std.proofs.Common.{◌∙◌, ap, map}
use Rattle.std.specs.Map.{values_of}
use Rattle.defs_match.specs.Rules.{rule_seen}
use Rattle.rule_shelf.specs.Shelf.{alike_numbers}
use Rattle.rule_shelf.proofs.PrintLemmas.{alike_found}
use Rattle.rule_shelf.proofs.rules.Rules.alike.Goals as goal

pub returns : goal.returns
returns c =
    alike_found c.args.fingerprint (map rule_seen (values_of c.self.inside.by_number.entries)) c.self.inside.index c.of_print.result c.self.invariant.indexed c.of_print.ensures.between c.of_print.ensures.ordered
    ∙ ap (λ rules. alike_numbers c.args.fingerprint (map rule_seen rules)) c.self.view_is
