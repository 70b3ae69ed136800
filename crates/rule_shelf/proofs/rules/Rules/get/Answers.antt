use Rattle.std.proofs.Common.{◌∙◌, ap, map, option_map}
use Rattle.defs_match.specs.Contents.{rule_numbered}
use Rattle.defs_match.specs.Rules.{rule_seen}
use Rattle.rule_shelf.proofs.EntryLemmas.{found}
use Rattle.rule_shelf.proofs.rules.Rules.get.Goals as goal

pub returns : goal.returns
returns c =
    ap (option_map rule_seen) c.get.ensures.value ∙ found c.self.inside.by_number.entries c.args.number c.self.invariant.numbered
    ∙ ap (λ rules. rule_numbered c.args.number (map rule_seen rules)) c.self.view_is
