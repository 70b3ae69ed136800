use Rattle.std.proofs.Common.{◌∙◌, ap, map, option_map}
use Rattle.std.specs.Map.{values_of}
use Rattle.defs_match.specs.Rules.{RuleOf, rule_seen}
use Rattle.defs_run.specs.Carrying.{rule_named}
use Rattle.rule_shelf.proofs.NameLemmas.{first_found}
use Rattle.rule_shelf.proofs.rules.Rules.first_named.Goals as goal

pub returns : goal.returns
returns c =
    c.first_number.ensures ∙ first_found c.args.name (map rule_seen (values_of c.self.inside.by_number.entries)) c.self.inside.index c.of_name.result c.self.invariant.indexed c.of_name.ensures
    ∙ ap (λ rules. option_map (λ (rule : RuleOf). rule.number) (rule_named (map rule_seen rules) c.args.name)) c.self.view_is
