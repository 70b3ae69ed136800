use Rattle.std.proofs.Common.{◌∙◌, ap, map, subst, sym, refl}
use Rattle.std.specs.Map.{values_of}
use Rattle.defs_match.specs.Rules.{rule_seen}
use Rattle.cycle_parts.specs.Retelling.{AreEachNew, with_each_rule}
use Rattle.cycle_parts.proofs.RetellingLemmas.{later_new, later_whole}
use Rattle.cycle_parts.proofs.retelling.take_up.Goals as goal

pub rules-init : goal.rules-init
rules-init g c =
    let held = g.M.Matcher.rules c.args.matcher.now in
    let rules = map rule_seen c.args.rules.now in
    let given = ap (λ later. map rule_seen (values_of later)) c.into_iter-rule-iterator.ensures.into_iter_gives ∙ c.after-rule-items.ensures in
    record {
      works = c.requires.works;
      elements = refl;
      new = subst (AreEachNew held) (sym given) (later_new c.args.last held rules c.requires.new);
      whole = ap (with_each_rule held) given ∙ later_whole c.args.last held rules;
      knows = λ live is. is;
    }
