use Rattle.std.proofs.Common.{◌∙◌, ap, map, sym}
use Rattle.std.specs.Option.{option_copied, option_map}
use Rattle.defs_match.specs.Rules.{rule_seen}
use Rattle.pending_work.proofs.FirableLemmas.{binds_by_rule}
use Rattle.pending_work.proofs.candidates.can_fire_now.Goals as goal

pub can_fire-requires : goal.can_fire-requires
can_fire-requires c = record {
  binds = binds_by_rule (map rule_seen c.args.rules.now) c.args.instance.now (rule_seen c.in-Some.rule.now) c.requires.bound
      (sym c.get.ensures ∙ ap (λ r. option_map rule_seen (option_copied r)) c.in-Some.is);
}
