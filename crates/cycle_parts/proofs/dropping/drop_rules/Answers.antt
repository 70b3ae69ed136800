use Rattle.std.proofs.Common.{◌∙◌, ap, map, length, sym, subst, arith}
use Rattle.defs_match.specs.Rules.{rule_seen}
use Rattle.pending_work.specs.Firables.{AreNumbered}
use Rattle.cycle_parts.specs.Dropping.{unnamed}
use Rattle.cycle_parts.proofs.NamedLemmas.{named_goes, named_there, none_named, one_less}
use Rattle.cycle_parts.proofs.RuleLemmas.{numbered_filter}
use Rattle.cycle_parts.proofs.dropping.drop_rules.Goals as goal

pub drop_numbered-requires-clause-there : goal.drop_numbered-requires-clause-there
drop_numbered-requires-clause-there g c = named_there c.args.name (map rule_seen c.rules.rules) c.in-Some.number c.in-Some.ensures

pub rules-smaller : goal.rules-smaller
rules-smaller g c =
    let less = one_less c.in-Some.number (map rule_seen c.rules.rules) (named_there c.args.name (map rule_seen c.rules.rules) c.in-Some.number c.in-Some.ensures) in
    let left = ap length c.drop_numbered.ensures.dropped in
    omega (arith, less, left)

pub rules-preserved : goal.rules-preserved
rules-preserved g c = record {
  works = c.drop_numbered.ensures.works;
  held = c.drop_numbered.ensures.held;
  elements = c.drop_numbered.ensures.elements ∙ c.rules.invariant.elements;
  numbered = subst AreNumbered (sym c.drop_numbered.ensures.dropped) (numbered_filter _ (map rule_seen c.rules.rules) c.rules.invariant.numbered);
  kept = ap (unnamed c.args.name) c.drop_numbered.ensures.dropped ∙ named_goes c.args.name (map rule_seen c.rules.rules) c.in-Some.number c.rules.invariant.numbered c.in-Some.ensures
      ∙ c.rules.invariant.kept;
  knows = λ live is. c.drop_numbered.ensures.knows live (c.rules.invariant.knows live is);
}

pub returns-in-None-clause-dropped : goal.returns-in-None-clause-dropped
returns-in-None-clause-dropped g c = sym (none_named c.args.name (map rule_seen c.rules.rules) c.in-None.ensures) ∙ c.rules.invariant.kept
