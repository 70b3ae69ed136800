use Rattle.std.proofs.Common.{◌∙◌, ap, map}
use Rattle.defs_match.specs.Rules.{rule_seen}
use Rattle.cycle_parts.specs.Dropping.{is_found_so}
use Rattle.cycle_parts.proofs.NamedLemmas.{found_so}
use Rattle.cycle_parts.proofs.dropping.is_of_name.Goals as goal

pub returns-in-Some : goal.returns-in-Some
returns-in-Some c = (rw c.deref.ensures at c.is_symbol.ensures) ∙ ap (is_found_so c.args.name) c.in-Some.ensures ∙ found_so c.args.name (map rule_seen c.args.rules.now) c.args.number c.law.ensures

pub returns-in-None : goal.returns-in-None
returns-in-None c = ap (is_found_so c.args.name) c.in-None.ensures ∙ found_so c.args.name (map rule_seen c.args.rules.now) c.args.number c.law.ensures
