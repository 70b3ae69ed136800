use Rattle.std.proofs.Common.{map, subst}
use Rattle.soar_rule.specs.Productions.{value_seen}
use Rattle.soar_show.specs.Known.{Knows}
use Rattle.soar_show.proofs.KnownLemmas.{constants_are}
use Rattle.soar_show.proofs.actions.push_write.Goals as goal

pub push_values-requires : goal.push_values-requires
push_values-requires c = subst (Knows c.args.names.now.words) (constants_are (map value_seen c.args.values.now)) c.requires
