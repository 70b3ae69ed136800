use Rattle.std.proofs.Common.{◌≡◌, map, drop}
use Rattle.soar_rule.specs.declared.production.Support.TheVariants.{Unset}
use Rattle.defs_read.specs.Expansion.{support_of}
use Rattle.tree_parts.specs.Seen.{flag_seen}
use Rattle.soar_read.proofs.flags.support_of.Given as goal

abbrev pub invariant-flags : goal.invariant-flags
invariant-flags l = support_of l.support (map flag_seen (drop l.flag-index l.flags)) ≡ support_of Unset (map flag_seen l.flags)
