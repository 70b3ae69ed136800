use Rattle.std.proofs.Common.{◌≡◌, map, drop}
use Rattle.soar_rule.specs.declared.production.Kind.TheVariants.{User}
use Rattle.defs_read.specs.Expansion.{kind_of}
use Rattle.tree_parts.specs.Seen.{flag_seen}
use Rattle.soar_read.proofs.flags.kind_of.Given as goal

abbrev pub invariant-flags : goal.invariant-flags
invariant-flags l = kind_of l.kind (map flag_seen (drop l.flag-index l.flags)) ≡ kind_of User (map flag_seen l.flags)
