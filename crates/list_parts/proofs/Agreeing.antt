-- The lists are those of the definitions, by computation.
use Rattle.std.proofs.Common.{◌≡◌, refl}
use Rattle.soar_sym.specs.declared.symbol.Sym.{Sym}
use Rattle.defs_soar.specs.Agents.{Agent}
use Rattle.defs_soar.specs.Preferences.{slot_of}
use Rattle.defs_run.specs.Listing as listing
use Rattle.list_parts.specs.Counted.{stats_line, stats_of}
use Rattle.list_parts.specs.Lists.{chunk_lines, preference_lines, rule_lines}

rules_agree : (a : Agent) → listing.rule_lines a ≡ rule_lines a.names.words a.program.rules
rules_agree a = refl

stats_agree : (a : Agent) → listing.stats_line a ≡ stats_line (stats_of a)
stats_agree a = refl

preferences_agree : (a : Agent) (id attr : Sym) → listing.preference_lines a id attr ≡ preference_lines a.names.words (slot_of a.holding.rows id attr)
preferences_agree a id attr = refl

chunks_agree : (a : Agent) → listing.chunk_lines a ≡ chunk_lines a.names.words a.program.rules
chunks_agree a = refl
