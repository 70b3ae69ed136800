use Rattle.std.proofs.Common.{ap, map, sym, ◌∙◌}
use Rattle.soar_wm.specs.WorkingMemory.{triple_of}
use Rattle.defs_soar.specs.Levels.{level}
use Rattle.session_parts.proofs.ReachLemmas.{first_told, is_first}
use Rattle.session_parts.proofs.lookup.Lookup.is_top_level.Goals as goal

pub returns-in-Some : goal.returns-in-Some
returns-in-Some c = λ session.
    let l = c.args.self.now in
    ap is_first (sym c.in-Some.is ∙ (c.level_of.ensures ∙ c.requires c.args.symbol)) ∙ first_told (level l.goals.now (map triple_of l.memory.now.elements) c.args.symbol)
