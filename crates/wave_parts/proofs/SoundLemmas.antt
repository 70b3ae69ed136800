-- What is sound may settle, and its levels are those of working memory.
use Rattle.std.proofs.Common.{◌≡◌, ◌∙◌, List, map, ap, option_map, sym, subst}
use Rattle.soar_sym.specs.declared.symbol.Sym.{Sym}
use Rattle.soar_wm.specs.WorkingMemory.{triple_of}
use Rattle.settling_laws.proofs.DepthLemmas.{levels_are_of_links}
use Rattle.level_laws.specs.Labels.{as_told}
use Rattle.level_change.specs.Graph.{Stands}
use Rattle.level_change.proofs.StandLemmas.{levels_are_told}
use Rattle.kept_triples.proofs.HeldLemmas.{same_links}
use Rattle.firing_records.specs.Levels.{TellsLevels}
use Rattle.wave_parts.specs.Seen.{IsSound, IsSoundFor, IsToSettle}
use Rattle.wave_parts.specs.declared.parts.Parts.{Parts as PartsKept}

pub to_settle : (a : PartsKept) → IsSound a → IsToSettle a
to_settle a sound = subst (λ (ids : List Sym). IsSoundFor ids a) (sym sound.kept_ids) sound

-- the triples that are kept are those of working memory, and the goals of then are those that there are
pub levels_told : (a : PartsKept) → IsSound a → TellsLevels a.kept a.goals (map triple_of a.memory.elements)
levels_told a sound s =
    let rest = sound.kept_up.tracked.rest in
    let triples = map triple_of a.memory.elements in
    let members = sound.kept_up.memory_is in
    levels_are_told a.kept.graph a.kept.triples a.goals (subst (λ (ids : List Sym). Stands a.kept.graph a.kept.triples ids) (sym rest.own.ids ∙ sound.kept_ids) rest.holds.graph) s
    ∙ ap (option_map as_told) (levels_are_of_links a.goals a.kept.triples triples (same_links a.kept.triples triples members) (same_links triples a.kept.triples (λ t. sym (members t))) s)
