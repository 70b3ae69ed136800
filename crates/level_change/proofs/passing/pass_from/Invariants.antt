use Rattle.std.proofs.Common.{◌≡◌, true, drop}
use Rattle.soar_sym.specs.declared.symbol.Sym.{Sym}
use Rattle.defs_soar.specs.Sorted.{has_symbol}
use Rattle.level_laws.specs.Labels.{Links, Labels}
use Rattle.level_change.specs.Links.{level_at}
use Rattle.level_change.specs.Passing.{SpreadsBut, KeptBut, and_links}
use Rattle.level_change.proofs.passing.pass_from.Given as goal

abbrev pub invariant-sources : goal.invariant-sources
invariant-sources l =
    ((links left : Links) → ((x : Sym) → has_symbol l.sources x ≡ true → links x l.to ≡ true) → SpreadsBut links l.goals (level_at l.levels.entries l.initial.told.entries) l.initial.waiting (and_links l.sources l.to left)
    → SpreadsBut links l.goals (level_at l.levels.entries l.told.entries) l.waiting (and_links (drop l.source-index l.sources) l.to left))
    × ((old : Labels) → KeptBut old (level_at l.levels.entries l.initial.told.entries) l.initial.moved → KeptBut old (level_at l.levels.entries l.told.entries) l.moved)
