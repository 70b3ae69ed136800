use Rattle.std.proofs.Common.{◌≡◌, ◌+◌, ◌*◌, length, [], true}
use Rattle.soar_sym.specs.declared.symbol.Sym.{Sym}
use Rattle.level_laws.specs.Labels.{Labels}
use Rattle.level_change.specs.Forgetting.{Forgetting, has_had}
use Rattle.level_change.specs.Links.{level_at, is_linked}
use Rattle.level_change.specs.Passing.{totals, one_if_told}
use Rattle.level_change.proofs.forgetting.forget.Given as goal

abbrev pub invariant-waiting : goal.invariant-waiting
invariant-waiting l =
    ((first : Labels) (x : Sym) → Forgetting (is_linked l.links) l.goals first (level_at l.levels.entries l.initial.told.entries) l.initial.had l.initial.waiting x []
    → Forgetting (is_linked l.links) l.goals first (level_at l.levels.entries l.told.entries) l.had l.waiting x [])
    × ((s : Sym) → has_had l.initial.had s ≡ true → has_had l.had s ≡ true)

abbrev pub decreases-waiting : goal.decreases-waiting
decreases-waiting l = 2 * totals one_if_told (level_at l.levels.entries l.told.entries) l.links + length l.waiting
