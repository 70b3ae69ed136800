use Rattle.std.proofs.Common.{◌≡◌, drop}
use Rattle.soar_sym.specs.declared.symbol.Sym.{Sym}
use Rattle.level_laws.specs.Labels.{Links, Labels}
use Rattle.level_change.specs.Forgetting.{and_had}
use Rattle.level_change.specs.Links.{level_at, is_linked}
use Rattle.level_change.specs.Passing.{SpreadsBut, KeptBut}
use Rattle.level_change.proofs.spreading.pass_had.Given as goal

abbrev pub invariant-had : goal.invariant-had
invariant-had l =
    ((links left : Links) → ((x y : Sym) → links x y ≡ is_linked l.into y x) → SpreadsBut links l.goals (level_at l.levels.entries l.initial.told.entries) l.initial.waiting (and_had l.had left)
    → SpreadsBut links l.goals (level_at l.levels.entries l.told.entries) l.waiting (and_had (drop l.it-index l.had) left))
    × ((old : Labels) → KeptBut old (level_at l.levels.entries l.initial.told.entries) l.initial.moved → KeptBut old (level_at l.levels.entries l.told.entries) l.moved)
