-- Trimming cuts the stack from its end, again and again: what goes are the goals from the new length on.
use Rattle.std.specs.Prelude.{◌≡◌, suc, List, take, drop, length}
use Rattle.soar_wm.specs.declared.element.Element.{Element}
use Rattle.defs_soar.specs.History.{RecordedFiring}
use Rattle.defs_soar.specs.Trimming.{at_depths, Remains, trimmed, with_all_removed}

-- those that went, as if all had gone at once
abbrev pub RemovalsAreNested : Type 0
RemovalsAreNested =
    (history : List RecordedFiring) (elements : List Element) (t : Remains)
    → let left = trimmed history elements t in left.removed ≡ with_all_removed (at_depths (suc (length left.goals)) (drop (length left.goals) t.goals)) t.removed

-- those that are left
abbrev pub FirstGoalsAreLeft : Type 0
FirstGoalsAreLeft =
    (history : List RecordedFiring) (elements : List Element) (t : Remains)
    → let left = trimmed history elements t in left.goals ≡ take (length left.goals) t.goals
