-- Trimming does not ask which goals went before.
use Rattle.std.specs.Prelude.{◌≡◌, List, []}
use Rattle.soar_wm.specs.declared.element.Element.{Element}
use Rattle.defs_soar.specs.History.{RecordedFiring}
use Rattle.defs_soar.specs.Trimming.{RemovedGoal, Remains, trimmed}

-- goals, rows, inputs and live firings, without the goals that went
abbrev pub left_of : Remains → Remains
left_of t = record t { removed = [] }

-- with other goals that went before, the same is left
abbrev pub RemovalsApart : Type 0
RemovalsApart =
    (history : List RecordedFiring) (elements : List Element) (t : Remains) (removed : List RemovedGoal)
    → left_of (trimmed history elements (record t { removed = removed })) ≡ left_of (trimmed history elements t)
