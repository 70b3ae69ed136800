-- Whether the work of a wave is none.
use Rattle.std.specs.Prelude.{Bool, true, false, ◌&&◌, List, [], ◌∷◌}
use Rattle.pending_work.specs.declared.work.Work.{Work}

abbrev pub is_without : {A : Type 0} → List A → Bool
is_without [] = true
is_without (x ∷ xs) = false

abbrev pub is_nothing : Work → Bool
is_nothing work = is_without work.retracted && is_without work.fired
