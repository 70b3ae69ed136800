-- What an agent appends once it knows its answer.
use Rattle.std.specs.Prelude.{◌≡◌, ℕ, List, ◌++◌, Result, Ok, Err}
use Rattle.soar_settle.specs.declared.stop.Stop.{Stop}
use Rattle.soar_settle.specs.declared.stop.Stop.TheVariants as stop

-- what was said, unless memory is wanting
abbrev pub Tells : {T : Type 0} → Result T Stop → List ℕ → List ℕ → List ℕ → Result T Stop → Type 0
Tells answer said before after (Ok done) = (answer ≡ Ok done) × (after ≡ before ++ said)
Tells answer said before after (Err (stop.Limit limit)) = (answer ≡ Err (stop.Limit limit)) × (after ≡ before ++ said)
Tells answer said before after (Err stop.NoMemory) = after ≡ before
