-- What is said where a session stops.
use Rattle.std.specs.Prelude.{◌≡◌, ℕ, Bool, List, ◌++◌}
use Rattle.defs_soar.specs.Limits.{limit_text}
use Rattle.defs_soar.specs.Trace.{line_text}
use Rattle.soar_settle.specs.declared.stop.Stop.{Stop}
use Rattle.soar_settle.specs.declared.stop.Stop.TheVariants as stop

-- what was said before a limit and its line were appended, or nothing
abbrev pub SaysStop : Stop → Bool → List ℕ → List ℕ → List ℕ → Stop → Type 0
SaysStop why mid said before after (stop.Limit limit) = (why ≡ stop.Limit limit) × (after ≡ before ++ (said ++ line_text mid (limit_text limit)))
SaysStop why mid said before after stop.NoMemory = after ≡ before
