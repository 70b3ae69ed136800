use Rattle.std.proofs.Common.{◌≡◌}
use Rattle.defs_soar.specs.Trace.{indent}
use Rattle.trace_lines.proofs.texts.indent_text.Given as goal

abbrev pub invariant-goals : goal.invariant-goals
invariant-goals l = l.text ≡ indent l._goal
