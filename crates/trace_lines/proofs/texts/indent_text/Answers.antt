use Rattle.std.proofs.Common.{◌∙◌, ◌++◌, ◌∷◌, [], ℕ, List, ap, sym, add-one}
use Rattle.defs_soar.specs.Trace.{indent}
use Rattle.trace_lines.proofs.TextLemmas.{indent_more}
use Rattle.trace_lines.proofs.texts.indent_text.Goals as goal

pub goals-preserved : goal.goals-preserved
goals-preserved c =
    c.in_ok-push_str.ensures.ok ∙ ap (λ (text : List ℕ). text ++ (32 ∷ 32 ∷ [])) c.goals.invariant
    ∙ indent_more c.goals._goal ∙ ap indent (sym (add-one c.goals._goal))
