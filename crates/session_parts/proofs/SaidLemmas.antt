-- Lines in a row, and elements of which some are left out.
use Rattle.std.proofs.Common.{◌≡◌, ℕ, Bool, true, false, cond, List, [], ◌∷◌, ◌++◌, map, filter, refl, ap, ◌∙◌, append_assoc}
use Rattle.std.specs.Prelude.{if◌then◌else◌, codes}
use Rattle.soar_sym.specs.Words.{Texts}
use Rattle.soar_rule.specs.Productions.{ProductionOf}
use Rattle.soar_wm.specs.declared.element.Element.{Element}
use Rattle.defs_text.specs.Symbols.{symbol_text}
use Rattle.defs_read.specs.Printing.{indented, inner_lines, lines_text, production_text}
use Rattle.defs_soar.specs.Trace.{Written, rendered, followed_by, line_text}
use Rattle.defs_run.specs.Sessions.{as_lines}
use Rattle.soar_settle.specs.Known.{AreElementsKnown}

-- ---- lines in a row

abbrev whole : List ℕ → Written
whole text = record { text = text; mid_line = false }

lines_behind : (lines : List (List ℕ)) → rendered 1 false (as_lines lines) ≡ whole (lines_text lines)
lines_behind [] = refl
lines_behind (line ∷ lines) = ap (followed_by (whole (line ++ (10 ∷ [])))) (lines_behind lines) ∙ ap whole (append_assoc line (10 ∷ []) (lines_text lines))

lines_from : (mid : Bool) (line : List ℕ) (lines : List (List ℕ)) → rendered 1 mid (as_lines (line ∷ lines)) ≡ whole ((if mid then 10 ∷ [] else []) ++ lines_text (line ∷ lines))
lines_from true line lines =
    ap (followed_by (whole (line_text true line))) (lines_behind lines) ∙ ap (λ text. whole (10 ∷ text)) (append_assoc line (10 ∷ []) (lines_text lines))
lines_from false line lines = lines_behind (line ∷ lines)

-- the lines of a production begin on a line of their own
pub production_said : (words : Texts) (mid : Bool) (p : ProductionOf)
    → rendered 1 mid (as_lines (production_text words p)) ≡ record { text = (if mid then 10 ∷ [] else []) ++ lines_text (production_text words p); mid_line = false }
unfolding production_text
production_said words mid p =
    lines_from mid (codes "sp {" ++ symbol_text words p.name) (map indented (inner_lines (record { words = words; vars = p.vars }) p) ++ (codes "}" ∷ []))

-- ---- elements

pub elements_filter : (p : Element → Bool) (words : Texts) (elements : List Element) → AreElementsKnown words elements → AreElementsKnown words (filter p elements)
elements_filter p words [] known = tt
elements_filter p words (e ∷ elements) known = by (p e) (elements_filter p words elements known.1)
  where
    by : (b : Bool) → AreElementsKnown words (filter p elements) → AreElementsKnown words (cond b (e ∷ filter p elements) (filter p elements))
    by true later = (known.0, later)
    by false later = later
