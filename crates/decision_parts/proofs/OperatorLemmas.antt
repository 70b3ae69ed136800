-- The values of working memory are symbols of the table.
use Rattle.std.proofs.Common.{List, [], ◌∷◌}
use Rattle.std.specs.List.{All}
use Rattle.std.proofs.lemmas.List.Elements.{All-cons, All-nil}
use Rattle.soar_sym.specs.Words.{Texts}
use Rattle.soar_wm.specs.declared.element.Element.{Element}
use Rattle.soar_settle.specs.Known.{AreElementsKnown}
use Rattle.trace_lines.specs.Names.{IsValueKnown}

pub values_known : (words : Texts) (elements : List Element) → AreElementsKnown words elements → All (IsValueKnown words) elements
values_known words [] known = All-nil (IsValueKnown words)
values_known words (e ∷ elements) known = All-cons (IsValueKnown words) e elements known.0.2 (values_known words elements known.1)
