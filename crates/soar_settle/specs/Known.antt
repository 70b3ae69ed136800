-- Data whose words are in the table.
use Rattle.std.specs.Prelude.{List, [], ◌∷◌}
use Rattle.soar_sym.specs.Words.{Texts, IsKnown}
use Rattle.soar_sym.specs.declared.symbol.Triple.{Triple}
use Rattle.defs_soar.specs.Symbols.{AreKnown, symbols_of}
use Rattle.soar_wm.specs.declared.element.Element.{Element}
use Rattle.defs_soar.specs.Rules.{RuleOf}
use Rattle.defs_soar.specs.Instance.{Instance}
use Rattle.defs_soar.specs.declared.preference.Preference.{Preference}
use Rattle.defs_soar.specs.Dependencies.{symbols_of_wish}

abbrev pub AreElementsKnown : Texts → List Element → Type 0
AreElementsKnown words [] = Unit {0}
AreElementsKnown words (e ∷ elements) = (IsKnown words e.id × IsKnown words e.attr × IsKnown words e.value) × AreElementsKnown words elements

abbrev pub AreInstancesKnown : Texts → List Instance → Type 0
AreInstancesKnown words [] = Unit {0}
AreInstancesKnown words (i ∷ instances) = AreKnown words i.binds × AreInstancesKnown words instances

abbrev pub AreRulesKnown : Texts → List RuleOf → Type 0
AreRulesKnown words [] = Unit {0}
AreRulesKnown words (rule ∷ rules) = AreKnown words (symbols_of rule.production) × AreRulesKnown words rules

abbrev pub AreRowsKnown : Texts → List Preference → Type 0
AreRowsKnown words [] = Unit {0}
AreRowsKnown words (row ∷ rows) = AreKnown words (symbols_of_wish row.wish) × AreRowsKnown words rows

abbrev pub AreTriplesKnown : Texts → List Triple → Type 0
AreTriplesKnown words [] = Unit {0}
AreTriplesKnown words (t ∷ triples) = (IsKnown words t.id × IsKnown words t.attr × IsKnown words t.value) × AreTriplesKnown words triples
