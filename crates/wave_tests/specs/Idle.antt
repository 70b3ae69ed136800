-- A rule that matches the top state alone, and does nothing: `sp {nil (state <s> ^superstate nil) -->}` with a variable that has the name of a word of the architecture.
use Rattle.std.specs.Prelude.{true, false, [], ◌∷◌, None}
use Rattle.soar_sym.specs.declared.symbol.Sym.TheVariants.{Word}
use Rattle.soar_rule.specs.declared.cond.Atom.{Atom}
use Rattle.soar_rule.specs.declared.cond.Atom.TheVariants.{Const, Var}
use Rattle.soar_rule.specs.declared.cond.Field.{Field}
use Rattle.soar_rule.specs.declared.cond.Pattern.{Pattern}
use Rattle.soar_rule.specs.declared.cond.Test.TheVariants.{Plain}
use Rattle.soar_rule.specs.declared.production.Kind.TheVariants as kind
use Rattle.soar_rule.specs.declared.production.Support.TheVariants as support
use Rattle.soar_rule.specs.Conditions.{condition_and, no_more, positive}
use Rattle.soar_rule.specs.Productions.{ProductionOf}

abbrev pub plain_field : Atom → Field
plain_field atom = record { tests = Plain atom ∷ [] }

abbrev pub idle_pattern : Pattern
idle_pattern = record { state = true; id = plain_field (Var 0); attr = plain_field (Const (Word 5)); value = plain_field (Const (Word 1)); accept = false }

abbrev pub idle_production : ProductionOf
idle_production = record {
  name = Word 1;
  doc = None;
  kind = kind.User;
  support = support.Unset;
  vars = Word 2 ∷ [];
  conditions = condition_and (positive idle_pattern) no_more;
  actions = [];
}
