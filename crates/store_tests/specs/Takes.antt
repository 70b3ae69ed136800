-- A positive condition of three plain atoms.
use Rattle.std.specs.Prelude.{false, [], ◌∷◌}
use Rattle.soar_sym.specs.declared.symbol.Sym.{Sym}
use Rattle.soar_rule.specs.declared.cond.Atom.{Atom}
use Rattle.soar_rule.specs.declared.cond.Atom.TheVariants.{Const}
use Rattle.soar_rule.specs.declared.cond.Cond.{Cond}
use Rattle.soar_rule.specs.declared.cond.Cond.TheVariants.{Pos}
use Rattle.soar_rule.specs.declared.cond.Field.{Field}
use Rattle.soar_rule.specs.declared.cond.Test.TheVariants.{Plain}

abbrev pub plain_field : Atom → Field
plain_field atom = record { tests = Plain atom ∷ [] }

abbrev pub takes : Atom → Sym → Atom → Cond
takes id attr value = Pos (record { state = false; id = plain_field id; attr = plain_field (Const attr); value = plain_field value; accept = false })
