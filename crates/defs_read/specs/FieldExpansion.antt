-- From the trees of fields to tests (Soar manual, chapter 3, production syntax).
use Rattle.std.specs.Prelude.{ℕ, ◌==◌, List, [], ◌∷◌, map, Option, Some, None, if◌then◌else◌}
use Rattle.soar_sym.specs.Words.{Texts}
use Rattle.soar_sym.specs.declared.symbol.Sym.{Sym}
use Rattle.soar_sym.specs.declared.symbol.Sym.TheVariants.{Int}
use Rattle.soar_rule.specs.declared.cond.Atom.{Atom}
use Rattle.soar_rule.specs.declared.cond.Atom.TheVariants.{Const, Var}
use Rattle.soar_rule.specs.declared.cond.Relation.TheVariants.{Differ, Less, Greater, AtMost, AtLeast, SameKind}
use Rattle.soar_rule.specs.declared.cond.Test.{Test}
use Rattle.soar_rule.specs.declared.cond.Test.TheVariants.{Plain, Rel, OneOf}
use Rattle.soar_rule.specs.declared.cond.Field.{Field}
use Rattle.defs_text.specs.Numbered.{word_in}
use Rattle.defs_read.specs.FreshNames.{Fresh, with_name, place_of_name, Expanded, expanded, then_expand}
use Rattle.defs_read.specs.Grammar.{Constant, named, number, Single, a_variable, a_constant, Simple, one_of, tested, FieldTree, braced, single}

abbrev pub symbol_of : Texts → Constant → Sym
symbol_of words (named text bare) = word_in words text
symbol_of words (number z) = Int z

abbrev pub atom_of : Texts → Single → Fresh → Expanded Atom
atom_of words (a_variable name) f = let g = with_name name f in expanded (Var (place_of_name g.names name)) g
atom_of words (a_constant c) f = expanded (Const (symbol_of words c)) f

-- by the sign's place among `<`, `>`, `<=`, `>=`, `<>`, `<=>`, `=`
abbrev pub test_by_sign : ℕ → Atom → Test
test_by_sign k a =
    if k == 0 then Rel Less a else if k == 1 then Rel Greater a else if k == 2 then Rel AtMost a else if k == 3 then Rel AtLeast a
    else if k == 4 then Rel Differ a else if k == 5 then Rel SameKind a else Plain a

abbrev pub test_by : Option ℕ → Atom → Test
test_by None a = Plain a
test_by (Some k) a = test_by_sign k a

abbrev pub test_of : Texts → Simple → Fresh → Expanded Test
test_of words (one_of a) f = expanded (OneOf (symbol_of words a.first ∷ map (symbol_of words) a.others)) f
test_of words (tested t) f = then_expand (atom_of words t.single f) (λ a g. expanded (test_by t.relation a) g)

abbrev pub tests_of : Texts → List Simple → Fresh → Expanded (List Test)
tests_of words [] f = expanded [] f
tests_of words (s ∷ simples) f = then_expand (test_of words s f) (λ t g. then_expand (tests_of words simples g) (λ ts h. expanded (t ∷ ts) h))

abbrev pub simples_of : FieldTree → List Simple
simples_of (braced b) = b.first ∷ b.others
simples_of (single s) = s ∷ []

abbrev pub field_of : Texts → FieldTree → Fresh → Expanded Field
field_of words tree f = then_expand (tests_of words (simples_of tree) f) (λ ts g. expanded (record { tests = ts }) g)

abbrev pub plain_field : Atom → Field
plain_field a = record { tests = Plain a ∷ [] }
