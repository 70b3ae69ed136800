-- Tests of the plain types.
use Rattle.std.specs.Prelude.{ℕ, Bool, true, false, ◌&&◌, ◌==◌, List, Option, Some, None}
use Rattle.std.specs.List.{list_any}
use Rattle.soar_sym.specs.Equality.{symbol_eq, mark_eq}
use Rattle.soar_sym.specs.declared.symbol.Sym.{Sym}
use Rattle.soar_sym.specs.declared.symbol.Sym.TheVariants.{Ident, Word, Int}
use Rattle.soar_sym.specs.declared.symbol.Triple.{Triple}
use Rattle.defs_soar.specs.declared.preference.PrefKind.{PrefKind}
use Rattle.defs_soar.specs.declared.preference.PrefKind.TheVariants as kind
use Rattle.defs_soar.specs.declared.preference.Wish.{Wish}
use Rattle.defs_soar.specs.declared.preference.Preference.{Preference}

abbrev pub is_identifier : Sym → Bool
is_identifier (Ident letter number) = true
is_identifier (Word word) = false
is_identifier (Int value) = false

abbrev pub triple_eq : Triple → Triple → Bool
triple_eq t u = symbol_eq t.id u.id && (symbol_eq t.attr u.attr && (symbol_eq t.value u.value && mark_eq t.accept u.accept))

abbrev pub has_triple_among : List Triple → Triple → Bool
has_triple_among triples t = list_any (triple_eq t) triples

-- the place of a kind in their order
abbrev pub kind_place : PrefKind → ℕ
kind_place kind.Accept = 0
kind_place kind.Require = 1
kind_place kind.Reject = 2
kind_place kind.Prohibit = 3
kind_place kind.Better = 4
kind_place kind.Worse = 5
kind_place kind.Best = 6
kind_place kind.Worst = 7
kind_place kind.Indifferent = 8
kind_place kind.Numeric = 9
kind_place kind.IndifferentTo = 10

abbrev pub is_kind : PrefKind → PrefKind → Bool
is_kind a b = kind_place a == kind_place b

abbrev pub referent_eq : Option Sym → Option Sym → Bool
referent_eq None None = true
referent_eq (Some s) (Some t) = symbol_eq s t
referent_eq None (Some t) = false
referent_eq (Some s) None = false

abbrev pub wish_eq : Wish → Wish → Bool
wish_eq a b = symbol_eq a.id b.id && (symbol_eq a.attr b.attr && (symbol_eq a.value b.value && (is_kind a.kind b.kind && referent_eq a.referent b.referent)))

-- two rows are of one triple, marks apart
abbrev pub same_triple : Preference → Preference → Bool
same_triple a b = symbol_eq a.wish.id b.wish.id && (symbol_eq a.wish.attr b.wish.attr && symbol_eq a.wish.value b.wish.value)
