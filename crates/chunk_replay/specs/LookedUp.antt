-- Conditions that pass on elements, with each variable looked up where it first stands in a plain test.
use Rattle.std.specs.Prelude.{◌≡◌, ℕ, Bool, true, false, ◌&&◌, ◌==◌, List, [], ◌∷◌, map, take, drop, Option, Some, None, if◌then◌else◌}
use Rattle.std.specs.List.{list_any, list_all}
use Rattle.soar_sym.specs.Equality.{symbol_eq}
use Rattle.soar_sym.specs.declared.symbol.Sym.{Sym}
use Rattle.soar_rule.specs.declared.cond.Atom.{Atom}
use Rattle.soar_rule.specs.declared.cond.Atom.TheVariants.{Const, Var}
use Rattle.soar_rule.specs.declared.cond.Cond.{Cond}
use Rattle.soar_rule.specs.declared.cond.Pattern.{Pattern}
use Rattle.soar_rule.specs.declared.cond.Test.{Test}
use Rattle.soar_rule.specs.declared.cond.Test.TheVariants.{Plain, Rel, OneOf}
use Rattle.soar_rule.specs.Conditions.{Condition, positive, negated, conjunctive, Conditions, no_more, condition_and, condition, conditions}
use Rattle.soar_wm.specs.declared.element.Element.{Element}
use Rattle.defs_match.specs.Rows.{takes_marks}
use Rattle.defs_match.specs.Testing.{contains_symbol, stands_to}
use Rattle.defs_soar.specs.declared.firing.Used.{Used}
use Rattle.defs_soar.specs.Ungrounded.{or_else}
use Rattle.defs_soar.specs.Uses.{elements_matched}
use Rattle.chunk_replay.specs.declared.lookup.Part.{Part}
use Rattle.chunk_replay.specs.declared.lookup.Part.TheVariants as part

-- the used elements of these tags
abbrev pub of_tags : List Used → List ℕ → List Element
of_tags used tags = elements_matched (map (λ u. u.element) used) tags

-- ---- variables

-- what variables stand for
abbrev pub LookUp : Type 0
LookUp = ℕ → Option Sym

abbrev pub nothing : LookUp
nothing v = None

abbrev pub is_plain_test : ℕ → Test → Bool
is_plain_test v (Plain (Const s)) = false
is_plain_test v (Plain (Var w)) = w == v
is_plain_test v (Rel r a) = false
is_plain_test v (OneOf symbols) = false

abbrev pub is_plain_in : ℕ → List Test → Bool
is_plain_in v tests = list_any (is_plain_test v) tests

abbrev pub field_symbol : List Test → Sym → LookUp
field_symbol tests s v = if is_plain_in v tests then Some s else None

-- by what was known, or by a field with these tests and this symbol
abbrev pub within : LookUp → List Test → Sym → LookUp
within known tests s v = or_else (known v) (field_symbol tests s v)

-- at a field of a condition: by what was known, and by the fields before it
abbrev pub known_at : Part → LookUp → Pattern → Element → LookUp
known_at part.Id known p e = known
known_at part.Attr known p e = within known p.id.tests e.id
known_at part.Value known p e = within (within known p.id.tests e.id) p.attr.tests e.attr

abbrev pub known_after : LookUp → Pattern → Element → LookUp
known_after known p e = within (known_at part.Value known p e) p.value.tests e.value

abbrev pub symbol_for : LookUp → Atom → Option Sym
symbol_for known (Const s) = Some s
symbol_for known (Var v) = known v

-- by one condition and its element
abbrev pub pattern_symbol : Pattern → Element → LookUp
pattern_symbol p e v =
    if is_plain_in v p.id.tests then Some e.id else if is_plain_in v p.attr.tests then Some e.attr else field_symbol p.value.tests e.value v

-- by conditions and their elements
abbrev pub symbol_in : List Condition → List Element → LookUp
symbol_in [] elements v = None
symbol_in (positive p ∷ cs) [] v = None
symbol_in (positive p ∷ cs) (e ∷ elements) v = or_else (pattern_symbol p e v) (symbol_in cs elements v)
symbol_in (negated p ∷ cs) elements v = symbol_in cs elements v
symbol_in (conjunctive inside ∷ cs) elements v = symbol_in cs elements v

-- ---- tests

abbrev pub is_or_free : Sym → Option Sym → Bool
is_or_free s None = true
is_or_free s (Some t) = symbol_eq s t

abbrev pub plain_passes : LookUp → Sym → Test → Bool
plain_passes known s (Plain (Const c)) = symbol_eq s c
plain_passes known s (Plain (Var v)) = is_or_free s (known v)
plain_passes known s (Rel r a) = true
plain_passes known s (OneOf symbols) = true

abbrev pub other_passes : LookUp → Sym → Test → Bool
other_passes known s (Plain a) = true
other_passes known s (Rel r a) = stands_to r s (symbol_for known a)
other_passes known s (OneOf symbols) = contains_symbol symbols s

abbrev pub field_passes : LookUp → List Test → Sym → Bool
field_passes known tests s = list_all (plain_passes known s) tests && list_all (other_passes (within known tests s) s) tests

abbrev pub fields_behind_pass : LookUp → Pattern → Element → Bool
fields_behind_pass known p e = field_passes (known_at part.Attr known p e) p.attr.tests e.attr && field_passes (known_at part.Value known p e) p.value.tests e.value

abbrev pub fields_pass : LookUp → Pattern → Element → Bool
fields_pass known p e = field_passes (known_at part.Id known p e) p.id.tests e.id && fields_behind_pass known p e

abbrev pub pattern_passes : LookUp → Pattern → Element → Bool
pattern_passes known p e = takes_marks p e && fields_pass known p e

-- ---- conditions

-- the positive conditions outside negations pass on these elements, one each
abbrev pub pass : LookUp → Conditions → List Element → Bool
pass known no_more [] = true
pass known no_more (e ∷ elements) = false
pass known (condition_and (positive p) cs) [] = false
pass known (condition_and (positive p) cs) (e ∷ elements) = pattern_passes known p e && pass (known_after known p e) cs elements
pass known (condition_and (negated p) cs) elements = pass known cs elements
pass known (condition_and (conjunctive inside) cs) elements = pass known cs elements

-- the elements behind those of these conditions
abbrev pub left_of : List Condition → List Element → List Element
left_of [] elements = elements
left_of (positive p ∷ cs) [] = []
left_of (positive p ∷ cs) (e ∷ elements) = left_of cs elements
left_of (negated p ∷ cs) elements = left_of cs elements
left_of (conjunctive inside ∷ cs) elements = left_of cs elements

-- the next element does not pass, or there is none
abbrev pub IsRefused : LookUp → Pattern → List Element → Type 0
IsRefused known p elements = (cs : Conditions) → pass known (condition_and (positive p) cs) elements ≡ false

-- the next element passes, and these are behind it
pub record IsTaken (known : LookUp) (p : Pattern) (elements behind : List Element) : Type 0 where
  pub taken : Element
  pub first : elements ≡ taken ∷ behind
  pub passes : pattern_passes known p taken ≡ true

-- what is left after the conditions before a place, and that the rest passes where the whole does
pub record Stands (conds : List Cond) (place : ℕ) (elements left : List Element) (whole : Bool) : Type 0 where
  pub is : left ≡ left_of (map condition (take place conds)) elements
  pub passes : pass (symbol_in (map condition (take place conds)) elements) (conditions (drop place conds)) left ≡ whole
