-- The productions whose printed text is read back to them.
use Rattle.std.specs.Prelude.{◌≡◌, ℕ, suc, true, false, ◌==◌, nat_lt, List, [], ◌∷◌, ◌++◌, map, length, Option, Some, None, codes, if◌then◌else◌, IsUtf8}
use Rattle.std.specs.List.{list_all}
use Rattle.soar_sym.specs.Words.{Texts, text_of}
use Rattle.soar_sym.specs.declared.symbol.Sym.{Sym}
use Rattle.soar_sym.specs.declared.symbol.Sym.TheVariants.{Ident, Word, Int}
use Rattle.soar_rule.specs.declared.cond.Atom.{Atom}
use Rattle.soar_rule.specs.declared.cond.Atom.TheVariants.{Const, Var}
use Rattle.soar_rule.specs.declared.cond.Test.{Test}
use Rattle.soar_rule.specs.declared.cond.Test.TheVariants.{Plain, Rel, OneOf}
use Rattle.soar_rule.specs.declared.cond.Field.{Field}
use Rattle.soar_rule.specs.declared.cond.Pattern.{Pattern}
use Rattle.soar_rule.specs.declared.production.Kind.TheVariants as kind
use Rattle.soar_rule.specs.Conditions.{Condition, positive, negated, conjunctive, Conditions, no_more, condition_and}
use Rattle.soar_rule.specs.Productions.{ValueOf, atom_value, call_value, ValuesOf, no_values, value_and, PreferenceOf, ActionOf, makes, writes, halts, ProductionOf}
use Rattle.soar_rule.specs.Alike.{variables_in}
use Rattle.soar_rule.specs.Variables.{referent_value}
use Rattle.defs_text.specs.Bytes.{is_run_byte}
use Rattle.defs_text.specs.Runs.{a_variable, run_kind, fits_integer}
use Rattle.defs_read.specs.FreshNames.{has_name}
use Rattle.defs_read.specs.PrintingConditions.{bare_text}
use Rattle.defs_read.specs.Sayings.{IsWordPlaced}
use Rattle.reading_laws.specs.Lawful.{AllOf, IfThere, Takes}

-- ---- symbols

-- a word of the table, whose text is UTF-8
abbrev pub IsWord : Texts → Sym → Type 0
IsWord words s = IsWordPlaced words s × IsUtf8 (bare_text words s)

-- a word, or an integer of 64 bits; identifiers have no text in a production
abbrev pub IsConstant : Texts → Sym → Type 0
IsConstant words (Word word) = IsWord words (Word word)
IsConstant words (Int value) = fits_integer value ≡ true
IsConstant words (Ident letter number) = ⊥

-- between `<` and `>` it is one run, and a variable of this name
abbrev pub IsName : List ℕ → Type 0
IsName name = (list_all is_run_byte name ≡ true) × (run_kind (60 ∷ (name ++ (62 ∷ []))) ≡ a_variable name)

-- a word of the table that names a variable
abbrev pub IsNaming : Texts → Sym → Type 0
IsNaming words s = IsWordPlaced words s × IsName (bare_text words s)

abbrev pub IsAtom : Texts → Atom → Type 0
IsAtom words (Const s) = IsConstant words s
IsAtom words (Var v) = Unit {0}

-- ---- conditions

-- there is one at least
abbrev pub IsAny : {A : Type 0} → List A → Type 0
IsAny [] = ⊥
IsAny (a ∷ more) = Unit {0}

-- a disjunction has a constant
abbrev pub IsTest : Texts → Test → Type 0
IsTest words (Plain a) = IsAtom words a
IsTest words (Rel r a) = IsAtom words a
IsTest words (OneOf symbols) = IsAny symbols × AllOf (IsConstant words) symbols

-- a field has a test
abbrev pub IsPrintedField : Texts → Field → Type 0
IsPrintedField words field = IsAny field.tests × AllOf (IsTest words) field.tests

abbrev pub IsPattern : Texts → Pattern → Type 0
IsPattern words p = IsPrintedField words p.id × IsPrintedField words p.attr × IsPrintedField words p.value

abbrev pub IsSome : Conditions → Type 0
IsSome no_more = ⊥
IsSome (condition_and c cs) = Unit {0}

-- a negation is of one condition at least
abbrev mutual
  pub IsCondition : Condition → Texts → Type 0
  IsCondition (positive p) words = IsPattern words p
  IsCondition (negated p) words = IsPattern words p
  IsCondition (conjunctive inside) words = IsSome inside × AreConditions inside words

  pub AreConditions : Conditions → Texts → Type 0
  AreConditions no_more words = Unit {0}
  AreConditions (condition_and c cs) words = IsCondition c words × AreConditions cs words

-- ---- actions

abbrev pub count_values : ValuesOf → ℕ
count_values no_values = 0
count_values (value_and v values) = suc (count_values values)

-- each function has its number of values
abbrev mutual
  pub IsValue : ValueOf → Texts → Type 0
  IsValue (atom_value a) words = IsAtom words a
  IsValue (call_value f values) words = Takes f (count_values values) × AreValues values words

  pub AreValues : ValuesOf → Texts → Type 0
  AreValues no_values words = Unit {0}
  AreValues (value_and v values) words = IsValue v words × AreValues values words

abbrev pub IsPreference : Texts → PreferenceOf → Type 0
IsPreference words p = IfThere (λ v. IsValue v words) (referent_value p)

abbrev pub IsVariable : Atom → Type 0
IsVariable (Var v) = Unit {0}
IsVariable (Const s) = ⊥

-- something is made of a variable
abbrev pub IsPrintedAction : Texts → ActionOf → Type 0
IsPrintedAction words (makes id attr value p) = IsVariable id × IsValue attr words × IsValue value words × IsPreference words p
IsPrintedAction words (writes values) = AllOf (λ v. IsValue v words) values
IsPrintedAction words halts = Unit {0}

-- ---- the whole

-- no name stands there twice
abbrev pub AreDistinct : Texts → Type 0
AreDistinct [] = Unit {0}
AreDistinct (name ∷ names) = (has_name names name ≡ false) × AreDistinct names

-- how many variables were met behind these, where so many were before; each is one of those or the next, or there is no answer
abbrev pub met_after : ℕ → List ℕ → Option ℕ
met_after met [] = Some met
met_after met (v ∷ variables) = if nat_lt v met then met_after met variables else if v == met then met_after (suc met) variables else None

-- What a production that was read meets; the first word of a table is `state`. The variables are numbered by their first occurrence.
pub record IsPrintable (words : Texts) (p : ProductionOf) : Type 0 where
  pub state : text_of words 0 ≡ codes "state"
  pub name : IsWord words p.name
  pub doc : IfThere IsUtf8 p.doc
  pub kind : p.kind ≡ kind.Justification → ⊥
  pub names : AllOf (IsNaming words) p.vars
  pub distinct : AreDistinct (map (bare_text words) p.vars)
  pub some : IsSome p.conditions
  pub conditions : AreConditions p.conditions words
  pub actions : AllOf (IsPrintedAction words) p.actions
  pub numbered : met_after 0 (variables_in p) ≡ Some (length p.vars)
