-- What can be printed with a table of words can be printed with each longer one.
use Rattle.std.specs.Prelude.{codes, map, IsUtf8}
use Rattle.std.proofs.Common.{◌≡◌, refl, sym, ap₂, subst, [], ◌∷◌, ◌++◌, List, ℕ}
use Rattle.soar_sym.specs.Words.{Texts, text_of}
use Rattle.soar_sym.specs.declared.symbol.Sym.{Sym}
use Rattle.soar_sym.specs.declared.symbol.Sym.TheVariants.{Ident, Word, Int}
use Rattle.soar_rule.specs.declared.cond.Atom.{Atom}
use Rattle.soar_rule.specs.declared.cond.Atom.TheVariants.{Const, Var}
use Rattle.soar_rule.specs.declared.cond.Test.{Test}
use Rattle.soar_rule.specs.declared.cond.Test.TheVariants.{Plain, Rel, OneOf}
use Rattle.soar_rule.specs.declared.cond.Field.{Field}
use Rattle.soar_rule.specs.declared.cond.Pattern.{Pattern}
use Rattle.soar_rule.specs.Conditions.{Condition, positive, negated, conjunctive, Conditions, no_more, condition_and}
use Rattle.soar_rule.specs.Productions.{ValueOf, atom_value, call_value, ValuesOf, no_values, value_and, PreferenceOf, accepts, rejects, requires_it, prohibits, is_best, is_worst, is_indifferent, is_better_than, is_worse_than, is_indifferent_to, ActionOf, makes, writes, halts, ProductionOf}
use Rattle.defs_read.specs.PrintingConditions.{bare_text}
use Rattle.defs_read.specs.Sayings.{IsWordPlaced}
use Rattle.reading_laws.specs.Lawful.{AllOf}
use Rattle.reading_laws.specs.Printable.{IsWord, IsConstant, IsName, IsNaming, IsAtom, IsTest, IsPrintedField, IsPattern, IsCondition, AreConditions, IsValue, AreValues, IsPreference, IsPrintedAction, AreDistinct, IsPrintable}
use Rattle.reading_laws.proofs.FineLaws.{all_said}
use Rattle.reading_laws.proofs.GivenFields.{word_placed}
use Rattle.reading_laws.proofs.WordLaws.{known_place, position_kept}
use Rattle.std.specs.Str.{bytes_eq}

-- the first word of a table that has one
pub first_later : (words more : Texts) → text_of words 0 ≡ codes "state" → text_of (words ++ more) 0 ≡ codes "state"
first_later [] more h = absurd (cc)
first_later (text ∷ words) more h = h

module _ (words more : Texts) where
  abbrev later : Texts
  later = words ++ more

  -- ---- words

  word_later : (w : ℕ) → IsWordPlaced words (Word w) → IsWordPlaced later (Word w) × (text_of later w ≡ text_of words w)
  word_later w known = word_placed later (text_of words w) w (position_kept (bytes_eq (text_of words w)) 0 w words more (known_place words w known))

  pub placed_later : (s : Sym) → IsWordPlaced words s → IsWordPlaced later s × (bare_text later s ≡ bare_text words s)
  placed_later (Word w) known = word_later w known
  placed_later (Ident letter count) known = absurd (cc)
  placed_later (Int value) known = absurd (cc)

  is_word_later : (s : Sym) → IsWord words s → IsWord later s
  is_word_later s h = let p = placed_later s h.0 in (p.0, subst IsUtf8 (sym p.1) h.1)

  naming_later : (s : Sym) → IsNaming words s → IsNaming later s
  naming_later s h = let p = placed_later s h.0 in (p.0, subst IsName (sym p.1) h.1)

  constant_later : (s : Sym) → IsConstant words s → IsConstant later s
  constant_later (Word w) h = is_word_later (Word w) h
  constant_later (Int value) h = h
  constant_later (Ident letter count) h = h

  atom_later : (a : Atom) → IsAtom words a → IsAtom later a
  atom_later (Const s) h = constant_later s h
  atom_later (Var v) h = tt

  -- ---- conditions

  test_later : (t : Test) → IsTest words t → IsTest later t
  test_later (Plain a) h = atom_later a h
  test_later (Rel r a) h = atom_later a h
  test_later (OneOf symbols) h = (h.0, all_said (IsConstant words) (IsConstant later) symbols constant_later h.1)

  field_later : (f : Field) → IsPrintedField words f → IsPrintedField later f
  field_later f h = (h.0, all_said (IsTest words) (IsTest later) f.tests test_later h.1)

  pattern_later : (p : Pattern) → IsPattern words p → IsPattern later p
  pattern_later p h = (field_later p.id h.0, field_later p.attr h.1, field_later p.value h.2)

  mutual
    condition_later : (c : Condition) → IsCondition c words → IsCondition c later
    condition_later (positive p) h = pattern_later p h
    condition_later (negated p) h = pattern_later p h
    condition_later (conjunctive inside) h = (h.0, conditions_later inside h.1)

    conditions_later : (cs : Conditions) → AreConditions cs words → AreConditions cs later
    conditions_later no_more h = tt
    conditions_later (condition_and c cs) h = (condition_later c h.0, conditions_later cs h.1)

  -- ---- actions

  mutual
    value_later : (v : ValueOf) → IsValue v words → IsValue v later
    value_later (atom_value a) h = atom_later a h
    value_later (call_value f vs) h = (h.0, values_later vs h.1)

    values_later : (vs : ValuesOf) → AreValues vs words → AreValues vs later
    values_later no_values h = tt
    values_later (value_and v vs) h = (value_later v h.0, values_later vs h.1)

  preference_later : (p : PreferenceOf) → IsPreference words p → IsPreference later p
  preference_later accepts h = tt
  preference_later rejects h = tt
  preference_later requires_it h = tt
  preference_later prohibits h = tt
  preference_later is_best h = tt
  preference_later is_worst h = tt
  preference_later is_indifferent h = tt
  preference_later (is_better_than v) h = value_later v h
  preference_later (is_worse_than v) h = value_later v h
  preference_later (is_indifferent_to v) h = value_later v h

  action_later : (a : ActionOf) → IsPrintedAction words a → IsPrintedAction later a
  action_later (makes id attr value p) h = (h.0, value_later attr h.1, value_later value h.2, preference_later p h.3)
  action_later (writes written) h = all_said (λ v. IsValue v words) (λ v. IsValue v later) written value_later h
  action_later halts h = tt

  -- ---- the whole

  names_later : (vars : List Sym) → AllOf (IsNaming words) vars → map (bare_text later) vars ≡ map (bare_text words) vars
  names_later [] h = refl
  names_later (s ∷ vars) h = ap₂ (λ (x : List ℕ) (xs : Texts). x ∷ xs) (placed_later s h.0.0).1 (names_later vars h.1)

  pub printable_later : (p : ProductionOf) → IsPrintable words p → IsPrintable later p
  printable_later p h = record {
    state = first_later words more h.state;
    name = is_word_later p.name h.name;
    doc = h.doc;
    kind = h.kind;
    names = all_said (IsNaming words) (IsNaming later) p.vars naming_later h.names;
    distinct = subst AreDistinct (sym (names_later p.vars h.names)) h.distinct;
    some = h.some;
    conditions = conditions_later p.conditions h.conditions;
    actions = all_said (IsPrintedAction words) (IsPrintedAction later) p.actions action_later h.actions;
    numbered = h.numbered;
  }
