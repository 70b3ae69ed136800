-- The symbols of a production that is read are words of the table.
use Rattle.std.proofs.Common.{◌≡◌, ℕ, ◌<◌, ◌≤◌, ◌&&◌, true, List, [], ◌∷◌, ◌++◌, length, map, flat_map, Option, Some, None, refl, arith}
use Rattle.std.specs.Prelude.{unwrap_or}
use Rattle.std.specs.List.{list_all}
use Rattle.std.proofs.lemmas.Bool.{ltb-true}
use Rattle.soar_sym.specs.declared.symbol.Sym.{Sym}
use Rattle.soar_sym.specs.declared.symbol.Sym.TheVariants.{Ident, Word, Int}
use Rattle.soar_sym.specs.Words.{Texts, place_of, IsKnown}
use Rattle.soar_rule.specs.declared.cond.Atom.{Atom}
use Rattle.soar_rule.specs.declared.cond.Atom.TheVariants.{Const, Var}
use Rattle.soar_rule.specs.declared.cond.Test.{Test}
use Rattle.soar_rule.specs.declared.cond.Test.TheVariants.{Plain, Rel, OneOf}
use Rattle.soar_rule.specs.declared.cond.Pattern.{Pattern}
use Rattle.soar_rule.specs.Conditions.{Condition, positive, negated, conjunctive, Conditions, no_more, condition_and}
use Rattle.soar_rule.specs.Productions.{ValueOf, atom_value, call_value, ValuesOf, no_values, value_and, PreferenceOf, accepts, rejects, requires_it, prohibits, is_best, is_worst, is_indifferent, is_better_than, is_worse_than, is_indifferent_to, ActionOf, makes, writes, halts}
use Rattle.soar_rule.specs.Symbols.{AreKnown, constants_of_atom, constants_of_test, constants_of_field, constants_of_pattern, constants_of_condition, constants_of_conditions, constants_of_value, constants_of_values, constants_of_referent, constants_of_action}
use Rattle.soar_rule.specs.Variables.{referent_value}
use Rattle.defs_text.specs.Numbered.{word_in}
use Rattle.soar_read.proofs.FitLemmas.{symbol_fits, atom_fits, test_fits, field_fits, pattern_fits, condition_fits, conditions_fit, value_fits, values_fit, preference_fits, action_fits}
use Rattle.read_parts.proofs.TextLemmas.{and-true, place_within}

-- the table has so many words at least
pub record Holds (words : Texts) (known : ℕ) : Type 0 where
  pub many : known ≤ length words

pub known_append : (words : Texts) (xs ys : List Sym) → AreKnown words xs → AreKnown words ys → AreKnown words (xs ++ ys)
known_append words [] ys first second = second
known_append words (x ∷ xs) ys first second = (first.0, known_append words xs ys first.1 second)

-- ---- constants

symbol_known : (words : Texts) (known : ℕ) (s : Sym) → Holds words known → symbol_fits known s ≡ true → IsKnown words s
symbol_known words known (Word w) holds fits = omega (arith, ltb-true w known fits, holds.many)
symbol_known words known (Int z) holds fits = tt
symbol_known words known (Ident letter number) holds fits = absurd (cc)

symbols_known : (words : Texts) (known : ℕ) (ss : List Sym) → Holds words known → list_all (symbol_fits known) ss ≡ true → AreKnown words ss
symbols_known words known [] holds fits = tt
symbols_known words known (s ∷ ss) holds fits = let both : (symbol_fits known s ≡ true) × (list_all (symbol_fits known) ss ≡ true) = and-true fits in (symbol_known words known s holds both.0, symbols_known words known ss holds both.1)

atom_known : (words : Texts) (known n : ℕ) (a : Atom) → Holds words known → atom_fits known n a ≡ true → AreKnown words (constants_of_atom a)
atom_known words known n (Const s) holds fits = (symbol_known words known s holds fits, tt)
atom_known words known n (Var v) holds fits = tt

test_known : (words : Texts) (known n : ℕ) (t : Test) → Holds words known → test_fits known n t ≡ true → AreKnown words (constants_of_test t)
test_known words known n (Plain a) holds fits = atom_known words known n a holds fits
test_known words known n (Rel r a) holds fits = atom_known words known n a holds fits
test_known words known n (OneOf symbols) holds fits = symbols_known words known symbols holds fits

tests_known : (words : Texts) (known n : ℕ) (ts : List Test) → Holds words known → list_all (test_fits known n) ts ≡ true → AreKnown words (flat_map constants_of_test ts)
tests_known words known n [] holds fits = tt
tests_known words known n (t ∷ ts) holds fits =
    let both : (test_fits known n t ≡ true) × (list_all (test_fits known n) ts ≡ true) = and-true fits in
    known_append words (constants_of_test t) (flat_map constants_of_test ts) (test_known words known n t holds both.0) (tests_known words known n ts holds both.1)

pattern_known : (words : Texts) (known n : ℕ) (p : Pattern) → Holds words known → pattern_fits known n p ≡ true → AreKnown words (constants_of_pattern p)
pattern_known words known n p holds fits =
    let one : (field_fits known n p.id ≡ true) × ((field_fits known n p.attr && field_fits known n p.value) ≡ true) = and-true fits in
    let two : (field_fits known n p.attr ≡ true) × (field_fits known n p.value ≡ true) = and-true one.1 in
    known_append words (constants_of_field p.id) (constants_of_field p.attr ++ constants_of_field p.value) (tests_known words known n p.id.tests holds one.0)
    (known_append words (constants_of_field p.attr) (constants_of_field p.value) (tests_known words known n p.attr.tests holds two.0) (tests_known words known n p.value.tests holds two.1))

mutual
  condition_known : (words : Texts) (known n : ℕ) (c : Condition) → Holds words known → condition_fits known n c ≡ true → AreKnown words (constants_of_condition c)
  condition_known words known n (positive p) holds fits = pattern_known words known n p holds fits
  condition_known words known n (negated p) holds fits = pattern_known words known n p holds fits
  condition_known words known n (conjunctive inside) holds fits = conditions_known words known n inside holds fits

  pub conditions_known : (words : Texts) (known n : ℕ) (cs : Conditions) → Holds words known → conditions_fit known n cs ≡ true → AreKnown words (constants_of_conditions cs)
  conditions_known words known n no_more holds fits = tt
  conditions_known words known n (condition_and c cs) holds fits =
      let both : (condition_fits known n c ≡ true) × (conditions_fit known n cs ≡ true) = and-true fits in
      known_append words (constants_of_condition c) (constants_of_conditions cs) (condition_known words known n c holds both.0) (conditions_known words known n cs holds both.1)

mutual
  value_known : (words : Texts) (known n : ℕ) (v : ValueOf) → Holds words known → value_fits known n v ≡ true → AreKnown words (constants_of_value v)
  value_known words known n (atom_value a) holds fits = atom_known words known n a holds fits
  value_known words known n (call_value f vs) holds fits = values_known words known n vs holds fits

  values_known : (words : Texts) (known n : ℕ) (vs : ValuesOf) → Holds words known → values_fit known n vs ≡ true → AreKnown words (constants_of_values vs)
  values_known words known n no_values holds fits = tt
  values_known words known n (value_and v vs) holds fits =
      let both : (value_fits known n v ≡ true) × (values_fit known n vs ≡ true) = and-true fits in
      known_append words (constants_of_value v) (constants_of_values vs) (value_known words known n v holds both.0) (values_known words known n vs holds both.1)

referent_known : (words : Texts) (known n : ℕ) (p : PreferenceOf) → Holds words known → preference_fits known n p ≡ true → AreKnown words (constants_of_referent (referent_value p))
referent_known words known n (is_better_than v) holds fits = value_known words known n v holds fits
referent_known words known n (is_worse_than v) holds fits = value_known words known n v holds fits
referent_known words known n (is_indifferent_to v) holds fits = value_known words known n v holds fits
referent_known words known n accepts holds fits = tt
referent_known words known n rejects holds fits = tt
referent_known words known n requires_it holds fits = tt
referent_known words known n prohibits holds fits = tt
referent_known words known n is_best holds fits = tt
referent_known words known n is_worst holds fits = tt
referent_known words known n is_indifferent holds fits = tt

list_known : (words : Texts) (known n : ℕ) (vs : List ValueOf) → Holds words known → list_all (value_fits known n) vs ≡ true → AreKnown words (flat_map constants_of_value vs)
list_known words known n [] holds fits = tt
list_known words known n (v ∷ vs) holds fits =
    let both : (value_fits known n v ≡ true) × (list_all (value_fits known n) vs ≡ true) = and-true fits in
    known_append words (constants_of_value v) (flat_map constants_of_value vs) (value_known words known n v holds both.0) (list_known words known n vs holds both.1)

action_known : (words : Texts) (known n : ℕ) (a : ActionOf) → Holds words known → action_fits known n a ≡ true → AreKnown words (constants_of_action a)
action_known words known n (makes id attr value p) holds fits =
    let one : (atom_fits known n id ≡ true) × ((value_fits known n attr && (value_fits known n value && preference_fits known n p)) ≡ true) = and-true fits in
    let two : (value_fits known n attr ≡ true) × ((value_fits known n value && preference_fits known n p) ≡ true) = and-true one.1 in
    let three : (value_fits known n value ≡ true) × (preference_fits known n p ≡ true) = and-true two.1 in
    let referent : List Sym = constants_of_referent (referent_value p) in
    known_append words (constants_of_atom id) (constants_of_value attr ++ (constants_of_value value ++ referent)) (atom_known words known n id holds one.0)
    (known_append words (constants_of_value attr) (constants_of_value value ++ referent) (value_known words known n attr holds two.0)
    (known_append words (constants_of_value value) referent (value_known words known n value holds three.0) (referent_known words known n p holds three.1)))
action_known words known n (writes vs) holds fits = list_known words known n vs holds fits
action_known words known n halts holds fits = tt

pub actions_known : (words : Texts) (known n : ℕ) (actions : List ActionOf) → Holds words known → list_all (action_fits known n) actions ≡ true → AreKnown words (flat_map constants_of_action actions)
actions_known words known n [] holds fits = tt
actions_known words known n (a ∷ actions) holds fits =
    let both : (action_fits known n a ≡ true) × (list_all (action_fits known n) actions ≡ true) = and-true fits in
    known_append words (constants_of_action a) (flat_map constants_of_action actions) (action_known words known n a holds both.0) (actions_known words known n actions holds both.1)

-- ---- words

pub word_known : (words : Texts) (text : List ℕ) → 0 < length words → IsKnown words (word_in words text)
word_known words text room = by (place_of words text) refl
  where
    by : (o : Option ℕ) → place_of words text ≡ o → unwrap_or o 0 < length words
    by None at = room
    by (Some n) at = place_within words text n at

pub names_known : (words : Texts) (names : Texts) → 0 < length words → AreKnown words (map (word_in words) names)
names_known words [] room = tt
names_known words (name ∷ names) room = (word_known words name room, names_known words names room)
