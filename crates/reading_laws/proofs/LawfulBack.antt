-- The tree of a printed production keeps the side rules of the grammar.
use Rattle.std.specs.Prelude.{codes, map, if◌then◌else◌}
use Rattle.std.proofs.Common.{◌≡◌, refl, sym, ap, subst, true, false, [], ◌∷◌, ◌++◌, List, ℕ, suc, Bool, ◌==◌, ◌<◌, Option, Some, None, inl, inr, arith}
use Rattle.std.proofs.lemmas.Bool.Decides.{nat_tests}
use Rattle.soar_sym.specs.Words.{Texts, text_of}
use Rattle.soar_sym.specs.declared.symbol.Sym.TheVariants.{Ident, Word, Int}
use Rattle.soar_rule.specs.declared.cond.Atom.TheVariants.{Const, Var}
use Rattle.soar_rule.specs.declared.cond.Relation.{Relation}
use Rattle.soar_rule.specs.declared.cond.Relation.TheVariants.{Differ, Less, Greater, AtMost, AtLeast, SameKind}
use Rattle.soar_rule.specs.declared.cond.Test.{Test}
use Rattle.soar_rule.specs.declared.cond.Test.TheVariants.{Plain, Rel, OneOf}
use Rattle.soar_rule.specs.declared.cond.Pattern.{Pattern}
use Rattle.soar_rule.specs.declared.production.Kind.{Kind}
use Rattle.soar_rule.specs.declared.production.Kind.TheVariants as kind
use Rattle.soar_rule.specs.declared.production.Support.{Support}
use Rattle.soar_rule.specs.declared.production.Support.TheVariants as support
use Rattle.soar_rule.specs.Conditions.{Condition, positive, negated, conjunctive, Conditions, no_more, condition_and}
use Rattle.soar_rule.specs.Productions.{ValueOf, atom_value, call_value, ValuesOf, no_values, value_and, values_of, PreferenceOf, accepts, rejects, requires_it, prohibits, is_best, is_worst, is_indifferent, is_better_than, is_worse_than, is_indifferent_to, ActionOf, makes, writes, halts, ProductionOf}
use Rattle.defs_read.specs.Grammar.{Constant, named, number, Single, a_variable, a_constant, Simple, tested, FieldTree, single}
use Rattle.defs_read.specs.PrintingConditions.{Naming, is_state_test}
use Rattle.reading_laws.specs.Lawful.{AllOf, IsSimple, IsField, state_word, IsGroup, IsPart, AreParts, count_of, Takes, IsTerm, AreTerms, IsWish, IsAction, AreFlags, Lawful}
use Rattle.reading_laws.specs.Printable.{IsTest, IsPattern, IsSome, IsCondition, AreConditions, count_values, IsValue, AreValues, IsPreference, IsPrintedAction, IsPrintable}
use Rattle.reading_laws.specs.TreeBack.{sign_back, test_back, state_barred, id_test_back, tests_back, group_back, part_back, inside_back, parts_back, term_back, terms_back, wish_back, action_back, kind_back, support_back, first_back, others_back, tree_back}
use Rattle.reading_laws.proofs.WordLaws.{first_word}

-- ---- fields

sign_is : (r : Relation) → sign_back r < 7
sign_is Differ = omega arith
sign_is Less = omega arith
sign_is Greater = omega arith
sign_is AtMost = omega arith
sign_is AtLeast = omega arith
sign_is SameKind = omega arith

test_is : (n : Naming) (t : Test) → IsSimple (test_back n t)
test_is n (Plain a) = tt
test_is n (Rel r a) = sign_is r
test_is n (OneOf symbols) = tt

id_test_is : (n : Naming) (t : Test) → IsSimple (id_test_back n t)
id_test_is n t = go (is_state_test t)
  where
    go : (b : Bool) → IsSimple (if b then state_barred else test_back n t)
    go true = tt
    go false = test_is n t

each_test : (back : Test → Simple) → ((t : Test) → IsSimple (back t)) → (ts : List Test) → AllOf IsSimple (map back ts)
each_test back h [] = tt
each_test back h (t ∷ ts) = (h t, each_test back h ts)

tests_are : (back : Test → Simple) → ((t : Test) → IsSimple (back t)) → (ts : List Test) → IsField (tests_back (map back ts))
tests_are back h [] = tt
tests_are back h (t ∷ []) = h t
tests_are back h (t ∷ u ∷ ts) = (h t, each_test back h (u ∷ ts))

-- ---- the word `state`

-- the text of a single word, whether it is bare, and whether a relation stands before it
abbrev text_of_constant : Constant → List ℕ
text_of_constant (named text bare) = text
text_of_constant (number z) = []

abbrev bare_constant : Constant → Bool
bare_constant (named text bare) = bare
bare_constant (number z) = false

abbrev text_of_single : Single → List ℕ
text_of_single (a_constant c) = text_of_constant c
text_of_single (a_variable name) = []

abbrev bare_single : Single → Bool
bare_single (a_constant c) = bare_constant c
bare_single (a_variable name) = false

abbrev text_in : FieldTree → List ℕ
text_in (single (tested t)) = text_of_single t.single
text_in other = []

abbrev bare_in : FieldTree → Bool
bare_in (single (tested t)) = bare_single t.single
bare_in other = false

abbrev is_there : Option ℕ → Bool
is_there (Some k) = true
is_there None = false

abbrev relation_in : FieldTree → Bool
relation_in (single (tested t)) = is_there t.relation
relation_in other = false

differ : false ≡ true → ⊥
differ e = cc

-- at the front of a group no bare word `state` is printed
not_state : (n : Naming) (t : Test) → text_of n.words 0 ≡ codes "state" → IsTest n.words t → single (id_test_back n t) ≡ state_word → ⊥
not_state n (Plain (Const (Word w))) state h e = go (w == 0) refl e
  where
    go : (b : Bool) → (w == 0) ≡ b → single (if b then state_barred else test_back n (Plain (Const (Word w)))) ≡ state_word → ⊥
    go true f g = differ (ap bare_in g)
    go false f g = let first : w ≡ 0 = first_word n.words w state h.0 (ap text_in g) in grind (arith, nat_tests)
not_state n (Plain (Const (Int value))) state h e = differ (ap bare_in e)
not_state n (Plain (Const (Ident letter count))) state h e = absurd h
not_state n (Plain (Var v)) state h e = differ (ap bare_in e)
not_state n (Rel r a) state h e = differ (sym (ap relation_in e))
not_state n (OneOf symbols) state h e = differ (ap bare_in e)

tests_plain : (n : Naming) (ts : List Test) → text_of n.words 0 ≡ codes "state" → AllOf (IsTest n.words) ts → tests_back (map (id_test_back n) ts) ≡ state_word → ⊥
tests_plain n [] state h e = differ (ap bare_in e)
tests_plain n (t ∷ []) state h e = not_state n t state h.0 e
tests_plain n (t ∷ u ∷ ts) state h e = differ (ap bare_in e)

abbrev field_in : FieldTree → Option FieldTree → FieldTree
field_in other (Some f) = f
field_in other None = other

-- ---- conditions

group_is : (n : Naming) (p : Pattern) → text_of n.words 0 ≡ codes "state" → IsPattern n.words p → IsGroup (group_back n p)
group_is n p state h = (
  λ _ e. tests_plain n p.id.tests state h.0.1 (ap (field_in state_word) e),
  tests_are (id_test_back n) (id_test_is n) p.id.tests,
  ((tests_are (test_back n) (test_is n) p.attr.tests, tt, (tests_are (test_back n) (test_is n) p.value.tests, tt)), tt),
)

mutual
  part_is : (c : Condition) (n : Naming) → text_of n.words 0 ≡ codes "state" → IsCondition c n.words → IsPart (part_back c n)
  part_is (positive p) n state h = group_is n p state h
  part_is (negated p) n state h = group_is n p state h
  part_is (conjunctive inside) n state h = inside_is inside n state h.0 h.1

  inside_is : (cs : Conditions) (n : Naming) → text_of n.words 0 ≡ codes "state" → IsSome cs → AreConditions cs n.words → IsPart (inside_back cs n)
  inside_is no_more n state some h = absurd some
  inside_is (condition_and c cs) n state some h = (part_is c n state h.0, parts_are cs n state h.1)

  parts_are : (cs : Conditions) (n : Naming) → text_of n.words 0 ≡ codes "state" → AreConditions cs n.words → AreParts (parts_back cs n)
  parts_are no_more n state h = tt
  parts_are (condition_and c cs) n state h = (part_is c n state h.0, parts_are cs n state h.1)

first_is : (cs : Conditions) (n : Naming) → text_of n.words 0 ≡ codes "state" → IsSome cs → AreConditions cs n.words → IsPart (first_back cs n)
first_is no_more n state some h = absurd some
first_is (condition_and c cs) n state some h = part_is c n state h.0

others_are : (cs : Conditions) (n : Naming) → text_of n.words 0 ≡ codes "state" → AreConditions cs n.words → AreParts (others_back cs n)
others_are no_more n state h = tt
others_are (condition_and c cs) n state h = parts_are cs n state h.1

-- ---- actions

same_count : (vs : ValuesOf) (n : Naming) → count_of (terms_back vs n) ≡ count_values vs
same_count no_values n = refl
same_count (value_and v others) n = ap suc (same_count others n)

mutual
  term_is : (v : ValueOf) (n : Naming) → IsValue v n.words → IsTerm (term_back v n)
  term_is (atom_value a) n h = tt
  term_is (call_value f others) n h = (subst (Takes f) (sym (same_count others n)) h.0, terms_are others n h.1)

  terms_are : (vs : ValuesOf) (n : Naming) → AreValues vs n.words → AreTerms (terms_back vs n)
  terms_are no_values n h = tt
  terms_are (value_and v others) n h = (term_is v n h.0, terms_are others n h.1)

wish_is : (n : Naming) (p : PreferenceOf) → IsPreference n.words p → IsWish (wish_back n p)
wish_is n accepts h = tt
wish_is n rejects h = tt
wish_is n requires_it h = tt
wish_is n prohibits h = tt
wish_is n is_worst h = (inl refl, tt)
wish_is n is_best h = (inr (inl refl), tt)
wish_is n is_indifferent h = (inr (inr refl), tt)
wish_is n (is_worse_than v) h = (inl refl, term_is v n h)
wish_is n (is_better_than v) h = (inr (inl refl), term_is v n h)
wish_is n (is_indifferent_to v) h = (inr (inr refl), term_is v n h)

written_are : (n : Naming) (written : List ValueOf) → AllOf (λ v. IsValue v n.words) written → AreTerms (terms_back (values_of written) n)
written_are n [] h = tt
written_are n (v ∷ written) h = (term_is v n h.0, written_are n written h.1)

action_is : (n : Naming) (a : ActionOf) → IsPrintedAction n.words a → IsAction (action_back n a)
action_is n (makes id attr value p) h = ((term_is attr n h.1, tt, (term_is value n h.2, (wish_is n p h.3, tt)), tt, tt), tt)
action_is n (writes written) h = written_are n written h
action_is n halts h = tt

actions_are : (n : Naming) (actions : List ActionOf) → AllOf (IsPrintedAction n.words) actions → AllOf IsAction (map (action_back n) actions)
actions_are n [] h = tt
actions_are n (a ∷ actions) h = (action_is n a h.0, actions_are n actions h.1)

-- ---- the whole

flags_are : (k : Kind) (s : Support) → AreFlags (kind_back k ++ support_back s)
flags_are kind.User support.Unset = tt
flags_are kind.User support.Operator = (tt, tt)
flags_are kind.User support.Instance = (tt, tt)
flags_are kind.Default support.Unset = (tt, tt)
flags_are kind.Default support.Operator = ((refl, tt), (tt, tt))
flags_are kind.Default support.Instance = ((refl, tt), (tt, tt))
flags_are kind.Chunk support.Unset = (tt, tt)
flags_are kind.Chunk support.Operator = ((refl, tt), (tt, tt))
flags_are kind.Chunk support.Instance = ((refl, tt), (tt, tt))
flags_are kind.Justification support.Unset = tt
flags_are kind.Justification support.Operator = (tt, tt)
flags_are kind.Justification support.Instance = (tt, tt)

pub tree_is : (words : Texts) (p : ProductionOf) → IsPrintable words p → Lawful (tree_back words p)
tree_is words p h =
    let n : Naming = record { words = words; vars = p.vars } in
    (flags_are p.kind p.support, first_is p.conditions n h.state h.some h.conditions, others_are p.conditions n h.state h.conditions, actions_are n p.actions h.actions)
