-- The constants of the conditions that trees mean are words and numbers.
use Rattle.std.proofs.Common.{ℕ, ◌≤◌, ◌==◌, Bool, true, false, cond, arith, List, [], ◌∷◌, ◌++◌, length, map, flat_map, Option, Some, None}
use Rattle.soar_sym.specs.Words.{Texts}
use Rattle.soar_sym.specs.declared.symbol.Sym.TheVariants.{Word}
use Rattle.soar_rule.specs.declared.cond.Atom.{Atom}
use Rattle.soar_rule.specs.declared.cond.Atom.TheVariants.{Const}
use Rattle.soar_rule.specs.declared.cond.Field.{Field}
use Rattle.soar_rule.specs.declared.cond.Relation.TheVariants.{Differ, Less, Greater, AtMost, AtLeast, SameKind}
use Rattle.soar_rule.specs.declared.cond.Test.TheVariants.{Plain, Rel}
use Rattle.soar_rule.specs.Conditions.{Condition, positive, negated, conjunctive, all_of}
use Rattle.soar_rule.specs.Symbols.{constants_of_atom, constants_of_condition, constants_of_conditions, constants_of_field, constants_of_test}
use Rattle.defs_read.specs.ConditionExpansion.{along, group_conditions, group_field, group_tests, negation_of, part_conditions, parts_conditions, signed, tests_conditions, triple_condition, valued, with_values}
use Rattle.defs_read.specs.FieldExpansion.{atom_of, field_of, plain_field, simples_of, symbol_of, test_by, test_by_sign, test_of, tests_of}
use Rattle.defs_read.specs.FreshNames.{Fresh, fresh_variable}
use Rattle.defs_read.specs.Grammar.{AttributeTest, Constant, named, number, FieldTree, Group, Part, grouped, joined, Parts, no_parts, part_and, Simple, one_of, tested, Single, a_variable, a_constant, ValueTest}
use Rattle.learning_laws.specs.LawfulAgents.{IsLiteral}
use Rattle.loading_laws.specs.Literals.{AreLiteral}
use Rattle.loading_laws.proofs.LiteralLists.{both, none, one, word_literal}

module _ (words : Texts) (some : 6 ≤ length words) where
  -- ---- fields

  constant_literal : (c : Constant) → IsLiteral words (symbol_of words c)
  constant_literal (named text bare) = word_literal words text (omega arith)
  constant_literal (number z) = tt

  constants_literal : (cs : List Constant) → AreLiteral words (map (symbol_of words) cs)
  constants_literal [] = none words
  constants_literal (c ∷ cs) = both words (symbol_of words c ∷ []) (map (symbol_of words) cs) (one words (symbol_of words c) (constant_literal c)) (constants_literal cs)

  pub atom_literal : (x : Single) (f : Fresh) → AreLiteral words (constants_of_atom (atom_of words x f).value)
  atom_literal (a_variable name) f = none words
  atom_literal (a_constant c) f = one words (symbol_of words c) (constant_literal c)

  sign_literal : (k : ℕ) (a : Atom) → AreLiteral words (constants_of_atom a) → AreLiteral words (constants_of_test (test_by_sign k a))
  sign_literal k a h = go (k == 0) (k == 1) (k == 2) (k == 3) (k == 4) (k == 5)
    where
      go : (b0 b1 b2 b3 b4 b5 : Bool)
          → AreLiteral words (constants_of_test (cond b0 (Rel Less a) (cond b1 (Rel Greater a) (cond b2 (Rel AtMost a) (cond b3 (Rel AtLeast a) (cond b4 (Rel Differ a) (cond b5 (Rel SameKind a) (Plain a))))))))
      go true b1 b2 b3 b4 b5 = h
      go false true b2 b3 b4 b5 = h
      go false false true b3 b4 b5 = h
      go false false false true b4 b5 = h
      go false false false false true b5 = h
      go false false false false false true = h
      go false false false false false false = h

  by_literal : (o : Option ℕ) (a : Atom) → AreLiteral words (constants_of_atom a) → AreLiteral words (constants_of_test (test_by o a))
  by_literal None a h = h
  by_literal (Some k) a h = sign_literal k a h

  test_literal : (x : Simple) (f : Fresh) → AreLiteral words (constants_of_test (test_of words x f).value)
  test_literal (one_of a) f =
      both words (symbol_of words a.first ∷ []) (map (symbol_of words) a.others) (one words (symbol_of words a.first) (constant_literal a.first)) (constants_literal a.others)
  test_literal (tested t) f = by_literal t.relation (atom_of words t.single f).value (atom_literal t.single f)

  tests_literal : (xs : List Simple) (f : Fresh) → AreLiteral words (flat_map constants_of_test (tests_of words xs f).value)
  tests_literal [] f = none words
  tests_literal (x ∷ xs) f =
      let e = test_of words x f in
      both words (constants_of_test e.value) (flat_map constants_of_test (tests_of words xs e.names).value) (test_literal x f) (tests_literal xs e.names)

  abbrev HasField : Field → Type 0
  HasField field = AreLiteral words (constants_of_field field)

  field_literal : (tree : FieldTree) (f : Fresh) → HasField (field_of words tree f).value
  field_literal tree f = tests_literal (simples_of tree) f

  plain_literal : (a : Atom) → AreLiteral words (constants_of_atom a) → HasField (plain_field a)
  plain_literal a h = both words (constants_of_atom a) [] h (none words)

  new_literal : (f : Fresh) → HasField (plain_field (fresh_variable f).value)
  new_literal f = plain_literal (fresh_variable f).value (none words)

  -- ---- triples

  -- the constants of each condition are so
  abbrev pub AreOfWords : List Condition → Type 0
  AreOfWords [] = Unit {0}
  AreOfWords (c ∷ cs) = AreLiteral words (constants_of_condition c) × AreOfWords cs

  and_more : (cs ds : List Condition) → AreOfWords cs → AreOfWords ds → AreOfWords (cs ++ ds)
  and_more [] ds h k = k
  and_more (c ∷ cs) ds h k = (h.0, and_more cs ds h.1 k)

  pub all_literal : (cs : List Condition) → AreOfWords cs → AreLiteral words (constants_of_conditions (all_of cs))
  all_literal [] h = none words
  all_literal (c ∷ cs) h = both words (constants_of_condition c) (constants_of_conditions (all_of cs)) h.0 (all_literal cs h.1)

  triple_literal : (state : Bool) (id attr value : Field) (accept : Bool) → HasField id → HasField attr → HasField value → AreLiteral words (constants_of_condition (triple_condition state id attr value accept))
  triple_literal state id attr value accept h k l =
      both words (constants_of_field id) (constants_of_field attr ++ constants_of_field value) h (both words (constants_of_field attr) (constants_of_field value) k l)

  values_literal : (state : Bool) (id attr : Field) (values : List ValueTest) (f : Fresh) → HasField id → HasField attr → AreOfWords (with_values words state id attr values f).value
  values_literal state id attr [] f h k = tt
  values_literal state id attr (v ∷ values) f h k =
      let e = field_of words v.value f in (triple_literal state id attr e.value v.accept h k (field_literal v.value f), values_literal state id attr values e.names h k)

  valued_literal : (state : Bool) (id attr : Field) (values : List ValueTest) (f : Fresh) → HasField id → HasField attr → AreOfWords (valued words state id attr values f).value
  valued_literal state id attr [] f h k = (triple_literal state id attr (plain_field (fresh_variable f).value) false h k (new_literal f), tt)
  valued_literal state id attr (v ∷ values) f h k = values_literal state id attr (v ∷ values) f h k

  along_literal : (state : Bool) (id : Field) (attribute : FieldTree) (path : List FieldTree) (values : List ValueTest) (f : Fresh) → HasField id
      → AreOfWords (along words state id attribute path values f).value
  along_literal state id attribute [] values f h = let e = field_of words attribute f in valued_literal state id e.value values e.names h (field_literal attribute f)
  along_literal state id attribute (next ∷ path) values f h =
      let e = field_of words attribute f in
      let v = fresh_variable e.names in (
        triple_literal state id e.value (plain_field v.value) false h (field_literal attribute f) (new_literal e.names),
        along_literal false (plain_field v.value) next path values v.names (new_literal e.names),
      )

  -- ---- negations

  negation_literal : (cs : List Condition) → AreOfWords cs → AreLiteral words (constants_of_condition (negation_of cs))
  negation_literal [] h = none words
  negation_literal (positive p ∷ []) h = h.0
  negation_literal (positive p ∷ c ∷ cs) h = all_literal (positive p ∷ c ∷ cs) h
  negation_literal (negated p ∷ cs) h = all_literal (negated p ∷ cs) h
  negation_literal (conjunctive ds ∷ cs) h = all_literal (conjunctive ds ∷ cs) h

  signed_literal : (negative : Bool) (cs : List Condition) → AreOfWords cs → AreOfWords (signed negative cs)
  signed_literal true cs h = (negation_literal cs h, tt)
  signed_literal false cs h = h

  braced_literal : (negative : Bool) (cs : List Condition) → AreOfWords cs → AreOfWords (cond negative (conjunctive (all_of cs) ∷ []) cs)
  braced_literal true cs h = (all_literal cs h, tt)
  braced_literal false cs h = h

  -- ---- groups

  each_literal : (state : Bool) (id : Field) (tests : List AttributeTest) (f : Fresh) → HasField id → AreOfWords (tests_conditions words state id tests f).value
  each_literal state id [] f h = tt
  each_literal state id (t ∷ tests) f h =
      let e = along words state id t.attribute t.path t.values f in
      and_more (signed t.negative e.value) (tests_conditions words state id tests e.names).value (signed_literal t.negative e.value (along_literal state id t.attribute t.path t.values f h))
      (each_literal state id tests e.names h)

  id_literal : (o : Option FieldTree) (f : Fresh) → HasField (group_field words o f).value
  id_literal None f = new_literal f
  id_literal (Some tree) f = field_literal tree f

  -- the word of the superstate is the sixth
  inside_literal : (state : Bool) (id : Field) (tests : List AttributeTest) (f : Fresh) → HasField id → AreOfWords (group_tests words state id tests f).value
  inside_literal state id [] f h =
      (triple_literal state id (plain_field (Const (Word 5))) (plain_field (fresh_variable f).value) false h (plain_literal (Const (Word 5)) (one words (Word 5) (omega arith))) (new_literal f), tt)
  inside_literal state id (t ∷ tests) f h = each_literal state id (t ∷ tests) f h

  group_literal : (g : Group) (f : Fresh) → AreOfWords (group_conditions words g f).value
  group_literal g f = let e = group_field words g.field f in inside_literal g.state e.value g.tests e.names (id_literal g.field f)

  -- ---- conditions

  mutual
    part_literal : (p : Part) (f : Fresh) → AreOfWords (part_conditions p words f).value
    part_literal (grouped negative g) f = signed_literal negative (group_conditions words g f).value (group_literal g f)
    part_literal (joined negative p ps) f =
        let e = part_conditions p words f in
        let more = (parts_conditions ps words e.names).value in
        braced_literal negative (e.value ++ more) (and_more e.value more (part_literal p f) (parts_literal ps e.names))

    pub parts_literal : (ps : Parts) (f : Fresh) → AreOfWords (parts_conditions ps words f).value
    parts_literal no_parts f = tt
    parts_literal (part_and p ps) f = let e = part_conditions p words f in and_more e.value (parts_conditions ps words e.names).value (part_literal p f) (parts_literal ps e.names)
