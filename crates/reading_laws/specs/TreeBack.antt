-- The tree of a production's printed text.
use Rattle.std.specs.Prelude.{ℕ, true, false, List, [], ◌∷◌, ◌++◌, map, Some, None, codes, if◌then◌else◌}
use Rattle.std.specs.Fmt.{decimal}
use Rattle.soar_sym.specs.Words.{Texts, text_of}
use Rattle.soar_sym.specs.declared.symbol.Sym.{Sym}
use Rattle.soar_sym.specs.declared.symbol.Sym.TheVariants.{Ident, Word, Int}
use Rattle.soar_rule.specs.declared.cond.Atom.{Atom}
use Rattle.soar_rule.specs.declared.cond.Atom.TheVariants.{Const, Var}
use Rattle.soar_rule.specs.declared.cond.Relation.{Relation}
use Rattle.soar_rule.specs.declared.cond.Relation.TheVariants.{Differ, Less, Greater, AtMost, AtLeast, SameKind}
use Rattle.soar_rule.specs.declared.cond.Test.{Test}
use Rattle.soar_rule.specs.declared.cond.Test.TheVariants.{Plain, Rel, OneOf}
use Rattle.soar_rule.specs.declared.cond.Field.{Field}
use Rattle.soar_rule.specs.declared.cond.Pattern.{Pattern}
use Rattle.soar_rule.specs.declared.production.Kind.{Kind}
use Rattle.soar_rule.specs.declared.production.Kind.TheVariants as kind
use Rattle.soar_rule.specs.declared.production.Support.{Support}
use Rattle.soar_rule.specs.declared.production.Support.TheVariants as support
use Rattle.soar_rule.specs.Conditions.{Condition, positive, negated, conjunctive, Conditions, no_more, condition_and}
use Rattle.soar_rule.specs.Productions.{ValueOf, atom_value, call_value, ValuesOf, no_values, value_and, values_of, PreferenceOf, accepts, rejects, requires_it, prohibits, is_best, is_worst, is_indifferent, is_better_than, is_worse_than, is_indifferent_to, ActionOf, makes, writes, halts, ProductionOf}
use Rattle.defs_text.specs.Symbols.{stands_bare}
use Rattle.defs_read.specs.Grammar.{Constant, named, number, Single, a_variable, a_constant, Alternatives, Simple, one_of, tested, FieldTree, braced, single, Group, Part, grouped, joined, Parts, no_parts, part_and, Term, simple, called, Terms, no_terms, term_and, WishTree, accepting, rejecting, requiring, prohibiting, comparing, ActionTree, making, writing, halting, Flag, operator_support, instance_support, is_default, is_chunk, Tree}
use Rattle.defs_read.specs.PrintingConditions.{Naming, name_at, bare_text, is_state_test}

-- ---- fields

-- a word as it is printed: bare, where it is read back so
abbrev pub word_back : List ℕ → Constant
word_back text = named text (stands_bare text)

-- an identifier would be read as a word
abbrev pub constant_back : Texts → Sym → Constant
constant_back words (Word word) = word_back (text_of words word)
constant_back words (Int value) = number value
constant_back words (Ident letter count) = word_back (letter ∷ decimal count)

-- the name of a variable
abbrev pub name_back : Naming → ℕ → List ℕ
name_back n v = bare_text n.words (name_at n.vars v)

abbrev pub single_back : Naming → Atom → Single
single_back n (Const s) = a_constant (constant_back n.words s)
single_back n (Var v) = a_variable (name_back n v)

-- the place of a relation's sign among `<`, `>`, `<=`, `>=`, `<>`, `<=>`
abbrev pub sign_back : Relation → ℕ
sign_back Less = 0
sign_back Greater = 1
sign_back AtMost = 2
sign_back AtLeast = 3
sign_back Differ = 4
sign_back SameKind = 5

-- an empty disjunction has no tree
abbrev pub alternatives_back : Texts → List Sym → Alternatives
alternatives_back words [] = record { first = named [] false; others = [] }
alternatives_back words (s ∷ symbols) = record { first = constant_back words s; others = map (constant_back words) symbols }

abbrev pub test_back : Naming → Test → Simple
test_back n (Plain a) = tested (record { relation = None; single = single_back n a })
test_back n (Rel r a) = tested (record { relation = Some (sign_back r); single = single_back n a })
test_back n (OneOf symbols) = one_of (alternatives_back n.words symbols)

-- the word `state` in bars
abbrev pub state_barred : Simple
state_barred = tested (record { relation = None; single = a_constant (named (codes "state") false) })

-- at the front of a group the word `state` stands in bars
abbrev pub id_test_back : Naming → Test → Simple
id_test_back n t = if is_state_test t then state_barred else test_back n t

-- several tests stand in braces; none has no tree
abbrev pub tests_back : List Simple → FieldTree
tests_back [] = single state_barred
tests_back (s ∷ []) = single s
tests_back (s ∷ t ∷ simples) = braced (record { first = s; others = t ∷ simples })

abbrev pub field_back : Naming → Field → FieldTree
field_back n field = tests_back (map (test_back n) field.tests)

abbrev pub id_back : Naming → Field → FieldTree
id_back n field = tests_back (map (id_test_back n) field.tests)

-- ---- conditions

abbrev pub group_back : Naming → Pattern → Group
group_back n p =
    record {
      state = p.state;
      field = Some (id_back n p.id);
      tests = record { negative = false; attribute = field_back n p.attr; path = []; values = record { value = field_back n p.value; accept = p.accept } ∷ [] } ∷ [];
    }

-- a group of nothing
abbrev pub no_group : Part
no_group = grouped false (record { state = false; field = None; tests = [] })

abbrev mutual
  pub part_back : Condition → Naming → Part
  part_back (positive p) n = grouped false (group_back n p)
  part_back (negated p) n = grouped true (group_back n p)
  part_back (conjunctive inside) n = inside_back inside n

  -- the negation of nothing has no tree
  pub inside_back : Conditions → Naming → Part
  inside_back no_more n = no_group
  inside_back (condition_and c cs) n = joined true (part_back c n) (parts_back cs n)

  pub parts_back : Conditions → Naming → Parts
  parts_back no_more n = no_parts
  parts_back (condition_and c cs) n = part_and (part_back c n) (parts_back cs n)

-- ---- actions

abbrev mutual
  pub term_back : ValueOf → Naming → Term
  term_back (atom_value a) n = simple (single_back n a)
  term_back (call_value f values) n = called f (terms_back values n)

  pub terms_back : ValuesOf → Naming → Terms
  terms_back no_values n = no_terms
  terms_back (value_and v values) n = term_and (term_back v n) (terms_back values n)

abbrev pub wish_back : Naming → PreferenceOf → WishTree
wish_back n accepts = accepting
wish_back n rejects = rejecting
wish_back n requires_it = requiring
wish_back n prohibits = prohibiting
wish_back n is_worst = comparing (record { sign = 0; referent = None })
wish_back n is_best = comparing (record { sign = 1; referent = None })
wish_back n is_indifferent = comparing (record { sign = 6; referent = None })
wish_back n (is_worse_than v) = comparing (record { sign = 0; referent = Some (term_back v n) })
wish_back n (is_better_than v) = comparing (record { sign = 1; referent = Some (term_back v n) })
wish_back n (is_indifferent_to v) = comparing (record { sign = 6; referent = Some (term_back v n) })

-- the variable of which an action makes something; a constant has no tree
abbrev pub maker_back : Naming → Atom → List ℕ
maker_back n (Var v) = name_back n v
maker_back n (Const s) = []

abbrev pub action_back : Naming → ActionOf → ActionTree
action_back n (makes id attr value p) =
    making (record {
      variable = maker_back n id;
      make = record { attribute = term_back attr n; path = []; item = record { value = term_back value n; wishes = wish_back n p ∷ [] }; items = [] };
      makes = [];
    })
action_back n (writes values) = writing (terms_back (values_of values) n)
action_back n halts = halting

-- ---- the whole

-- a justification has no flag
abbrev pub kind_back : Kind → List Flag
kind_back kind.User = []
kind_back kind.Default = is_default ∷ []
kind_back kind.Chunk = is_chunk ∷ []
kind_back kind.Justification = []

abbrev pub support_back : Support → List Flag
support_back support.Unset = []
support_back support.Operator = operator_support ∷ []
support_back support.Instance = instance_support ∷ []

abbrev pub first_back : Conditions → Naming → Part
first_back no_more n = no_group
first_back (condition_and c cs) n = part_back c n

abbrev pub others_back : Conditions → Naming → Parts
others_back no_more n = no_parts
others_back (condition_and c cs) n = parts_back cs n

-- the tree of the text that a production is printed as
abbrev pub tree_back : Texts → ProductionOf → Tree
tree_back words p =
    let n : Naming = record { words = words; vars = p.vars } in
    record {
      name = bare_text words p.name;
      bare = stands_bare (bare_text words p.name);
      doc = p.doc;
      flags = kind_back p.kind ++ support_back p.support;
      part = first_back p.conditions n;
      parts = others_back p.conditions n;
      actions = map (action_back n) p.actions;
    }
