-- The code's trees as those of the grammar, with the texts of a table in place of its words.
use Rattle.std.specs.Prelude.{Bool, false, List, [], ◌∷◌, map, None, option_map}
use Rattle.soar_sym.specs.Words.{Texts}
use Rattle.defs_read.specs.Grammar.{Single, Simple, FieldTree, Part, Parts, Term, WishTree, ActionTree, Flag, Tree}
use Rattle.defs_read.specs.Grammar as grammar
use Rattle.defs_read.specs.Reading.{parts_of}
use Rattle.defs_read.specs.ReadingValues.{terms_of}
use Rattle.defs_read.specs.Sayings.{word_text}
use Rattle.tree_parts.specs.declared.field.Constant.{Constant as ConstantRead}
use Rattle.tree_parts.specs.declared.field.Constant.TheVariants as constant
use Rattle.tree_parts.specs.declared.field.Single.{Single as SingleRead}
use Rattle.tree_parts.specs.declared.field.Single.TheVariants as single
use Rattle.tree_parts.specs.declared.field.Alternatives.{Alternatives as AlternativesRead}
use Rattle.tree_parts.specs.declared.field.Tested.{Tested as TestedRead}
use Rattle.tree_parts.specs.declared.field.Simple.{Simple as SimpleRead}
use Rattle.tree_parts.specs.declared.field.Simple.TheVariants as simple
use Rattle.tree_parts.specs.declared.field.Braced.{Braced as BracedRead}
use Rattle.tree_parts.specs.declared.field.FieldTree.{FieldTree as FieldRead}
use Rattle.tree_parts.specs.declared.field.FieldTree.TheVariants as field
use Rattle.tree_parts.specs.declared.condition.ValueTest.{ValueTest as ValueTestRead}
use Rattle.tree_parts.specs.declared.condition.AttributeTest.{AttributeTest as AttributeTestRead}
use Rattle.tree_parts.specs.declared.condition.Group.{Group as GroupRead}
use Rattle.tree_parts.specs.declared.condition.Part.{Part as PartRead, fold-Part}
use Rattle.tree_parts.specs.declared.condition.Part.TheOpen.{Part-F, Grouped, Joined}
use Rattle.tree_parts.specs.declared.action.Term.{Term as TermRead, fold-Term}
use Rattle.tree_parts.specs.declared.action.Term.TheOpen.{Term-F, Single as Alone, Call}
use Rattle.tree_parts.specs.declared.action.Compared.{Compared as ComparedRead}
use Rattle.tree_parts.specs.declared.action.WishTree.{WishTree as WishRead}
use Rattle.tree_parts.specs.declared.action.WishTree.TheVariants as wish
use Rattle.tree_parts.specs.declared.action.ItemTree.{ItemTree as ItemRead}
use Rattle.tree_parts.specs.declared.action.AttributeMake.{AttributeMake as AttributeMakeRead}
use Rattle.tree_parts.specs.declared.action.MakeTree.{MakeTree as MakeRead}
use Rattle.tree_parts.specs.declared.action.ActionTree.{ActionTree as ActionRead}
use Rattle.tree_parts.specs.declared.action.ActionTree.TheVariants as action
use Rattle.tree_parts.specs.declared.production.Flag.{Flag as FlagRead}
use Rattle.tree_parts.specs.declared.production.Flag.TheVariants as flag
use Rattle.tree_parts.specs.declared.production.Tree.{Tree as TreeRead}

-- ---- fields

abbrev pub constant_seen : Texts → ConstantRead → grammar.Constant
constant_seen words (constant.Named word bare) = grammar.named (word_text words word) bare
constant_seen words (constant.Number value) = grammar.number value

abbrev pub single_seen : Texts → SingleRead → Single
single_seen words (single.Variable name) = grammar.a_variable (word_text words name)
single_seen words (single.Constant c) = grammar.a_constant (constant_seen words c)

abbrev pub alternatives_seen : Texts → AlternativesRead → grammar.Alternatives
alternatives_seen words a = record { first = constant_seen words a.first; others = map (constant_seen words) a.others }

abbrev pub tested_seen : Texts → TestedRead → grammar.Tested
tested_seen words t = record { relation = t.relation; single = single_seen words t.single }

abbrev pub simple_seen : Texts → SimpleRead → Simple
simple_seen words (simple.OneOf a) = grammar.one_of (alternatives_seen words a)
simple_seen words (simple.Tested t) = grammar.tested (tested_seen words t)

abbrev pub braced_seen : Texts → BracedRead → grammar.Braced
braced_seen words b = record { first = simple_seen words b.first; others = map (simple_seen words) b.others }

abbrev pub field_seen : Texts → FieldRead → FieldTree
field_seen words (field.Braced b) = grammar.braced (braced_seen words b)
field_seen words (field.Single s) = grammar.single (simple_seen words s)

-- ---- conditions

abbrev pub value_test_seen : Texts → ValueTestRead → grammar.ValueTest
value_test_seen words v = record { value = field_seen words v.value; accept = v.accept }

abbrev pub attribute_test_seen : Texts → AttributeTestRead → grammar.AttributeTest
attribute_test_seen words t = record {
  negative = t.negative;
  attribute = field_seen words t.attribute;
  path = map (field_seen words) t.path;
  values = map (value_test_seen words) t.values;
}

abbrev pub group_seen : Texts → GroupRead → grammar.Group
group_seen words g = record { state = g.state; field = option_map (field_seen words) g.field; tests = map (attribute_test_seen words) g.tests }

-- nothing stands in empty braces; the reader makes none
abbrev pub joined_of : Bool → List Part → Part
joined_of negative [] = grammar.grouped negative (record { state = false; field = None; tests = [] })
joined_of negative (p ∷ parts) = grammar.joined negative p (parts_of parts)

-- one condition, with what the conditions in braces are seen as in their places
abbrev pub part_step : Texts → Part-F Part → Part
part_step words (Grouped negative g) = grammar.grouped negative (group_seen words g)
part_step words (Joined negative parts) = joined_of negative parts

abbrev pub part_seen : Texts → PartRead → Part
part_seen words = fold-Part Part (part_step words)

-- ---- actions

-- one value, with what a call's values are seen as in their places
abbrev pub term_step : Texts → Term-F Term → Term
term_step words (Alone s) = grammar.simple (single_seen words s)
term_step words (Call f terms) = grammar.called f (terms_of terms)

abbrev pub term_seen : Texts → TermRead → Term
term_seen words = fold-Term Term (term_step words)

abbrev pub compared_seen : Texts → ComparedRead → grammar.Compared
compared_seen words c = record { sign = c.sign; referent = option_map (term_seen words) c.referent }

abbrev pub wish_seen : Texts → WishRead → WishTree
wish_seen words wish.Accepting = grammar.accepting
wish_seen words wish.Rejecting = grammar.rejecting
wish_seen words wish.Requiring = grammar.requiring
wish_seen words wish.Prohibiting = grammar.prohibiting
wish_seen words (wish.Comparing c) = grammar.comparing (compared_seen words c)

abbrev pub item_seen : Texts → ItemRead → grammar.ItemTree
item_seen words i = record { value = term_seen words i.value; wishes = map (wish_seen words) i.wishes }

abbrev pub attribute_make_seen : Texts → AttributeMakeRead → grammar.AttributeMake
attribute_make_seen words m = record {
  attribute = term_seen words m.attribute;
  path = map (term_seen words) m.path;
  item = item_seen words m.item;
  items = map (item_seen words) m.items;
}

abbrev pub make_seen : Texts → MakeRead → grammar.MakeTree
make_seen words m = record { variable = word_text words m.variable; make = attribute_make_seen words m.make; makes = map (attribute_make_seen words) m.makes }

abbrev pub action_seen : Texts → ActionRead → ActionTree
action_seen words (action.Making m) = grammar.making (make_seen words m)
action_seen words (action.Writing terms) = grammar.writing (terms_of (map (term_seen words) terms))
action_seen words action.Halting = grammar.halting

-- ---- productions

abbrev pub flag_seen : FlagRead → Flag
flag_seen flag.OperatorSupport = grammar.operator_support
flag_seen flag.InstanceSupport = grammar.instance_support
flag_seen flag.Default = grammar.is_default
flag_seen flag.Chunk = grammar.is_chunk

abbrev pub tree_seen : Texts → TreeRead → Tree
tree_seen words t = record {
  name = word_text words t.name;
  bare = t.bare;
  doc = t.doc;
  flags = map flag_seen t.flags;
  part = part_seen words t.part;
  parts = parts_of (map (part_seen words) t.parts);
  actions = map (action_seen words) t.actions;
}
