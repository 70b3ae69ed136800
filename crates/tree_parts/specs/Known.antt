-- Whether a table has the words of a tree.
use Rattle.std.specs.Prelude.{Bool, true, ◌&&◌, Option, Some, None}
use Rattle.std.specs.List.{list_all}
use Rattle.soar_sym.specs.Words.{Texts}
use Rattle.defs_read.specs.Sayings.{is_word_known}
use Rattle.tree_parts.specs.declared.field.Constant.{Constant}
use Rattle.tree_parts.specs.declared.field.Constant.TheVariants as constant
use Rattle.tree_parts.specs.declared.field.Single.{Single}
use Rattle.tree_parts.specs.declared.field.Single.TheVariants as single
use Rattle.tree_parts.specs.declared.field.Simple.{Simple}
use Rattle.tree_parts.specs.declared.field.Simple.TheVariants as simple
use Rattle.tree_parts.specs.declared.field.FieldTree.{FieldTree}
use Rattle.tree_parts.specs.declared.field.FieldTree.TheVariants as field
use Rattle.tree_parts.specs.declared.condition.ValueTest.{ValueTest}
use Rattle.tree_parts.specs.declared.condition.AttributeTest.{AttributeTest}
use Rattle.tree_parts.specs.declared.condition.Group.{Group}
use Rattle.tree_parts.specs.declared.condition.Part.{Part, fold-Part}
use Rattle.tree_parts.specs.declared.condition.Part.TheOpen.{Part-F, Grouped, Joined}
use Rattle.tree_parts.specs.declared.action.Term.{Term, fold-Term}
use Rattle.tree_parts.specs.declared.action.Term.TheOpen.{Term-F, Single as Alone, Call}
use Rattle.tree_parts.specs.declared.action.WishTree.{WishTree}
use Rattle.tree_parts.specs.declared.action.WishTree.TheVariants as wish
use Rattle.tree_parts.specs.declared.action.ItemTree.{ItemTree}
use Rattle.tree_parts.specs.declared.action.AttributeMake.{AttributeMake}
use Rattle.tree_parts.specs.declared.action.ActionTree.{ActionTree}
use Rattle.tree_parts.specs.declared.action.ActionTree.TheVariants as action
use Rattle.tree_parts.specs.declared.production.Tree.{Tree}

abbrev pub is_option_known : {A : Type 0} → (A → Bool) → Option A → Bool
is_option_known is_known None = true
is_option_known is_known (Some a) = is_known a

-- ---- fields

abbrev pub is_constant_known : Texts → Constant → Bool
is_constant_known words (constant.Named word bare) = is_word_known words word
is_constant_known words (constant.Number value) = true

abbrev pub is_single_known : Texts → Single → Bool
is_single_known words (single.Variable name) = is_word_known words name
is_single_known words (single.Constant c) = is_constant_known words c

abbrev pub is_simple_known : Texts → Simple → Bool
is_simple_known words (simple.OneOf a) = is_constant_known words a.first && list_all (is_constant_known words) a.others
is_simple_known words (simple.Tested t) = is_single_known words t.single

abbrev pub is_field_known : Texts → FieldTree → Bool
is_field_known words (field.Braced b) = is_simple_known words b.first && list_all (is_simple_known words) b.others
is_field_known words (field.Single s) = is_simple_known words s

-- ---- conditions

abbrev pub is_value_test_known : Texts → ValueTest → Bool
is_value_test_known words v = is_field_known words v.value

abbrev pub is_attribute_test_known : Texts → AttributeTest → Bool
is_attribute_test_known words t = is_field_known words t.attribute && (list_all (is_field_known words) t.path && list_all (is_value_test_known words) t.values)

abbrev pub is_group_known : Texts → Group → Bool
is_group_known words g = is_option_known (is_field_known words) g.field && list_all (is_attribute_test_known words) g.tests

-- one condition, with the answers for those in braces in their places
abbrev pub part_step : Texts → Part-F Bool → Bool
part_step words (Grouped negative g) = is_group_known words g
part_step words (Joined negative parts) = list_all (λ known. known) parts

abbrev pub is_part_known : Texts → Part → Bool
is_part_known words = fold-Part Bool (part_step words)

-- ---- actions

-- one value, with the answers for a call's values in their places
abbrev pub term_step : Texts → Term-F Bool → Bool
term_step words (Alone s) = is_single_known words s
term_step words (Call f terms) = list_all (λ known. known) terms

abbrev pub is_term_known : Texts → Term → Bool
is_term_known words = fold-Term Bool (term_step words)

abbrev pub is_wish_known : Texts → WishTree → Bool
is_wish_known words wish.Accepting = true
is_wish_known words wish.Rejecting = true
is_wish_known words wish.Requiring = true
is_wish_known words wish.Prohibiting = true
is_wish_known words (wish.Comparing c) = is_option_known (is_term_known words) c.referent

abbrev pub is_item_known : Texts → ItemTree → Bool
is_item_known words i = is_term_known words i.value && list_all (is_wish_known words) i.wishes

abbrev pub is_attribute_make_known : Texts → AttributeMake → Bool
is_attribute_make_known words m =
    is_term_known words m.attribute && (list_all (is_term_known words) m.path && (is_item_known words m.item && list_all (is_item_known words) m.items))

abbrev pub is_action_known : Texts → ActionTree → Bool
is_action_known words (action.Making m) = is_word_known words m.variable && (is_attribute_make_known words m.make && list_all (is_attribute_make_known words) m.makes)
is_action_known words (action.Writing terms) = list_all (is_term_known words) terms
is_action_known words action.Halting = true

-- ---- productions

abbrev pub is_tree_known : Texts → Tree → Bool
is_tree_known words t =
    is_word_known words t.name && (is_part_known words t.part && (list_all (is_part_known words) t.parts && list_all (is_action_known words) t.actions))
