-- A group, given by its parts.
use Rattle.std.specs.Prelude.{Bool, List, map, Option, option_map}
use Rattle.soar_sym.specs.Words.{Texts}
use Rattle.defs_read.specs.Grammar.{Group}
use Rattle.tree_parts.specs.Seen.{attribute_test_seen, field_seen}
use Rattle.tree_parts.specs.declared.condition.AttributeTest.{AttributeTest}
use Rattle.tree_parts.specs.declared.field.FieldTree.{FieldTree as FieldRead}

abbrev pub group_of : Texts → Bool → Option FieldRead → List AttributeTest → Group
group_of words state field tests = record { state = state; field = option_map (field_seen words) field; tests = map (attribute_test_seen words) tests }
