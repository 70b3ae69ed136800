-- From the tree of a text to one triple for each condition and action (Soar manual, chapter 3, production syntax; names of new variables are this engine's).
use Rattle.std.specs.Prelude.{List, [], ◌∷◌, map, flat_map}
use Rattle.soar_sym.specs.Words.{Texts, with_texts}
use Rattle.soar_rule.specs.declared.production.Kind.{Kind}
use Rattle.soar_rule.specs.declared.production.Kind.TheVariants as kind
use Rattle.soar_rule.specs.declared.production.Support.{Support}
use Rattle.soar_rule.specs.declared.production.Support.TheVariants as support
use Rattle.soar_rule.specs.Conditions.{Condition, all_of}
use Rattle.soar_rule.specs.Productions.{ActionOf, ProductionOf}
use Rattle.defs_text.specs.Lexing.{Saying, variable_named}
use Rattle.defs_text.specs.Numbered.{word_in}
use Rattle.defs_read.specs.ActionExpansion.{actions_of}
use Rattle.defs_read.specs.ConditionExpansion.{parts_conditions}
use Rattle.defs_read.specs.FreshNames.{Fresh}
use Rattle.defs_read.specs.Grammar.{part_and, Flag, operator_support, instance_support, is_default, is_chunk, Tree}
use Rattle.defs_read.specs.Spelling.{Tokens}

abbrev pub name_in : Saying → Texts
name_in (variable_named name) = name ∷ []
name_in other = []

abbrev pub names_in : Tokens → Texts
names_in tokens = flat_map name_in tokens

abbrev pub with_support : Support → Flag → Support
with_support s operator_support = support.Operator
with_support s instance_support = support.Instance
with_support s is_default = s
with_support s is_chunk = s

abbrev pub with_kind : Kind → Flag → Kind
with_kind k operator_support = k
with_kind k instance_support = k
with_kind k is_default = kind.Default
with_kind k is_chunk = kind.Chunk

abbrev pub support_of : Support → List Flag → Support
support_of s [] = s
support_of s (f ∷ flags) = support_of (with_support s f) flags

abbrev pub kind_of : Kind → List Flag → Kind
kind_of k [] = k
kind_of k (f ∷ flags) = kind_of (with_kind k f) flags

-- a production, and the table with its fresh variables
pub record ProductionRead : Type 0 where
  pub production : ProductionOf
  pub words : Texts

abbrev pub read_as : Texts → Tree → List Condition → List ActionOf → Fresh → ProductionRead
read_as words t conditions actions f =
    let after = with_texts words f.fresh in
    record {
      production = record {
        name = word_in words t.name;
        doc = t.doc;
        kind = kind_of kind.User t.flags;
        support = support_of support.Unset t.flags;
        vars = map (word_in after) f.names;
        conditions = all_of conditions;
        actions = actions;
      };
      words = after;
    }

-- The production of a tree; the words of its tokens are in the table. Variables are numbered by first occurrence, conditions before actions.
unfoldable pub production_of : Texts → Tokens → Tree → ProductionRead
production_of words tokens t =
    let conditions = parts_conditions (part_and t.part t.parts) words (record { used = names_in tokens; names = []; fresh = []; next = 1 }) in
    let actions = actions_of words t.actions conditions.names in
    read_as words t conditions.value actions.value actions.names
