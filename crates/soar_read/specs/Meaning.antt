-- What a tree comes to, in the steps of the code.
use Rattle.std.specs.Prelude.{◌≡◌, ◌-◌, ◌^◌, ◌<◌, List, [], map, length, Result, Ok, Err}
use Rattle.soar_sym.specs.Words.{Texts}
use Rattle.soar_sym.specs.declared.symbol.Sym.{Sym}
use Rattle.soar_rule.specs.Conditions.{Condition, all_of, condition}
use Rattle.soar_rule.specs.Productions.{ActionOf, ProductionOf, action_seen, production_seen}
use Rattle.soar_rule.specs.declared.production.Kind.TheVariants.{User}
use Rattle.soar_rule.specs.declared.production.Support.TheVariants.{Unset}
use Rattle.soar_rule.specs.declared.production.Production.{Production}
use Rattle.defs_read.specs.ActionExpansion.{actions_of}
use Rattle.defs_read.specs.ConditionExpansion.{parts_conditions}
use Rattle.defs_read.specs.Expansion.{ProductionRead, kind_of, support_of, read_as}
use Rattle.defs_read.specs.FreshNames.{Fresh, Expanded}
use Rattle.defs_read.specs.Grammar.{part_and}
use Rattle.defs_read.specs.Reading.{parts_of}
use Rattle.defs_read.specs.Sayings.{word_text}
use Rattle.defs_text.specs.Numbered.{word_in}
use Rattle.tree_parts.specs.Seen.{action_seen as tree_action_seen, flag_seen, part_seen, tree_seen}
use Rattle.tree_parts.specs.declared.production.Tree.{Tree}
use Rattle.soar_read.specs.Answers.{Grown}
use Rattle.soar_read.specs.declared.fault.ReadFault.{ReadFault}
use Rattle.soar_read.specs.declared.fault.ReadFault.TheVariants as fault
use Rattle.soar_read.specs.declared.production.Body.{Body}

-- no names yet, where the text has these
abbrev pub no_names : Texts → Fresh
no_names used = record { used = used; names = []; fresh = []; next = 1 }

abbrev pub conditions_from : Texts → Texts → Tree → Expanded (List Condition)
conditions_from words used tree = parts_conditions (part_and (part_seen words tree.part) (parts_of (map (part_seen words) tree.parts))) words (no_names used)

abbrev pub actions_from : Texts → Texts → Tree → Expanded (List ActionOf)
actions_from words used tree = actions_of words (map (tree_action_seen words) tree.actions) (conditions_from words used tree).names

-- what a tree means, where the text has these names
abbrev pub meaning_from : Texts → Texts → Tree → ProductionRead
meaning_from words used tree =
    let actions = actions_from words used tree in
    read_as words (tree_seen words tree) (conditions_from words used tree).value actions.value actions.names

-- what a tree says beside its conditions and actions
pub record IsHead (words : Texts) (tree : Tree) (body : Body) : Type 0 where
  pub name : body.name ≡ word_in words (word_text words tree.name)
  pub doc : body.doc ≡ tree.doc
  pub kind : body.kind ≡ kind_of User (map flag_seen tree.flags)
  pub support : body.support ≡ support_of Unset (map flag_seen tree.flags)

-- the production of these parts
abbrev pub completed : Body → List Sym → ProductionOf
completed body vars = record {
  name = body.name;
  doc = body.doc;
  kind = body.kind;
  support = body.support;
  vars = vars;
  conditions = all_of (map condition body.conds);
  actions = map action_seen body.actions;
}

-- the production and the words are what was meant; only want of memory is free
abbrev pub IsMeant : Texts → Texts → ProductionRead → Result Production ReadFault → Type 0
IsMeant old new meant (Ok production) = (production_seen production ≡ meant.production) × (new ≡ meant.words)
IsMeant old new meant (Err fault.WordsSpent) = (2 ^ 32 - 1 < length meant.words) × Grown old new
IsMeant old new meant (Err fault.NoMemory) = Grown old new
IsMeant old new meant (Err (fault.SyntaxFault place kind)) = ⊥
