-- The command line as clap's words have it. No public clause cites this module.
use Rattle.std.specs.Prelude.{true, List, [], ◌∷◌, Option, Some, None, codes}
use Rattle.clap.specs.Words.{App, Kinds, Row, Rule, Text, fault_of, matches_of, new_app, new_rule, with_rule}
use Rattle.clap.specs.Simple.{on_top}
use Rattle.clap.specs.declared.builder.action.ArgAction.TheVariants.{Set, Append}

abbrev pub watch_rule : Rule
watch_rule = record (new_rule (codes "watch")) { long = Some (codes "watch"); action = Some Set }

abbrev pub generate_rule : Rule
generate_rule = record (new_rule (codes "generate")) { long = Some (codes "generate"); action = Some Set }

abbrev pub file_rule : Rule
file_rule = record (new_rule (codes "file")) { action = Some Append }

-- without an argument, and without help and version
abbrev pub bare_command : App
bare_command = on_top (λ s. record s { no_binary_name = true; disable_help_flag = true; disable_version_flag = true }) (new_app (codes "soar_app"))

-- two options with a value, and files
abbrev pub words_command : App
words_command = with_rule (with_rule (with_rule bare_command watch_rule) generate_rule) file_rule

abbrev pub none_if : Kinds → Option (List Row) → Option (List Row)
none_if [] rows = rows
none_if (kind ∷ kinds) rows = None

-- the rows that clap finds, unless it has a fault
abbrev pub rows_found : List Text → Option (List Row)
rows_found words = none_if (fault_of words_command words) (Some (matches_of words_command words))
