-- The options as the definitions have them.
use Rattle.defs_run.specs.CommandLine as line
use Rattle.command_words.specs.declared.options.Options.{Options}

-- what the words ask for
abbrev pub options_seen : Options → line.Options
options_seen o = record { watch = o.watch; generate = o.generate; files = o.files }
