use Rattle.std.proofs.Common.{◌≡◌, ◌∙◌, None, ap}
use Rattle.std.specs.Map.{lookup}
use Rattle.std.specs.String.{string_eq}
use Rattle.indexmap.proofs.CallerLemmas.{insert_entry-new}
use Rattle.command_labels.specs.Found.{symbol_of}
use Rattle.command_labels.proofs.FoundLemmas.{noted_last, unnamed}
use Rattle.command_labels.proofs.labels.note.Goals as goal

pub returns-clause-ok : goal.returns-clause-ok
returns-clause-ok c =
    let entries = c.args.first.now.entries in
    let key = c.into_parts-name.result.0 in
    let meant = c.into_parts-name.result.1 in
    let none : lookup (string_eq key) entries ≡ None = unnamed (lookup (string_eq key) entries) (ap (symbol_of entries) c.into_parts-name.ensures.name ∙ c.requires) in
    noted_last entries c.insert.new.self.entries key meant c.args.label
    (c.in_ok-insert.ensures.entries ∙ insert_entry-new string_eq c.args.first.now key meant none) c.into_parts-name.ensures.name c.into_parts-name.ensures.symbol
