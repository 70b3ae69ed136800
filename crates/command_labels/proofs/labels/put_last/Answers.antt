use Rattle.command_labels.proofs.FoundLemmas.{still_kept, one_more}
use Rattle.command_labels.proofs.labels.put_last.Goals as goal

pub returns-else-is_some-clause-kept : goal.returns-else-is_some-clause-kept
returns-else-is_some-clause-kept c = still_kept c.args.first.now.entries c.note.new.first.entries c.args.again.now c.args.label c.requires c.note.result c.note.ensures.ok c.note.ensures.err

pub returns-else-is_some-clause-ok : goal.returns-else-is_some-clause-ok
returns-else-is_some-clause-ok c = one_more c.args.first.now.entries c.note.new.first.entries c.args.again.now c.args.label c.requires c.note.result c.note.ensures.ok
