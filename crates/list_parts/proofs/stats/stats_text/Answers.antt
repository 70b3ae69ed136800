use Rattle.std.proofs.Common.{◌∙◌, append_assoc}
use Rattle.std.proofs.lemmas.List.{append-nil}
use Rattle.list_parts.proofs.stats.stats_text.Goals as goal

pub returns : goal.returns
returns c = c.in_ok-format.ensures.ok ∙ simp (append_assoc, append-nil)
