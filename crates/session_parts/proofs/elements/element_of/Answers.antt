use Rattle.std.proofs.Common.{sym, arith}
use Rattle.session_parts.proofs.TagLemmas.{none_beyond}
use Rattle.session_parts.proofs.elements.element_of.Goals as goal

pub returns-else-tag-le-GREATEST_TAG : goal.returns-else-tag-le-GREATEST_TAG
returns-else-tag-le-GREATEST_TAG c =
    sym (none_beyond c.args.tag c.args.memory.now.last c.args.memory.now.elements c.get-found.ensures.lawful.given (omega (arith, c.last_tag-last.ensures)))
