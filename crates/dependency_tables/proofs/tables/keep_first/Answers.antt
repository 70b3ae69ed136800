use Rattle.std.proofs.Common.{◌∙◌, ap, map, sym}
use Rattle.std.proofs.lemmas.List.{take-map}
use Rattle.std.specs.BTreeSet.{keys}
use Rattle.dependency_tables.proofs.tables.keep_first.Goals as goal

pub returns : goal.returns
returns c = ap (map keys) c.truncate.ensures.items ∙ sym (take-map keys c.args.count c.args.tables.now.items)
