use Rattle.chunk_make.proofs.KnownLemmas.{grounds_known}
use Rattle.chunk_make.proofs.findings.find.Goals as goal
use Rattle.defs_soar.specs.History.{chain_seen}

pub ordered-requires : goal.ordered-requires
ordered-requires c = grounds_known c.args.table.now (chain_seen c.args.told.now.chain.now) c.requires
