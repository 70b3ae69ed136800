use Rattle.chain_texts.proofs.KnownLemmas.{chain_known}
use Rattle.chain_texts.proofs.chain.show_chain.Goals as goal

pub push_chain-requires-clause-chain : goal.push_chain-requires-clause-chain
push_chain-requires-clause-chain c = chain_known c.args.table.now c.args.chain.now c.requires.chain
