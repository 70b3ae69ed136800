use Rattle.std.proofs.Common.{◌≡◌, ◌++◌, drop}
use Rattle.std.specs.List.{All}
use Rattle.soar_wm.specs.WorkingMemory.{triple_of}
use Rattle.trace_laws.specs.Events.{IsTripleKnown}
use Rattle.chain_texts.specs.Lines.{grounds_text}
use Rattle.chain_texts.proofs.chain.push_grounds.Given as goal

abbrev pub invariant-grounds : goal.invariant-grounds
invariant-grounds l = record {
  known : All (λ e. IsTripleKnown l.table (triple_of e)) (drop l.ground-index l.grounds);
  text : l.out ++ grounds_text l.table (drop l.ground-index l.grounds) ≡ l.initial.out ++ grounds_text l.table l.grounds;
}
