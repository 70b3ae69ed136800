use Rattle.std.proofs.Common.{◌≡◌, ◌++◌, drop}
use Rattle.std.specs.List.{All}
use Rattle.trace_laws.specs.Events.{IsWishKnown}
use Rattle.chain_texts.specs.Lines.{wishes_text}
use Rattle.chain_texts.proofs.step.push_wishes.Given as goal

abbrev pub invariant-wishes : goal.invariant-wishes
invariant-wishes l = record {
  known : All (IsWishKnown l.table) (drop l.wish-index l.wishes);
  text : l.out ++ wishes_text l.table l.mark (drop l.wish-index l.wishes) ≡ l.initial.out ++ wishes_text l.table l.mark l.wishes;
}
