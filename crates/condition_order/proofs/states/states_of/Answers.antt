use Rattle.std.proofs.Common.{arith, ◌-◌, subst, sym, List}
use Rattle.soar_sym.specs.declared.symbol.Sym.{Sym}
use Rattle.soar_rule.specs.Symbols.{AreKnown}
use Rattle.condition_order.proofs.KnownLemmas.{known_at, known_states_after}
use Rattle.condition_order.proofs.states.states_of.Goals as goal

pub add_state-requires-clause-all : goal.add_state-requires-clause-all
add_state-requires-clause-all c =
    let P : List Sym → Type 0 = AreKnown c.args.table.now in
    subst P (sym c.grounds.invariant) (known_states_after c.args.table.now c.grounds.at c.args.grounds.now c.requires)

pub add_state-requires-clause-one : goal.add_state-requires-clause-one
add_state-requires-clause-one c = (known_at c.args.table.now c.args.grounds.now (c.grounds.at - 1) _ (omega arith) c.requires).0
