use Rattle.std.proofs.Common.{◌≡◌, ◌++◌, ◌∙◌, sym, ap, subst, List}
use Rattle.std.proofs.lemmas.Result.{IfOk-weaker}
use Rattle.soar_sym.specs.declared.symbol.Sym.{Sym}
use Rattle.soar_rule.specs.Productions.{production_seen}
use Rattle.soar_rule.specs.Symbols.{AreKnown, constants_of}
use Rattle.defs_soar.specs.WaveAtHand.{goals_among}
use Rattle.firing_records.specs.Among.{goals_in, in_order}
use Rattle.firing_records.proofs.AmongLemmas.{found_in_order, known_found}
use Rattle.firing_records.proofs.among.goals_of.Goals as goal

pub in_order-requires : goal.in_order-requires
in_order-requires c =
    let P : List Sym → Type 0 = AreKnown c.args.table.now in
    let symbols : List Sym = c.as_slice-2.result.now ++ constants_of (production_seen c.args.rule.now.production) in
    subst P (sym (c.as_slice-3.ensures ∙ (rw c.deref.ensures at c.in_ok-found.ensures) ∙ ap (λ gs. goals_in gs symbols) c.as_slice.ensures)) (known_found c.args.table.now c.args.goals.now symbols c.requires.known)

pub returns : goal.returns
returns c =
    let words = c.args.table.now in
    let goals = c.args.goals.now in
    let constants : List Sym = constants_of (production_seen c.args.rule.now.production) in
    let symbols : List Sym = c.as_slice-2.result.now ++ constants in
    IfOk-weaker c.in_order.result (λ among. among ≡ in_order words c.as_slice-3.result.now) (λ among. among ≡ goals_among words goals (c.args.instance.now.binds ++ constants))
    (λ among is.
    is
    ∙ ap (in_order words) (c.as_slice-3.ensures ∙ (rw c.deref.ensures at c.in_ok-found.ensures) ∙ ap (λ gs. goals_in gs symbols) c.as_slice.ensures)
    ∙ found_in_order words goals symbols
    ∙ ap (λ l. goals_among words goals (l ++ constants)) c.as_slice-2.ensures)
    c.in_order.ensures
