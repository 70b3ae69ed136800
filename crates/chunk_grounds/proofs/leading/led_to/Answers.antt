use Rattle.std.proofs.Common.{◌≡◌, ◌-◌, ◌∙◌, List, length, ap, sym}
use Rattle.soar_sym.specs.declared.symbol.Sym.{Sym}
use Rattle.defs_soar.specs.Results.{with_each_symbol}
use Rattle.defs_soar.specs.Ungrounded.{led_to_by}
use Rattle.chunk_grounds.proofs.LeadLemmas.{ends, goes_on, named_from}
use Rattle.chunk_grounds.proofs.leading.led_to.Goals as goal

pub returns-then-len-before : goal.returns-then-len-before
returns-then-len-before c =
    let wishes = c.args.wishes.now in
    let named = c.as_slice-in-rounds.ensures ∙ c.in_ok-named.ensures ∙ ap (λ (known : List Sym). named_from known wishes) c.as_slice.ensures in
    let new : c.add_each.new.known ≡ led_to_by wishes c.rounds.led = c.in_ok-add_each.ensures ∙ ap (with_each_symbol c.rounds.led) named in
    let same : length c.add_each.new.known ≡ length c.rounds.led = sym c.len.ensures ∙ c.if-len-before.true ∙ c.len-before.ensures in
    sym (ends wishes (length wishes - c.rounds.index) c.rounds.led c.add_each.new.known new same) ∙ c.rounds.invariant

pub rounds-preserved : goal.rounds-preserved
rounds-preserved c =
    let wishes = c.args.wishes.now in
    let named = c.as_slice-in-rounds.ensures ∙ c.in_ok-named.ensures ∙ ap (λ (known : List Sym). named_from known wishes) c.as_slice.ensures in
    let new : c.add_each.new.known ≡ led_to_by wishes c.rounds.led = c.in_ok-add_each.ensures ∙ ap (with_each_symbol c.rounds.led) named in
    goes_on wishes (length wishes) c.rounds.index c.rounds.led c.add_each.new.known c.rounds-test.true new (λ e. c.if-len-before.false (c.len.ensures ∙ e ∙ sym c.len-before.ensures))
    ∙ c.rounds.invariant
