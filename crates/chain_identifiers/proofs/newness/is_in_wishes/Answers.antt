use Rattle.std.proofs.Common.{◌∙◌, ◌+◌, ◌||◌, sym, ap, drop, flat_map}
use Rattle.defs_soar.specs.Dependencies.{symbols_of_wish}
use Rattle.defs_soar.specs.Sorted.{has_symbol}
use Rattle.chain_identifiers.proofs.ConstantLemmas.{in_wishes}
use Rattle.chain_identifiers.proofs.newness.is_in_wishes.Goals as goal

pub returns-then-is_in_wish : goal.returns-then-is_in_wish
returns-then-is_in_wish c =
    let wishes = c.args.wishes.now in
    let i = c.wishes.wish-index in
    let s = c.args.symbol in
    sym (in_wishes wishes i s c.is_in_wish.result c.wishes-test.true c.is_in_wish.ensures ∙ ap (λ b. b || has_symbol (flat_map symbols_of_wish (drop (i + 1) wishes)) s) c.if-is_in_wish.true) ∙ c.wishes.invariant

pub wishes-preserved : goal.wishes-preserved
wishes-preserved c =
    let wishes = c.args.wishes.now in
    let i = c.wishes.wish-index in
    let s = c.args.symbol in
    sym (in_wishes wishes i s c.is_in_wish.result c.wishes-test.true c.is_in_wish.ensures ∙ ap (λ b. b || has_symbol (flat_map symbols_of_wish (drop (i + 1) wishes)) s) c.if-is_in_wish.false) ∙ c.wishes.invariant
