use Rattle.std.proofs.Common.{◌≡◌, ◌∙◌, ◌<◌, length, sym, arith}
use Rattle.soar_rule.specs.Canonical.{place_among}
use Rattle.soar_rule.proofs.NumberingLemmas.{stands_there, stands_nowhere, room_for_one}
use Rattle.soar_rule.proofs.numbering.number_of.Goals as goal

pub overflow_cast-result : goal.overflow_cast-result
overflow_cast-result c =
    let missing : length c.args.order.now ≡ place_among c.args.order.now c.args.variable =
    stands_nowhere c.args.order.now c.args.places.now c.args.variable c.place_of-place.result c.requires c.place_of-place.ensures (sym c.stands_at.ensures ∙ c.if-stands_at.false) in
    let room : length c.args.order.now < 4294967296 =
    room_for_one c.args.order.now c.args.places.now c.args.variable 4294967296 c.requires (λ k. omega (arith, c.type_inv.order k)) c.ranges.variable.fits missing in
    omega arith

pub returns-then-stands_at : goal.returns-then-stands_at
returns-then-stands_at c =
    stands_there c.args.order.now c.args.places.now c.args.variable c.place_of-place.result c.requires c.place_of-place.ensures (sym c.stands_at.ensures ∙ c.if-stands_at.true)

pub returns-else-stands_at : goal.returns-else-stands_at
returns-else-stands_at c =
    stands_nowhere c.args.order.now c.args.places.now c.args.variable c.place_of-place.result c.requires c.place_of-place.ensures (sym c.stands_at.ensures ∙ c.if-stands_at.false)
