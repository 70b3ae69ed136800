use Rattle.std.proofs.Common.{sym, ◌∙◌, ap}
use Rattle.defs_soar.specs.Values.{has_triple_among}
use Rattle.settle_changes.proofs.RestLemmas.{held_at_rest}
use Rattle.settle_changes.proofs.laws.rest_is_kept.Goals as goal

pub returns : goal.returns
returns c goals rows inputs k rest t =
    rest.holds.members t ∙ ap (λ l. has_triple_among l t) (sym (held_at_rest goals (record { rows = rows; inputs = inputs }) rest.settled))
