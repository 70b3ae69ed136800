use Rattle.std.proofs.Common.{◌≡◌, ◌∙◌, ◌-◌, true, sym}
use Rattle.defs_soar.specs.Values.{is_identifier}
use Rattle.level_change.specs.Links.{turned}
use Rattle.level_change.proofs.EdgeLemmas.{same_test, counted_as, lowered_out, lowered_into}
use Rattle.level_change.proofs.LinkLemmas.{put_counted}
use Rattle.level_change.proofs.counting.take_triple.Goals as goal

pub returns-in_ok-put-2-clause-out : goal.returns-in_ok-put-2-clause-out
returns-in_ok-put-2-clause-out c = λ counts h.
    let ident : is_identifier c.args.triple.value ≡ true = same_test c.args.triple.value ∙ sym c.is_identifier.ensures ∙ c.if-is_identifier.true in
    counted_as _ _ _ _ (lowered_out c.args.triple counts ident) (put_counted _ _ _ c.args.triple.id c.args.triple.value _ (λ n. n - 1) counts c.in_ok-put.ensures (c.one_less-rest.ensures counts h) h)

pub returns-in_ok-put-2-clause-into : goal.returns-in_ok-put-2-clause-into
returns-in_ok-put-2-clause-into c = λ into counts h k.
    let ident : is_identifier c.args.triple.value ≡ true = same_test c.args.triple.value ∙ sym c.is_identifier.ensures ∙ c.if-is_identifier.true in
    counted_as _ _ _ _ (lowered_into c.args.triple counts ident) (put_counted into _ _ c.args.triple.value c.args.triple.id _ (λ n. n - 1) (turned counts) c.in_ok-put-2.ensures (c.one_less-rest.ensures counts h) k)
