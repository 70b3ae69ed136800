use Rattle.std.proofs.Common.{IfSome}
use Rattle.soar_sym.specs.Words.{IsKnown}
use Rattle.soar_rule.specs.Productions.{preference_seen, value_seen}
use Rattle.soar_fire.specs.Growth.{OnlyGrows}
use Rattle.soar_fire.proofs.GrowthLemmas.{gains_letters, gains_then, gains_then_three, gains_then_two, grown_twice}
use Rattle.soar_fire.proofs.KnownLemmas.{known_grown, knows_grown}
use Rattle.soar_fire.proofs.WishLemmas.{attr_constants, value_constants, referent_constants, wish_known, judged_known}
use Rattle.soar_fire.proofs.wish.wished.Goals as goal

pub evaluated-requires-clause-constants : goal.evaluated-requires-clause-constants
evaluated-requires-clause-constants c =
    let asked = c.args.asked.now in
    attr_constants _ asked.id (value_seen asked.attr.now) (value_seen asked.value.now) (preference_seen asked.pref.now) c.requires.constants

pub evaluated-requires-2-clause-constants : goal.evaluated-requires-2-clause-constants
evaluated-requires-2-clause-constants c =
    let asked = c.args.asked.now in
    knows_grown _ _ _ (value_constants _ asked.id (value_seen asked.attr.now) (value_seen asked.value.now) (preference_seen asked.pref.now) c.requires.constants) c.evaluated.ensures.gains.words_grow

pub evaluated_referent-requires-clause-constants : goal.evaluated_referent-requires-clause-constants
evaluated_referent-requires-clause-constants c =
    let asked = c.args.asked.now in
    knows_grown _ _ _ (knows_grown _ _ _ (referent_constants _ asked.id (value_seen asked.attr.now) (value_seen asked.value.now) (preference_seen asked.pref.now) c.requires.constants) c.evaluated.ensures.gains.words_grow) c.evaluated-2.ensures.gains.words_grow

pub returns-clause-known : goal.returns-clause-known
returns-clause-known c =
    let id : IsKnown c.args.table.now c.in-Ok.id = rw c.in-Ok.is at c.in_ok-id.ensures.known in
    let attr : IsKnown c.evaluated.new.table c.in-Ok-2.attr = rw c.in-Ok-2.is at c.in_ok-attr.ensures.known in
    let value : IsKnown c.evaluated-2.new.table c.in-Ok-3.value = rw c.in-Ok-3.is at c.in_ok-value.ensures.known in
    let referent : IfSome c.in-Ok-4.referent (λ s. IsKnown c.evaluated_referent.new.table s) = rw c.in-Ok-4.is at c.in_ok-referent.ensures.known in
    let third : OnlyGrows c.evaluated-2.new.table c.evaluated_referent.new.table = c.evaluated_referent.ensures.gains.words_grow in
    let second : OnlyGrows c.evaluated.new.table c.evaluated_referent.new.table = grown_twice _ _ _ c.evaluated-2.ensures.gains.words_grow third in
    let first : OnlyGrows c.args.table.now c.evaluated_referent.new.table = grown_twice _ _ _ c.evaluated.ensures.gains.words_grow second in
    judged_known _ _ c.judged.result c.judged.ensures.same
    (wish_known c.evaluated_referent.new.table c.in-Ok.id c.in-Ok-2.attr c.in-Ok-3.value c.kind_of-kind.result c.in-Ok-4.referent
    (known_grown _ _ _ first id) (known_grown _ _ _ second attr) (known_grown _ _ _ third value) referent)

-- ---- what the table and the letters gain up to each end

pub returns-in_err-id-clause-gains : goal.returns-in_err-id-clause-gains
returns-in_err-id-clause-gains c = gains_letters _ _ _ c.identifier_of.ensures.letters

pub returns-in-Err-clause-gains : goal.returns-in-Err-clause-gains
returns-in-Err-clause-gains c = gains_letters _ _ _ c.identifier_of.ensures.letters

pub returns-in_err-attr-clause-gains : goal.returns-in_err-attr-clause-gains
returns-in_err-attr-clause-gains c = gains_then _ _ _ _ _ c.identifier_of.ensures.letters c.evaluated.ensures.gains

pub returns-in-Err-2-clause-gains : goal.returns-in-Err-2-clause-gains
returns-in-Err-2-clause-gains c = gains_then _ _ _ _ _ c.identifier_of.ensures.letters c.evaluated.ensures.gains

pub returns-in_err-value-clause-gains : goal.returns-in_err-value-clause-gains
returns-in_err-value-clause-gains c = gains_then_two _ _ _ _ _ _ _ c.identifier_of.ensures.letters c.evaluated.ensures.gains c.evaluated-2.ensures.gains

pub returns-in-Err-3-clause-gains : goal.returns-in-Err-3-clause-gains
returns-in-Err-3-clause-gains c = gains_then_two _ _ _ _ _ _ _ c.identifier_of.ensures.letters c.evaluated.ensures.gains c.evaluated-2.ensures.gains

pub returns-in_err-referent-clause-gains : goal.returns-in_err-referent-clause-gains
returns-in_err-referent-clause-gains c = gains_then_three _ _ _ _ _ _ _ _ _ c.identifier_of.ensures.letters c.evaluated.ensures.gains c.evaluated-2.ensures.gains c.evaluated_referent.ensures.gains

pub returns-in-Err-4-clause-gains : goal.returns-in-Err-4-clause-gains
returns-in-Err-4-clause-gains c = gains_then_three _ _ _ _ _ _ _ _ _ c.identifier_of.ensures.letters c.evaluated.ensures.gains c.evaluated-2.ensures.gains c.evaluated_referent.ensures.gains

pub returns-clause-gains : goal.returns-clause-gains
returns-clause-gains c = gains_then_three _ _ _ _ _ _ _ _ _ c.identifier_of.ensures.letters c.evaluated.ensures.gains c.evaluated-2.ensures.gains c.evaluated_referent.ensures.gains
