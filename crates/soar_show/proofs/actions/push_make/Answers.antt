use Rattle.std.proofs.Common.{◌∙◌, append_assoc, arith}
use Rattle.std.proofs.lemmas.Str.{encode_ascii}
use Rattle.std.proofs.lemmas.Result.{on_ok_weaker}
use Rattle.soar_rule.specs.Productions.{value_seen}
use Rattle.soar_rule.specs.Symbols.{constants_of_atom, constants_of_value}
use Rattle.soar_show.proofs.KnownLemmas.{knows_front, knows_back}
use Rattle.soar_show.proofs.actions.push_make.Goals as goal

pub push_atom-requires : goal.push_atom-requires
push_atom-requires c = knows_front _ (constants_of_atom c.args.id) _ c.requires

pub push_value-requires : goal.push_value-requires
push_value-requires c =
    knows_front _ (constants_of_value (value_seen c.args.attr.now)) _ (knows_back _ (constants_of_atom c.args.id) _ c.requires)

pub push_value-requires-2 : goal.push_value-requires-2
push_value-requires-2 c =
    knows_front _ (constants_of_value (value_seen c.args.value.now)) _
    (knows_back _ (constants_of_value (value_seen c.args.attr.now)) _ (knows_back _ (constants_of_atom c.args.id) _ c.requires))

pub push_preference-requires : goal.push_preference-requires
push_preference-requires c =
    knows_back _ (constants_of_value (value_seen c.args.value.now)) _
    (knows_back _ (constants_of_value (value_seen c.args.attr.now)) _ (knows_back _ (constants_of_atom c.args.id) _ c.requires))

pub returns : goal.returns
returns c =
    on_ok_weaker c.push-4.result
    (λ end.
    (rw (c.in_ok-push_preference.ensures, c.in_ok-push-3.ensures.ok, c.in_ok-push_value-2.ensures, c.in_ok-push-2.ensures.ok, c.in_ok-push_value.ensures, c.in_ok-push_str.ensures.ok, c.in_ok-push_atom.ensures, c.in_ok-push.ensures.ok) at end)
    ∙ simp (append_assoc, encode_ascii 32 (omega arith), encode_ascii 40 (omega arith), encode_ascii 41 (omega arith)))
    c.push-4.ensures.ok
