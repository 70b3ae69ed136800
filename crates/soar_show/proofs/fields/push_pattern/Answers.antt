use Rattle.std.proofs.Common.{◌∙◌, append_assoc, arith}
use Rattle.std.proofs.lemmas.Str.{encode_ascii}
use Rattle.std.proofs.lemmas.Result.{on_ok_weaker}
use Rattle.soar_rule.specs.Symbols.{constants_of_field}
use Rattle.soar_show.proofs.KnownLemmas.{knows_front, knows_back}
use Rattle.soar_show.proofs.fields.push_pattern.Goals as goal

pub push_field-requires : goal.push_field-requires
push_field-requires c = knows_front _ _ _ c.requires

pub push_field-requires-2 : goal.push_field-requires-2
push_field-requires-2 c = knows_front _ _ _ (knows_back _ (constants_of_field c.args.pattern.now.id) _ c.requires)

pub push_field-requires-3 : goal.push_field-requires-3
push_field-requires-3 c = knows_back _ (constants_of_field c.args.pattern.now.attr) _ (knows_back _ (constants_of_field c.args.pattern.now.id) _ c.requires)

pub returns : goal.returns
returns c =
    on_ok_weaker c.push_end.result
    (λ end.
    (rw (c.in_ok-push_field-3.ensures, c.in_ok-push-2.ensures.ok, c.in_ok-push_field-2.ensures, c.in_ok-push_str.ensures.ok, c.in_ok-push_field.ensures, c.in_ok-push_mark.ensures, c.in_ok-push.ensures.ok) at end)
    ∙ simp (append_assoc, encode_ascii 32 (omega arith), encode_ascii 40 (omega arith)))
    c.push_end.ensures
