use Rattle.std.proofs.Common.{◌++◌, ◌∙◌, sym, ap, append_assoc, encode_utf8}
use Rattle.std.proofs.lemmas.Result.{IfOk-equal}
use Rattle.soar_show.proofs.WordLemmas.{escaped_one}
use Rattle.soar_show.proofs.word.push_letter.Goals as goal

pub returns : goal.returns
returns c =
    IfOk-equal _ _ _ _ c.push.ensures.ok
    (ap (λ front. front ++ encode_utf8 c.args.letter) c.in_ok-push_backslash.ensures
    ∙ append_assoc c.args.out.now _ (encode_utf8 c.args.letter)
    ∙ ap (λ text. c.args.out.now ++ text) (sym (escaped_one c.args.quote c.args.letter c.requires)))
