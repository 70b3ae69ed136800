use Rattle.std.proofs.Common.{◌++◌, ◌∙◌, sym, ap, append_assoc, encode_utf8}
use lib.Utf8.{encodes}
use Rattle.defs_text.specs.Quotes.{escaped}
use Rattle.soar_show.proofs.WordLemmas.{escaped_more}
use Rattle.soar_show.proofs.word.push_escaped.Goals as goal

pub letters-preserved : goal.letters-preserved
letters-preserved c =
    c.in_ok-push_letter.ensures ∙ ap (λ front. front ++ escaped c.args.quote (encode_utf8 c.in-Some.letter)) c.letters.invariant
    ∙ append_assoc c.args.out.now (escaped c.args.quote (encodes c.letters.yielded)) (escaped c.args.quote (encode_utf8 c.in-Some.letter))
    ∙ ap (λ text. c.args.out.now ++ text) (sym (escaped_more c.args.quote c.letters.yielded c.in-Some.letter))
