use Rattle.std.proofs.Common.{◌∙◌}
use Rattle.std.proofs.lemmas.Result.{IfOk-weaker}
use Rattle.command_words.proofs.CommandLemmas.{no_options_found, some_options}
use Rattle.command_words.proofs.words.read_words.Goals as goal

pub returns-in-Some : goal.returns-in-Some
returns-in-Some c =
    let found = rw c.in-Some.is at c.in_ok-matches.ensures in
    IfOk-weaker c.options_in.result _ _ (λ options h. h ∙ some_options c.args.words.now _ found) c.options_in.ensures

pub returns-in-None : goal.returns-in-None
returns-in-None c =
    let found = rw c.in-None.is at c.in_ok-matches.ensures in
    no_options_found c.args.words.now found
