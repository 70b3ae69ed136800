use Rattle.std.proofs.lemmas.Result.{on_ok_weaker}
use Rattle.outstanding.proofs.HoldLemmas.{element_removed}
use Rattle.outstanding.proofs.telling.remove_element.Goals as goal

pub returns-clause-holds : goal.returns-clause-holds
returns-clause-holds g c =
    let told = c.in_ok-keys.ensures in
    on_ok_weaker c.told.result
    (λ noted. element_removed (g.M.Matcher.rules c.args.matcher.now) (g.M.Matcher.elements c.args.matcher.now) c.args.kept.now c.told.new.kept c.requires.holds
    c.in_ok-keys.keys noted c.args.tag (g.M.Matcher.rules c.remove_element_told.new.self) told.rules (g.M.Matcher.elements c.remove_element_told.new.self) told.elements told.told)
    c.told.ensures.fits
