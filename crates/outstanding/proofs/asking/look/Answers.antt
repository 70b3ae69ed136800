use Rattle.std.proofs.lemmas.Result.{on_ok_weaker}
use Rattle.defs_match.specs.Conflict.{conflict}
use Rattle.outstanding.proofs.asking.look.Goals as goal

pub returns-clause-kept : goal.returns-clause-kept
returns-clause-kept g c =
    on_ok_weaker c.look_at.result
    (λ looks. looks (conflict (g.M.Matcher.rules c.args.matcher.now) (g.M.Matcher.elements c.args.matcher.now)) c.in_ok-found.ensures.found c.requires.kept)
    c.look_at.ensures.kept
