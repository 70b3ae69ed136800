use Rattle.std.proofs.Common.{◌≡◌, IfOk, ap, subst}
use Rattle.defs_match.specs.Conflict.{conflict}
use Rattle.live_firings.specs.Living.{Firings}
use Rattle.outstanding.specs.Outstanding.{unfired, unmatched}
use Rattle.outstanding.proofs.compared.ComparedOutstanding.outstanding.Goals as goal

pub returns-clause-unfired : goal.returns-clause-unfired
returns-clause-unfired g c =
    let matcher = c.self.inside.matcher in
    rw (← c.self.view_is)
    (subst (λ live. IfOk c.by_conflict-answer.result (λ answer. answer.unfired ≡ unfired (conflict (g.M.Matcher.rules matcher) (g.M.Matcher.elements matcher)) live)) (ap (λ (f : Firings). f.list) c.settle.ensures)
    c.by_conflict-answer.ensures.unfired)

pub returns-clause-unmatched : goal.returns-clause-unmatched
returns-clause-unmatched g c =
    let matcher = c.self.inside.matcher in
    rw (← c.self.view_is)
    (subst (λ live. IfOk c.by_conflict-answer.result (λ answer. answer.unmatched ≡ unmatched (conflict (g.M.Matcher.rules matcher) (g.M.Matcher.elements matcher)) live)) (ap (λ (f : Firings). f.list) c.settle.ensures)
    c.by_conflict-answer.ensures.unmatched)
