use Rattle.std.proofs.Common.{◌∙◌, ap, subst, sym}
use Rattle.std.proofs.lemmas.Result.{IfOk-weaker}
use Rattle.defs_match.specs.Conflict.{conflict}
use Rattle.conflict_order.proofs.InstanceOrder.{conflict_order}
use Rattle.live_firings.specs.Living.{keys_of}
use Rattle.open_instances.specs.Keeping.{AreLooked, Counts}
use Rattle.outstanding.specs.Outstanding.{unfired, unmatched}
use Rattle.outstanding.proofs.asking.ask.Goals as goal

pub follow-requires : goal.follow-requires
follow-requires g c = record { counted = subst (λ counts. Counts counts (keys_of c.args.live.now.told)) (sym c.in_ok-refresh.ensures.counts) c.requires.counted }

pub look_again-requires-clause-kept : goal.look_again-requires-clause-kept
look_again-requires-clause-kept g c =
    let rules = g.M.Matcher.rules c.args.matcher.now in
    let elements = g.M.Matcher.elements c.args.matcher.now in
    let kept = c.follow.new.kept in
    subst (λ r. AreLooked (conflict r (g.M.Matcher.elements c.refresh.new.matcher)) kept) (sym c.in_ok-refresh.ensures.rules)
    (subst (λ w. AreLooked (conflict rules w) kept) (sym c.in_ok-refresh.ensures.elements) (c.in_ok-follow.ensures.kept (conflict rules elements) c.in_ok-refresh.ensures.kept))

pub read-requires-clause-counted : goal.read-requires-clause-counted
read-requires-clause-counted g c =
    subst (λ counts. Counts counts (keys_of c.follow.new.live.list)) (sym c.in_ok-look_again.ensures.counts)
    (subst (λ l. Counts c.follow.new.kept.counts (keys_of l)) (sym c.follow.ensures.list) c.in_ok-follow.ensures.counted)

pub returns-clause-unfired : goal.returns-clause-unfired
returns-clause-unfired g c =
    let rules = g.M.Matcher.rules c.args.matcher.now in
    let elements = g.M.Matcher.elements c.args.matcher.now in
    let kept = c.look_again.new.kept in
    let was : AreLooked (conflict rules elements) kept =
    subst (λ r. AreLooked (conflict r elements) kept) c.in_ok-refresh.ensures.rules
    (subst (λ w. AreLooked (conflict (g.M.Matcher.rules c.refresh.new.matcher) w) kept) c.in_ok-refresh.ensures.elements c.in_ok-look_again.ensures.kept) in
    IfOk-weaker c.read.result _ _
    (λ answer says. says (conflict rules elements) (conflict_order rules elements c.requires.holds.rules_rise c.requires.holds.elements_rise) was ∙ ap (λ l. unfired (conflict rules elements) l) c.follow.ensures.list)
    c.read.ensures.unfired

pub returns-clause-unmatched : goal.returns-clause-unmatched
returns-clause-unmatched g c =
    let rules = g.M.Matcher.rules c.args.matcher.now in
    let elements = g.M.Matcher.elements c.args.matcher.now in
    let kept = c.look_again.new.kept in
    let was : AreLooked (conflict rules elements) kept =
    subst (λ r. AreLooked (conflict r elements) kept) c.in_ok-refresh.ensures.rules
    (subst (λ w. AreLooked (conflict (g.M.Matcher.rules c.refresh.new.matcher) w) kept) c.in_ok-refresh.ensures.elements c.in_ok-look_again.ensures.kept) in
    IfOk-weaker c.read.result _ _ (λ answer says. says (conflict rules elements) was ∙ ap (λ l. unmatched (conflict rules elements) l) c.follow.ensures.list) c.read.ensures.unmatched
