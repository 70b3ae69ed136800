use Rattle.std.proofs.Common.{IfOk, List, ◌∙◌, ap, ap₂, filter, map, not, sym, subst}
use Rattle.std.proofs.lemmas.Result.{IfOk-weaker}
use Rattle.defs_match.specs.Conflict.{conflict}
use Rattle.defs_match.specs.Rules.{rule_seen}
use Rattle.defs_soar.specs.Pending.{is_listed}
use Rattle.outstanding.specs.Living.{live_seen}
use Rattle.outstanding.specs.Live.{Live}
use Rattle.pending_work.specs.Active.{active_of}
use Rattle.pending_work.specs.Firables.{AreBound}
use Rattle.pending_work.specs.Open.{IsOpen, can_fire_now}
use Rattle.pending_work.proofs.ConflictLemmas.{bound_conflict, bound_filter}
use Rattle.pending_work.proofs.OpenLemmas.{ready_agree}
use Rattle.pending_work.proofs.PendingLemmas.{Promised, promised}
use Rattle.pending_work.proofs.work.pending.Goals as goal

pub ready-requires : goal.ready-requires
ready-requires c =
    let rules = map rule_seen c.args.rules.now in
    let elements = c.args.memory.now.elements in
    let live = c.requires.left.0 in
    let left = c.requires.left.1 in
    record {
      bound = subst (AreBound rules) (sym left.unfired_are)
          (bound_filter rules (λ i. not (is_listed (map (λ l. l.instance) (map live_seen live)) i)) (conflict rules elements) (bound_conflict rules elements c.requires.numbered));
    }

pub returns : goal.returns
returns c =
    let rules = map rule_seen c.args.rules.now in
    let elements = c.args.memory.now.elements in
    let goals = c.args.goals.now in
    let proposing = c.args.proposing in
    let result = c.of_active_level.result in
    let all : (live : List Live) → IsOpen (conflict rules elements) live c.args.left → IfOk result (Promised proposing rules elements goals live c.requires.numbered) = λ live left.
    let ready =
    c.in_ok-ready.ensures
    ∙ ap (filter (can_fire_now proposing rules elements goals)) left.unfired_are
    ∙ ready_agree proposing rules elements goals live (conflict rules elements) in
    let active =
    ap (λ gs. active_of gs elements c.args.left.unmatched c.in_ok-ready.ready) c.as_slice.ensures
    ∙ ap₂ (active_of goals elements) left.unmatched_are ready in
    IfOk-weaker result _ (Promised proposing rules elements goals live c.requires.numbered) (λ work e. promised proposing rules elements goals live c.requires.numbered work (e ∙ active)) c.of_active_level.ensures in
    let some = all c.requires.left.0 c.requires.left.1 in
    record {
      work = λ live left. IfOk-weaker result _ _ (λ work p. p.work_is) (all live left);
      bound = IfOk-weaker result _ _ (λ work p. p.bound) some;
      known = IfOk-weaker result _ _ (λ work p. p.known) some;
    }
