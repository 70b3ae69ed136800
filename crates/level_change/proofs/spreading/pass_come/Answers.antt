use Rattle.std.proofs.Common.{rules, ◌∙◌, ◌<◌, ◌≤◌, ◌+◌, drop, length, sym, subst}
use Rattle.std.proofs.lemmas.List.{at_drop_all}
use Rattle.level_change.specs.Links.{level_at, is_linked}
use Rattle.level_change.specs.Passing.{SpreadsBut, KeptBut, and_edges}
use Rattle.level_change.proofs.SpreadLemmas.{come_step, come_past, come_done}
use Rattle.level_change.proofs.spreading.pass_come.Goals as goal
use Rattle.level_change.proofs.spreading.pass_come.Goals.{then-has_link+in_ok-pass_to, else-has_link}

pub come-preserved : goal.come-preserved
come-preserved c =
    let links = is_linked c.args.links.now in
    let goals = c.args.goals.now in
    let come = c.args.come.now in
    let i = c.come.triple-index in
    let lt : i < length come = search rules in
    elim c.if-has_link.branch [
      | then-has_link+in_ok-pass_to w ↦ (
        (λ left s.
            subst (λ m. SpreadsBut links goals (level_at c.args.levels.now.entries m.entries) c.if-has_link.waiting (and_edges (drop (i + 1) come) left)) (sym w.told-is)
            (subst (λ q. SpreadsBut links goals (level_at c.args.levels.now.entries w.pass_to.new.told.entries) q (and_edges (drop (i + 1) come) left)) (sym w.waiting-is)
            (w.in_ok-pass_to.ensures.settles links _ (sym c.has_link.ensures ∙ w.if-has_link.true) (come_step links goals _ _ come i _ left lt (c.come.invariant.0 left s))))),
        (λ old k.
            subst (λ m. KeptBut old (level_at c.args.levels.now.entries m.entries) c.if-has_link.moved) (sym w.told-is)
            (subst (KeptBut old (level_at c.args.levels.now.entries w.pass_to.new.told.entries)) (sym w.moved-is) (w.in_ok-pass_to.ensures.moved old (c.come.invariant.1 old k)))),
      )
      | else-has_link w ↦ (
        (λ left s.
            subst (λ m. SpreadsBut links goals (level_at c.args.levels.now.entries m.entries) c.if-has_link.waiting (and_edges (drop (i + 1) come) left)) (sym w.told-is)
            (subst (λ q. SpreadsBut links goals (level_at c.args.levels.now.entries c.come.told.entries) q (and_edges (drop (i + 1) come) left)) (sym w.waiting-is)
            (come_past links goals _ _ come i _ left lt (sym c.has_link.ensures ∙ w.if-has_link.false) (c.come.invariant.0 left s)))),
        (λ old k.
            subst (λ m. KeptBut old (level_at c.args.levels.now.entries m.entries) c.if-has_link.moved) (sym w.told-is)
            (subst (KeptBut old (level_at c.args.levels.now.entries c.come.told.entries)) (sym w.moved-is) (c.come.invariant.1 old k))),
      )
    ]

pub returns-clause-settles : goal.returns-clause-settles
returns-clause-settles c = λ left s.
    let all : length c.args.come.now ≤ c.come.triple-index = search rules in
    come_done _ _ _ _ left
    (subst (λ l. SpreadsBut (is_linked c.args.links.now) c.args.goals.now (level_at c.args.levels.now.entries c.come.told.entries) c.come.waiting (and_edges l left)) (at_drop_all (λ l. l) c.args.come.now c.come.triple-index all) (c.come.invariant.0 left s))
