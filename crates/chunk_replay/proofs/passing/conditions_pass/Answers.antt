use Rattle.std.proofs.Common.{◌+◌, sym, ap, subst, ◌∙◌, Bor, List, ℕ}
use Rattle.soar_rule.proofs.SeenLemmas.{conj_seen}
use Rattle.soar_rule.specs.Conditions.{condition, conditions}
use Rattle.chunk_replay.specs.LookedUp.{nothing, of_tags, pass, Stands}
use Rattle.chunk_replay.proofs.LookupLemmas.{positive_seen, negated_seen, stands_taken, stands_negated, stands_conjunctive, stands_refused}
use Rattle.chunk_replay.proofs.passing.conditions_pass.Goals as goal
use Rattle.chunk_replay.proofs.passing.conditions_pass.Goals.{in-Pos+in-Some, in-Neg, in-Conj}

pub returns-in-None : goal.returns-in-None
returns-in-None c =
    let kind = ap condition (sym c.index-conds-place.is ∙ c.in-Pos.is) ∙ positive_seen c.in-Pos.pattern in
    stands_refused c.args.conds.now c.conds.place c.index-conds-place.result (of_tags c.args.used.now c.args.tags.now) (of_tags c.args.used.now c.conds.rest.now)
    (pass nothing (conditions c.args.conds.now) (of_tags c.args.used.now c.args.tags.now)) c.in-Pos.pattern c.conds-test.true kind c.conds.invariant c.in-None.ensures

pub conds-preserved : goal.conds-preserved
conds-preserved c =
    let all = of_tags c.args.used.now c.args.tags.now in
    let left = of_tags c.args.used.now c.conds.rest.now in
    let whole = pass nothing (conditions c.args.conds.now) all in
    elim c.match-cond.branch [
      | in-Pos+in-Some w ↦
          subst (λ (r : Bor (List ℕ)). Stands c.args.conds.now (c.conds.place + 1) all (of_tags c.args.used.now r.now) whole) (sym w.rest-is)
          (stands_taken c.args.conds.now c.conds.place c.index-conds-place.result all left (of_tags c.args.used.now w.in-Some.behind.now) whole w.in-Pos.pattern c.conds-test.true
          (ap condition (sym c.index-conds-place.is ∙ w.in-Pos.is) ∙ positive_seen w.in-Pos.pattern) c.conds.invariant w.in-Some.ensures)
      | in-Neg w ↦
          subst (λ (r : Bor (List ℕ)). Stands c.args.conds.now (c.conds.place + 1) all (of_tags c.args.used.now r.now) whole) (sym w.rest-is)
          (stands_negated c.args.conds.now c.conds.place c.index-conds-place.result all left whole w.in-Neg.field-0 c.conds-test.true
          (ap condition (sym c.index-conds-place.is ∙ w.in-Neg.is) ∙ negated_seen w.in-Neg.field-0) c.conds.invariant)
      | in-Conj w ↦
          subst (λ (r : Bor (List ℕ)). Stands c.args.conds.now (c.conds.place + 1) all (of_tags c.args.used.now r.now) whole) (sym w.rest-is)
          (stands_conjunctive c.args.conds.now c.conds.place c.index-conds-place.result all left whole (conditions w.in-Conj.field-0) c.conds-test.true
          (ap condition (sym c.index-conds-place.is ∙ w.in-Conj.is) ∙ conj_seen w.in-Conj.field-0) c.conds.invariant)
    ]
