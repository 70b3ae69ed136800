use Rattle.std.proofs.Common.{◌∙◌, List, ap, ap₂}
use Rattle.defs_match.specs.declared.instance.Instance.{Instance}
use Rattle.outstanding.specs.Live.{Live}
use Rattle.pending_work.specs.declared.work.Work.{Work}
use Rattle.pending_work.specs.Active.{at_level, level_of}
use Rattle.pending_work.proofs.active.of_active_level.Goals as goal

abbrev work_with : List Live → List Instance → Work
work_with retracted fired = record { retracted = retracted; fired = fired }

pub returns : goal.returns
returns c =
    let goals = c.args.goals.now in
    let elements = c.args.memory.now.elements in
    let gone = c.args.gone in
    ap₂ work_with c.in_ok-retracted.ensures c.in_ok-fired.ensures
    ∙ ap (at_level goals elements gone c.args.instances) (c.active_level-level.ensures ∙ (λ k. level_of goals elements (c.as_slice.ensures k) (c.as_slice-2.ensures k)))
