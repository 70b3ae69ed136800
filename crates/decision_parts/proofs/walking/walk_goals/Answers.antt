use Rattle.std.proofs.Common.{◌≡◌, ◌∙◌, [], None, length, sym, ap, subst, arith}
use Rattle.defs_soar.specs.Agents.{Agent}
use Rattle.defs_soar.specs.Decision.{view_of}
use Rattle.defs_soar.specs.Laws.{IsIn}
use Rattle.defs_soar.specs.Walk.{walked}
use Rattle.wave_parts.proofs.WalkingLaws.{walks_name_roots}
use Rattle.decision_walk.specs.Ends.{decided_seen}
use Rattle.decision_walk.specs.Known.{AreSelectionsKnown, IsDecidedKnown}
use Rattle.decision_walk.specs.Makers.{AreMakersUpTo}
use Rattle.soar_goals.specs.Known.{AreGoalsKnown}
use Rattle.wave_parts.proofs.RecordedLemmas.{lawful_at}
use Rattle.wave_parts.proofs.StandsLemmas.{of_each_state}
use Rattle.wave_parts.specs.Seen.{agent_of}
use Rattle.decision_parts.specs.Deciding.{walk_of}
use Rattle.decision_parts.proofs.WalkedLemmas.{AreRooted, has_left, list_of, makers_up_to, rows_up_to, selections_of, view_with, walked_sound, walked_stands}
use Rattle.decision_parts.proofs.walking.walk_goals.Goals as goal

pub walk-requires-clause-known : goal.walk-requires-clause-known
walk-requires-clause-known c = c.rows_fit_decisions.ensures.known c.args.parts.now.table c.args.parts.now.prefs.rows c.requires.sound.rows_known

pub walk-requires-clause-few : goal.walk-requires-clause-few
walk-requires-clause-few c = omega (arith, c.requires.sound.few_rows, c.requires.sound.row_limit)

pub returns-clause-decided : goal.returns-clause-decided
returns-clause-decided c =
    of_each_state (λ (s : Agent). decided_seen c.in_ok-decided.decided ≡ (walk_of s).decided) c.args.parts.now (λ history remembers.
    subst (λ random. decided_seen c.in_ok-decided.decided ≡ (walked (view_with c.args.parts.now random) None c.args.parts.now.goals).decided) c.as_slice.ensures c.in_ok-decided.ensures.decided)

pub returns-clause-stands : goal.returns-clause-stands
returns-clause-stands c =
    let a = c.args.parts.now in
    let lawful = c.requires.lawful in
    let goals_are = subst (λ random. c.walk.new.goals ≡ (walked (view_with a random) None a.goals).goals) c.as_slice.ensures c.in_ok-decided.ensures.goals in
    let rooted : AreRooted a c.walk.new.goals =
    λ g is n named. walks_name_roots (agent_of a lawful.agent.history) g n (lawful_at a lawful) (subst (IsIn g) goals_are is) named in
    walked_stands a c.walk.new.goals c.cut.new.self c.leave_goals.new.prefs c.leave_goals.new.self c.in_ok-decided.ensures.first
    (has_left a c.walk.new.goals c.len-left.result c.cut.new.self c.leave_goals.new.prefs c.leave_goals.new.self (c.len-left.ensures ∙ ap length c.list.ensures.goals) c.cut.ensures c.leave_goals.ensures.rows c.leave_goals.ensures.live) rooted
    (λ history. subst (λ random. c.walk.new.goals ≡ (walked (view_with a random) None a.goals).goals) c.as_slice.ensures c.in_ok-decided.ensures.goals)

pub returns-clause-known : goal.returns-clause-known
returns-clause-known c =
    let a = c.args.parts.now in
    let walk = c.walks_keep_goals.ensures.known (view_of (agent_of a [])) a.goals (c.rows_fit_decisions.ensures.known a.table a.prefs.rows c.requires.sound.rows_known)
    (list_of a.table a.letters a.goals c.requires.sound.goals_known) (selections_of a.table a.letters a.goals c.requires.sound.goals_known) in
    let decided_is = subst (λ random. decided_seen c.in_ok-decided.decided ≡ (walked (view_with a random) None a.goals).decided) c.as_slice.ensures c.in_ok-decided.ensures.decided in
    subst (IsDecidedKnown a.table) (sym decided_is) walk.decided

pub returns-clause-sound : goal.returns-clause-sound
returns-clause-sound c =
    let a = c.args.parts.now in
    let v = view_of (agent_of a []) in
    let walk = c.walks_keep_goals.ensures.known v a.goals (c.rows_fit_decisions.ensures.known a.table a.prefs.rows c.requires.sound.rows_known)
    (list_of a.table a.letters a.goals c.requires.sound.goals_known) (selections_of a.table a.letters a.goals c.requires.sound.goals_known) in
    let makers = c.walks_keep_goals.ensures.makers v a.goals a.firings (rows_up_to a.firings a.prefs.rows c.requires.sound.rows_of_firings) (makers_up_to a.firings a.goals c.requires.sound.makers_of_firings) in
    let goals_are = subst (λ random. c.walk.new.goals ≡ (walked (view_with a random) None a.goals).goals) c.as_slice.ensures c.in_ok-decided.ensures.goals in
    walked_sound a c.walk.new.goals c.cut.new.self c.leave_goals.new.prefs c.leave_goals.new.self c.rows_fit_decisions.ensures.retracted c.requires.sound c.in_ok-decided.ensures.first
    (has_left a c.walk.new.goals c.len-left.result c.cut.new.self c.leave_goals.new.prefs c.leave_goals.new.self (c.len-left.ensures ∙ ap length c.list.ensures.goals) c.cut.ensures c.leave_goals.ensures.rows c.leave_goals.ensures.live)
    (subst (AreGoalsKnown a.table) (sym goals_are) walk.goals) (subst (AreSelectionsKnown a.table) (sym goals_are) walk.selections)
    (subst (AreMakersUpTo a.firings) (sym goals_are) makers)
