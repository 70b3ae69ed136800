-- The step that follows the walk of a decision is the decision.
use Rattle.std.proofs.Common.{◌≡◌, ◌∙◌, nat_lt, Bool, false, cond, List, length, Option, Result, Ok, Err, IfOk, refl, sym, ap, subst}
use Rattle.soar_sym.specs.declared.symbol.Sym.{Sym}
use Rattle.defs_soar.specs.declared.goal.Goal.{Goal}
use Rattle.defs_soar.specs.declared.goal.Impasse.{Impasse}
use Rattle.defs_soar.specs.declared.goal.Item.{Item}
use Rattle.defs_soar.specs.Agents.{Agent}
use Rattle.defs_soar.specs.Decision.{decided_by}
use Rattle.defs_soar.specs.Resettling.{AgentStep, resettled}
use Rattle.defs_soar.specs.Trimming.{RemovedGoal}
use Rattle.defs_soar.specs.Walk.{Decided}
use Rattle.soar_settle.specs.declared.stop.Stop.{Stop}
use Rattle.wave_parts.specs.Stands.{Stands}
use Rattle.wave_parts.specs.declared.parts.Parts.{Parts as PartsKept}
use Rattle.decision_parts.specs.Deciding.{decision_step, impasse_step, limit_step, removed_in_walk, selection_step, substate_step, walk_of, walked_state}
use Rattle.decision_parts.proofs.StepLemmas.{decided_is}

-- how a walk ended, and what it left: the parts, and the goals that went
pub record HasWalked (a walked : PartsKept) (removed : List RemovedGoal) (decided : Decided) : Type 0 where
  pub decided_is : (s : Agent) → Stands a s → decided ≡ (walk_of s).decided
  pub removed_are : (s : Agent) → Stands a s → removed ≡ removed_in_walk s
  pub stands : (s : Agent) → Stands a s → Stands walked (walked_state s (walk_of s))

-- what holds of each step that follows holds of the decision
pub decides : (P : AgentStep → Type 0) (a walked : PartsKept) (removed : List RemovedGoal) (decided : Decided) → HasWalked a walked removed decided
    → ((s : Agent) → Stands walked s → P (decision_step s removed decided)) → (s : Agent) → Stands a s → P (decided_by s)
decides P a walked removed decided walk steps s stands =
    let there = walked_state s (walk_of s) in
    let is : decision_step there removed decided ≡ decided_by s = (λ k. decision_step there (walk.removed_are s stands k) (walk.decided_is s stands k)) ∙ sym (decided_is s) in
    subst P is (steps there (walk.stands s stands))

-- what is met at the last goal comes to a substate where there is room, and else to a halt
pub impasse_is : (walked : PartsKept) (removed : List RemovedGoal) (why : Impasse) (items : List Item) (room : Bool) → nat_lt (length walked.goals) 100 ≡ room → (s : Agent) → Stands walked s
    → impasse_step s removed why items ≡ cond room (substate_step s removed why items) (limit_step s removed)
impasse_is walked removed why items room is s stands =
    ap (λ (b : Bool). cond b (substate_step s removed why items) (limit_step s removed)) (ap (λ (goals : List Goal). nat_lt (length goals) 100) (sym stands.goals) ∙ is)

pub answer_of : {T : Type 0} (P Q : T → Type 0) (result : Result T Stop) → ((x : T) → P x → Q x) → IfOk result P → IfOk result Q
answer_of P Q (Ok x) so h = so x h
answer_of P Q (Err why) so h = tt

-- ---- whether the step halts

pub selection_goes_on : (s : Agent) (removed : List RemovedGoal) (operator : Option Sym) (takes : Bool) → (selection_step s removed operator takes).halted ≡ false
unfolding resettled
selection_goes_on s removed operator takes = refl

pub substate_goes_on : (s : Agent) (removed : List RemovedGoal) (why : Impasse) (items : List Item) → (substate_step s removed why items).halted ≡ false
unfolding resettled
substate_goes_on s removed why items = refl
