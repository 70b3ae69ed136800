-- What a cycle wrote, appended.
use Rattle.std.proofs.Common.{◌≡◌, ℕ, Bool, List, [], ◌++◌, Err, ap, subst, ◌∙◌}
use Rattle.defs_soar.specs.Limits.{limit_text}
use Rattle.defs_soar.specs.Phases.{Course}
use Rattle.defs_soar.specs.Trace.{Written, line_text}
use Rattle.soar_settle.specs.declared.stop.Stop.{Stop}
use Rattle.soar_settle.specs.declared.stop.Stop.TheVariants as stop
use Rattle.soar_cycle.specs.Parts.{Parts as PartsKept}
use Rattle.soar_cycle.specs.Agents.{AgentSeen}
use Rattle.soar_cycle.specs.Courses.{Goes, Passed, Went, front_said}
use Rattle.session_parts.specs.Stopping.{SaysStop}
use Rattle.soar_agent.specs.Commands.{Cycled}

pub cycle_said : (watch : ℕ) (mid : Bool) (c : Course) (new : PartsKept) (new_mid : Bool) (first piece before after : List ℕ) → first ≡ []
    → Went watch mid c new new_mid first piece → after ≡ before ++ piece → Went watch mid c new new_mid before after
cycle_said watch mid c new new_mid first piece before after none went appended = record {
  stands = went.stands;
  within = went.within;
  text = appended ∙ ap (λ t. before ++ t) (went.text ∙ ap (λ t. t ++ (front_said watch mid c.steps).text) none);
  mid_line = went.mid_line;
}

pub cycle_stopped : (watch : ℕ) (mid : Bool) (c : Course) (new : AgentSeen) (ends : Bool) (first piece before after : List ℕ) (why result : Stop) → first ≡ [] → ends ≡ new.mid_line
    → Goes {T = Bool} watch mid c new.parts new.mid_line first piece (Err why) → SaysStop why ends piece before after result → Cycled {T = Bool} watch mid c new before after (Err result)
cycle_stopped watch mid c new ends first piece before after why (stop.Limit limit) none same goes says =
    let passed : Passed watch mid c new.mid_line first piece limit = subst (λ (e : Stop). Goes {T = Bool} watch mid c new.parts new.mid_line first piece (Err e)) says.0 goes in
    let front : Written = front_said watch mid c.steps in (
      passed.passed,
      says.1
          ∙ (ap (λ t. before ++ (t ++ line_text ends (limit_text limit))) (passed.text ∙ ap (λ t. t ++ front.text) none)
          ∙ ap (λ m. before ++ (front.text ++ line_text m (limit_text limit))) (same ∙ passed.mid_line)),
    )
cycle_stopped watch mid c new ends first piece before after why stop.NoMemory none same goes says = says
