-- What is told of the steps of a course, and the session behind it. Crates above cite this file.
use Rattle.std.proofs.Common.{◌≡◌, ℕ, Bool, false, List, [], ◌∷◌, ◌++◌, map, Option, Some, None, refl, sym, ap, ◌∙◌}
use Rattle.defs_soar.specs.declared.limit.Which.{Which}
use Rattle.defs_soar.specs.Agents.{Agent}
use Rattle.defs_soar.specs.History.{RecordedFiring}
use Rattle.defs_soar.specs.Limits.{first_passed, or_limit}
use Rattle.defs_soar.specs.Phases.{Said, Course}
use Rattle.defs_soar.specs.Trace.{Written, followed_by, pieces_of, rendered}
use Rattle.defs_run.specs.Carrying.{followed, told_of}
use Rattle.soar_cycle.proofs.StandsLemmas.{state_is}
use Rattle.soar_cycle.specs.Courses.{Went, front_said, limit_in}
use Rattle.command_labels.specs.Found.{label_seen}
use Rattle.command_labels.specs.declared.label.Label.{Label}
use Rattle.soar_agent.specs.States.{IsReady, session_of}
use Rattle.soar_agent.specs.Steps.{Replied}
use Rattle.soar_agent.specs.Telling.{front_told, limit_told}
use Rattle.soar_agent.specs.declared.state.Session.{Session as SessionKept}
use Rattle.soar_agent.proofs.SessionLemmas.{nothing, watch_of}

-- ---- steps

-- the limit that they pass first
pub limit_of_steps : (steps : List Said) → limit_told (map told_of steps) ≡ limit_in steps
limit_of_steps [] = refl
limit_of_steps (s ∷ steps) = ap (or_limit (first_passed s.totals)) (limit_of_steps steps)

-- what is written before it
pub front_of_steps : (watch : ℕ) (mid : Bool) (steps : List Said) → front_told watch mid (map told_of steps) ≡ front_said watch mid steps
front_of_steps watch mid [] = refl
front_of_steps watch mid (s ∷ steps) = by (first_passed s.totals) (λ m. front_of_steps watch m steps)
  where
    by : (o : Option Which) → ((m : Bool) → front_told watch m (map told_of steps) ≡ front_said watch m steps)
        → (let w = rendered watch mid (pieces_of s.words s.events) in
        elim o as (λ _. Written) [ Some limit ↦ nothing mid | None ↦ followed_by w (front_told watch w.mid_line (map told_of steps)) ]
        ≡ elim o as (λ _. Written) [ Some limit ↦ nothing mid | None ↦ followed_by w (front_said watch w.mid_line steps) ])
    by (Some limit) later = refl
    by None later = let w : Written = rendered watch mid (pieces_of s.words s.events) in ap (followed_by w) (later w.mid_line)

-- ---- the session behind a course

pub follows : {M : Type 0} (s new : SessionKept M) (c : Course) (history : List RecordedFiring) (before after : List ℕ)
    → Went (watch_of s) s.agent.mid_line c new.agent.parts new.agent.mid_line before after → new.labels ≡ s.labels → IsReady new
    → Replied (watch_of s) s.agent.mid_line (followed (session_of s history) c) new before after false
follows s new c history before after went same ready =
    let front : front_told (watch_of s) s.agent.mid_line (map told_of c.steps) ≡ front_said (watch_of s) s.agent.mid_line c.steps = front_of_steps (watch_of s) s.agent.mid_line c.steps in
    record {
      history = c.agent.history;
      remembers = went.stands.remembers;
      session = ap (λ (labels : List Label). record (session_of new c.agent.history) { labels = map label_seen labels }) same
          ∙ (ap (λ (a : Agent). record (session_of s history) { agent = a; mid_line = new.agent.mid_line }) (sym (state_is new.agent.parts c.agent went.stands))
          ∙ (ap (λ (mid : Bool). record (session_of s history) { agent = c.agent; mid_line = mid }) went.mid_line
          ∙ ap (λ (w : Written). record (session_of s history) { agent = c.agent; mid_line = w.mid_line }) (sym front)));
      within = limit_of_steps c.steps ∙ went.within;
      text = went.text ∙ ap (λ (w : Written). before ++ w.text) (sym front);
      refused = refl;
      kept = ready;
    }
