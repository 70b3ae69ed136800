-- Cycles in a row, each written before the next begins.
use Rattle.std.proofs.Common.{◌≡◌, ℕ, suc, Bool, true, false, List, [], ◌++◌, Option, Some, None, Result, Ok, Err, IfOk, OnOk, refl, sym, ap, subst, ◌∙◌, append_assoc, append-nil, arith}
use Rattle.soar_edge.specs.Outside.{Appends, AppendsSome}
use Rattle.soar_edge.specs.declared.fault.PutFault.{PutFault}
use Rattle.soar_edge.proofs.CallerLemmas.{appends_then, appends_some_then}
use Rattle.defs_soar.specs.declared.limit.Which.{Which}
use Rattle.defs_soar.specs.Agents.{Agent}
use Rattle.defs_soar.specs.Cycle.{then_course}
use Rattle.defs_soar.specs.History.{RecordedFiring}
use Rattle.defs_soar.specs.Limits.{limit_text, or_limit}
use Rattle.defs_soar.specs.Phases.{Said, Course, still}
use Rattle.defs_soar.specs.Trace.{Written, followed_by, line_text}
use Rattle.soar_agent.specs.Running.{run_learning}
use Rattle.soar_settle.specs.declared.stop.Stop.{Stop}
use Rattle.soar_settle.specs.declared.stop.Stop.TheVariants as stop
use Rattle.soar_agent.specs.Remembers.{Remembers}
use Rattle.soar_agent.specs.Seen.{agent_of}
use Rattle.soar_agent.proofs.StandsLemmas.{of_each_state, stands_at}
use Rattle.soar_agent.specs.Agents.{AgentSeen}
use Rattle.soar_agent.specs.Courses.{Went, front_said, limit_in}
use Rattle.soar_agent.proofs.CourseLemmas.{front_append, front_stops, limit_append, limit_behind, none_went, went_then}
use Rattle.soar_agent.specs.Commands.{Cycled}
use Rattle.soar_agent.specs.Writing.{limit_line}
use Rattle.soar_run.specs.Cycles.{PassesLimit, WentBehind, WentSaying, WritesCycle, course_text, cycle_of, cycles_behind}
use Rattle.soar_run.proofs.TurnLemmas.{halted_stays, next_turn, run_turns, turns_more}

-- ---- texts of courses

-- behind steps that pass no limit
text_then : (watch : ℕ) (mid : Bool) (c d : Course) → limit_in c.steps ≡ None
    → course_text watch mid (then_course c d) ≡ (front_said watch mid c.steps).text ++ course_text watch (front_said watch mid c.steps).mid_line d
text_then watch mid c d within =
    let w : Written = front_said watch mid c.steps in
    let f : Written = front_said watch w.mid_line d.steps in
    ap (λ (v : Written). v.text ++ limit_line v.mid_line (limit_in (c.steps ++ d.steps))) (front_append watch mid c.steps d.steps within)
    ∙ ap (λ o. (w.text ++ f.text) ++ limit_line f.mid_line o) (limit_behind c.steps d.steps within)
    ∙ append_assoc w.text f.text (limit_line f.mid_line (limit_in d.steps))

-- behind a limit more steps change nothing
text_stops : (watch : ℕ) (mid : Bool) (c d : Course) (more : List Said) (limit : Which) → d.steps ≡ c.steps ++ more → limit_in c.steps ≡ Some limit
    → (limit_in d.steps ≡ Some limit) × (course_text watch mid d ≡ course_text watch mid c)
text_stops watch mid c d more limit are passed =
    let all : limit_in d.steps ≡ Some limit = ap limit_in are ∙ (limit_append c.steps more ∙ ap (λ o. or_limit o (limit_in more)) passed) in
    let front : front_said watch mid d.steps ≡ front_said watch mid c.steps = ap (front_said watch mid) are ∙ front_stops watch mid c.steps more limit passed in (
      all,
      ap (λ (v : Written). v.text ++ limit_line v.mid_line (limit_in d.steps)) front
          ∙ ap (λ o. (front_said watch mid c.steps).text ++ limit_line (front_said watch mid c.steps).mid_line o) (all ∙ sym passed),
    )

-- steps that are more begin with the same text
text_more : (watch : ℕ) (mid : Bool) (c d : Course) (more : List Said) → d.steps ≡ c.steps ++ more → (rest : List ℕ) × (course_text watch mid d ≡ course_text watch mid c ++ rest)
text_more watch mid c d more are = by (limit_in c.steps) refl
  where
    w : Written
    w = front_said watch mid c.steps

    by : (o : Option Which) → limit_in c.steps ≡ o → (rest : List ℕ) × (course_text watch mid d ≡ course_text watch mid c ++ rest)
    by (Some limit) passed = ([], (text_stops watch mid c d more limit are passed).1 ∙ sym (append-nil (course_text watch mid c)))
    by None within =
        let f : Written = front_said watch w.mid_line more in
        let front : front_said watch mid d.steps ≡ followed_by w f = ap (front_said watch mid) are ∙ front_append watch mid c.steps more within in
        let whole : course_text watch mid c ≡ w.text = ap (λ o. w.text ++ limit_line w.mid_line o) within ∙ append-nil w.text in (
          f.text ++ limit_line f.mid_line (limit_in d.steps),
          ap (λ (v : Written). v.text ++ limit_line v.mid_line (limit_in d.steps)) front
              ∙ (append_assoc w.text f.text (limit_line f.mid_line (limit_in d.steps))
              ∙ ap (λ t. t ++ (f.text ++ limit_line f.mid_line (limit_in d.steps))) (sym whole)),
        )

-- the text of a course along which the agent went
pub went_text : (watch : ℕ) (mid : Bool) (c : Course) (a : AgentSeen) (said : List ℕ) → WentSaying watch mid c a said → said ≡ course_text watch mid c
went_text watch mid c a said went =
    let w : Written = front_said watch mid c.steps in
    went.text ∙ (sym (append-nil w.text) ∙ ap (λ o. w.text ++ limit_line w.mid_line o) (sym went.within))

-- what was said, and what a course behind it writes
said_then : (watch : ℕ) (mid : Bool) (c d : Course) (a : AgentSeen) (said : List ℕ) → WentSaying watch mid c a said → course_text watch mid (then_course c d) ≡ said ++ course_text watch a.mid_line d
said_then watch mid c d a said went =
    text_then watch mid c d went.within
    ∙ ap (λ m. (front_said watch mid c.steps).text ++ course_text watch m d) (sym went.mid_line)
    ∙ ap (λ t. t ++ course_text watch a.mid_line d) (sym went.text)

-- ---- cycles in a row

-- what was written is what the agent said behind a course, after which so many cycles come to the whole
pub record RunBehind (watch : ℕ) (mid : Bool) (left : ℕ) (whole : Course) (a : AgentSeen) (old now : Option (List ℕ)) : Type 0 where
  pub course : Course
  pub said : List ℕ
  pub went : WentSaying watch mid course a said
  pub rest : cycles_behind left course ≡ whole
  pub appended : Appends old now said

appends_none : (o : Option (List ℕ)) → Appends o o []
appends_none None = tt
appends_none (Some text) = ap Some (sym (append-nil text))

-- before the first of them
pub none_behind : (watch : ℕ) (a : AgentSeen) (count left : ℕ) (history : List RecordedFiring) (o : Option (List ℕ)) → Remembers a.parts history → left ≡ count
    → RunBehind watch a.mid_line left (run_learning count (agent_of a.parts history)) a o o
none_behind watch a count left history o remembers all =
    let s : Agent = agent_of a.parts history in
    record {
      course = still s;
      said = [];
      went = none_went watch a.mid_line s a.parts [] (stands_at a.parts history remembers);
      rest = ap (λ n. cycles_behind n (still s)) all ∙ sym (run_turns count s);
      appended = appends_none o;
    }

-- the agent behind the course is halted as this one is
halted_behind : (watch : ℕ) (b : Bool) (mid : Bool) (left : ℕ) (whole : Course) (a : AgentSeen) (old now : Option (List ℕ)) → (r : RunBehind watch mid left whole a old now) → a.parts.halted ≡ b
    → r.course.agent.halted ≡ b
halted_behind watch b mid left whole a old now r is = sym r.went.stands.halted ∙ is

-- the next cycle is the first of those that are left
next_left : (watch : ℕ) (mid : Bool) (left next : ℕ) (whole : Course) (a : AgentSeen) (old now : Option (List ℕ)) → left ≡ suc next → a.parts.halted ≡ false → (r : RunBehind watch mid left whole a old now)
    → cycles_behind next (then_course r.course (cycle_of r.course.agent)) ≡ whole
next_left watch mid left next whole a old now more goes r =
    sym (next_turn next r.course (halted_behind watch false mid left whole a old now r goes)) ∙ ap (λ n. cycles_behind n r.course) (sym more) ∙ r.rest

-- what holds of the next cycle with each history that is remembered
next_cycle : (watch : ℕ) (P : Course → Type 0) (mid : Bool) (left : ℕ) (whole : Course) (a : AgentSeen) (old now : Option (List ℕ)) → (r : RunBehind watch mid left whole a old now)
    → ((history : List RecordedFiring) → Remembers a.parts history → P (cycle_of (agent_of a.parts history))) → P (cycle_of r.course.agent)
next_cycle watch P mid left whole a old now r holds = of_each_state (λ s. P (cycle_of s)) a.parts holds r.course.agent r.went.stands

-- one more
pub one_behind : (watch : ℕ) (mid : Bool) (left next : ℕ) (whole : Course) (a new : AgentSeen) (old between now : Option (List ℕ)) → left ≡ suc next → a.parts.halted ≡ false
    → RunBehind watch mid left whole a old between → ((history : List RecordedFiring) → Remembers a.parts history → WritesCycle watch a.mid_line (cycle_of (agent_of a.parts history)) new between now (Ok true))
    → RunBehind watch mid next whole new old now
one_behind watch mid left next whole a new old between now more goes r writes =
    let one = next_cycle watch (λ c. WritesCycle watch a.mid_line c new between now (Ok true)) mid left whole a old between r writes in
    let on : Went watch a.mid_line (cycle_of r.course.agent) new.parts new.mid_line r.said (r.said ++ one.0) =
    record { stands = one.1.stands; within = one.1.within; text = ap (λ t. r.said ++ t) one.1.text; mid_line = one.1.mid_line } in
    record {
      course = then_course r.course (cycle_of r.course.agent);
      said = r.said ++ one.0;
      went = went_then watch mid a.mid_line new.mid_line r.course (cycle_of r.course.agent) a.parts new.parts [] r.said (r.said ++ one.0) r.went on;
      rest = next_left watch mid left next whole a old between more goes r;
      appended = appends_then old between now r.said one.0 r.appended one.2;
    }

-- some of the next cycle's text
pub some_behind : (watch : ℕ) (mid : Bool) (left next : ℕ) (whole : Course) (a : AgentSeen) (old between now : Option (List ℕ)) → left ≡ suc next → a.parts.halted ≡ false
    → RunBehind watch mid left whole a old between → ((history : List RecordedFiring) → Remembers a.parts history → AppendsSome between now (course_text watch a.mid_line (cycle_of (agent_of a.parts history))))
    → AppendsSome old now (course_text watch mid whole)
some_behind watch mid left next whole a old between now more goes r some =
    let c : Course = cycle_of r.course.agent in
    let d : Course = then_course r.course c in
    let later = turns_more next d in
    let t = text_more watch mid d (cycles_behind next d) later.0 later.1 in
    let text : course_text watch mid whole ≡ r.said ++ (course_text watch a.mid_line c ++ t.0) =
    ap (course_text watch mid) (sym (next_left watch mid left next whole a old between more goes r)) ∙ t.1 ∙ ap (λ x. x ++ t.0) (said_then watch mid r.course c a r.said r.went)
    ∙ append_assoc r.said (course_text watch a.mid_line c) t.0 in
    subst (AppendsSome old now) (sym text)
    (appends_some_then old between now r.said (course_text watch a.mid_line c) t.0 r.appended (next_cycle watch (λ e. AppendsSome between now (course_text watch a.mid_line e)) mid left whole a old between r some))

-- the next cycle passes a limit
pub stops_behind : (watch : ℕ) (mid : Bool) (left next : ℕ) (whole : Course) (a new : AgentSeen) (old between now : Option (List ℕ)) → left ≡ suc next → a.parts.halted ≡ false
    → RunBehind watch mid left whole a old between → ((history : List RecordedFiring) → Remembers a.parts history → WritesCycle watch a.mid_line (cycle_of (agent_of a.parts history)) new between now (Ok false))
    → Appends old now (course_text watch mid whole) × PassesLimit whole
stops_behind watch mid left next whole a new old between now more goes r writes =
    let one = next_cycle watch (λ c. WritesCycle watch a.mid_line c new between now (Ok false)) mid left whole a old between r writes in
    let c : Course = cycle_of r.course.agent in
    let d : Course = then_course r.course c in
    let later = turns_more next d in
    let is = next_left watch mid left next whole a old between more goes r in
    let stopped = text_stops watch mid d (cycles_behind next d) later.0 one.0.0 later.1 (limit_behind r.course.steps c.steps r.went.within ∙ one.0.1) in
    let text : course_text watch mid whole ≡ r.said ++ course_text watch a.mid_line c = ap (course_text watch mid) (sym is) ∙ stopped.1 ∙ said_then watch mid r.course c a r.said r.went in (
      subst (Appends old now) (sym text) (appends_then old between now r.said (course_text watch a.mid_line c) r.appended one.1),
      (one.0.0, ap (λ (e : Course). limit_in e.steps) (sym is) ∙ stopped.0),
    )

-- ---- the end

-- what was said is all
is_all : (watch : ℕ) (mid : Bool) (left : ℕ) (whole : Course) (a : AgentSeen) (old now : Option (List ℕ)) → (r : RunBehind watch mid left whole a old now) → r.course ≡ whole
    → Appends old now (course_text watch mid whole) × WentBehind watch mid whole a
is_all watch mid left whole a old now r is =
    let went : WentSaying watch mid whole a r.said = subst (λ c. WentSaying watch mid c a r.said) is r.went in
    (subst (Appends old now) (went_text watch mid whole a r.said went) r.appended, (r.said, went))

-- no cycle is left
pub all_behind : (watch : ℕ) (mid : Bool) (left : ℕ) (whole : Course) (a : AgentSeen) (old now : Option (List ℕ)) → left ≡ 0 → RunBehind watch mid left whole a old now
    → Appends old now (course_text watch mid whole) × WentBehind watch mid whole a
all_behind watch mid left whole a old now none r = is_all watch mid left whole a old now r (ap (λ n. cycles_behind n r.course) (sym none) ∙ r.rest)

-- the agent is halted
pub halts_behind : (watch : ℕ) (mid : Bool) (left : ℕ) (whole : Course) (a : AgentSeen) (old now : Option (List ℕ)) → a.parts.halted ≡ true → RunBehind watch mid left whole a old now
    → Appends old now (course_text watch mid whole) × WentBehind watch mid whole a
halts_behind watch mid left whole a old now halted r =
    is_all watch mid left whole a old now r (sym (halted_stays left r.course (halted_behind watch true mid left whole a old now r halted)) ∙ r.rest)

-- some of what is written is some of all
pub some_of_all : (old now : Option (List ℕ)) (text : List ℕ) → Appends old now text → AppendsSome old now text
some_of_all old now text all = subst (AppendsSome old now) (append-nil text) (appends_some_then old now now text [] [] all (by now))
  where
    by : (o : Option (List ℕ)) → AppendsSome o o []
    by None = tt
    by (Some before) = (0, omega arith, ap Some (sym (append-nil before)))

-- ---- a cycle

-- one that passes a limit
pub stopped_text : (watch : ℕ) (mid : Bool) (c : Course) (new : AgentSeen) (first text : List ℕ) (why : Stop) (limit : Which) → first ≡ [] → why ≡ stop.Limit limit
    → Cycled {T = Bool} watch mid c new first text (Err why) → PassesLimit c × (text ≡ course_text watch mid c)
stopped_text watch mid c new first text why limit none is cycled =
    let it = subst (λ (e : Stop). Cycled {T = Bool} watch mid c new first text (Err e)) is cycled in
    let w : Written = front_said watch mid c.steps in (
      (limit, it.0),
      it.1 ∙ (ap (λ t. t ++ (w.text ++ line_text w.mid_line (limit_text limit))) none ∙ ap (λ o. w.text ++ limit_line w.mid_line o) (sym it.0)),
    )

pub stopped_written : (watch : ℕ) (mid : Bool) (c : Course) (new : AgentSeen) (old now : Option (List ℕ)) (result : Result Bool PutFault) → IfOk result (λ given. given ≡ false)
    → PassesLimit c → OnOk result (Appends old now (course_text watch mid c)) → WritesCycle watch mid c new old now result
stopped_written watch mid c new old now (Ok b) is passes written = subst (λ (given : Bool). WritesCycle watch mid c new old now (Ok given)) (sym is) (passes, written)
stopped_written watch mid c new old now (Err e) is passes written = tt

-- ---- the watch level, which stays

pub writes_at : (level watch : ℕ) (mid : Bool) (c : Course) (new : AgentSeen) (old now : Option (List ℕ)) (went given : Bool) → level ≡ watch → went ≡ given
    → WritesCycle level mid c new old now (Ok went) → WritesCycle watch mid c new old now (Ok given)
writes_at level watch mid c new old now went given same is writes =
    subst (λ w. WritesCycle w mid c new old now (Ok given)) same (subst (λ (b : Bool). WritesCycle level mid c new old now (Ok b)) is writes)

pub some_at : (level watch : ℕ) (mid : Bool) (c : Course) (old now : Option (List ℕ)) → level ≡ watch → AppendsSome old now (course_text level mid c) → AppendsSome old now (course_text watch mid c)
some_at level watch mid c old now same some = subst (λ w. AppendsSome old now (course_text w mid c)) same some
