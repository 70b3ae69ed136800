-- What a command writes, as the definitions write it.
use Rattle.std.proofs.Common.{◌≡◌, ℕ, Bool, true, false, List, [], ◌++◌, Option, Result, Ok, Err, IfOk, OnOk, refl, sym, ap, subst, ◌∙◌}
use Rattle.soar_edge.specs.Outside.{Appends, AppendsSome}
use Rattle.soar_edge.specs.declared.fault.PutFault.{PutFault}
use Rattle.defs_soar.specs.declared.limit.Which.{Which}
use Rattle.defs_soar.specs.History.{RecordedFiring}
use Rattle.defs_soar.specs.Phases.{Course}
use Rattle.defs_soar.specs.Trace.{Written}
use Rattle.defs_run.specs.Carrying.{followed}
use Rattle.soar_agent.specs.Running.{run_learning}
use Rattle.defs_run.specs.Runs.{Rendered}
use Rattle.defs_run.specs.Sessions.{Session, Reply, Sequel, goes_on}
use Rattle.command_runs.specs.Carrying.{IsAnswered, Passed, Refuses, Speaks, sequel_of, written_by}
use Rattle.command_runs.specs.declared.carrier.Answered.{Answered}
use Rattle.command_runs.specs.declared.carrier.Answered.TheVariants as answered
use Rattle.command_runs.specs.declared.carrier.Next.{Next}
use Rattle.soar_settle.specs.declared.stop.Stop.{Stop}
use Rattle.soar_settle.specs.declared.stop.Stop.TheVariants as stop
use Rattle.soar_agent.specs.Remembers.{Remembers}
use Rattle.soar_agent.specs.Seen.{agent_of}
use Rattle.soar_agent.specs.Courses.{front_said, limit_in}
use Rattle.soar_agent.specs.Commands.{AsksToRun, Commands}
use Rattle.soar_agent.specs.States.{session_of}
use Rattle.soar_agent.specs.Steps.{Replied}
use Rattle.soar_agent.specs.Telling.{front_told, limit_told}
use Rattle.soar_agent.specs.Writing.{limit_line, step_text}
use Rattle.soar_agent.specs.declared.outcome.Outcome.{Outcome}
use Rattle.soar_agent.specs.declared.state.Session.{Session as SessionKept}
use Rattle.soar_agent.proofs.FollowedLemmas.{follows, front_of_steps, limit_of_steps}
use Rattle.soar_agent.proofs.SessionLemmas.{replied_same}
use Rattle.soar_run.specs.Cycles.{IsRan, IsRanOk, course_text}
use Rattle.soar_run.specs.Spoken.{StandsFor}
use Rattle.soar_run.proofs.TellingLemmas.{told_limit, told_text, told_whole}

-- what a command does with each history that is remembered it does in the session that the code's stands for
pub commands_at : {M : Type 0} (kept : SessionKept M) (s : Session) (new : SessionKept M) (reply : Session → Reply) (first text : List ℕ) (result : Result Outcome Stop) → StandsFor kept s
    → ((history : List RecordedFiring) → Remembers kept.agent.parts history → Commands (session_of kept history) (reply (session_of kept history)) new first text result) → Commands s (reply s) new first text result
commands_at kept s new reply first text result stands holds = subst (λ t. Commands t (reply t) new first text result) stands.session (holds stands.history stands.remembers)

-- ---- a command that asks for no cycles

-- what it said is what it writes
pub said_whole : {M : Type 0} (s : Session) (reply : Reply) (new : SessionKept M) (first text : List ℕ) (answer : Bool) → first ≡ []
    → Replied s.agent.settings.watch s.mid_line reply new first text answer → text ≡ (written_by s reply).written.text
said_whole s reply new first text answer none replied =
    let front : Written = front_told s.agent.settings.watch s.mid_line reply.told in
    replied.text
    ∙ ap (λ t. t ++ front.text) none
    ∙ sym (ap (λ (r : Rendered). r.written.text) (told_whole s.agent.settings.watch s.mid_line reply.told replied.within))

-- the session behind it
pub passed_whole : {M : Type 0} (s : Session) (reply : Reply) (new : SessionKept M) (first text : List ℕ) (answer : Bool) (sequel : Sequel)
    → Replied s.agent.settings.watch s.mid_line reply new first text answer → reply.sequel ≡ sequel → Passed (StandsFor new) s reply answer sequel
passed_whole s reply new first text answer sequel r next =
    let whole = told_whole s.agent.settings.watch s.mid_line reply.told r.within in
    record {
      session = record {
        history = r.history;
        remembers = r.remembers;
        session = r.session ∙ sym (ap (λ (w : Rendered). record reply.session { mid_line = w.written.mid_line }) whole);
      };
      within = ap (λ (w : Rendered). w.limit) whole;
      told = r.refused;
      follows = next;
    }

-- what was put is what it writes, and how it went
pub speaks_put : (stands : Session → Type 0) (s : Session) (reply : Reply) (answer : Answered) (text : List ℕ) (old now : Option (List ℕ)) (result : Result Answered PutFault)
    → IfOk result (λ given. given ≡ answer) → OnOk result (Appends old now text) → AppendsSome old now text
    → text ≡ (written_by s reply).written.text → IsAnswered stands s reply answer → Speaks stands s reply old now result
speaks_put stands s reply answer text old now (Ok given) is all some same answered = (subst (IsAnswered stands s reply) (sym is) answered, subst (Appends old now) same all)
speaks_put stands s reply answer text old now (Err e) is all some same answered = subst (AppendsSome old now) same some

-- of a command that was carried out, or refused
pub speaks_went : {M : Type 0} (s : Session) (reply : Reply) (new : SessionKept M) (text : List ℕ) (refused : Bool) (following : Next) (old now : Option (List ℕ)) (result : Result Answered PutFault)
    → IfOk result (λ given. given ≡ answered.Went refused following) → OnOk result (Appends old now text) → AppendsSome old now text
    → Replied s.agent.settings.watch s.mid_line reply new [] text refused → reply.sequel ≡ sequel_of following → Speaks (StandsFor new) s reply old now result
speaks_went s reply new text refused following old now result is all some replied next =
    speaks_put (StandsFor new) s reply (answered.Went refused following) text old now result is all some
    (said_whole s reply new [] text refused refl replied) (passed_whole s reply new [] text refused (sequel_of following) replied next)

-- of one that passes a limit
pub speaks_stopped : {M : Type 0} (stands : Session → Type 0) (s : Session) (reply : Reply) (new : SessionKept M) (first text : List ℕ) (why : Stop) (limit : Which) (old now : Option (List ℕ)) (result : Result Answered PutFault)
    → IfOk result (λ given. given ≡ answered.Stopped) → OnOk result (Appends old now text) → AppendsSome old now text
    → first ≡ [] → why ≡ stop.Limit limit → Commands s reply new first text (Err why) → Speaks stands s reply old now result
speaks_stopped stands s reply new first text why limit old now result is all some none stopped commands =
    let it = subst (λ (e : Stop). Commands s reply new first text (Err e)) stopped commands in
    speaks_put stands s reply answered.Stopped text old now result is all some
    (it.1 ∙ (ap (λ t. t ++ step_text s reply) none ∙ sym (told_text s.agent.settings.watch s.mid_line reply.told)))
    (limit, told_limit s.agent.settings.watch s.mid_line reply.told ∙ it.0)

-- of what is refused
pub refuses_put : {M : Type 0} (s : Session) (reply : Reply) (new : SessionKept M) (first text bytes : List ℕ) (old now : Option (List ℕ)) (result : Result (Unit {0}) PutFault)
    → first ≡ [] → bytes ≡ text → Replied s.agent.settings.watch s.mid_line reply new first text true → reply.sequel ≡ goes_on
    → OnOk result (Appends old now bytes) → AppendsSome old now bytes → Refuses (StandsFor new) s reply old now result
refuses_put s reply new first text bytes old now (Ok done) none same replied next all some =
    (passed_whole s reply new first text true goes_on replied next, subst (Appends old now) (same ∙ said_whole s reply new first text true none replied) all)
refuses_put s reply new first text bytes old now (Err e) none same replied next all some = subst (AppendsSome old now) (same ∙ said_whole s reply new first text true none replied) some

-- ---- a command that asks for cycles

-- its text is that of the cycles
asked_text : {M : Type 0} (s : Session) (reply : Reply) (new : SessionKept M) (first text : List ℕ) (count : ℕ)
    → (a : AsksToRun s.agent.settings.watch s.mid_line reply new first text count)
    → course_text new.agent.parts.settings.watch new.agent.mid_line (run_learning count (agent_of new.agent.parts a.history)) ≡ (written_by s reply).written.text
asked_text s reply new first text count a =
    let watch : ℕ = s.agent.settings.watch in
    let mid : Bool = s.mid_line in
    let c : Course = run_learning count (agent_of new.agent.parts a.history) in
    let front : front_told watch mid reply.told ≡ front_said watch mid c.steps = a.comes.front mid ∙ front_of_steps watch mid c.steps in
    let limit : limit_told reply.told ≡ limit_in c.steps = a.comes.limit ∙ limit_of_steps c.steps in
    ap (λ w. course_text w new.agent.mid_line c) a.settings
    ∙ ap (λ m. course_text watch m c) a.mid_line
    ∙ sym (told_text watch mid reply.told
    ∙ ap (λ (v : Written). v.text ++ limit_line v.mid_line (limit_told reply.told)) front
    ∙ ap (λ o. (front_said watch mid c.steps).text ++ limit_line (front_said watch mid c.steps).mid_line o) limit)

-- and it went as they did
asked_answer : {M : Type 0} (s : Session) (reply : Reply) (new last : SessionKept M) (first text : List ℕ) (count : ℕ) (answer : Answered)
    → (a : AsksToRun s.agent.settings.watch s.mid_line reply new first text count) → reply.sequel ≡ goes_on
    → IsRan new.agent.parts.settings.watch new.agent.mid_line (run_learning count (agent_of new.agent.parts a.history)) new last answer → IsAnswered (StandsFor last) s reply answer
asked_answer s reply new last first text count (answered.Went refused following) a next ran =
    let watch : ℕ = s.agent.settings.watch in
    let mid : Bool = s.mid_line in
    let c : Course = run_learning count (agent_of new.agent.parts a.history) in
    let behind : Reply = followed (session_of new a.history) c in
    let went = ran.2 in
    let replied : Replied new.agent.parts.settings.watch new.agent.mid_line behind last [] went.0 false = follows new last c a.history [] went.0 went.1 ran.3 ran.5.1 in
    let level : Replied watch new.agent.mid_line behind last [] went.0 false = subst (λ w. Replied w new.agent.mid_line behind last [] went.0 false) a.settings replied in
    let same : Replied watch mid reply last [] went.0 false =
    replied_same watch mid reply behind last [] went.0 false a.comes (subst (λ m. Replied watch m behind last [] went.0 false) a.mid_line level) in
    subst (λ r. Passed (StandsFor last) s reply r (sequel_of following)) (sym ran.0) (passed_whole s reply last [] went.0 false (sequel_of following) same (next ∙ sym ran.1))
asked_answer s reply new last first text count answered.Stopped a next ran =
    (ran.0, told_limit s.agent.settings.watch s.mid_line reply.told ∙ (a.comes.limit ∙ (limit_of_steps (run_learning count (agent_of new.agent.parts a.history)).steps ∙ ran.1)))

pub speaks_ran : {M : Type 0} (s : Session) (reply : Reply) (new last : SessionKept M) (first text : List ℕ) (count : ℕ) (old now : Option (List ℕ)) (result : Result Answered PutFault)
    → (a : AsksToRun s.agent.settings.watch s.mid_line reply new first text count) → reply.sequel ≡ goes_on → (let c = run_learning count (agent_of new.agent.parts a.history) in
    IsRanOk new.agent.parts.settings.watch new.agent.mid_line c new last result
    → OnOk result (Appends old now (course_text new.agent.parts.settings.watch new.agent.mid_line c))
    → AppendsSome old now (course_text new.agent.parts.settings.watch new.agent.mid_line c) → Speaks (StandsFor last) s reply old now result)
speaks_ran s reply new last first text count old now (Ok answer) a next ran all some =
    (asked_answer s reply new last first text count answer a next ran, subst (Appends old now) (asked_text s reply new first text count a) all)
speaks_ran s reply new last first text count old now (Err e) a next ran all some = subst (AppendsSome old now) (asked_text s reply new first text count a) some
