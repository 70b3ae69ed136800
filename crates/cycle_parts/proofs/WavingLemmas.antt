-- The answers of a wave.
use Rattle.std.proofs.Common.{◌≡◌, ℕ, Bool, true, false, not, List, map, Result, Ok, Err, refl, sym}
use Rattle.defs_match.specs.Rules.{rule_seen}
use Rattle.defs_soar.specs.Agents.{Agent}
use Rattle.defs_soar.specs.Pending.{is_none, pending}
use Rattle.soar_settle.specs.declared.stop.Stop.{Stop}
use Rattle.soar_settle.specs.declared.stop.Stop.TheVariants as stop
use Rattle.step_report.specs.Reports.{report_events}
use Rattle.step_report.specs.Saying.{SaysEvents}
use Rattle.decision_parts.specs.Carrying.{Carries, CarriesOut}
use Rattle.pending_work.specs.Firables.{IsPending}
use Rattle.decision_parts.specs.Seen.{agent_of, pending_of}
use Rattle.decision_parts.specs.Stands.{Stands}
use Rattle.decision_parts.specs.Done.{Done}
use Rattle.decision_parts.specs.Parts.{Parts as PartsKept}
use Rattle.pending_work.specs.declared.work.Work.{Work}
use Rattle.decision_parts.proofs.StandsLemmas.{of_each_state, stands_at}
use Rattle.cycle_parts.specs.Waving.{Rested, TellsWork, WavesFrom, Worked, wave_at, waved_by, with_told}
use Rattle.cycle_parts.proofs.SteppingLemmas.{went_by}

pub rests : (proposing : Bool) (old new : PartsKept) (mid : Bool) (text : List ℕ) → is_none (pending_of proposing old) ≡ true → new ≡ with_told old new.live.told
    → (s : Agent) → Stands old s → Rested proposing s old new mid mid text text
rests proposing old new mid text none same s stands = record {
  none = of_each_state (λ (t : Agent). is_none (pending proposing t) ≡ true) old (λ history remembers. none) s stands;
  same = same;
  text = refl;
  mid_line = refl;
}

-- ---- work was carried out

abbrev IsWork : Bool → PartsKept → Work → Type 0
IsWork proposing old work = IsPending (map rule_seen old.rules) old.memory.elements work (pending_of proposing old)

-- in each state what is pending is this work
carries_at : (proposing : Bool) (old new : PartsKept) (work : Work) (result : Result Done Stop) → IsWork proposing old work → CarriesOut old new work result
    → (s : Agent) → Stands old s → Carries new (wave_at proposing s) result
carries_at proposing old new work result pend carries =
    of_each_state (λ (s : Agent). Carries new (wave_at proposing s) result) old (λ history remembers. carries (agent_of old history) (stands_at old history remembers) (pending_of proposing old) pend)

some_pending : (proposing : Bool) (old : PartsKept) → is_none (pending_of proposing old) ≡ false → (s : Agent) → Stands old s → is_none (pending proposing s) ≡ false
some_pending proposing old some = of_each_state (λ (s : Agent). is_none (pending proposing s) ≡ false) old (λ history remembers. some)

-- ---- each answer

waves_by : (watch : ℕ) (proposing halted : Bool) (s : Agent) (old new : PartsKept) (mid new_mid : Bool) (before after : List ℕ)
    → Worked watch proposing s halted new mid new_mid before after → WavesFrom watch proposing s old new mid new_mid before after (Ok (waved_by halted))
waves_by watch proposing true s old new mid new_mid before after h = h
waves_by watch proposing false s old new mid new_mid before after h = h

pub waves : (watch : ℕ) (proposing : Bool) (old new : PartsKept) (mid new_mid : Bool) (before after : List ℕ) (work : Work) (done : Done) → is_none (pending_of proposing old) ≡ false
    → IsWork proposing old work → CarriesOut old new work (Ok done) → SaysEvents watch new.table (report_events done.report) mid before new_mid after
    → (s : Agent) → Stands old s → WavesFrom watch proposing s old new mid new_mid before after (Ok (waved_by done.halted))
waves watch proposing old new mid new_mid before after work done some pend carries says s stands =
    let carried = carries_at proposing old new work (Ok done) pend carries s stands in
    waves_by watch proposing done.halted s old new mid new_mid before after (record {
      some = some_pending proposing old some s stands;
      went = went_by watch (wave_at proposing s) new (report_events done.report) mid new_mid before after carried.stepped carried.events_are says;
      halted_is = sym carried.halted_is;
    })

pub waves_not : (watch : ℕ) (proposing : Bool) (old new : PartsKept) (mid : Bool) (text : List ℕ) (work : Work) (why : Stop) → is_none (pending_of proposing old) ≡ false
    → IsWork proposing old work → CarriesOut old new work (Err why)
    → (s : Agent) → Stands old s → WavesFrom watch proposing s old new mid mid text text (Err why)
waves_not watch proposing old new mid text work (stop.Limit limit) some pend carries s stands =
    (some_pending proposing old some s stands, record { passed = carries_at proposing old new work (Err (stop.Limit limit)) pend carries s stands; text = refl; mid_line = refl })
waves_not watch proposing old new mid text work stop.NoMemory some pend carries s stands = tt

-- ---- whether there is work

told_by : (b none : Bool) → b ≡ not none → none ≡ (elim b [ true ↦ false | false ↦ true ])
told_by true true h = absurd (cc)
told_by true false h = refl
told_by false true h = refl
told_by false false h = absurd (cc)

pub tells_work : (proposing : Bool) (old : PartsKept) (b : Bool) → b ≡ not (is_none (pending_of proposing old)) → (s : Agent) → Stands old s → TellsWork proposing s (Ok b)
tells_work proposing old b h = of_each_state (λ (s : Agent). TellsWork proposing s (Ok b)) old (λ history remembers. told_by b (is_none (pending_of proposing old)) h)
