-- What the answers of the session's calls come to, reply by reply.
use Rattle.std.proofs.Common.{◌≡◌, ℕ, ◌-◌, ◌^◌, ◌<◌, Bool, true, false, List, [], ◌∷◌, ◌++◌, Some, None, Result, Ok, Err, refl, sym, ap, ◌∙◌, arith, append-nil}
use Rattle.defs_soar.specs.declared.limit.Which.{Which}
use Rattle.defs_soar.specs.declared.limit.Which.TheVariants as which
use Rattle.defs_soar.specs.Limits.{Total, words_to, or_limit, first_passed}
use Rattle.defs_soar.specs.Trace.{Written, followed_by}
use Rattle.defs_run.specs.Sessions.{Session, Reply, draws, goes_on}
use Rattle.soar_settle.specs.declared.stop.Stop.{Stop}
use Rattle.soar_settle.specs.declared.stop.Stop.TheVariants as stop
use Rattle.soar_cycle.proofs.LimitLemmas.{passes_not, passes_over}
use Rattle.soar_agent.specs.Carries.{Obeys}
use Rattle.soar_agent.specs.Commands.{IsSame, Outcomes}
use Rattle.soar_agent.specs.Steps.{Replied, Stops}
use Rattle.soar_agent.specs.Telling.{limit_told, front_told}
use Rattle.soar_agent.specs.declared.outcome.Outcome.{Outcome}
use Rattle.soar_agent.specs.declared.outcome.Outcome.TheVariants as outcome
use Rattle.soar_agent.specs.declared.state.Session.{Session as SessionKept}

-- nothing is written
abbrev pub nothing : Bool → Written
nothing mid = record { text = []; mid_line = mid }

-- the watch level that is set
abbrev pub watch_of : {M : Type 0} → SessionKept M → ℕ
watch_of s = s.agent.parts.settings.watch

-- ---- replies that come to the same

same_then : (watch : ℕ) (first second third : Reply) → IsSame watch first second → IsSame watch second third → IsSame watch first third
same_then watch first second third one two = record {
  session = one.session ∙ two.session;
  refused = one.refused ∙ two.refused;
  sequel = one.sequel ∙ two.sequel;
  limit = one.limit ∙ two.limit;
  front = λ mid. one.front mid ∙ two.front mid;
}

pub replied_same : {M : Type 0} (watch : ℕ) (mid : Bool) (first second : Reply) (new : SessionKept M) (before after : List ℕ) (answer : Bool) → IsSame watch first second
    → Replied watch mid second new before after answer → Replied watch mid first new before after answer
replied_same watch mid first second new before after answer same r = record {
  history = r.history;
  remembers = r.remembers;
  session = r.session
      ∙ sym (ap (λ (s : Session). record s { mid_line = (front_told watch mid first.told).mid_line }) same.session
      ∙ ap (λ (w : Written). record second.session { mid_line = w.mid_line }) (same.front mid));
  within = same.limit ∙ r.within;
  text = r.text ∙ ap (λ (w : Written). before ++ w.text) (sym (same.front mid));
  refused = r.refused ∙ sym same.refused;
  kept = r.kept;
}

pub outcomes_same : {M : Type 0} (watch : ℕ) (mid : Bool) (first second : Reply) (new : SessionKept M) (before after : List ℕ) (result : Result Outcome Stop) → IsSame watch first second
    → Outcomes watch mid second new before after result → Outcomes watch mid first new before after result
outcomes_same watch mid first second new before after (Ok outcome.Done) same o = (replied_same watch mid first second new before after false same o.0, same.sequel ∙ o.1)
outcomes_same watch mid first second new before after (Ok (outcome.Refused number)) same o = (replied_same watch mid first second new before after true same o.0, same.sequel ∙ o.1)
outcomes_same watch mid first second new before after (Ok (outcome.Run count)) same o = (
  record {
    history = o.0.history;
    remembers = o.0.remembers;
    comes = same_then watch first second _ same o.0.comes;
    text = o.0.text;
    mid_line = o.0.mid_line;
    settings = o.0.settings;
    kept = o.0.kept;
  },
  same.sequel ∙ o.1,
)
outcomes_same watch mid first second new before after (Ok (outcome.Source name)) same o = (replied_same watch mid first second new before after false same o.0, same.sequel ∙ o.1)
outcomes_same watch mid first second new before after (Ok outcome.Quit) same o = (replied_same watch mid first second new before after false same o.0, same.sequel ∙ o.1)
outcomes_same watch mid first second new before after (Err (stop.Limit limit)) same o = record {
  passed = same.limit ∙ o.passed;
  text = o.text ∙ ap (λ (w : Written). before ++ w.text) (sym (same.front mid));
  mid_line = o.mid_line ∙ ap (λ (w : Written). w.mid_line) (sym (same.front mid));
}
outcomes_same watch mid first second new before after (Err stop.NoMemory) same o = tt

pub obeys_same : {M : Type 0} (watch : ℕ) (mid : Bool) (first second : Reply) (new : SessionKept M) (before after : List ℕ) (result : Result Outcome Stop) → IsSame watch first second
    → Obeys watch mid second new before after result → Obeys watch mid first new before after result
obeys_same watch mid first second new before after (Ok answer) same o = (o.0, outcomes_same watch mid first second new before after (Ok answer) same o.1)
obeys_same watch mid first second new before after (Err (stop.Limit limit)) same o = (outcomes_same watch mid first second new before after (Err (stop.Limit limit)) same o.0, tt)
obeys_same watch mid first second new before after (Err stop.NoMemory) same o = tt

-- a reply that asks nothing of the caller
pub replied_done : {M : Type 0} (watch : ℕ) (mid : Bool) (reply : Reply) (new : SessionKept M) (before after : List ℕ) → reply.sequel ≡ goes_on → Replied watch mid reply new before after false
    → Obeys watch mid reply new before after (Ok outcome.Done)
replied_done watch mid reply new before after next replied = (refl, (replied, next))

-- totals within their limits tell nothing
pub drawn_same : (watch : ℕ) (totals : List Total) (reply : Reply) → first_passed totals ≡ None → IsSame watch (draws totals reply) reply
drawn_same watch totals reply none = record {
  session = refl;
  refused = refl;
  sequel = refl;
  limit = ap (λ o. or_limit o (limit_told reply.told)) none;
  front = λ mid. ap (λ o. elim o as (λ _. Written) [ Some limit ↦ nothing mid | None ↦ followed_by (nothing mid) (front_told watch mid reply.told) ]) none;
}

pub words_fit : (count : ℕ) → count < 2 ^ 32 → first_passed (words_to count ∷ []) ≡ None
words_fit count few = ap (λ o. or_limit o None) (passes_not count which.Words (omega (arith, few)))

pub words_spent : (count : ℕ) → 2 ^ 32 - 1 < count → first_passed (words_to count ∷ []) ≡ Some which.Words
words_spent count many = ap (λ o. or_limit o None) (passes_over count which.Words (omega (arith, many)))

-- nothing is done where the first total passes its limit
pub stops_drawn : {M : Type 0} (watch : ℕ) (mid : Bool) (totals : List Total) (reply : Reply) (new : SessionKept M) (said : List ℕ) (limit : Which) → first_passed totals ≡ Some limit → new.agent.mid_line ≡ mid
    → Stops watch mid (draws totals reply) new said said limit
stops_drawn watch mid totals reply new said limit passed same =
    let front : front_told watch mid (draws totals reply).told ≡ nothing mid =
    ap (λ o. elim o as (λ _. Written) [ Some limit ↦ nothing mid | None ↦ followed_by (nothing mid) (front_told watch mid reply.told) ]) passed in
    record {
      passed = ap (λ o. or_limit o (limit_told reply.told)) passed;
      text = sym (append-nil said) ∙ ap (λ (w : Written). said ++ w.text) (sym front);
      mid_line = same ∙ ap (λ (w : Written). w.mid_line) (sym front);
    }

pub drawn_stops : {M : Type 0} (watch : ℕ) (mid : Bool) (totals : List Total) (reply : Reply) (new : SessionKept M) (said : List ℕ) (limit : Which) → first_passed totals ≡ Some limit → new.agent.mid_line ≡ mid
    → Obeys watch mid (draws totals reply) new said said (Err (stop.Limit limit))
drawn_stops watch mid totals reply new said limit passed same = (stops_drawn watch mid totals reply new said limit passed same, tt)
