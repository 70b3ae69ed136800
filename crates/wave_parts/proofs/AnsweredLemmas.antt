-- Whether the work of a wave is none.
use Rattle.std.proofs.Common.{◌≡◌, Bool, true, false, ◌&&◌, List, [], ◌∷◌, map, length, length-append, Result, Ok, Err, refl, sym, ap, arith}
use Rattle.std.specs.Prelude.{flat_map, IfOk}
use Rattle.std.proofs.lemmas.List.{length-map}
use Rattle.soar_wm.specs.declared.element.Element.{Element}
use Rattle.defs_match.specs.Rules.{RuleOf}
use Rattle.defs_match.specs.declared.instance.Instance.{Instance}
use Rattle.defs_soar.specs.Agents.{LiveFiring}
use Rattle.defs_soar.specs.Pending.{Firable, Work as WorkOf, firable_of, is_none}
use Rattle.live_firings.specs.Living.{live_seen}
use Rattle.live_firings.specs.declared.live.Live.{Live}
use Rattle.pending_work.specs.Working.{is_nothing, is_without}
use Rattle.pending_work.specs.Firables.{AreBound, IsPending, firables_for, rules_of}
use Rattle.pending_work.specs.declared.work.Work.{Work}

-- ---- whether something is pending

-- each instance is one to fire
some_fired : (rules : List RuleOf) (elements : List Element) (instances : List Instance) → AreBound rules instances → flat_map (firables_for rules elements) instances ≡ [] → is_without instances ≡ true
some_fired rules elements [] bound none = refl
some_fired rules elements (i ∷ instances) bound none =
    absurd (omega (arith, ap length none, length-append (firables_for rules elements i) (flat_map (firables_for rules elements) instances), length-map (rules_of rules i.rule) (λ rule. firable_of elements rule i), bound.0.one))

none_retracted : (firings : List Live) → map live_seen firings ≡ [] → is_without firings ≡ true
none_retracted [] h = refl
none_retracted (l ∷ firings) h = absurd (cc)

something : (rules : List RuleOf) (elements : List Element) (work : Work) (w : WorkOf) → IsPending rules elements work w → AreBound rules work.fired → is_nothing work ≡ false → is_none w ≡ false
something rules elements work w pend bound nothing = by w.retracted w.fired pend.retracted_are pend.fired_are
  where
    by : (gone : List LiveFiring) (firables : List Firable) → map live_seen work.retracted ≡ gone → flat_map (firables_for rules elements) work.fired ≡ firables
        → is_none (record { retracted = gone; fired = firables }) ≡ false
    by [] [] retracted fired = absurd (let a = none_retracted work.retracted retracted in let b = some_fired rules elements work.fired bound fired in cc)
    by [] (f ∷ firables) retracted fired = refl
    by (l ∷ gone) firables retracted fired = refl

-- ---- whether nothing is

nothing : (rules : List RuleOf) (elements : List Element) (work : Work) (w : WorkOf) → IsPending rules elements work w → is_nothing work ≡ true → is_none w ≡ true
nothing rules elements work w pend h = by work.retracted work.fired w.retracted w.fired pend.retracted_are pend.fired_are h
  where
    by : (firings : List Live) (instances : List Instance) (gone : List LiveFiring) (firables : List Firable) → map live_seen firings ≡ gone → flat_map (firables_for rules elements) instances ≡ firables
        → (is_without firings && is_without instances) ≡ true → is_none (record { retracted = gone; fired = firables }) ≡ true
    by [] [] [] firables retracted fired h = ap (λ fs. is_none (record { retracted = []; fired = fs })) (sym fired)
    by [] [] (l ∷ gone) firables retracted fired h = absurd (cc)
    by [] (i ∷ instances) gone firables retracted fired h = absurd (cc)
    by (n ∷ firings) instances gone firables retracted fired h = absurd (cc)

same_work : (rules : List RuleOf) (elements : List Element) (work : Work) (w : WorkOf) → IsPending rules elements work w → AreBound rules work.fired → is_nothing work ≡ is_none w
same_work rules elements work w pend bound = by (is_nothing work) refl
  where
    by : (b : Bool) → is_nothing work ≡ b → b ≡ is_none w
    by true h = sym (nothing rules elements work w pend h)
    by false h = sym (something rules elements work w pend bound h)

pub same_answer : {E : Type 0} (rules : List RuleOf) (elements : List Element) (w : WorkOf) (r : Result Work E)
    → IfOk r (λ work. IsPending rules elements work w) → IfOk r (λ work. AreBound rules work.fired) → IfOk r (λ work. is_nothing work ≡ is_none w)
same_answer rules elements w (Ok work) pend bound = same_work rules elements work w pend bound
same_answer rules elements w (Err why) pend bound = tt
