-- What the firings of a wave leave, before anything is learned from them.
use Rattle.std.proofs.Common.{ℕ, ◌≤◌, Bool, true, false, cond, List, [], ◌∷◌, ◌++◌, map, length, Ok, inl, inr, refl, sym, subst}
use Rattle.std.specs.Prelude.{flat_map}
use Rattle.soar_sym.specs.Words.{Texts, IsKnown}
use Rattle.soar_wm.specs.declared.element.Element.{Element}
use Rattle.soar_fire.specs.Growth.{Grown}
use Rattle.soar_fire.proofs.GrowthLemmas.{no_shorter}
use Rattle.soar_settle.specs.Known.{AreRulesKnown}
use Rattle.trace_laws.specs.Events.{AreEventsKnown}
use Rattle.defs_match.specs.Contents.{is_numbered}
use Rattle.defs_match.specs.Rules.{RuleOf, rule_seen}
use Rattle.defs_match.specs.declared.instance.Instance.{Instance}
use Rattle.defs_soar.specs.Agents.{Program}
use Rattle.defs_soar.specs.History.{RecordedFiring}
use Rattle.defs_soar.specs.Laws.{IsIn}
use Rattle.defs_soar.specs.Pending.{Firable, Work as WorkOf, firable_of, is_of_operator_kind}
use Rattle.defs_soar.specs.WaveAtHand.{BeforeWave, Entry, Fresh, Wave, all_fresh}
use Rattle.defs_soar.specs.WaveFirings.{before_wave, first_wave, firing_of_work, fresh_firing, made_in, with_firing, with_firings}
use Rattle.learning_laws.proofs.Lists.{in_append, in_mapped}
use Rattle.agent_laws.specs.Dependence.{firings_in}
use Rattle.agent_laws.specs.NewGoals.{IsOfGoals}
use Rattle.program_laws.specs.Knowing.{AreChainsKnown, AreNamed, IsKnownWave}
use Rattle.firing_records.specs.Recorded.{fresh_seen}
use Rattle.pending_work.specs.Firables.{IsPending, firables_for, rules_of}
use Rattle.pending_work.specs.declared.work.Work.{Work}
use Rattle.wave_learning.specs.Entries.{entry_seen}
use Rattle.soar_record.specs.Recorded.{recorded}
use Rattle.wave_firings.specs.FiresAll.{FiresAll, HasFired}
use Rattle.wave_firings.specs.Listed.{events_in, recorded_in}
use Rattle.wave_firings.specs.Numbered.{AreGoalsOf}
use Rattle.wave_firings.specs.declared.firing.Fired.{Fired}
use Rattle.wave_firings.proofs.FiringAgreement.{fresh_push}
use Rattle.wave_firings.proofs.FiringKnown.{are_rules_grown, known_grown}
use Rattle.wave_learning.specs.Hands.{IsAtHand, learned_rule_seen}
use Rattle.wave_learning.specs.declared.hand.AtHand.{AtHand}
use Rattle.wave_parts.specs.Carrying.{IsPendingIn}
use Rattle.wave_parts.specs.Lawful.{IsOfLawful}
use Rattle.wave_parts.specs.Seen.{IsSound, agent_of}
use Rattle.wave_parts.specs.WaveParts.{ended_in, fired_in}
use Rattle.wave_parts.specs.Working.{IsWorkedFrom, standing_now}
use Rattle.wave_parts.specs.declared.parts.Parts.{Parts as PartsKept}
use Rattle.wave_parts.proofs.FiredWaveLemmas.{program_stays}
use Rattle.wave_parts.proofs.GivenLemmas.{IsGivenWave, firings_given}
use Rattle.wave_parts.proofs.RecordedLemmas.{firings_alone, lawful_recorded, recorded_agent, recorded_alone}
use Rattle.wave_parts.proofs.RememberedLemmas.{at_goal}
use Rattle.wave_parts.proofs.WorkedLemmas.{fired_lawful, has_fired, holds_wave, worked_of}
use Rattle.wave_parts.proofs.WorkedSoundLemmas.{IsWave, WaveLaws, chains_grown, named_grown}

-- ---- names

-- those of the rules to fire
abbrev AreFirablesNamed : Texts → List Firable → Type 0
AreFirablesNamed words [] = Unit {0}
AreFirablesNamed words (f ∷ firables) = IsKnown words f.rule.production.name × AreFirablesNamed words firables

named_append : (words : Texts) (firables more : List Firable) → AreFirablesNamed words firables → AreFirablesNamed words more → AreFirablesNamed words (firables ++ more)
named_append words [] more h k = k
named_append words (f ∷ firables) more h k = (h.0, named_append words firables more h.1 k)

named_rules : (words : Texts) (elements : List Element) (i : Instance) (rules : List RuleOf) → AreRulesKnown words rules → AreFirablesNamed words (firables_for rules elements i)
named_rules words elements i [] h = tt
named_rules words elements i (rule ∷ rules) h = by (is_numbered i.rule rule) (named_rules words elements i rules h.1)
  where
    by : (b : Bool) → AreFirablesNamed words (map (λ r. firable_of elements r i) (rules_of rules i.rule))
        → AreFirablesNamed words (map (λ r. firable_of elements r i) (cond b (rule ∷ rules_of rules i.rule) (rules_of rules i.rule)))
    by true later = (h.0.0, later)
    by false later = later

named_all : (words : Texts) (elements : List Element) (rules : List RuleOf) (instances : List Instance) → AreRulesKnown words rules
    → AreFirablesNamed words (flat_map (firables_for rules elements) instances)
named_all words elements rules [] h = tt
named_all words elements rules (i ∷ instances) h =
    named_append words (firables_for rules elements i) (flat_map (firables_for rules elements) instances) (named_rules words elements i rules h) (named_all words elements rules instances h)

-- the name of each firing is known
abbrev AreFreshNamed : Texts → Wave → Type 0
AreFreshNamed words w = (x : Fresh) → IsIn x (all_fresh w.entries) → IsKnown words x.firing.name

named_fired : (words : Texts) (m : BeforeWave) (w : Wave) (firables : List Firable) → AreFirablesNamed words firables → AreFreshNamed words w → AreFreshNamed words (with_firings m w firables)
unfolding with_firings
named_fired words m w [] named h = h
named_fired words m w (f ∷ firables) named h = named_fired words m (with_firing m w f) firables named.1 one_more
  where
    fresh : Fresh
    fresh = fresh_firing m (firing_of_work m w f (made_in w m f)) (is_of_operator_kind m.reach.goals f) (made_in w m f)

    one_more : AreFreshNamed words (with_firing m w f)
    one_more x is = elim (in_append x (all_fresh w.entries) (fresh ∷ []) (subst (IsIn x) (fresh_push w.entries fresh) is)) [
      | inl old ↦ h x old
      | inr here ↦ elim here [ inl e ↦ subst (λ (y : Fresh). IsKnown words y.firing.name) e named.0 | inr none ↦ absurd none ]
    ]

-- ---- the wave before anything is learned

known_fired : (old : PartsKept) (history : List RecordedFiring) (work : Work) (w : WorkOf) (words : Texts) (letters : List ℕ) (made : Fired) → IsSound old → length old.table ≤ length words
    → IsPending (map rule_seen old.rules) old.memory.elements work w → HasFired words letters (length work.fired) made (first_wave (agent_of old history)) (fired_in (agent_of old history) w)
    → AreEventsKnown words (events_in (map entry_seen made.entries)) → IsKnownWave (fired_in (agent_of old history) w)
known_fired old history work w words letters made sound grown pend has told =
    let a = agent_of old history in
    let v = fired_in a w in
    let program = program_stays (before_wave a) (first_wave a) w.fired in
    let named = subst (AreFirablesNamed old.table) pend.fired_are (named_all old.table old.memory.elements (map rule_seen old.rules) work.fired sound.rules_known) in
    record {
      rules =
          subst (λ ws. AreRulesKnown ws v.program.rules) has.words_are
          (subst (λ (p : Program). AreRulesKnown words p.rules) (sym program) (are_rules_grown old.table words (map rule_seen old.rules) grown sound.rules_known));
      chains =
          subst (λ ws. AreChainsKnown ws v.program.chains) has.words_are
          (subst (λ (p : Program). AreChainsKnown words p.chains) (sym program) (chains_grown old.table words (map learned_rule_seen old.chains) grown sound.chains_known));
      events = subst (λ ws. AreEventsKnown ws (events_in v.entries)) has.words_are (subst (λ (es : List Entry). AreEventsKnown words (events_in es)) has.entries_are told);
      names = λ x is.
          subst (λ ws. IsKnown ws x.firing.name) has.words_are
          (known_grown old.table words x.firing.name grown (named_fired old.table (before_wave a) (first_wave a) w.fired named (λ y none. absurd none) x is));
    }

goals_fired : (old : PartsKept) (history : List RecordedFiring) (w : WorkOf) (count : ℕ) (words : Texts) (letters : List ℕ) (made : Fired)
    → HasFired words letters count made (first_wave (agent_of old history)) (fired_in (agent_of old history) w) → AreGoalsOf old.goals (recorded_in (map entry_seen made.entries))
    → IsOfGoals old.goals (fired_in (agent_of old history) w).names.letters (fired_in (agent_of old history) w)
goals_fired old history w count words letters made has goals =
    let v = fired_in (agent_of old history) w in
    record {
      letters_are = refl;
      goals_are = λ x s is of_goal.
          at_goal old.goals s (goals (fresh_seen x) s (subst (λ (es : List Entry). IsIn (fresh_seen x) (recorded_in es)) (sym has.entries_are) (in_mapped fresh_seen x (all_fresh v.entries) is)) of_goal);
    }

given_fired : (old : PartsKept) (history : List RecordedFiring) (work : Work) (w : WorkOf) → IsSound old → IsPending (map rule_seen old.rules) old.memory.elements work w
    → IsGivenWave (fired_in (agent_of old history) w)
given_fired old history work w sound pend =
    let a = agent_of old history in
    subst (λ (firables : List Firable). IsGivenWave (with_firings (before_wave a) (first_wave a) firables)) pend.fired_are
    (firings_given (before_wave a) (first_wave a) (map rule_seen old.rules) old.memory.elements work.fired (λ f none. absurd none) sound.numbers_given)

-- ---- with what is learned

-- with the record in the place of the history
pub is_wave : WaveLaws → (old : PartsKept) (work : Work) (w : WorkOf) (words : Texts) (letters : List ℕ) (made : Fired) (table : Texts) (hand : AtHand) → IsSound old
    → IsOfLawful old → IsPendingIn old work → IsPending (map rule_seen old.rules) old.memory.elements work w
    → FiresAll old.table old.letters (standing_now old) (map rule_seen old.rules) work.fired old.firings words letters (Ok made) → Grown old.table words
    → AreEventsKnown words (events_in (map entry_seen made.entries)) → AreGoalsOf old.goals (recorded_in (map entry_seen made.entries))
    → IsAtHand table hand (ended_in (recorded_agent old) w) → IsWorkedFrom old (worked_of old table letters hand)
    → IsWave old (worked_of old table letters hand) (recorded_alone old) w hand.entries made.halted
is_wave laws old work w words letters made table hand sound lawful pending pend all grown told goals at from =
    let history = recorded_alone old in
    let has = has_fired old history work w words letters made pend all in
    let is_lawful = lawful_recorded old lawful in
    let longer = no_shorter old.table words (record { grown = grown }) in
    record {
      lawful = is_lawful;
      lawful_wave = fired_lawful laws.firings old history work w pending pend is_lawful;
      named =
          subst (λ ws. AreNamed ws (firings_in history)) has.words_are
          (named_grown old.table words (firings_in history) longer (subst (AreNamed old.table) (sym (firings_alone (recorded old.past))) sound.past_named));
      known = known_fired old history work w words letters made sound longer pend has told;
      goals = goals_fired old history w (length work.fired) words letters made has goals;
      given = given_fired old history work w sound pend;
      holds = holds_wave laws.teaches old history w (length work.fired) words letters made table hand has at;
      from = from;
    }
