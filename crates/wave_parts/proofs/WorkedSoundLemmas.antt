-- What a wave came to with what it learned fits, and leaves the parts sound.
use Rattle.std.proofs.Common.{◌≡◌, ℕ, suc, ◌<◌, ◌≤◌, ◌∙◌, Bool, List, [], ◌∷◌, ◌++◌, map, length, inl, inr, refl, sym, ap, subst, arith}
use Rattle.std.specs.Prelude.{flat_map}
use Rattle.soar_sym.specs.Words.{Texts, IsKnown}
use Rattle.soar_sym.specs.declared.symbol.Sym.{Sym}
use Rattle.soar_rule.specs.Symbols.{AreKnown}
use Rattle.soar_fire.proofs.GrowthLemmas.{no_shorter}
use Rattle.soar_record.specs.Recorded.{recorded}
use Rattle.soar_settle.specs.Known.{AreRowsKnown, AreRulesKnown}
use Rattle.trace_laws.specs.Events.{AreEventsKnown}
use Rattle.input_queue.specs.Seen.{triple_queued}
use Rattle.live_firings.specs.Living.{live_seen}
use Rattle.defs_match.specs.Rules.{RuleOf, rule_seen}
use Rattle.defs_soar.specs.Agents.{Learnt, Program}
use Rattle.defs_soar.specs.Dependencies.{symbols_of_wish}
use Rattle.defs_soar.specs.Explanation.{maker_named}
use Rattle.defs_soar.specs.Goals.{goal_ids}
use Rattle.defs_soar.specs.History.{FiringOf, RecordedFiring}
use Rattle.defs_soar.specs.Laws.{IsIn}
use Rattle.defs_soar.specs.Pending.{Work as WorkOf}
use Rattle.defs_soar.specs.declared.goal.Goal.{Goal}
use Rattle.defs_soar.specs.declared.preference.Wish.{Wish}
use Rattle.defs_soar.specs.WaveAtHand.{Fresh, Wave, all_fresh}
use Rattle.defs_soar.specs.WaveFirings.{before_wave, first_wave}
use Rattle.defs_soar.specs.Waves.{live_of}
use Rattle.learning_laws.specs.LawfulAgents.{IsLawfulAgent}
use Rattle.learning_laws.specs.LawfulWaves.{AllFiringsKeep, IsLawfulWave, LearningKeeps, fresh_firings}
use Rattle.learning_laws.proofs.Lists.{in_flat_mapped, in_map, in_mapped, in_right}
use Rattle.agent_laws.specs.Dependence.{firings_in}
use Rattle.agent_laws.specs.NewGoals.{IsOfGoals, LearningKeepsGoals}
use Rattle.agent_laws.specs.RecordSteps.{IsInOrder, LearningKeepsOrder}
use Rattle.agent_laws.proofs.OrderLaws.{wave_in_order}
use Rattle.program_laws.specs.Knowing.{AreChainsKnown, AreNamed, IsKnownWave, LearningIsKnown}
use Rattle.program_laws.specs.Matching.{LearnedCanBeMatched}
use Rattle.program_laws.specs.Taught.{AreNext, IsTaught, LearningTeaches, MakersAreBefore}
use Rattle.firing_records.specs.Recorded.{RecordedAs, fresh_seen}
use Rattle.pending_work.specs.Firables.{AreNumbered, IsBelowRules}
use Rattle.wave_learning.specs.Entries.{entry_seen}
use Rattle.wave_learning.specs.Entry.{Entry as EntryKept}
use Rattle.wave_firings.specs.Listed.{events_in, rows_in}
use Rattle.wave_firings.proofs.FiringKnown.{are_known_grown, are_rows_grown, known_grown}
use Rattle.wave_parts.specs.Programs.{AreExplained}
use Rattle.wave_parts.specs.Seen.{AreLiveGiven, AreLiveKnown, AreUpTo, IsSound, agent_of}
use Rattle.wave_parts.specs.WaveParts.{ended_in, fired_in}
use Rattle.wave_parts.specs.Working.{AreFit, HaveJoined, HoldsWave, IsWorkedFrom, IsWorkedOut}
use Rattle.wave_parts.specs.declared.parts.Parts.{Parts as PartsKept}
use Rattle.wave_parts.proofs.ExplainedLemmas.{join_explained}
use Rattle.wave_parts.proofs.FiredWaveLemmas.{program_stays}
use Rattle.wave_parts.proofs.FitLemmas.{live_named, live_rules_given, rows_in_range, rows_known, rows_of_firings}
use Rattle.wave_parts.proofs.GivenLemmas.{IsGivenWave, learning_given, number_up_to}
use Rattle.wave_parts.proofs.GrownLemmas.{elements_grown, goals_grown, triples_grown}
use Rattle.wave_parts.proofs.NamedLemmas.{live_grown}

-- ---- numbers of rules that joined

below_lower : (n m : ℕ) (rules : List RuleOf) → n ≤ m → IsBelowRules m rules → IsBelowRules n rules
below_lower n m [] less h = tt
below_lower n m (rule ∷ rules) less h = (omega (arith, less, h.0), below_lower n m rules less h.1)

below_join : (n : ℕ) (rules more : List RuleOf) → IsBelowRules n rules → IsBelowRules n more → IsBelowRules n (rules ++ more)
below_join n [] more h k = k
below_join n (rule ∷ rules) more h k = (h.0, below_join n rules more h.1 k)

next_below : (n : ℕ) (rules : List RuleOf) (last : ℕ) → AreNext n rules last → IsBelowRules n rules
next_below n [] last h = tt
next_below n (rule ∷ rules) last h = (omega (arith, h.0), below_lower n (suc n) rules (omega arith) (next_below (suc n) rules last h.1))

next_numbered : (n : ℕ) (rules : List RuleOf) (last : ℕ) → AreNext n rules last → AreNumbered rules
next_numbered n [] last h = tt
next_numbered n (rule ∷ rules) last h = (subst (λ k. IsBelowRules k rules) (sym h.0) (next_below (suc n) rules last h.1), next_numbered (suc n) rules last h.1)

numbered_join : (rules more : List RuleOf) (n last : ℕ) → AreNumbered rules → AreUpTo n rules → AreNext n more last → AreNumbered (rules ++ more)
numbered_join [] more n last h up next = next_numbered n more last next
numbered_join (rule ∷ rules) more n last h up next =
    (below_join rule.number rules more h.0 (below_lower rule.number n more up.0 (next_below n more last next)), numbered_join rules more n last h.1 up.1 next)

pub next_most : (n : ℕ) (rules : List RuleOf) (last : ℕ) → AreNext n rules last → n ≤ last
next_most n [] last h = omega (arith, h)
next_most n (rule ∷ rules) last h = omega (arith, next_most (suc n) rules last h.1)

next_up_to : (n : ℕ) (rules : List RuleOf) (last : ℕ) → AreNext n rules last → AreUpTo last rules
next_up_to n [] last h = tt
next_up_to n (rule ∷ rules) last h = (omega (arith, h.0, next_most (suc n) rules last h.1), next_up_to (suc n) rules last h.1)

up_to_join : (n last : ℕ) (rules more : List RuleOf) → n ≤ last → AreUpTo n rules → AreUpTo last more → AreUpTo last (rules ++ more)
up_to_join n last [] more less h k = k
up_to_join n last (rule ∷ rules) more less h k = (omega (arith, less, h.0), up_to_join n last rules more less h.1 k)

-- a rule that joined has a number above those that were there
pub next_above : (n : ℕ) (rules : List RuleOf) (last : ℕ) (rule : RuleOf) → AreNext n rules last → IsIn rule rules → n < rule.number
next_above n [] last rule h is = absurd is
next_above n (r ∷ rules) last rule h (inl e) = let same : r.number ≡ rule.number = ap (λ (x : RuleOf). x.number) e in omega (arith, h.0, same)
next_above n (r ∷ rules) last rule h (inr is) = omega (arith, next_above (suc n) rules last rule h.1 is)

-- ---- symbols

each_known : (words : Texts) (xs : List Sym) → ((s : Sym) → IsIn s xs → IsKnown words s) → AreKnown words xs
each_known words [] h = tt
each_known words (s ∷ xs) h = (h s (inl refl), each_known words xs (λ t is. h t (inr is)))

pub chains_grown : (old new : Texts) (chains : List Learnt) → length old ≤ length new → AreChainsKnown old chains → AreChainsKnown new chains
chains_grown old new chains grown h l is = are_known_grown old new _ grown (h l is)

pub named_grown : (old new : Texts) (firings : List FiringOf) → length old ≤ length new → AreNamed old firings → AreNamed new firings
named_grown old new firings grown h f is = known_grown old new f.name grown (h f is)

-- ---- the wave

-- the laws that a wave with learning rests on
pub record WaveLaws : Type 0 where
  pub firings : AllFiringsKeep
  pub learning : LearningKeeps
  pub teaches : LearningTeaches
  pub makers : MakersAreBefore
  pub matchable : LearnedCanBeMatched
  pub known : LearningIsKnown
  pub order : LearningKeepsOrder
  pub goals : LearningKeepsGoals

-- a lawful wave, and the parts that hold what it came to
pub record IsWave (old new : PartsKept) (history : List RecordedFiring) (w : WorkOf) (entries : List EntryKept) (halted : Bool) : Type 0 where
  pub lawful : IsLawfulAgent (agent_of old history)
  pub lawful_wave : IsLawfulWave (agent_of old history) (fired_in (agent_of old history) w)
  pub named : AreNamed (fired_in (agent_of old history) w).names.words (firings_in history)
  pub known : IsKnownWave (fired_in (agent_of old history) w)
  pub goals : IsOfGoals old.goals (fired_in (agent_of old history) w).names.letters (fired_in (agent_of old history) w)
  pub given : IsGivenWave (fired_in (agent_of old history) w)
  pub holds : HoldsWave old new entries halted (ended_in (agent_of old history) w)
  pub from : IsWorkedFrom old new

module _ (laws : WaveLaws) (old new : PartsKept) (history : List RecordedFiring) (w : WorkOf) (entries : List EntryKept) (halted : Bool) (sound : IsSound old) (h : IsWave old new history w entries halted) where
  abbrev v : Wave
  v = ended_in (agent_of old history) w

  abbrev xs : List Fresh
  xs = all_fresh v.entries

  lawful_end : IsLawfulWave (agent_of old history) v
  lawful_end = laws.learning (agent_of old history) (fired_in (agent_of old history) w) h.lawful h.lawful_wave

  known_end : IsKnownWave v
  known_end = laws.known (agent_of old history) (fired_in (agent_of old history) w) h.lawful h.lawful_wave h.named h.known

  in_order_end : IsInOrder old.firings v
  in_order_end = laws.order (before_wave (agent_of old history)) old.firings (fired_in (agent_of old history) w) (wave_in_order (agent_of old history) w.fired)

  of_goals_end : IsOfGoals old.goals (fired_in (agent_of old history) w).names.letters v
  of_goals_end = laws.goals (before_wave (agent_of old history)) (fired_in (agent_of old history) w).names.letters (fired_in (agent_of old history) w) h.goals

  given_end : IsGivenWave v
  given_end = learning_given (before_wave (agent_of old history)) (fired_in (agent_of old history) w) h.given

  taught : IsTaught (fired_in (agent_of old history) w) v
  taught = laws.teaches (before_wave (agent_of old history)) (fired_in (agent_of old history) w)

  firing_in : (x : Fresh) → IsIn x xs → IsIn x.firing (fresh_firings v)
  firing_in x is = in_mapped (λ (y : Fresh). y.firing) x xs is

  wish_known : (x : Fresh) (u : Wish) → IsIn x xs → IsIn u x.firing.made → AreKnown v.names.words (symbols_of_wish u)
  wish_known x u at is =
      each_known v.names.words (symbols_of_wish u)
      (λ s within. (lawful_end.founded.symbols.made x.firing (in_right x.firing (map (λ (p : RecordedFiring). p.firing) history) (fresh_firings v) (firing_in x at)) s
      (in_flat_mapped symbols_of_wish u s x.firing.made is within)).0)

  number_within : (x : Fresh) → IsIn x xs → x.firing.number ≤ new.firings
  number_within x is = subst (λ n. x.firing.number ≤ n) (sym h.holds.firings_are) (in_order_end.numbers x.firing (firing_in x is))

  last_rule_is : new.last_rule ≡ v.program.last_rule
  last_rule_is = ap (λ (p : Program). p.last_rule) h.holds.program_is

  fit_end : AreFit old new v.entries
  fit_end = record {
    rows_known =
        subst (λ ws. AreRowsKnown ws (rows_in v.entries)) (sym h.holds.words_are)
        (rows_known v.names.words xs (λ x y at is. wish_known x y.wish at (lawful_end.wishes x at y is)));
    rows_in_range = rows_in_range old.goals xs (λ x y at is. lawful_end.can x at y.wish (lawful_end.wishes x at y is));
    rows_of_firings = rows_of_firings new.firings xs number_within;
    live_known = subst (λ ws. AreLiveKnown ws (map live_of xs)) (sym h.holds.words_are) (live_named v.names.words xs known_end.names);
    live_given = subst (λ n. AreLiveGiven n (map live_of xs)) (sym last_rule_is) (live_rules_given v.program.last_rule xs (λ x is. given_end x.firing (firing_in x is)));
    events_known = subst (λ ws. AreEventsKnown ws (events_in v.entries)) (sym h.holds.words_are) known_end.events;
    named = λ f is.
        let x = in_map (λ (y : Fresh). y.firing) f xs is in
        subst (λ ws. IsKnown ws f.name) (sym h.holds.words_are) (subst (λ (g : FiringOf). IsKnown v.names.words g.name) x.2 (known_end.names x.0 x.1));
    rising = in_order_end.rising;
    recorded_up_to = λ f is. subst (λ n. f.number ≤ n) (sym h.holds.firings_are) (in_order_end.numbers f is);
    makers = λ r n is used.
        let x = in_map fresh_seen r xs is in
        laws.makers (agent_of old history) v x.0 n h.lawful lawful_end x.1 (subst (λ (q : RecordedAs). IsIn n (flat_map maker_named q.firing.used)) (sym x.2) used);
    goals = λ r s is of_goal.
        let x = in_map fresh_seen r xs is in
        let g = of_goals_end.goals_are x.0 s x.1 (ap (λ (q : RecordedAs). q.goal) x.2 ∙ of_goal) in
        subst (λ t. IsIn t (goal_ids old.goals)) g.2 (in_mapped (λ (goal : Goal). goal.id) g.0 old.goals g.1);
  }

  rules_joined : map rule_seen new.rules ≡ map rule_seen old.rules ++ taught.rules
  rules_joined =
      ap (λ (p : Program). p.rules) h.holds.program_is ∙ taught.rules_are
      ∙ ap (λ (p : Program). p.rules ++ taught.rules) (program_stays (before_wave (agent_of old history)) (first_wave (agent_of old history)) w.fired)

  next_joined : AreNext old.last_rule taught.rules new.last_rule
  next_joined =
      subst (λ n. AreNext old.last_rule taught.rules n) (sym last_rule_is)
      (subst (λ (p : Program). AreNext p.last_rule taught.rules v.program.last_rule) (program_stays (before_wave (agent_of old history)) (first_wave (agent_of old history)) w.fired) taught.numbers)

  joined_end : HaveJoined old new
  joined_end = record {
    taught = taught.rules;
    rules_are = rules_joined;
    numbers = next_joined;
    matchable = λ rule is.
        elim (laws.matchable (agent_of old history) (fired_in (agent_of old history) w) rule h.lawful h.lawful_wave
        (subst (IsIn rule) (sym taught.rules_are) (in_right rule (fired_in (agent_of old history) w).program.rules taught.rules is))) [
          | inl before ↦ absurd (omega (
            arith,
            number_up_to old.last_rule (map rule_seen old.rules) rule sound.numbers_given
                (subst (λ (p : Program). IsIn rule p.rules) (program_stays (before_wave (agent_of old history)) (first_wave (agent_of old history)) w.fired) before),
            next_above old.last_rule taught.rules new.last_rule rule next_joined is,
          ))
          | inr can ↦ can
        ];
  }

  more_firings : old.firings ≤ new.firings
  more_firings = subst (λ n. old.firings ≤ n) (sym h.holds.firings_are) in_order_end.low

  grown : length old.table ≤ length new.table
  grown = no_shorter old.table new.table (record { grown = h.from.words })

  sound_end : IsSound new
  sound_end =
      let more : old.last_rule ≤ new.last_rule = next_most old.last_rule taught.rules new.last_rule next_joined in
      subst IsSound (sym h.from.same) (record {
        goals_some = sound.goals_some;
        goals_few = sound.goals_few;
        goals_known = goals_grown old.table new.table old.letters new.letters old.goals grown h.from.letters sound.goals_known;
        depends_fit = sound.depends_fit;
        doubted = sound.doubted;
        element_limit = sound.element_limit;
        row_limit = sound.row_limit;
        few_rows = sound.few_rows;
        rows_in_range = sound.rows_in_range;
        rows_of_firings = λ row is. omega (arith, more_firings, sound.rows_of_firings row is);
        makers_of_firings = λ g s is selected. omega (arith, more_firings, sound.makers_of_firings g s is selected);
        recorded_up_to = λ f is. omega (arith, more_firings, sound.recorded_up_to f is);
        makers_earlier = sound.makers_earlier;
        first_words = omega (arith, sound.first_words, grown);
        top_numbered = omega (arith, sound.top_numbered, h.from.letters 83);
        numbered = subst AreNumbered (sym rules_joined) (numbered_join (map rule_seen old.rules) taught.rules old.last_rule new.last_rule sound.numbered sound.numbers_given next_joined);
        numbers_given =
            subst (AreUpTo new.last_rule) (sym rules_joined)
            (up_to_join old.last_rule new.last_rule (map rule_seen old.rules) taught.rules more sound.numbers_given (next_up_to old.last_rule taught.rules new.last_rule next_joined));
        rules_known =
            subst (λ (rules : List RuleOf). AreRulesKnown new.table rules) (sym (ap (λ (p : Program). p.rules) h.holds.program_is))
            (subst (λ ws. AreRulesKnown ws v.program.rules) (sym h.holds.words_are) known_end.rules);
        elements_known = elements_grown old.table new.table old.memory.elements grown sound.elements_known;
        rows_known = are_rows_grown old.table new.table old.prefs.rows grown sound.rows_known;
        inputs_known = triples_grown old.table new.table old.inputs grown sound.inputs_known;
        queue_known = triples_grown old.table new.table (map triple_queued old.queue) grown sound.queue_known;
        output_known = triples_grown old.table new.table old.output grown sound.output_known;
        live_known = live_grown old.table new.table (map live_seen old.live.list) grown sound.live_known;
        live_given = λ l is. omega (arith, more, sound.live_given l is);
        kept_up = sound.kept_up;
        kept_ids = sound.kept_ids;
        past_named = named_grown old.table new.table (recorded old.past) grown sound.past_named;
        chains_known =
            subst (AreChainsKnown new.table) (sym (ap (λ (p : Program). p.chains) h.holds.program_is))
            (subst (λ ws. AreChainsKnown ws v.program.chains) (sym h.holds.words_are) known_end.chains);
        chains_kept =
            subst (λ (p : Program). AreExplained p.rules p.chains) (sym h.holds.program_is)
            (join_explained (fired_in (agent_of old history) w).program v.program.rules v.program.chains taught.rules taught.chains taught.rules_are taught.chains_are taught.of_rules
            (subst (λ (p : Program). AreExplained p.rules p.chains) (sym (program_stays (before_wave (agent_of old history)) (first_wave (agent_of old history)) w.fired)) sound.chains_kept));
      })

  pub worked_out : IsWorkedOut old new (map entry_seen entries)
  worked_out = subst (IsWorkedOut old new) (sym h.holds.entries_are) (record { fit = fit_end; joined = joined_end; counted = more_firings; sound = sound_end })
