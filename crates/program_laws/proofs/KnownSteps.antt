-- What is told of a wave stays known when it learns from an explanation.
use Rattle.std.proofs.Common.{◌≡◌, refl, sym, subst, ℕ, suc, inl, inr, List, [], ◌∷◌, ◌++◌, map, flat_map}
use Rattle.soar_sym.specs.Words.{IsKnown, Texts}
use Rattle.soar_sym.specs.declared.symbol.Sym.{Sym}
use Rattle.soar_rule.specs.Productions.{ProductionOf}
use Rattle.soar_rule.specs.Symbols.{AreKnown, constants_of}
use Rattle.soar_wm.specs.declared.element.Element.{Element}
use Rattle.defs_match.specs.Rules.{RuleOf}
use Rattle.chain_texts.specs.Shown.{shown_symbols, symbols_of_step}
use Rattle.defs_soar.specs.Agents.{Agent, Learnt}
use Rattle.defs_soar.specs.Dependencies.{symbols_of_wish}
use Rattle.defs_soar.specs.Events.{by_instance, by_learned, LearningEvent}
use Rattle.defs_soar.specs.History.{FiringOf}
use Rattle.defs_soar.specs.Laws.{IsIn}
use Rattle.defs_soar.specs.LearnedFirings.{as_fresh, ExplainedFiring, learned_kind, with_learned, with_supports_by, without_rule}
use Rattle.defs_soar.specs.LearnedRules.{with_joined_word, with_names}
use Rattle.defs_soar.specs.Ungrounded.{symbols_of_element}
use Rattle.defs_soar.specs.WaveAtHand.{all_fresh, Entry, fired, Fresh, noted, Wave}
use Rattle.defs_soar.specs.WaveFirings.{before_wave}
use Rattle.defs_soar.specs.Waves.{entry_events}
use Rattle.learning_laws.specs.Lawful.{Grown}
use Rattle.learning_laws.specs.LawfulAgents.{firings_of_agent}
use Rattle.learning_laws.specs.LawfulWaves.{fresh_firings, IsLawfulWave}
use Rattle.learning_laws.proofs.JoinLaws.{fresh_more, fresh_told, joining_firing}
use Rattle.learning_laws.proofs.LearnedRuleLaws.{each_before}
use Rattle.learning_laws.proofs.Lists.{in_append, in_mapped, in_right}
use Rattle.learning_laws.proofs.NamingLaws.{known_later}
use Rattle.learning_laws.proofs.TableGrowth.{grown_by_text}
use Rattle.soar_settle.specs.Known.{AreRulesKnown}
use Rattle.trace_laws.specs.Events.{AreEventsKnown, IsLearningKnown}
use Rattle.trace_laws.proofs.EventLemmas.{events_stay_known}
use Rattle.program_laws.specs.Knowing.{IsKnownWave}
use Rattle.program_laws.proofs.KnownEvents.{all_known_later, entry_more, events_both, known_all, known_each, made_known, refated_entries, rule_more, rules_later, wish_events}

-- ---- more words

-- the same rules, explanations and entries are known by a longer table
pub known_more : (w v : Wave) → Grown w.names.words v.names.words → v.program.rules ≡ w.program.rules → v.program.chains ≡ w.program.chains → v.entries ≡ w.entries → IsKnownWave w → IsKnownWave v
known_more w v grown rules chains entries k = record {
  rules = subst (AreRulesKnown v.names.words) (sym rules) (rules_later w.names.words v.names.words w.program.rules grown k.rules);
  chains = λ l i. all_known_later w.names.words v.names.words (shown_symbols l.chain) grown (k.chains l (subst (IsIn l) chains i));
  events = subst (λ (es : List Entry). AreEventsKnown v.names.words (flat_map entry_events es)) (sym entries)
      (events_stay_known w.names.words v.names.words (flat_map entry_events w.entries) k.events grown);
  names = λ x i. known_later w.names.words v.names.words x.firing.name grown (k.names x (subst (λ (es : List Entry). IsIn x (all_fresh es)) entries i));
}

pub names_known : (texts : Texts) (w : Wave) → IsKnownWave w → IsKnownWave (with_names texts w)
names_known [] w k = k
names_known (text ∷ texts) w k = names_known texts (with_joined_word text w) (known_more w (with_joined_word text w) (grown_by_text w.names.words text) refl refl refl k)

-- ---- a step without a rule

pub without_known : (l : ExplainedFiring) (learning_event : LearningEvent) (w : Wave) → IsLearningKnown w.names.words learning_event → IsKnownWave w → IsKnownWave (without_rule l learning_event w)
without_known l learning_event w told k = record {
  rules = k.rules;
  chains = k.chains;
  events = entry_more w.names.words (map (with_supports_by l.explained.number l.takes_over by_instance) w.entries) (noted learning_event)
      (refated_entries w.names.words l.explained.number l.takes_over by_instance w.entries k.events) (told, tt);
  names = λ x i. let b = each_before l.explained.number l.takes_over by_instance learning_event w.entries x i in subst (λ (g : FiringOf). IsKnown w.names.words g.name) b.firing (k.names b.before b.there);
}

-- ---- a rule that joins

module _ (a : Agent) (l : ExplainedFiring) (production : ProductionOf) (elements : List Element) (binds : List Sym) (learning_event : ℕ → List ℕ → LearningEvent) (v : Wave) where
  abbrev after : Wave
  after = with_learned (before_wave a) l production elements binds learning_event v

  abbrev words : Texts
  words = v.names.words

  abbrev rule : RuleOf
  rule = record { number = suc v.program.last_rule; production = production }

  abbrev f : FiringOf
  f = joining_firing a v l production elements binds

  abbrev told : LearningEvent
  told = learning_event f.number f.instance.tags

  abbrev fresh : Fresh
  fresh = as_fresh (before_wave a) l f elements told

  abbrev before : List Entry
  before = map (with_supports_by l.explained.number l.takes_over by_learned) v.entries

  joined : IsIn fresh (all_fresh (before ++ fired fresh ∷ []))
  joined = subst (IsIn fresh) (sym (fresh_more before fresh)) (in_right fresh (all_fresh before) (fresh ∷ []) (inl refl))

  -- it fires at once, so its constants are known
  constants_known : IsLawfulWave a after → (s : Sym) → IsIn s (constants_of production) → IsKnown words s
  constants_known k s i =
      k.founded.history.known f (in_right f (firings_of_agent a) (fresh_firings after) (in_mapped (λ (x : Fresh). x.firing) fresh (all_fresh after.entries) joined)) s (in_right s binds (constants_of production) i)

  module _ (k : IsKnownWave v) (name : IsKnown words production.name) (vars : (s : Sym) → IsIn s production.vars → IsKnown words s) (event : IsLearningKnown words told) (shown : AreKnown words (shown_symbols l.chain)) where
    results_known : (s : Sym) → IsIn s (flat_map symbols_of_wish l.chain.results) → IsKnown words s
    results_known s i =
        known_each words (shown_symbols l.chain) shown s
        (in_right s (flat_map symbols_of_element l.chain.grounds) (flat_map symbols_of_step l.chain.steps ++ flat_map symbols_of_wish l.chain.results)
        (in_right s (flat_map symbols_of_step l.chain.steps) (flat_map symbols_of_wish l.chain.results) i))

    fresh_known : AreEventsKnown words (entry_events (fired fresh))
    fresh_known = (
      event,
      events_both words (wish_events words fresh.wishes) [] (made_known words (before_wave a).reach.goals (learned_kind (before_wave a) l f elements) l.chain.results results_known) tt,
    )

    name_known : (y : Fresh) → IsIn y (all_fresh (before ++ fired fresh ∷ [])) → IsKnown words y.firing.name
    name_known y i =
        elim (in_append y (all_fresh before) (fresh ∷ []) (subst (IsIn y) (fresh_more before fresh) i)) [
          | inl j ↦
              let b = each_before l.explained.number l.takes_over by_learned told v.entries y (subst (IsIn y) (sym (fresh_told before told)) j) in
              subst (λ (g : FiringOf). IsKnown words g.name) b.firing (k.names b.before b.there)
          | inr j ↦ elim j [ inl e ↦ subst (λ (z : Fresh). IsKnown words z.firing.name) e name | inr z ↦ absurd z ]
        ]

    pub learned_known : IsLawfulWave a after → IsKnownWave after
    learned_known lawful = record {
      rules = rule_more words v.program.rules rule k.rules (
        name,
        known_all words (production.vars ++ constants_of production) (λ s i. elim (in_append s production.vars (constants_of production) i) [ inl j ↦ vars s j | inr j ↦ constants_known lawful s j ]),
      );
      chains = λ y i. elim (in_append y v.program.chains (record { rule = suc v.program.last_rule; chain = l.chain } ∷ []) i) [
        | inl j ↦ k.chains y j
        | inr j ↦ elim j [ inl e ↦ subst (λ (z : Learnt). AreKnown words (shown_symbols z.chain)) e shown | inr z ↦ absurd z ]
      ];
      events = entry_more words before (fired fresh) (refated_entries words l.explained.number l.takes_over by_learned v.entries k.events) fresh_known;
      names = name_known;
    }
