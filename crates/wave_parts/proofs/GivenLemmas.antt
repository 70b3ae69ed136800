-- The firings of a wave are of rules whose numbers were given, also those of rules that it learned.
use Rattle.std.proofs.Common.{◌≡◌, refl, sym, ◌∙◌, ap, subst, ℕ, zero, suc, ◌≤◌, nat_lt, Bool, true, false, ◌==◌, ◌&&◌, cond, inl, inr, arith, List, [], ◌∷◌, ◌++◌, map, filter, length}
use Rattle.std.specs.List.{list_any}
use Rattle.std.specs.Prelude.{flat_map}
use Rattle.soar_sym.specs.declared.symbol.Sym.{Sym}
use Rattle.soar_rule.specs.Productions.{ProductionOf}
use Rattle.soar_rule.specs.Repeat.{repeated}
use Rattle.soar_wm.specs.declared.element.Element.{Element}
use Rattle.defs_text.specs.Numbered.{word_in}
use Rattle.defs_match.specs.Contents.{is_numbered}
use Rattle.defs_match.specs.Rules.{RuleOf}
use Rattle.defs_match.specs.declared.instance.Instance.{Instance}
use Rattle.defs_soar.specs.declared.learning.Cause.{Cause}
use Rattle.defs_soar.specs.Candidate.{all_grounds, general_form, literal_form, named_form}
use Rattle.defs_soar.specs.ConditionOrder.{Ordered, ordered_grounds}
use Rattle.defs_soar.specs.Events.{by_instance, by_learned, has_lost, has_no_grounds, is_blocked, justifies, learns, LearningEvent, reuses}
use Rattle.defs_soar.specs.History.{FiringOf}
use Rattle.defs_soar.specs.Laws.{IsIn}
use Rattle.defs_soar.specs.Learning.{explained_on, learned_from, learned_from_each, one_round, with_learning}
use Rattle.defs_soar.specs.LearnedFirings.{as_fresh, ExplainedFiring, learned_firing, with_learned, with_supports_by, without_rule}
use Rattle.defs_soar.specs.LearnedRules.{after_explanation, as_learning, by_outcome, chunk_front, free_number, identifiers_of, justification_front, learned_name, names_joining, with_chunk, with_joined_word, with_justification, with_names, with_number_total}
use Rattle.defs_soar.specs.Outcome.{blocked, chunked, groundless, justified, lost, Outcome, outcome_of, reused}
use Rattle.defs_soar.specs.Pending.{Firable, firable_of, is_of_operator_kind}
use Rattle.defs_soar.specs.Results.{is_result, results_of}
use Rattle.defs_soar.specs.WaveAtHand.{all_fresh, BeforeWave, Entry, fired, Fresh, Wave}
use Rattle.defs_soar.specs.WaveFirings.{firing_of_work, fresh_firing, made_in, with_firing, with_firings}
use Rattle.learning_laws.specs.LawfulWaves.{fresh_firings}
use Rattle.learning_laws.proofs.JoinLaws.{fresh_more, fresh_told}
use Rattle.learning_laws.proofs.LearnedRuleLaws.{firings_same}
use Rattle.learning_laws.proofs.Lists.{filter_within, in_append, in_flat_map, in_map, same_number}
use Rattle.learning_laws.proofs.WorkLaws.{map_both}
use Rattle.pending_work.specs.Firables.{firables_for, rules_of}
use Rattle.wave_parts.specs.Seen.{AreUpTo}

-- the rule of each firing was given
abbrev pub IsGivenWave : Wave → Type 0
IsGivenWave w = (f : FiringOf) → IsIn f (fresh_firings w) → f.instance.rule ≤ w.program.last_rule

-- one firing more, of a rule that was given then
one_more : (w v : Wave) (f : FiringOf) → IsGivenWave w → w.program.last_rule ≤ v.program.last_rule → fresh_firings v ≡ fresh_firings w ++ f ∷ [] → f.instance.rule ≤ v.program.last_rule → IsGivenWave v
one_more w v f h more firings given g is = elim (in_append g (fresh_firings w) (f ∷ []) (subst (IsIn g) firings is)) [
  | inl old ↦ let low : g.instance.rule ≤ w.program.last_rule = h g old in omega (arith, more)
  | inr here ↦ elim here [ inl e ↦ subst (λ (x : FiringOf). x.instance.rule ≤ v.program.last_rule) e given | inr none ↦ absurd none ]
]

-- ---- what fires

pub number_up_to : (last : ℕ) (rules : List RuleOf) (rule : RuleOf) → AreUpTo last rules → IsIn rule rules → rule.number ≤ last
number_up_to last [] rule h is = absurd is
number_up_to last (r ∷ rules) rule h (inl e) = subst (λ (x : RuleOf). x.number ≤ last) e h.0
number_up_to last (r ∷ rules) rule h (inr is) = number_up_to last rules rule h.1 is

firables_given : (last : ℕ) (rules : List RuleOf) (elements : List Element) (instances : List Instance) → AreUpTo last rules
    → (f : Firable) → IsIn f (flat_map (firables_for rules elements) instances) → f.instance.rule ≤ last
firables_given last rules elements instances h f is =
    let i = in_flat_map (firables_for rules elements) f instances is in
    let r = in_map (λ rule. firable_of elements rule i.0) f (rules_of rules i.0.rule) i.2 in
    let at = filter_within (is_numbered i.0.rule) rules r.0 r.1 in
    let low : r.0.number ≤ last = number_up_to last rules r.0 h at.0 in
    let same : r.0.number ≡ i.0.rule = same_number r.0.number i.0.rule at.1 in
    subst (λ (x : Firable). x.instance.rule ≤ last) r.2 (omega (arith, low, same))

all_given : (m : BeforeWave) (w : Wave) (firables : List Firable) → IsGivenWave w → ((f : Firable) → IsIn f firables → f.instance.rule ≤ w.program.last_rule) → IsGivenWave (with_firings m w firables)
unfolding with_firings
all_given m w [] h given = h
all_given m w (f ∷ firables) h given =
    all_given m (with_firing m w f) firables (one_more w (with_firing m w f) made h (omega arith) firings (given f (inl refl))) (λ g is. given g (inr is))
  where
    made : FiringOf
    made = firing_of_work m w f (made_in w m f)

    fresh : Fresh
    fresh = fresh_firing m made (is_of_operator_kind m.reach.goals f) (made_in w m f)

    firings : fresh_firings (with_firing m w f) ≡ fresh_firings w ++ made ∷ []
    firings = ap (map (λ (x : Fresh). x.firing)) (fresh_more w.entries fresh) ∙ map_both (λ (x : Fresh). x.firing) (all_fresh w.entries) (fresh ∷ [])

pub firings_given : (m : BeforeWave) (w : Wave) (rules : List RuleOf) (elements : List Element) (instances : List Instance) → IsGivenWave w → AreUpTo w.program.last_rule rules
    → IsGivenWave (with_firings m w (flat_map (firables_for rules elements) instances))
firings_given m w rules elements instances h up_to =
    all_given m w (flat_map (firables_for rules elements) instances) h (firables_given w.program.last_rule rules elements instances up_to)

-- ---- what is learned

module _ (m : BeforeWave) where
  without_given : (l : ExplainedFiring) (learning_event : LearningEvent) (w : Wave) → IsGivenWave w → IsGivenWave (without_rule l learning_event w)
  without_given l learning_event w h f is = h f (subst (IsIn f) (firings_same l.explained.number l.takes_over by_instance learning_event w.entries) is)

  joined_given : (l : ExplainedFiring) (production : ProductionOf) (elements : List Element) (binds : List Sym) (learning_event : ℕ → List ℕ → LearningEvent) (w : Wave) → IsGivenWave w
      → IsGivenWave (with_learned m l production elements binds learning_event w)
  joined_given l production elements binds learning_event w h =
      one_more w (with_learned m l production elements binds learning_event w) f h (omega arith) firings (omega arith)
    where
      f : FiringOf
      f = learned_firing m w.names.words (suc w.last_firing) (record { number = suc w.program.last_rule; production = production }) elements binds l.chain.results

      told_as : LearningEvent
      told_as = learning_event f.number f.instance.tags

      fresh : Fresh
      fresh = as_fresh m l f elements told_as

      before : List Entry
      before = map (with_supports_by l.explained.number l.takes_over by_learned) w.entries

      firings : map (λ (x : Fresh). x.firing) (all_fresh (before ++ fired fresh ∷ [])) ≡ fresh_firings w ++ f ∷ []
      firings =
          ap (map (λ (x : Fresh). x.firing)) (fresh_more before fresh)
          ∙ map_both (λ (x : Fresh). x.firing) (all_fresh before) (fresh ∷ [])
          ∙ ap (λ fs. fs ++ f ∷ []) (ap (map (λ (x : Fresh). x.firing)) (sym (fresh_told before told_as)) ∙ firings_same l.explained.number l.takes_over by_learned told_as w.entries)

  words_given : (texts : List (List ℕ)) (w : Wave) → IsGivenWave w → IsGivenWave (with_names texts w)
  words_given [] w h = h
  words_given (text ∷ texts) w h = words_given texts (with_joined_word text w) h

  chunk_given : (l : ExplainedFiring) (production : ProductionOf) (o : Ordered) (w : Wave) → IsGivenWave w → IsGivenWave (with_chunk m l production o w)
  chunk_given l production o w h =
      let n = free_number (length w.program.rules) w.names.words w.program.rules chunk_front (suc w.program.chunks) in
      let text = learned_name chunk_front n in
      let named = with_joined_word text (with_number_total n w) in
      let name = word_in named.names.words text in
      joined_given l (record production { name = name }) o.taken (identifiers_of o.taken) (λ number tags. learns number name l.explained.number tags)
      (record named { program = record named.program { chunks = n }; learned = suc named.learned }) h

  justification_given : (l : ExplainedFiring) (production : ProductionOf) (o : Ordered) (why : Cause) (w : Wave) → IsGivenWave w → IsGivenWave (with_justification m l production o why w)
  justification_given l production o why w h =
      let n = free_number (length w.program.rules) w.names.words w.program.rules justification_front (suc w.program.justifications) in
      let text = learned_name justification_front n in
      let named = with_joined_word text (with_number_total n w) in
      let name = word_in named.names.words text in
      joined_given l (record production { name = name }) (all_grounds o) [] (λ number tags. justifies number name l.explained.number tags why)
      (record named { program = record named.program { justifications = n } }) h

  outcome_given : (l : ExplainedFiring) (w : Wave) (o : Outcome) → IsGivenWave w → IsGivenWave (by_outcome m l w o)
  outcome_given l w (lost tag) h = without_given l (has_lost l.explained.number tag) w h
  outcome_given l w (blocked b) h = without_given l (is_blocked l.explained.number b.negation b.tag) w h
  outcome_given l w groundless h = without_given l (has_no_grounds l.explained.number) w h
  outcome_given l w (reused name) h = without_given l (reuses name l.explained.number) w h
  outcome_given l w (justified why) h =
      justification_given l (named_form w.names.words (literal_form w.names.words l.chain l.explained.depth)) (ordered_grounds w.names.words l.chain.grounds) why w h
  outcome_given l w chunked h = chunk_given l (named_form w.names.words (general_form w.names.words l.chain l.explained.depth)) (ordered_grounds w.names.words l.chain.grounds) w h

  step_given : (l : ExplainedFiring) (w : Wave) → IsGivenWave w → IsGivenWave (after_explanation m l w)
  step_given l w h =
      let texts = names_joining w.names.words l.chain l.explained.depth in
      let read = with_names texts w in
      outcome_given l read (outcome_of read.names.words l.chain l.explained.depth read.program.rules m.elements (as_learning m.settings read.learned)) (words_given texts w h)

  each_given : (left : List ℕ) (v : Wave) → IsGivenWave v → IsGivenWave (learned_from_each m left v)
  each_given [] v h = h
  each_given (n ∷ left) v h = go (filter (λ x. x.firing.number == n) (all_fresh v.entries)) (λ u k. each_given left u k)
    where
      one : (x : Fresh) (b : Bool) → IsGivenWave (cond b (after_explanation m (explained_on m x.firing (results_of v.names.words m.reach m.rows x.firing)) v) v)
      one x true = step_given (explained_on m x.firing (results_of v.names.words m.reach m.rows x.firing)) v h
      one x false = h

      go : (found : List Fresh) → ((u : Wave) → IsGivenWave u → IsGivenWave (learned_from_each m left u)) → IsGivenWave (learned_from_each m left (elim found as (λ y. Wave) [ [] ↦ v | x ∷ others ↦ learned_from m x.firing v ]))
      go [] later = later v h
      go (x ∷ others) later = later (learned_from m x.firing v) (one x (nat_lt 1 x.firing.depth && list_any (is_result m.reach x.firing.depth) x.firing.made))

  rounds_given : (n : ℕ) (v : Wave) → IsGivenWave v → IsGivenWave (repeated n (one_round m) v)
  rounds_given zero v h = h
  rounds_given (suc n) v h = rounds_given n (one_round m v) (each_given v.next (record v { next = [] }) h)

pub learning_given : (m : BeforeWave) (w : Wave) → IsGivenWave w → IsGivenWave (with_learning m w)
unfolding with_learning
learning_given m w h = rounds_given m (length m.reach.goals) w h
