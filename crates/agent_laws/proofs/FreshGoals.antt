-- The firings of a wave are of goals that there are, and what comes after them gives no identifier.
use Rattle.std.proofs.Common.{◌≡◌, refl, ◌∙◌, ap, subst, ℕ, zero, suc, nat_lt, Bool, true, false, ◌==◌, ◌&&◌, cond, inl, inr, List, [], ◌∷◌, ◌++◌, map, filter, length, Some}
use Rattle.std.specs.List.{list_any}
use Rattle.soar_sym.specs.declared.symbol.Sym.{Sym}
use Rattle.soar_rule.specs.Productions.{ProductionOf}
use Rattle.soar_rule.specs.Repeat.{repeated}
use Rattle.soar_wm.specs.declared.element.Element.{Element}
use Rattle.defs_text.specs.Numbered.{word_in}
use Rattle.defs_soar.specs.declared.goal.Goal.{Goal}
use Rattle.defs_soar.specs.declared.learning.Cause.{Cause}
use Rattle.defs_soar.specs.declared.preference.Wish.{Wish}
use Rattle.defs_soar.specs.Candidate.{all_grounds, general_form, literal_form, named_form}
use Rattle.defs_soar.specs.ConditionOrder.{Ordered, ordered_grounds}
use Rattle.defs_soar.specs.Events.{by_instance, by_learned, WishSupport, has_lost, has_no_grounds, is_blocked, justifies, learns, LearningEvent, reuses}
use Rattle.defs_soar.specs.History.{FiringOf}
use Rattle.defs_soar.specs.Laws.{IsIn}
use Rattle.defs_soar.specs.Learning.{learned_from, learned_from_each, explained_on, one_round, results_by_instance, with_learning, without_learning}
use Rattle.defs_soar.specs.LearnedFirings.{as_fresh, learned_firing, ExplainedFiring, with_support_by, with_supports_by, with_learned, without_rule}
use Rattle.defs_soar.specs.Outcome.{blocked, chunked, groundless, justified, lost, Outcome, outcome_of, reused}
use Rattle.defs_soar.specs.Results.{is_result, results_of}
use Rattle.defs_soar.specs.Support.{goal_at_depth}
use Rattle.defs_soar.specs.LearnedRules.{as_learning, by_outcome, chunk_front, with_number_total, free_number, identifiers_of, justification_front, learned_name, names_joining, after_explanation, with_chunk, with_justification, with_names, with_joined_word}
use Rattle.defs_soar.specs.WaveAtHand.{all_fresh, Entry, fired, Fresh, BeforeWave, noted, Wave}
use Rattle.learning_laws.proofs.JoinLaws.{fresh_more, fresh_told}
use Rattle.learning_laws.proofs.Lists.{in_append}
use Rattle.agent_laws.specs.NewGoals.{DoingWithoutKeepsGoals, IsOfGoals, LearningKeepsGoals}

-- the goal at a depth is one of them
pub at_depth : (depth : ℕ) (goals : List Goal) (s : Sym) → goal_at_depth depth goals ≡ Some s → (g : Goal) × IsIn g goals × (g.id ≡ s)
at_depth zero [] s h = absurd (cc)
at_depth zero (g ∷ goals) s h = absurd (cc)
at_depth (suc zero) [] s h = absurd (cc)
at_depth (suc zero) (g ∷ goals) s h = (g, inl refl, cc)
at_depth (suc (suc depth)) [] s h = absurd (cc)
at_depth (suc (suc depth)) (g ∷ goals) s h = let k = at_depth (suc depth) goals s h in (k.0, inr k.1, k.2)

module _ (goals : List Goal) where
  abbrev pub AreOf : List Entry → Type 0
  AreOf entries = (x : Fresh) (s : Sym) → IsIn x (all_fresh entries) → x.goal ≡ Some s → (g : Goal) × IsIn g goals × (g.id ≡ s)

  one_and : (x : Fresh) (entries : List Entry) → ((s : Sym) → x.goal ≡ Some s → (g : Goal) × IsIn g goals × (g.id ≡ s)) → AreOf entries → AreOf (fired x ∷ entries)
  one_and x entries one later y s (inl e) q = one s (ap (λ (z : Fresh). z.goal) e ∙ q)
  one_and x entries one later y s (inr i) q = later y s i q

  -- other supports_of_wishes change no goal
  refated : (number : ℕ) (p : Wish → Bool) (wish_support : WishSupport) (entries : List Entry) → AreOf entries → AreOf (map (with_supports_by number p wish_support) entries)
  refated number p wish_support [] h = h
  refated number p wish_support (noted l ∷ entries) h = refated number p wish_support entries h
  refated number p wish_support (fired x ∷ entries) h = go (x.firing.number == number) (refated number p wish_support entries (λ y s i q. h y s (inr i) q))
    where
      go : (b : Bool) → AreOf (map (with_supports_by number p wish_support) entries) → AreOf (cond b (fired (record x { wishes = map (with_support_by p wish_support) x.wishes })) (fired x) ∷ map (with_supports_by number p wish_support) entries)
      go true later = one_and (record x { wishes = map (with_support_by p wish_support) x.wishes }) (map (with_supports_by number p wish_support) entries) (λ s q. h x s (inl refl) q) later
      go false later = one_and x (map (with_supports_by number p wish_support) entries) (λ s q. h x s (inl refl) q) later

  by_instance_all : (m : BeforeWave) (entries : List Entry) → AreOf entries → AreOf (map (results_by_instance m) entries)
  by_instance_all m [] h = h
  by_instance_all m (noted l ∷ entries) h = by_instance_all m entries h
  by_instance_all m (fired x ∷ entries) h = go (nat_lt 1 x.firing.depth) (by_instance_all m entries (λ y s i q. h y s (inr i) q))
    where
      go : (b : Bool) → AreOf (map (results_by_instance m) entries)
          → AreOf (cond b (fired (record x { wishes = map (with_support_by (is_result m.reach x.firing.depth) by_instance) x.wishes })) (fired x) ∷ map (results_by_instance m) entries)
      go true later = one_and (record x { wishes = map (with_support_by (is_result m.reach x.firing.depth) by_instance) x.wishes }) (map (results_by_instance m) entries) (λ s q. h x s (inl refl) q) later
      go false later = one_and x (map (results_by_instance m) entries) (λ s q. h x s (inl refl) q) later

  and_told : (entries : List Entry) (l : LearningEvent) → AreOf entries → AreOf (entries ++ noted l ∷ [])
  and_told entries l h x s i q = h x s (subst (IsIn x) (fresh_told entries l) i) q

  pub and_fired : (entries : List Entry) (y : Fresh) → AreOf entries → ((s : Sym) → y.goal ≡ Some s → (g : Goal) × IsIn g goals × (g.id ≡ s)) → AreOf (entries ++ fired y ∷ [])
  and_fired entries y h one x s i q = elim (in_append x (all_fresh entries) (y ∷ []) (subst (IsIn x) (fresh_more entries y) i)) [
    | inl j ↦ h x s j q
    | inr j ↦ elim j [ inl e ↦ one s (ap (λ (z : Fresh). z.goal) e ∙ q) | inr z ↦ absurd z ]
  ]

-- ---- learning_steps

module _ (m : BeforeWave) (letters : List ℕ) where
  abbrev Is : Wave → Type 0
  Is w = IsOfGoals m.reach.goals letters w

  without_is : (l : ExplainedFiring) (learning_event : LearningEvent) (w : Wave) → Is w → Is (without_rule l learning_event w)
  without_is l learning_event w h = record {
    letters_are = h.letters_are;
    goals_are = and_told m.reach.goals (map (with_supports_by l.explained.number l.takes_over by_instance) w.entries) learning_event (refated m.reach.goals l.explained.number l.takes_over by_instance w.entries h.goals_are);
  }

  joined_is : (l : ExplainedFiring) (production : ProductionOf) (elements : List Element) (binds : List Sym) (learning_event : ℕ → List ℕ → LearningEvent) (w : Wave) → Is w → Is (with_learned m l production elements binds learning_event w)
  joined_is l production elements binds learning_event w h = record {
    letters_are = h.letters_are;
    goals_are =
        and_fired m.reach.goals (map (with_supports_by l.explained.number l.takes_over by_learned) w.entries) (as_fresh m l f elements (learning_event f.number f.instance.tags))
        (refated m.reach.goals l.explained.number l.takes_over by_learned w.entries h.goals_are) (λ s q. at_depth f.depth m.reach.goals s q);
  }
    where
      f : FiringOf
      f = learned_firing m w.names.words (suc w.last_firing) (record { number = suc w.program.last_rule; production = production }) elements binds l.chain.results

  word_is : (text : List ℕ) (w : Wave) → Is w → Is (with_joined_word text w)
  word_is text w h = record { letters_are = h.letters_are; goals_are = h.goals_are }

  words_are : (texts : List (List ℕ)) (w : Wave) → Is w → Is (with_names texts w)
  words_are [] w h = h
  words_are (text ∷ texts) w h = words_are texts (with_joined_word text w) (word_is text w h)

  chunk_is : (l : ExplainedFiring) (production : ProductionOf) (o : Ordered) (w : Wave) → Is w → Is (with_chunk m l production o w)
  chunk_is l production o w h =
      let n = free_number (length w.program.rules) w.names.words w.program.rules chunk_front (suc w.program.chunks) in
      let text = learned_name chunk_front n in
      let named = with_joined_word text (with_number_total n w) in
      let name = word_in named.names.words text in
      joined_is l (record production { name = name }) o.taken (identifiers_of o.taken) (λ number tags. learns number name l.explained.number tags) _ (record { letters_are = h.letters_are; goals_are = h.goals_are })

  justification_is : (l : ExplainedFiring) (production : ProductionOf) (o : Ordered) (why : Cause) (w : Wave) → Is w → Is (with_justification m l production o why w)
  justification_is l production o why w h =
      let n = free_number (length w.program.rules) w.names.words w.program.rules justification_front (suc w.program.justifications) in
      let text = learned_name justification_front n in
      let named = with_joined_word text (with_number_total n w) in
      let name = word_in named.names.words text in
      joined_is l (record production { name = name }) (all_grounds o) [] (λ number tags. justifies number name l.explained.number tags why) _ (record { letters_are = h.letters_are; goals_are = h.goals_are })

  outcome_is : (l : ExplainedFiring) (w : Wave) (o : Outcome) → Is w → Is (by_outcome m l w o)
  outcome_is l w (lost tag) h = without_is l (has_lost l.explained.number tag) w h
  outcome_is l w (blocked b) h = without_is l (is_blocked l.explained.number b.negation b.tag) w h
  outcome_is l w groundless h = without_is l (has_no_grounds l.explained.number) w h
  outcome_is l w (reused name) h = without_is l (reuses name l.explained.number) w h
  outcome_is l w (justified why) h =
      justification_is l (named_form w.names.words (literal_form w.names.words l.chain l.explained.depth)) (ordered_grounds w.names.words l.chain.grounds) why w h
  outcome_is l w chunked h = chunk_is l (named_form w.names.words (general_form w.names.words l.chain l.explained.depth)) (ordered_grounds w.names.words l.chain.grounds) w h

  taught_is : (l : ExplainedFiring) (w : Wave) → Is w → Is (after_explanation m l w)
  taught_is l w h =
      let read = with_names (names_joining w.names.words l.chain l.explained.depth) w in
      outcome_is l read (outcome_of read.names.words l.chain l.explained.depth read.program.rules m.elements (as_learning m.settings read.learned)) (words_are (names_joining w.names.words l.chain l.explained.depth) w h)

  each_is : (left : List ℕ) (v : Wave) → Is v → Is (learned_from_each m left v)
  each_is [] v h = h
  each_is (n ∷ left) v h = go (filter (λ x. x.firing.number == n) (all_fresh v.entries)) (λ u k. each_is left u k)
    where
      one : (x : Fresh) (b : Bool) → Is (cond b (after_explanation m (explained_on m x.firing (results_of v.names.words m.reach m.rows x.firing)) v) v)
      one x true = taught_is (explained_on m x.firing (results_of v.names.words m.reach m.rows x.firing)) v h
      one x false = h

      go : (found : List Fresh) → ((u : Wave) → Is u → Is (learned_from_each m left u)) → Is (learned_from_each m left (elim found as (λ y. Wave) [ [] ↦ v | x ∷ others ↦ learned_from m x.firing v ]))
      go [] later = later v h
      go (x ∷ others) later = later (learned_from m x.firing v) (one x (nat_lt 1 x.firing.depth && list_any (is_result m.reach x.firing.depth) x.firing.made))

  rounds_are : (n : ℕ) (v : Wave) → Is v → Is (repeated n (one_round m) v)
  rounds_are zero v h = h
  rounds_are (suc n) v h = rounds_are n (one_round m v) (each_is v.next (record v { next = [] }) (record { letters_are = h.letters_are; goals_are = h.goals_are }))

pub learning_keeps_goals : LearningKeepsGoals
unfolding with_learning
learning_keeps_goals m letters w h = rounds_are m letters (length m.reach.goals) w h

pub doing_without_keeps_goals : DoingWithoutKeepsGoals
unfolding without_learning
doing_without_keeps_goals m letters w h = record { letters_are = h.letters_are; goals_are = by_instance_all m.reach.goals m w.entries h.goals_are }
