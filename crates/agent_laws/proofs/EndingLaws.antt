-- Learning ends.
use Rattle.std.proofs.Common.{◌≡◌, refl, sym, ◌∙◌, ap, subst, ℕ, zero, suc, ◌+◌, ◌≤◌, ◌<◌, nat_lt, Bool, true, false, ◌==◌, ◌&&◌, cond, inl, inr, ◌⊎◌, arith, List, [], ◌∷◌, map, filter, length}
use Rattle.std.specs.List.{list_any}
use Rattle.soar_sym.specs.Equality.{symbol_eq}
use Rattle.soar_sym.specs.declared.symbol.Sym.{Sym}
use Rattle.soar_wm.specs.declared.element.Element.{Element}
use Rattle.soar_rule.specs.Repeat.{repeated}
use Rattle.defs_soar.specs.declared.goal.Goal.{Goal}
use Rattle.defs_soar.specs.Goals.{goal_ids}
use Rattle.defs_soar.specs.History.{FiringOf}
use Rattle.defs_soar.specs.Laws.{IsIn}
use Rattle.defs_soar.specs.Learning.{learned_from, learned_from_each, explained_on, one_round, with_learning}
use Rattle.defs_soar.specs.Pending.{Firable, is_of_operator_kind}
use Rattle.defs_soar.specs.Results.{is_result, results_of}
use Rattle.defs_soar.specs.Support.{depth_from}
use Rattle.defs_soar.specs.LearnedRules.{after_explanation}
use Rattle.defs_soar.specs.WaveAtHand.{all_fresh, Fresh, BeforeWave, Wave}
use Rattle.defs_soar.specs.WaveFirings.{first_wave, firing_of_work, fresh_firing, made_in, before_wave, with_firing, with_firings}
use Rattle.learning_laws.specs.LawfulAgents.{GoalsAreNamed}
use Rattle.learning_laws.specs.LawfulWaves.{fresh_firings}
use Rattle.learning_laws.proofs.JoinLaws.{fresh_more}
use Rattle.learning_laws.proofs.Lists.{filter_within, in_append, in_mapped, same_number}
use Rattle.learning_laws.proofs.WorkLaws.{map_both}
use Rattle.agent_laws.specs.Ending.{FiringsGoOnWithin, GoesOnWithin, LearningEnds, RoundsRise, WavesLearnAll}
use Rattle.agent_laws.proofs.TaughtLaws.{is_taught, IsTaught, joins, keeps}

-- ---- a round

-- the numbers of a round that are left, where its firings are up to a depth, and those that it found are of higher goals
record IsRound (depth : ℕ) (left : List ℕ) (v : Wave) : Type 0 where
  goes : GoesOnWithin depth v
  known : (n : ℕ) → IsIn n left → n ≤ v.last_firing
  depths : (f : FiringOf) → IsIn f (fresh_firings v) → IsIn f.number left → f.depth ≤ suc depth

one_done : (depth n : ℕ) (left : List ℕ) (v : Wave) → IsRound depth (n ∷ left) v → IsRound depth left v
one_done depth n left v h = record { goes = h.goes; known = λ k i. h.known k (inr i); depths = λ f i j. h.depths f i (inr j) }

-- a learning step about one of them
lesson_done : (depth : ℕ) (left : List ℕ) (below : ℕ) (w v : Wave) → IsRound depth left w → below ≤ suc depth → IsTaught below w.next (fresh_firings w) w.last_firing v → IsRound depth left v
lesson_done depth left below w v h few (keeps next firings last) = record {
  goes = record {
    numbers = λ f i. subst (λ x. f.number ≤ x) (sym last) (h.goes.numbers f (subst (IsIn f) firings i));
    next = λ n i. subst (λ x. n ≤ x) (sym last) (h.goes.next n (subst (IsIn n) next i));
    depths = λ f i j. h.goes.depths f (subst (IsIn f) firings i) (subst (IsIn f.number) next j);
  };
  known = λ n i. subst (λ x. n ≤ x) (sym last) (h.known n i);
  depths = λ f i j. h.depths f (subst (IsIn f) firings i) j;
}
lesson_done depth left below w v h few (joins g firings number last next) = record {
  goes = record { numbers = numbers; next = next_low; depths = depths };
  known = λ n i. let low : n ≤ w.last_firing = h.known n i in omega arith;
  depths = λ f i j. elim (is_new f i) [
    | inl k ↦ h.depths f k j
    | inr e ↦ let low : f.number ≤ w.last_firing = h.known f.number j in let q : g.number ≡ f.number = ap (λ (x : FiringOf). x.number) e in absurd (omega arith)
  ];
}
  where
    is_new : (f : FiringOf) → IsIn f (fresh_firings v) → IsIn f (fresh_firings w) ⊎ (g ≡ f)
    is_new f i = elim (in_append f (fresh_firings w) (g ∷ []) (subst (IsIn f) firings i)) [ inl k ↦ inl k | inr k ↦ elim k [ inl e ↦ inr e | inr z ↦ absurd z ] ]

    is_next : (n : ℕ) (b : Bool) → nat_lt g.depth below ≡ b → IsIn n (cond b (g.number ∷ []) []) → (g.number ≡ n) × (g.depth < below)
    is_next n true q (inl e) = (e, grind arith)
    is_next n true q (inr z) = absurd z
    is_next n false q z = absurd z

    goes_on : (n : ℕ) → IsIn n v.next → IsIn n w.next ⊎ ((g.number ≡ n) × (g.depth < below))
    goes_on n i = elim (in_append n w.next (cond (nat_lt g.depth below) (g.number ∷ []) []) (subst (IsIn n) next i)) [ inl k ↦ inl k | inr k ↦ inr (is_next n (nat_lt g.depth below) refl k) ]

    numbers : (f : FiringOf) → IsIn f (fresh_firings v) → f.number ≤ v.last_firing
    numbers f i = elim (is_new f i) [
      | inl k ↦ let low : f.number ≤ w.last_firing = h.goes.numbers f k in omega arith
      | inr e ↦ let q : g.number ≡ f.number = ap (λ (x : FiringOf). x.number) e in omega arith
    ]

    next_low : (n : ℕ) → IsIn n v.next → n ≤ v.last_firing
    next_low n i = elim (goes_on n i) [ inl k ↦ (let low : n ≤ w.last_firing = h.goes.next n k in omega arith) | inr k ↦ (let q : g.number ≡ n = k.0 in omega arith) ]

    depths : (f : FiringOf) → IsIn f (fresh_firings v) → IsIn f.number v.next → f.depth ≤ depth
    depths f i j = both (is_new f i) (goes_on f.number j)
      where
        both : IsIn f (fresh_firings w) ⊎ (g ≡ f) → IsIn f.number w.next ⊎ ((g.number ≡ f.number) × (g.depth < below)) → f.depth ≤ depth
        both (inl k) (inl l) = h.goes.depths f k l
        both (inl k) (inr l) = let low : f.number ≤ w.last_firing = h.goes.numbers f k in let q : g.number ≡ f.number = l.0 in absurd (omega arith)
        both (inr e) (inl l) = let low : f.number ≤ w.last_firing = h.goes.next f.number l in let q : g.number ≡ f.number = ap (λ (x : FiringOf). x.number) e in absurd (omega arith)
        both (inr e) (inr l) = let less : g.depth < below = l.1 in let q : g.depth ≡ f.depth = ap (λ (x : FiringOf). x.depth) e in omega arith

each_done : (m : BeforeWave) (depth : ℕ) (left : List ℕ) (v : Wave) → IsRound depth left v → IsRound depth [] (learned_from_each m left v)
each_done m depth [] v h = h
each_done m depth (n ∷ left) v h =
    go (filter (λ x. x.firing.number == n) (all_fresh v.entries)) (λ x i. filter_within (λ x. x.firing.number == n) (all_fresh v.entries) x i) (λ u k. each_done m depth left u (one_done depth n left u k))
  where
    one : (x : Fresh) → IsIn x (all_fresh v.entries) → x.firing.number ≡ n → (b : Bool) → IsRound depth (n ∷ left) (cond b (after_explanation m (explained_on m x.firing (results_of v.names.words m.reach m.rows x.firing)) v) v)
    one x i e true =
        lesson_done depth (n ∷ left) x.firing.depth v (after_explanation m (explained_on m x.firing (results_of v.names.words m.reach m.rows x.firing)) v) h
        (h.depths x.firing (in_mapped (λ (y : Fresh). y.firing) x (all_fresh v.entries) i) (inl (sym e))) (is_taught m (explained_on m x.firing (results_of v.names.words m.reach m.rows x.firing)) v)
    one x i e false = h

    go : (found : List Fresh) → ((x : Fresh) → IsIn x found → IsIn x (all_fresh v.entries) × ((x.firing.number == n) ≡ true)) → ((u : Wave) → IsRound depth (n ∷ left) u → IsRound depth [] (learned_from_each m left u))
        → IsRound depth [] (learned_from_each m left (elim found as (λ y. Wave) [ [] ↦ v | x ∷ others ↦ learned_from m x.firing v ]))
    go [] within later = later v h
    go (x ∷ others) within later =
        let k = within x (inl refl) in
        later (learned_from m x.firing v) (one x k.0 (same_number x.firing.number n k.1) (nat_lt 1 x.firing.depth && list_any (is_result m.reach x.firing.depth) x.firing.made))

pub rounds_rise : RoundsRise
rounds_rise m depth w h = (each_done m depth w.next (record w { next = [] }) (record {
  goes = record { numbers = h.numbers; next = λ n i. absurd i; depths = λ f i j. absurd j };
  known = h.next;
  depths = h.depths;
})).goes

-- ---- the last round

none_learned : (m : BeforeWave) (left : List ℕ) (v : Wave) → ((f : FiringOf) → IsIn f (fresh_firings v) → IsIn f.number left → f.depth ≤ 1) → learned_from_each m left v ≡ v
none_learned m [] v h = refl
none_learned m (n ∷ left) v h =
    go (filter (λ x. x.firing.number == n) (all_fresh v.entries)) (λ x i. filter_within (λ x. x.firing.number == n) (all_fresh v.entries) x i) (none_learned m left v (λ f i j. h f i (inr j)))
  where
    not_deep : (x : Fresh) → x.firing.depth ≤ 1 → (b : Bool) → nat_lt 1 x.firing.depth ≡ b
        → cond (b && list_any (is_result m.reach x.firing.depth) x.firing.made) (after_explanation m (explained_on m x.firing (results_of v.names.words m.reach m.rows x.firing)) v) v ≡ v
    not_deep x l true q = absurd (let more : 1 < x.firing.depth = grind arith in omega arith)
    not_deep x l false q = refl

    go : (found : List Fresh) → ((x : Fresh) → IsIn x found → IsIn x (all_fresh v.entries) × ((x.firing.number == n) ≡ true)) → learned_from_each m left v ≡ v
        → learned_from_each m left (elim found as (λ y. Wave) [ [] ↦ v | x ∷ others ↦ learned_from m x.firing v ]) ≡ v
    go [] within later = later
    go (x ∷ others) within later =
        let k = within x (inl refl) in
        let few = h x.firing (in_mapped (λ (y : Fresh). y.firing) x (all_fresh v.entries) k.0) (inl (sym (same_number x.firing.number n k.1))) in
        ap (learned_from_each m left) (not_deep x few (nat_lt 1 x.firing.depth) refl) ∙ later

rounds_end : (m : BeforeWave) (depth : ℕ) (w : Wave) → GoesOnWithin (suc depth) w → (repeated (suc depth) (one_round m) w).next ≡ []
rounds_end m zero w h = ap (λ (v : Wave). v.next) (none_learned m w.next (record w { next = [] }) h.depths)
rounds_end m (suc depth) w h = rounds_end m depth (one_round m w) (rounds_rise m (suc depth) w h)

pub learning_ends : LearningEnds
unfolding with_learning
learning_ends m w some h = go (length m.reach.goals) some h
  where
    go : (n : ℕ) → 0 < n → GoesOnWithin n w → (repeated n (one_round m) w).next ≡ []
    go zero l k = absurd (omega arith)
    go (suc n) l k = rounds_end m n w k

-- ---- the firings of a wave

depth_low : (n : ℕ) (goals : List Sym) (elements : List Element) → depth_from (suc n) goals elements ≤ n + length goals
depth_low n [] elements = omega arith
depth_low n (goal ∷ goals) elements = go (depth_from (suc (suc n)) goals elements == 0) (list_any (λ e. symbol_eq e.id goal) elements) (depth_low (suc n) goals elements)
  where
    go : (a b : Bool) → depth_from (suc (suc n)) goals elements ≤ suc n + length goals → cond a (cond b (suc n) 0) (depth_from (suc (suc n)) goals elements) ≤ n + suc (length goals)
    go true true l = omega arith
    go true false l = omega arith
    go false b l = omega arith

as_many : (goals : List Goal) → length (goal_ids goals) ≡ length goals
as_many [] = refl
as_many (g ∷ goals) = ap suc (as_many goals)

module _ (m : BeforeWave) where
  firing_within : (w : Wave) (f : Firable) → GoesOnWithin (length m.reach.goals) w → GoesOnWithin (length m.reach.goals) (with_firing m w f)
  firing_within w f h = record {
    numbers = λ g i. elim (is_new g i) [
      | inl k ↦ let low : g.number ≤ w.last_firing = h.numbers g k in omega arith
      | inr e ↦ let q : suc w.last_firing ≡ g.number = ap (λ (x : FiringOf). x.number) e in omega arith
    ];
    next = λ n i. elim (in_append n w.next (suc w.last_firing ∷ []) i) [
      | inl k ↦ let low : n ≤ w.last_firing = h.next n k in omega arith
      | inr k ↦ elim k [ inl e ↦ omega arith | inr z ↦ absurd z ]
    ];
    depths = λ g i j. elim (is_new g i) [
      | inl k ↦ elim (in_append g.number w.next (suc w.last_firing ∷ []) j) [
        | inl l ↦ h.depths g k l
        | inr l ↦ elim l [ inl e ↦ let low : g.number ≤ w.last_firing = h.numbers g k in absurd (omega arith) | inr z ↦ absurd z ]
      ]
      | inr e ↦ subst (λ (x : FiringOf). x.depth ≤ length m.reach.goals) e depth_few
    ];
  }
    where
      depth_few : depth_from 1 (goal_ids m.reach.goals) f.elements ≤ length m.reach.goals
      depth_few =
          let low : depth_from 1 (goal_ids m.reach.goals) f.elements ≤ 0 + length (goal_ids m.reach.goals) = depth_low 0 (goal_ids m.reach.goals) f.elements in
          let same : length (goal_ids m.reach.goals) ≡ length m.reach.goals = as_many m.reach.goals in omega arith

      made : FiringOf
      made = firing_of_work m w f (made_in w m f)

      is_new : (g : FiringOf) → IsIn g (fresh_firings (with_firing m w f)) → IsIn g (fresh_firings w) ⊎ (made ≡ g)
      is_new g i =
          elim (in_append g (fresh_firings w) (made ∷ []) (subst (IsIn g) (
          ap (map (λ (x : Fresh). x.firing)) (fresh_more w.entries (fresh_firing m made (is_of_operator_kind m.reach.goals f) (made_in w m f)))
          ∙ map_both (λ (x : Fresh). x.firing) (all_fresh w.entries) (fresh_firing m made (is_of_operator_kind m.reach.goals f) (made_in w m f) ∷ [])
          ) i)) [ inl k ↦ inl k | inr k ↦ elim k [ inl e ↦ inr e | inr z ↦ absurd z ] ]

  firings_within : (w : Wave) (firables : List Firable) → GoesOnWithin (length m.reach.goals) w → GoesOnWithin (length m.reach.goals) (with_firings m w firables)
  unfolding with_firings
  firings_within w [] h = h
  firings_within w (f ∷ firables) h = firings_within (with_firing m w f) firables (firing_within w f h)

pub firings_go_on_within : FiringsGoOnWithin
firings_go_on_within a firables = firings_within (before_wave a) (first_wave a) firables (record { numbers = λ f i. absurd i; next = λ n i. absurd i; depths = λ f i j. absurd i })

pub waves_learn_all : WavesLearnAll
waves_learn_all a work h =
    learning_ends (before_wave a) (with_firings (before_wave a) (first_wave a) work.fired) (some a.holding.goals h.founded.elements.items) (firings_go_on_within a work.fired)
  where
    some : (goals : List Goal) → GoalsAreNamed h.founded.elements.ever goals → 0 < length goals
    some [] k = absurd k
    some (g ∷ goals) k = omega arith
