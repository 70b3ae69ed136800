-- Learning reads the history by chains alone, so that a part that has them is enough.
use Rattle.std.proofs.Common.{◌≡◌, refl, sym, ◌∙◌, ap, subst, ℕ, zero, suc, ◌<◌, ◌≤◌, nat_lt, Bool, true, false, ◌==◌, ◌&&◌, cond, inl, inr, ◌⊎◌, arith, List, [], ◌∷◌, ◌++◌, map, flat_map, filter, length}
use Rattle.std.specs.List.{list_any}
use Rattle.soar_sym.specs.Words.{Texts}
use Rattle.soar_rule.specs.Repeat.{repeated}
use Rattle.defs_soar.specs.declared.preference.PrefKind.TheVariants as kind
use Rattle.defs_soar.specs.declared.preference.Preference.{Preference}
use Rattle.defs_soar.specs.Agents.{Agent}
use Rattle.defs_soar.specs.Explanation.{chain_of, maker_named}
use Rattle.defs_soar.specs.History.{ChainOf, FiringOf, Reach}
use Rattle.defs_soar.specs.Laws.{IsIn}
use Rattle.defs_soar.specs.LearnedFirings.{ExplainedFiring}
use Rattle.defs_soar.specs.LearnedRules.{after_explanation}
use Rattle.defs_soar.specs.Learning.{explained_on, learned_from, learned_from_each, one_round, with_learning}
use Rattle.defs_soar.specs.Results.{accepted_for, closure_of, goes_over, hanging_on, is_result, result_row, results_of, rows_seen}
use Rattle.defs_soar.specs.Sorted.{has_symbol}
use Rattle.defs_soar.specs.Standing.{roots_of}
use Rattle.defs_soar.specs.Values.{is_kind}
use Rattle.defs_soar.specs.WaveAtHand.{all_fresh, BeforeWave, Fresh, Wave}
use Rattle.defs_soar.specs.WaveFirings.{before_wave, reach_of}
use Rattle.learning_laws.specs.LawfulAgents.{firings_of_agent, IsLawfulAgent}
use Rattle.learning_laws.specs.LawfulWaves.{explained_in, IsLawfulWave}
use Rattle.learning_laws.proofs.ChunkJoins.{learning_steps_keep}
use Rattle.learning_laws.proofs.ExplainedLaws.{from_each_triple}
use Rattle.learning_laws.proofs.FoundedLaws.{lawful_agents_are_settled}
use Rattle.learning_laws.proofs.Lists.{filter_within, in_append, in_flat_map, in_map}
use Rattle.agent_laws.specs.Records.{IsPartOf}
use Rattle.agent_laws.proofs.MakerLaws.{makers_are_roots}
use Rattle.agent_laws.proofs.PartLaws.{fewer_roots_need_less, firings_join}
use Rattle.agent_laws.proofs.ReachLaws.{explaining_has_roots}
use Rattle.agent_laws.proofs.RecordLaws.{chains_by_record}
use Rattle.agent_laws.proofs.RootLaws.{root_of_goal, root_of_row, selected_maker}
use Rattle.record_laws.specs.Reading.{AreUpTo, LearningByRecord}

-- ---- the roots of an explanation

-- the maker of a result is that of a row that was there, or the firing itself
maker_of_result : (words : Texts) (before : Reach) (rows : List Preference) (f : FiringOf) (row : Preference) → IsIn row (results_of words before rows f) → IsIn row rows ⊎ (f.number ≡ row.firing)
unfolding results_of
maker_of_result words before rows f row i =
    elim (in_append row (map (result_row f) (filter (is_result before f.depth) f.made)) (closure_of words before rows f) i) [
      | inl j ↦ let own = in_map (result_row f) row (filter (is_result before f.depth) f.made) j in inr (ap (λ (x : Preference). x.firing) own.2)
      | inr j ↦
          let seen = rows_seen rows f in
          let ids = hanging_on before f seen (filter (is_result before f.depth) f.made) in
          let among = (filter_within (λ (r : Preference). is_kind r.wish.kind kind.Accept && has_symbol ids r.wish.id) seen row (from_each_triple words (accepted_for seen ids) row j)).0 in
          elim (in_append row rows (map (result_row f) f.made) among) [
            | inl k ↦ inl k
            | inr k ↦ let own = in_map (result_row f) row f.made k in inr (ap (λ (x : Preference). x.firing) own.2)
          ]
    ]

module _ (a : Agent) (others : List FiringOf) (h : IsLawfulAgent a) (part : IsPartOf (firings_of_agent a) others (roots_of a)) (few : AreUpTo a.counts.firings others) where
  abbrev here : BeforeWave
  here = before_wave a

  abbrev there : BeforeWave
  there = record (before_wave a) { firings = others }

  module _ (w : Wave) (x : Fresh) (k : IsLawfulWave a w) (i : IsIn x (all_fresh w.entries)) where
    -- what it used was made by roots
    made : (n : ℕ) → IsIn n (flat_map maker_named x.firing.used) → IsIn n (roots_of a)
    made n j =
        let uses = k.explains x i in
        let u = in_flat_map maker_named n x.firing.used j in
        makers_are_roots here (suc a.counts.firings) x.firing.depth (lawful_agents_are_settled a h) (λ m. IsIn m (roots_of a)) (λ row r. root_of_row a.holding.live a.holding.rows a.holding.goals row r)
        (λ g s r q. root_of_goal a.holding.live a.holding.rows a.holding.goals g r s.maker (selected_maker g s q)) uses.0 uses.1 u.0 (subst (IsIn u.0) uses.2 u.1) n u.2

    -- so it joins both
    joins : IsPartOf (firings_of_agent a ++ x.firing ∷ []) (others ++ x.firing ∷ []) (x.firing.number ∷ roots_of a)
    joins =
        firings_join (firings_of_agent a) others (roots_of a) x.firing part
        (λ g j. let low : g.number ≤ a.counts.firings = few g j in let high : a.counts.firings < x.firing.number = k.later x i in omega arith)
        (λ n j. explaining_has_roots others (roots_of a) n (made n j))

    abbrev results : List Preference
    results = results_of w.names.words (reach_of a) a.holding.rows x.firing

    abbrev makers : List ℕ
    makers = x.firing.number ∷ map (λ (row : Preference). row.firing) results

    rooted : (n : ℕ) → IsIn n makers → IsIn n (x.firing.number ∷ roots_of a)
    rooted n (inl e) = inl e
    rooted n (inr j) =
        let row = in_map (λ (row : Preference). row.firing) n results j in
        elim (maker_of_result w.names.words (reach_of a) a.holding.rows x.firing row.0 row.1) [
          | inl r ↦ inr (subst (λ m. IsIn m (roots_of a)) row.2 (root_of_row a.holding.live a.holding.rows a.holding.goals row.0 r))
          | inr e ↦ inl (e ∙ row.2)
        ]

    same_chain : chain_of (others ++ x.firing ∷ []) makers (map (λ (row : Preference). row.wish) results) ≡ chain_of (firings_of_agent a ++ x.firing ∷ []) makers (map (λ (row : Preference). row.wish) results)
    same_chain =
        sym (chains_by_record (firings_of_agent a ++ x.firing ∷ []) (others ++ x.firing ∷ []) makers (map (λ (row : Preference). row.wish) results)
        (fewer_roots_need_less (firings_of_agent a ++ x.firing ∷ []) (others ++ x.firing ∷ []) (x.firing.number ∷ roots_of a) makers rooted joins))

    abbrev explained_by : ChainOf → ExplainedFiring
    explained_by chain = record { explained = x.firing; takes_over = goes_over (reach_of a) a.holding.rows x.firing; chain = chain }

    same_step : after_explanation there (explained_on there x.firing results) w ≡ after_explanation here (explained_in a w x.firing) w
    same_step = ap (λ chain. after_explanation here (explained_by chain) w) same_chain

  -- ---- learning

  begun : (v : Wave) → IsLawfulWave a v → IsLawfulWave a (record v { next = [] })
  begun v l = record { founded = l.founded; wishes = l.wishes; counted = l.counted; later = l.later; explains = l.explains; can = l.can }

  each_same : (numbers : List ℕ) (v : Wave) → IsLawfulWave a v → IsLawfulWave a (learned_from_each here numbers v) × (learned_from_each there numbers v ≡ learned_from_each here numbers v)
  each_same [] v k = (k, refl)
  each_same (n ∷ numbers) v k =
      go (filter (λ x. x.firing.number == n) (all_fresh v.entries)) (λ x i. (filter_within (λ x. x.firing.number == n) (all_fresh v.entries) x i).0) (λ u l. each_same numbers u l)
    where
      one : (x : Fresh) → IsIn x (all_fresh v.entries) → (b : Bool)
          → IsLawfulWave a (cond b (after_explanation here (explained_in a v x.firing) v) v)
          × (cond b (after_explanation there (explained_on there x.firing (results_of v.names.words (reach_of a) a.holding.rows x.firing)) v) v ≡ cond b (after_explanation here (explained_in a v x.firing) v) v)
      one x i true = (learning_steps_keep a v x h k i, same_step v x k i)
      one x i false = (k, refl)

      go : (found : List Fresh) → ((x : Fresh) → IsIn x found → IsIn x (all_fresh v.entries))
          → ((u : Wave) → IsLawfulWave a u → IsLawfulWave a (learned_from_each here numbers u) × (learned_from_each there numbers u ≡ learned_from_each here numbers u))
          → IsLawfulWave a (learned_from_each here numbers (elim found as (λ y. Wave) [ [] ↦ v | x ∷ others ↦ learned_from here x.firing v ]))
          × (learned_from_each there numbers (elim found as (λ y. Wave) [ [] ↦ v | x ∷ others ↦ learned_from there x.firing v ])
          ≡ learned_from_each here numbers (elim found as (λ y. Wave) [ [] ↦ v | x ∷ others ↦ learned_from here x.firing v ]))
      go [] within later = later v k
      go (x ∷ others) within later =
          let s = one x (within x (inl refl)) (nat_lt 1 x.firing.depth && list_any (is_result (reach_of a) x.firing.depth) x.firing.made) in
          let t = later (learned_from here x.firing v) s.0 in (t.0, ap (learned_from_each there numbers) s.1 ∙ t.1)

  rounds_same : (count : ℕ) (v : Wave) → IsLawfulWave a v → repeated count (one_round there) v ≡ repeated count (one_round here) v
  rounds_same zero v k = refl
  rounds_same (suc count) v k =
      let e = each_same v.next (record v { next = [] }) (begun v k) in ap (repeated count (one_round there)) e.1 ∙ rounds_same count (one_round here v) e.0

pub learning_by_record : LearningByRecord
unfolding with_learning
learning_by_record a w others h k part few = rounds_same a others h part few (length a.holding.goals) w k
