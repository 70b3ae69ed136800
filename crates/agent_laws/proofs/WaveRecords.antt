-- The firings of a wave join the record.
use Rattle.std.proofs.Common.{◌≡◌, refl, sym, ◌∙◌, ap, subst, ℕ, ◌≤◌, ◌<◌, true, inl, inr, arith, List, [], ◌∷◌, ◌++◌, map, flat_map, filter, append_assoc}
use Rattle.std.proofs.lemmas.List.{append-nil}
use Rattle.std.specs.Prelude.{not}
use Rattle.std.specs.List.{list_all}
use Rattle.defs_soar.specs.declared.preference.Preference.{Preference}
use Rattle.defs_soar.specs.Agents.{Agent, LiveFiring}
use Rattle.defs_soar.specs.Explanation.{explaining, maker_named}
use Rattle.defs_soar.specs.History.{FiringOf, RecordedFiring}
use Rattle.defs_soar.specs.Laws.{IsIn}
use Rattle.defs_soar.specs.Pending.{pending}
use Rattle.defs_soar.specs.Preferences.{rows_after, with_rows, without_firings}
use Rattle.defs_soar.specs.Resettling.{resettled}
use Rattle.defs_soar.specs.Standing.{AreFrom, firings_of_history, is_recorded, IsRecordOf, roots_of}
use Rattle.defs_soar.specs.Trimming.{numbers_of, Remains, trimmed}
use Rattle.defs_soar.specs.WaveAtHand.{all_fresh, Fresh, Wave}
use Rattle.defs_soar.specs.WaveFirings.{first_wave, before_wave, with_firings}
use Rattle.defs_soar.specs.Waves.{after_work, is_retracted, live_of, recorded_firing, rows_added, rows_of_fresh, wave_of, worked}
use Rattle.learning_laws.specs.LawfulAgents.{IsLawfulAgent}
use Rattle.learning_laws.specs.LawfulWaves.{fresh_firings, IsLawfulWave}
use Rattle.learning_laws.proofs.FiringsLaws.{all_firings_keep}
use Rattle.learning_laws.proofs.FoundedLaws.{lawful_agents_are_settled}
use Rattle.learning_laws.proofs.Lists.{filter_within, in_append, in_flat_map, in_left, in_map, in_mapped, in_right}
use Rattle.learning_laws.proofs.WorkLaws.{fresh_row, from_rows, map_both, pasts_are}
use Rattle.agent_laws.specs.Records.{AreApart, AreRisingFrom, IsPartOf}
use Rattle.agent_laws.specs.RecordSteps.{IsInOrder, IsJoined, WavesJoinRecord}
use Rattle.agent_laws.proofs.MakerLaws.{makers_are_roots}
use Rattle.agent_laws.proofs.OrderLaws.{wave_in_order}
use Rattle.agent_laws.proofs.PartLaws.{fewer_roots_need_less, firings_join}
use Rattle.agent_laws.proofs.ReachLaws.{explaining_has_roots, numbers_of_makers}
use Rattle.agent_laws.proofs.RootLaws.{among_roots, each_root, root_of_goal, root_of_live, root_of_row, roots_held, selected_maker, trimmed_among}

abbrev numbers : List FiringOf → List ℕ
numbers fs = map (λ (f : FiringOf). f.number) fs

-- firings whose numbers rise join one by one
all_join : (least : ℕ) (new kept firings : List FiringOf) (roots : List ℕ) → IsPartOf kept firings roots → ((g : FiringOf) → IsIn g firings → g.number ≤ least) → AreRisingFrom least new
    → ((f : FiringOf) → IsIn f new → (n : ℕ) → IsIn n (numbers_of_makers f) → IsIn n roots) → IsPartOf (kept ++ new) (firings ++ new) (numbers new ++ roots)
all_join least [] kept firings roots h low r made = subst (λ ks. IsPartOf ks (firings ++ []) roots) (sym (append-nil kept)) (subst (λ fs. IsPartOf kept fs roots) (sym (append-nil firings)) h)
all_join least (f ∷ new) kept firings roots h low r made =
    let one = firings_join kept firings roots f h (λ g i. let few : g.number ≤ least = low g i in let more : least < f.number = r.0 in omega arith) (λ n i. explaining_has_roots firings roots n (made f (inl refl) n i)) in
    let rest = all_join f.number new (kept ++ f ∷ []) (firings ++ f ∷ []) (f.number ∷ roots) one
    (λ g i. elim (in_append g firings (f ∷ []) i) [
      | inl j ↦ let few : g.number ≤ least = low g j in let more : least < f.number = r.0 in omega arith
      | inr j ↦ elim j [ inl e ↦ let q : f.number ≡ g.number = ap (λ (x : FiringOf). x.number) e in omega arith | inr z ↦ absurd z ]
    ]) r.1 (λ g i n j. inr (made g (inr i) n j)) in
    fewer_roots_need_less (kept ++ f ∷ new) (firings ++ f ∷ new) (numbers new ++ (f.number ∷ roots)) (f.number ∷ (numbers new ++ roots)) (λ n i. moved n i)
    (subst (λ ks. IsPartOf ks (firings ++ f ∷ new) (numbers new ++ (f.number ∷ roots))) (append_assoc kept (f ∷ []) new)
    (subst (λ fs. IsPartOf ((kept ++ f ∷ []) ++ new) fs (numbers new ++ (f.number ∷ roots))) (append_assoc firings (f ∷ []) new) rest))
  where
    moved : (n : ℕ) → IsIn n (f.number ∷ (numbers new ++ roots)) → IsIn n (numbers new ++ (f.number ∷ roots))
    moved n (inl e) = in_right n (numbers new) (f.number ∷ roots) (inl e)
    moved n (inr i) = elim (in_append n (numbers new) roots i) [ inl j ↦ in_left n (numbers new) (f.number ∷ roots) j | inr j ↦ in_right n (numbers new) (f.number ∷ roots) (inr j) ]

module _ (a : Agent) (gone : List LiveFiring) (w : Wave) (h : IsLawfulAgent a) (k : IsLawfulWave a w) (order : IsInOrder a.counts.firings w) (kept : List FiringOf) (apart : AreApart kept) (is : IsRecordOf kept a) where
  -- what the wave's firings used was made by roots
  made : (f : FiringOf) → IsIn f (fresh_firings w) → (n : ℕ) → IsIn n (numbers_of_makers f) → IsIn n (roots_of a)
  made f i n j =
      let x = in_map (λ (x : Fresh). x.firing) f (all_fresh w.entries) i in
      let uses = k.explains x.0 x.1 in
      let u = in_flat_map maker_named n f.used j in
      makers_are_roots (before_wave a) _ x.0.firing.depth (lawful_agents_are_settled a h) (λ m. IsIn m (roots_of a)) (λ row r. root_of_row a.holding.live a.holding.rows a.holding.goals row r)
      (λ g s r q. root_of_goal a.holding.live a.holding.rows a.holding.goals g r s.maker (selected_maker g s q))
      uses.0 uses.1 u.0 (subst (IsIn u.0) (ap (λ (y : FiringOf). y.used) (sym x.2) ∙ uses.2) u.1) n u.2

  all_joined : IsPartOf (kept ++ fresh_firings w) (firings_of_history a ++ fresh_firings w) (numbers (fresh_firings w) ++ roots_of a)
  all_joined =
      all_join a.counts.firings (fresh_firings w) kept (firings_of_history a) (roots_of a) (record { apart = apart; from_history = is.from_history; reaches_all = is.reaches_all })
      (λ g i. h.founded.history.last_is g i) order.rising made

  abbrev new : List Preference
  new = flat_map rows_of_fresh (all_fresh w.entries)

  abbrev held : Remains
  held = record {
    goals = a.holding.goals;
    rows = rows_after a.holding.rows (numbers_of gone) new;
    inputs = a.holding.inputs;
    live = filter (λ l. not (is_retracted gone l)) a.holding.live ++ map live_of (all_fresh w.entries);
    removed = [];
  }

  of_fresh : (x : Fresh) (n : ℕ) → IsIn x (all_fresh w.entries) → x.firing.number ≡ n → IsIn n (numbers (fresh_firings w) ++ roots_of a)
  of_fresh x n i q =
      subst (λ m. IsIn m (numbers (fresh_firings w) ++ roots_of a)) q
      (in_left x.firing.number (numbers (fresh_firings w)) (roots_of a) (in_mapped (λ (f : FiringOf). f.number) x.firing (fresh_firings w) (in_mapped (λ (y : Fresh). y.firing) x (all_fresh w.entries) i)))

  -- the roots after the wave are those before it and the wave's firings
  rooted : (n : ℕ) → IsIn n (roots_held held.live held.rows held.goals) → IsIn n (numbers (fresh_firings w) ++ roots_of a)
  rooted =
      each_root (λ n. IsIn n (numbers (fresh_firings w) ++ roots_of a)) held.live held.rows held.goals
      (λ l i. elim (in_append l (filter (λ l. not (is_retracted gone l)) a.holding.live) (map live_of (all_fresh w.entries)) i) [
        | inl j ↦ old l.number (root_of_live a.holding.live a.holding.rows a.holding.goals l (filter_within _ a.holding.live l j).0)
        | inr j ↦ let x = in_map live_of l (all_fresh w.entries) j in of_fresh x.0 l.number x.1 (ap (λ (y : LiveFiring). y.number) x.2)
      ])
      (λ row i. elim (from_rows (without_firings a.holding.rows (numbers_of gone)) new row (filter_within _ (with_rows (without_firings a.holding.rows (numbers_of gone)) new) row i).0) [
        | inl j ↦ old row.firing (root_of_row a.holding.live a.holding.rows a.holding.goals row (filter_within _ a.holding.rows row j).0)
        | inr j ↦ let x = fresh_row w row j in of_fresh x.fresh row.firing x.there x.number
      ])
      (λ g i n j. old n (root_of_goal a.holding.live a.holding.rows a.holding.goals g i n j))
    where
      old : (n : ℕ) → IsIn n (roots_of a) → IsIn n (numbers (fresh_firings w) ++ roots_of a)
      old n i = in_right n (numbers (fresh_firings w)) (roots_of a) i

  recorded : firings_of_history (after_work a gone w).agent ≡ firings_of_history a ++ fresh_firings w
  recorded =
      map_both (λ (p : RecordedFiring). p.firing) a.history (map (recorded_firing (before_wave a) (rows_added (without_firings a.holding.rows (numbers_of gone)) new)) (all_fresh w.entries))
      ∙ ap (λ l. firings_of_history a ++ l) (pasts_are (before_wave a) (rows_added (without_firings a.holding.rows (numbers_of gone)) new) (all_fresh w.entries))

  roots_within : (n : ℕ) → IsIn n (roots_of (after_work a gone w).agent) → IsIn n (numbers (fresh_firings w) ++ roots_of a)
  unfolding resettled
  roots_within n i = rooted n (among_roots (trimmed a.history a.holding.elements held) held (trimmed_among a.history a.holding.elements held) n i)

  pub joined : IsJoined kept (fresh_firings w) (after_work a gone w).agent
  joined =
      let new_roots = fewer_roots_need_less (kept ++ fresh_firings w) (firings_of_history a ++ fresh_firings w) (numbers (fresh_firings w) ++ roots_of a) (numbers (fresh_firings w)) (λ n i. in_left n (numbers (fresh_firings w)) (roots_of a) i) all_joined in
      let all_roots = fewer_roots_need_less (kept ++ fresh_firings w) (firings_of_history a ++ fresh_firings w) (numbers (fresh_firings w) ++ roots_of a) (roots_of (after_work a gone w).agent) roots_within all_joined in
      record {
        has_new = subst (λ fs. IsPartOf (kept ++ fresh_firings w) fs (numbers (fresh_firings w))) (sym recorded) new_roots;
        is_record = record {
          from_history = subst (λ fs. AreFrom fs (kept ++ fresh_firings w)) (sym recorded) all_roots.from_history;
          reaches_all = subst (λ fs. list_all (is_recorded (kept ++ fresh_firings w)) (explaining fs (roots_of (after_work a gone w).agent)) ≡ true) (sym recorded) all_roots.reaches_all;
        };
      }

pub waves_join_record : WavesJoinRecord
unfolding wave_of
waves_join_record end keeps orders kept a proposing h apart is =
    let fired = with_firings (before_wave a) (first_wave a) (pending proposing a).fired in
    joined a (pending proposing a).retracted (worked end a (pending proposing a)) h (keeps a fired h (all_firings_keep a proposing h))
    (orders (before_wave a) a.counts.firings fired (wave_in_order a (pending proposing a).fired)) kept apart is
