-- What settling and the removal of goals leave is among what there was, and so are the roots of explanations.
use Rattle.std.proofs.Common.{◌≡◌, refl, sym, subst, ℕ, zero, suc, true, inl, inr, List, [], ◌∷◌, ◌++◌, length, map, flat_map, Option, Some, None}
use Rattle.std.specs.Prelude.{take, drop}
use Rattle.std.specs.List.{list_all}
use Rattle.soar_rule.specs.Repeat.{Turn, ends, goes_on, turns}
use Rattle.soar_wm.specs.declared.element.Element.{Element}
use Rattle.defs_soar.specs.declared.goal.Goal.{Goal}
use Rattle.defs_soar.specs.declared.goal.Selection.{Selection}
use Rattle.defs_soar.specs.declared.preference.Preference.{Preference}
use Rattle.defs_soar.specs.Agents.{Agent, LiveFiring}
use Rattle.defs_soar.specs.Explanation.{explaining}
use Rattle.defs_soar.specs.History.{FiringOf, RecordedFiring}
use Rattle.defs_soar.specs.Laws.{IsIn}
use Rattle.defs_soar.specs.Resettling.{resettled}
use Rattle.defs_soar.specs.Settling.{kept_triples, settled}
use Rattle.defs_soar.specs.Standing.{AreFrom, firings_of_history, is_recorded, IsRecordOf, makers_of_goal}
use Rattle.defs_soar.specs.Trimming.{highest_broken, one_trim, supports_of, Remains, trimmed, trimmed_by, with_supports, without_broken}
use Rattle.learning_laws.proofs.SettlingLemmas.{settled_is_within}
use Rattle.learning_laws.proofs.Lists.{all_each, each_all, filter_within, in_append, in_flat_map, in_flat_mapped, in_left, in_map, in_mapped, in_right}
use Rattle.agent_laws.proofs.RecordLaws.{roots_reach_more}

-- ---- what is left

pub record IsAmong (t before : Remains) : Type 0 where
  pub goals : (g : Goal) → IsIn g t.goals → IsIn g before.goals
  pub rows : (row : Preference) → IsIn row t.rows → IsIn row before.rows
  pub live : (l : LiveFiring) → IsIn l t.live → IsIn l before.live

take_in : {A : Type 0} (n : ℕ) (xs : List A) (x : A) → IsIn x (take n xs) → IsIn x xs
take_in zero xs x i = absurd i
take_in (suc n) [] x i = absurd i
take_in (suc n) (y ∷ xs) x (inl e) = inl e
take_in (suc n) (y ∷ xs) x (inr i) = inr (take_in n xs x i)

module _ (history : List RecordedFiring) (elements : List Element) (before : Remains) where
  abbrev TurnAmong : Turn Remains → Type 0
  TurnAmong (ends t) = IsAmong t before
  TurnAmong (goes_on t) = IsAmong t before

  one_among : (t : Remains) → IsAmong t before → TurnAmong (one_trim history elements t)
  one_among t h = go (highest_broken history elements (kept_triples t.goals (settled t.goals (supports_of t))) 2 (drop 1 t.goals))
    where
      rows : (row : Preference) → IsIn row (settled t.goals (supports_of t)).rows → IsIn row before.rows
      rows row i = h.rows row ((settled_is_within t.goals (supports_of t)).rows row i)

      go : (o : Option ℕ) → TurnAmong (without_broken (with_supports t (settled t.goals (supports_of t))) o)
      go None = record { goals = h.goals; rows = rows; live = h.live }
      go (Some d) = record {
        goals = λ g i. h.goals g (take_in _ t.goals g i);
        rows = λ row i. rows row (filter_within _ (settled t.goals (supports_of t)).rows row i).0;
        live = λ l i. h.live l (filter_within _ t.live l i).0;
      }

  all_among : (n : ℕ) (t : Remains) → IsAmong t before → IsAmong (trimmed_by (turns n (one_trim history elements) t)) before
  all_among zero t h = h
  all_among (suc n) t h = go (one_trim history elements t) (one_among t h) (all_among n)
    where
      go : (u : Turn Remains) → TurnAmong u → ((t : Remains) → IsAmong t before → IsAmong (trimmed_by (turns n (one_trim history elements) t)) before)
          → IsAmong (trimmed_by (elim u [ ends b ↦ ends b | goes_on b ↦ turns n (one_trim history elements) b ])) before
      go (ends b) k later = k
      go (goes_on b) k later = later b k

  pub trimmed_among : IsAmong (trimmed history elements before) before
  unfolding trimmed
  trimmed_among = all_among (suc (length before.goals)) before (record { goals = λ g i. i; rows = λ row i. i; live = λ l i. i })

-- ---- roots

abbrev pub roots_held : List LiveFiring → List Preference → List Goal → List ℕ
roots_held live rows goals = map (λ l. l.number) live ++ (map (λ row. row.firing) rows ++ flat_map makers_of_goal goals)

-- what holds of the number of each live firing, of each row's firing and of each goal's maker holds of all roots
pub each_root : (P : ℕ → Type 0) (live : List LiveFiring) (rows : List Preference) (goals : List Goal) → ((l : LiveFiring) → IsIn l live → P l.number) → ((row : Preference) → IsIn row rows → P row.firing)
    → ((g : Goal) → IsIn g goals → (n : ℕ) → IsIn n (makers_of_goal g) → P n) → (n : ℕ) → IsIn n (roots_held live rows goals) → P n
each_root P live rows goals of_live of_rows of_goals n i = elim (in_append n (map (λ (l : LiveFiring). l.number) live) (map (λ (row : Preference). row.firing) rows ++ flat_map makers_of_goal goals) i) [
  | inl j ↦ let l = in_map (λ (l : LiveFiring). l.number) n live j in subst P l.2 (of_live l.0 l.1)
  | inr j ↦ elim (in_append n (map (λ (row : Preference). row.firing) rows) (flat_map makers_of_goal goals) j) [
    | inl k ↦ let row = in_map (λ (row : Preference). row.firing) n rows k in subst P row.2 (of_rows row.0 row.1)
    | inr k ↦ let g = in_flat_map makers_of_goal n goals k in of_goals g.0 g.1 n g.2
  ]
]

module _ (live : List LiveFiring) (rows : List Preference) (goals : List Goal) where
  pub root_of_live : (l : LiveFiring) → IsIn l live → IsIn l.number (roots_held live rows goals)
  root_of_live l i = in_left l.number (map (λ (l : LiveFiring). l.number) live) _ (in_mapped (λ (l : LiveFiring). l.number) l live i)

  pub root_of_row : (row : Preference) → IsIn row rows → IsIn row.firing (roots_held live rows goals)
  root_of_row row i =
      in_right row.firing (map (λ (l : LiveFiring). l.number) live) _
      (in_left row.firing (map (λ (row : Preference). row.firing) rows) (flat_map makers_of_goal goals) (in_mapped (λ (row : Preference). row.firing) row rows i))

  pub root_of_goal : (g : Goal) → IsIn g goals → (n : ℕ) → IsIn n (makers_of_goal g) → IsIn n (roots_held live rows goals)
  root_of_goal g i n j =
      in_right n (map (λ (l : LiveFiring). l.number) live) _ (in_right n (map (λ (row : Preference). row.firing) rows) (flat_map makers_of_goal goals) (in_flat_mapped makers_of_goal g n goals i j))

-- the maker of a selection
pub maker_selected : (g : Goal) (n : ℕ) → IsIn n (makers_of_goal g) → (s : Selection) × (g.selected ≡ Some s) × (s.maker ≡ n)
maker_selected g n i = go g.selected refl i
  where
    go : (o : Option Selection) → g.selected ≡ o → IsIn n (elim o [ Some selection ↦ selection.maker ∷ [] | None ↦ [] ]) → (s : Selection) × (g.selected ≡ Some s) × (s.maker ≡ n)
    go None q j = absurd j
    go (Some s) q (inl e) = (s, q, e)
    go (Some s) q (inr z) = absurd z

pub selected_maker : (g : Goal) (s : Selection) → g.selected ≡ Some s → IsIn s.maker (makers_of_goal g)
selected_maker g s q = subst (λ o. IsIn s.maker (elim o [ Some selection ↦ selection.maker ∷ [] | None ↦ [] ])) (sym q) (inl refl)

pub among_roots : (t before : Remains) → IsAmong t before → (n : ℕ) → IsIn n (roots_held t.live t.rows t.goals) → IsIn n (roots_held before.live before.rows before.goals)
among_roots t before h =
    each_root (λ n. IsIn n (roots_held before.live before.rows before.goals)) t.live t.rows t.goals (λ l i. root_of_live before.live before.rows before.goals l (h.live l i))
    (λ row i. root_of_row before.live before.rows before.goals row (h.rows row i)) (λ g i n j. root_of_goal before.live before.rows before.goals g (h.goals g i) n j)

-- ---- the record

-- where the roots are among those that there were, the record stays
pub settled_record : (kept firings : List FiringOf) (roots : List ℕ) (b : Agent) (t : Remains) → firings_of_history b ≡ firings → ((n : ℕ) → IsIn n (roots_held t.live t.rows t.goals) → IsIn n roots)
    → AreFrom firings kept → list_all (is_recorded kept) (explaining firings roots) ≡ true → IsRecordOf kept (resettled b t).agent
unfolding resettled
settled_record kept firings roots b t same within from all =
    let left = trimmed b.history b.holding.elements t in
    let held = roots_held left.live left.rows left.goals in
    record {
      from_history = subst (λ fs. AreFrom fs kept) (sym same) from;
      reaches_all = all_each (is_recorded kept) (explaining (firings_of_history b) held) (λ n i.
          each_all (is_recorded kept) n (explaining firings roots) all
          (roots_reach_more firings held roots (λ m j. within m (among_roots left t (trimmed_among b.history b.holding.elements t) m j)) n (subst (λ fs. IsIn n (explaining fs held)) same i)));
    }
