-- Trimming by the tags on which each goal depends is trimming by the history.
use Rattle.std.proofs.Common.{◌≡◌, refl, sym, ◌∙◌, ap, ℕ, zero, suc, ◌-◌, arith, List, [], ◌∷◌, length, Option, Some, None}
use Rattle.std.specs.Prelude.{take, drop}
use Rattle.std.proofs.lemmas.List.{take-map}
use Rattle.soar_sym.specs.declared.symbol.Triple.{Triple}
use Rattle.soar_rule.specs.Repeat.{Turn, ends, goes_on, turns}
use Rattle.soar_wm.specs.declared.element.Element.{Element}
use Rattle.defs_soar.specs.declared.goal.Goal.{Goal}
use Rattle.defs_soar.specs.Dependencies.{dependency_set}
use Rattle.defs_soar.specs.History.{RecordedFiring}
use Rattle.defs_soar.specs.Settling.{settled, kept_triples}
use Rattle.defs_soar.specs.Standing.{dependencies_from}
use Rattle.defs_soar.specs.Trimming.{highest_broken, one_trim, supports_of, RemovedGoal, Remains, trimmed, trimmed_by, with_supports, without_broken}
use Rattle.dependency_tables.specs.Tables.{table_of, tables_of}
use Rattle.goal_trimming.specs.Held.{Held, held_after, kept_held, one_trim_held, settled_held, trimmed_held, without_broken_held, without_goals_held}
use Rattle.goal_trimming.specs.Trims.{AreDependencies, remains_of, Trims}
use Rattle.goal_trimming.proofs.BrokenLemmas.{broken_by_tags}

-- ---- the goals that are left depend on what they did

first_depend : (history : List RecordedFiring) (depth n : ℕ) (goals : List Goal) → dependencies_from history depth (take n goals) ≡ take n (dependencies_from history depth goals)
first_depend history depth zero goals = refl
first_depend history depth (suc n) [] = refl
first_depend history depth (suc n) (goal ∷ goals) = ap (λ l. dependency_set history goal.id depth ∷ l) (first_depend history (suc depth) n goals)

below_top : (history : List RecordedFiring) (n : ℕ) (goals : List Goal) → dependencies_from history 2 (drop 1 (take (suc n) goals)) ≡ take n (dependencies_from history 2 (drop 1 goals))
below_top history zero [] = refl
below_top history (suc n) [] = refl
below_top history n (goal ∷ goals) = first_depend history 2 n goals

pub left_depend : (history : List RecordedFiring) (depth : ℕ) (goals : List Goal)
    → dependencies_from history 2 (drop 1 (take (depth - 1) goals)) ≡ take (depth - 2) (dependencies_from history 2 (drop 1 goals))
left_depend history zero goals = refl
left_depend history (suc zero) goals = refl
left_depend history (suc (suc n)) goals =
    let one : suc (suc n) - 1 ≡ suc n = omega arith in
    let two : n ≡ suc (suc n) - 2 = omega arith in
    ap (λ m. dependencies_from history 2 (drop 1 (take m goals))) one ∙ below_top history n goals ∙ ap (λ m. take m (dependencies_from history 2 (drop 1 goals))) two

-- and so do their tables
pub tables_left : (history : List RecordedFiring) (depth : ℕ) (goals : List Goal)
    → tables_of (dependencies_from history 2 (drop 1 (take (depth - 1) goals))) ≡ take (depth - 2) (tables_of (dependencies_from history 2 (drop 1 goals)))
tables_left history depth goals = ap tables_of (left_depend history depth goals) ∙ sym (take-map table_of (depth - 2) (dependencies_from history 2 (drop 1 goals)))

-- ---- turn by turn

module _ (history : List RecordedFiring) (elements : List Element) (limit : ℕ) where
  -- what remains, with the tags that the history tells
  abbrev pub with_tags : Remains → Held
  with_tags t = record {
    goals = t.goals;
    depends = tables_of (dependencies_from history 2 (drop 1 t.goals));
    prefs = record { rows = t.rows; limit = limit };
    inputs = t.inputs;
    live = t.live;
  }

  abbrev turn_with_tags : Turn Remains → Turn Held
  turn_with_tags (ends t) = ends (with_tags t)
  turn_with_tags (goes_on t) = goes_on (with_tags t)

  one_turn : (t : Remains) → turn_with_tags (one_trim history elements t) ≡ one_trim_held elements (with_tags t)
  one_turn t =
      go (highest_broken history elements (kept_triples t.goals (settled t.goals (supports_of t))) 2 (drop 1 t.goals))
      ∙ ap (without_broken_held (settled_held (with_tags t))) (broken_by_tags history elements (kept_triples t.goals (settled t.goals (supports_of t))) 2 (drop 1 t.goals))
    where
      go : (o : Option ℕ) → turn_with_tags (without_broken (with_supports t (settled t.goals (supports_of t))) o) ≡ without_broken_held (settled_held (with_tags t)) o
      go None = refl
      go (Some depth) = ap (λ (depends : List (List ℕ)). goes_on (record (without_goals_held depth (settled_held (with_tags t))) { depends = depends })) (tables_left history depth t.goals)

  turned_by_tags : (n : ℕ) (t : Remains) → with_tags (trimmed_by (turns n (one_trim history elements) t)) ≡ held_after (turns n (one_trim_held elements) (with_tags t))
  turned_by_tags zero t = refl
  turned_by_tags (suc n) t =
      go (one_trim history elements t) (turned_by_tags n)
      ∙ ap (λ u. held_after (elim u as (λ _. Turn Held) [ ends b ↦ ends b | goes_on b ↦ turns n (one_trim_held elements) b ])) (one_turn t)
    where
      go : (u : Turn Remains) → ((t : Remains) → with_tags (trimmed_by (turns n (one_trim history elements) t)) ≡ held_after (turns n (one_trim_held elements) (with_tags t)))
          → with_tags (trimmed_by (elim u as (λ _. Turn Remains) [ ends b ↦ ends b | goes_on b ↦ turns n (one_trim history elements) b ]))
          ≡ held_after (elim (turn_with_tags u) as (λ _. Turn Held) [ ends b ↦ ends b | goes_on b ↦ turns n (one_trim_held elements) b ])
      go (ends b) later = refl
      go (goes_on b) later = later b

  pub trimmed_with_tags : (t : Remains) → with_tags (trimmed history elements t) ≡ trimmed_held elements (with_tags t)
  unfolding trimmed trimmed_held
  trimmed_with_tags t = turned_by_tags (suc (length t.goals)) t

-- the goals that went before count for nothing, but for the list of those that went
pub removed_apart : (history : List RecordedFiring) (elements : List Element) (limit : ℕ) (t : Remains) (removed : List RemovedGoal)
    → with_tags history elements limit (trimmed history elements (record t { removed = removed })) ≡ with_tags history elements limit (trimmed history elements t)
removed_apart history elements limit t removed =
    trimmed_with_tags history elements limit (record t { removed = removed }) ∙ sym (trimmed_with_tags history elements limit t)

-- ---- what is left

-- the history tells the tags
told : (history : List RecordedFiring) (elements : List Element) (h : Held) → AreDependencies history h → with_tags history elements h.prefs.limit (remains_of h) ≡ h
told history elements h is = λ i. record { goals = h.goals; depends = sym is i; prefs = h.prefs; inputs = h.inputs; live = h.live }

pub trims_by_tags : (history : List RecordedFiring) (elements : List Element) (old new : Held) (kept : List Triple) → AreDependencies history old
    → new ≡ trimmed_held elements old → kept ≡ kept_held new → Trims history elements old new kept
trims_by_tags history elements old new kept is left keeps =
    let same : new ≡ with_tags history elements old.prefs.limit (trimmed history elements (remains_of old)) =
    left ∙ ap (trimmed_held elements) (sym (told history elements old is)) ∙ sym (trimmed_with_tags history elements old.prefs.limit (remains_of old)) in
    record {
      goals_are = ap (λ (h : Held). h.goals) same;
      prefs_are = ap (λ (h : Held). h.prefs) same;
      inputs_are = ap (λ (h : Held). h.inputs) same;
      live_are = ap (λ (h : Held). h.live) same;
      depends_are = ap (λ (h : Held). h.depends) same ∙ ap (λ (h : Held). tables_of (dependencies_from history 2 (drop 1 h.goals))) (sym same);
      kept_are = keeps ∙ ap (λ (h : Held). kept_held h) same;
    }
