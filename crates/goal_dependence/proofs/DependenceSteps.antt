-- What goals depend on after a wave, from what they depended on before it.
use Rattle.std.proofs.Common.{◌≡◌, ◌∙◌, refl, sym, ap, ap₂, ℕ, suc, inl, inr, List, [], ◌∷◌, ◌++◌, map, drop, length, take}
use Rattle.defs_soar.specs.declared.goal.Goal.{Goal}
use Rattle.defs_soar.specs.declared.preference.Preference.{Preference}
use Rattle.defs_soar.specs.History.{FiringOf, Reach, RecordedFiring, firing_seen}
use Rattle.defs_soar.specs.Standing.{dependencies_from}
use Rattle.learning_laws.proofs.Lists.{in_append}
use Rattle.learning_laws.proofs.WorkLaws.{map_both}
use Rattle.agent_laws.specs.Dependence.{AreLater, each_with, firings_in, MakersAreEarlier, tags_from}
use Rattle.agent_laws.proofs.GoalDependence.{goals_depend_on_more}
use Rattle.dependency_tables.specs.Tables.{each_with_tags, tables_of, with_tags}
use Rattle.dependency_tables.proofs.TableLemmas.{with_both}
use Rattle.firing_records.specs.declared.outcome.Recorded.{Recorded}
use Rattle.goal_dependence.specs.Remembered.{firings_of, past_by, tags_found, tags_found_from}

-- tags that are found among all firings of a history are those that the history adds
pub found_in_history : (history pasts : List RecordedFiring) (depth : ℕ) (goals : List Goal) → tags_found_from (firings_in history) pasts depth goals ≡ tags_from history pasts depth goals
found_in_history history pasts depth [] = refl
found_in_history history pasts depth (goal ∷ goals) = ap (λ l. tags_found (firings_in history) pasts goal.id depth ∷ l) (found_in_history history pasts (suc depth) goals)

-- the tables of lists with more tags behind them
pub tables_joined : (lists more : List (List ℕ)) → each_with_tags (tables_of lists) more ≡ tables_of (each_with lists more)
tables_joined [] more = refl
tables_joined (tags ∷ lists) [] = refl
tables_joined (tags ∷ lists) (added ∷ more) = ap₂ (λ table tables. table ∷ tables) (sym (with_both tags added [])) (tables_joined lists more)

-- where the tables and the record are those of the history, they are so with the wave's firings
pub depends_after_wave : (history pasts : List RecordedFiring) (depth : ℕ) (goals : List Goal) (depends : List (List ℕ)) (kept : List FiringOf)
    → depends ≡ tables_of (dependencies_from history depth goals) → kept ≡ firings_in history → MakersAreEarlier (firings_in history) → AreLater history pasts
    → each_with_tags depends (tags_found_from (kept ++ firings_in pasts) pasts depth goals) ≡ tables_of (dependencies_from (history ++ pasts) depth goals)
depends_after_wave history pasts depth goals depends kept tables is earlier later =
    ap₂ (λ d k. each_with_tags d (tags_found_from (k ++ firings_in pasts) pasts depth goals)) tables is
    ∙ tables_joined (dependencies_from history depth goals) (tags_found_from (firings_in history ++ firings_in pasts) pasts depth goals)
    ∙ ap (λ k. tables_of (each_with (dependencies_from history depth goals) (tags_found_from k pasts depth goals))) (sym (map_both (λ (past : RecordedFiring). past.firing) history pasts))
    ∙ ap (λ found. tables_of (each_with (dependencies_from history depth goals) found)) (found_in_history (history ++ pasts) pasts depth goals)
    ∙ ap tables_of (sym (goals_depend_on_more history pasts depth goals earlier later))

-- ---- goals that are left

added_to_left : (firings : List FiringOf) (pasts : List RecordedFiring) (depth : ℕ) (goals : List Goal) (depends : List (List ℕ))
    → each_with_tags depends (tags_found_from firings pasts depth goals) ≡ each_with_tags depends (tags_found_from firings pasts depth (take (length depends) goals))
added_to_left firings pasts depth goals [] = refl
added_to_left firings pasts depth [] (table ∷ depends) = refl
added_to_left firings pasts depth (goal ∷ goals) (table ∷ depends) =
    ap (λ l. with_tags (tags_found firings pasts goal.id depth) table ∷ l) (added_to_left firings pasts (suc depth) goals depends)

-- what was found for all goals adds to the tables of those that are left what was found for these
pub tags_of_left : (firings : List FiringOf) (pasts : List RecordedFiring) (depth : ℕ) (old new : List Goal) (depends : List (List ℕ)) → new ≡ take (length new) old → suc (length depends) ≡ length new
    → each_with_tags depends (tags_found_from firings pasts depth (drop 1 old)) ≡ each_with_tags depends (tags_found_from firings pasts depth (drop 1 new))
tags_of_left firings pasts depth old new depends first fits =
    by old ∙ ap (λ n. each_with_tags depends (tags_found_from firings pasts depth (drop 1 (take n old)))) fits ∙ ap (λ (gs : List Goal). each_with_tags depends (tags_found_from firings pasts depth (drop 1 gs))) (sym first)
  where
    by : (goals : List Goal) → each_with_tags depends (tags_found_from firings pasts depth (drop 1 goals)) ≡ each_with_tags depends (tags_found_from firings pasts depth (drop 1 (take (suc (length depends)) goals)))
    by [] = refl
    by (goal ∷ goals) = added_to_left firings pasts depth goals depends

-- ---- the record

-- the firings of the history are those that joined the record
pub firings_of_pasts : (reach : Reach) (added : List Preference) (recorded : List Recorded) → firings_in (map (past_by reach added) recorded) ≡ firings_of recorded
firings_of_pasts reach added [] = refl
firings_of_pasts reach added (r ∷ recorded) = ap (λ l. firing_seen r.firing ∷ l) (firings_of_pasts reach added recorded)

pub earlier_in_both : (kept new : List FiringOf) → MakersAreEarlier kept → MakersAreEarlier new → MakersAreEarlier (kept ++ new)
earlier_in_both kept new h k f i n j = elim (in_append f kept new i) [ inl x ↦ h f x n j | inr x ↦ k f x n j ]
