-- What goals depend on, goal by goal.
use Rattle.std.proofs.Common.{◌≡◌, refl, ap, ap₂, ℕ, zero, suc, Bool, true, false, ◌&&◌, cond, inl, inr, List, [], ◌∷◌, filter, flat_map}
use Rattle.std.specs.List.{list_any}
use Rattle.soar_sym.specs.declared.symbol.Sym.{Sym}
use Rattle.defs_soar.specs.Dependencies.{counts_for, dependency_set, higher_grounds, is_goal_of, is_local_to}
use Rattle.defs_soar.specs.History.{RecordedFiring}
use Rattle.defs_soar.specs.Laws.{IsIn}
use Rattle.agent_laws.specs.Dependence.{firings_in, GoalsDependOnMore, GoalsLeftDependAsBefore, NewGoalsDependOnNothing}
use Rattle.agent_laws.proofs.DependenceLaws.{dependencies_grow}

pub goals_depend_on_more : GoalsDependOnMore
goals_depend_on_more old new depth [] earlier later = refl
goals_depend_on_more old new depth (g ∷ goals) earlier later =
    ap₂ (λ tags others. tags ∷ others) (dependencies_grow old new g.id depth earlier later) (goals_depend_on_more old new (suc depth) goals earlier later)

pub goals_left_depend_as_before : GoalsLeftDependAsBefore
goals_left_depend_as_before history depth zero goals = refl
goals_left_depend_as_before history depth (suc n) [] = refl
goals_left_depend_as_before history depth (suc n) (g ∷ goals) = ap (λ l. dependency_set history g.id depth ∷ l) (goals_left_depend_as_before history (suc depth) n goals)

none_counts : (goal : Sym) (depth : ℕ) (history : List RecordedFiring) → ((p : RecordedFiring) → IsIn p history → is_goal_of p.goal goal ≡ false) → filter (counts_for goal depth) history ≡ []
none_counts goal depth [] h = refl
none_counts goal depth (p ∷ history) h = go (p.operator_kind) (is_goal_of p.goal goal) (h p (inl refl)) (none_counts goal depth history (λ q i. h q (inr i)))
  where
    go : (a b : Bool) → b ≡ false → filter (counts_for goal depth) history ≡ []
        → cond (a && (b && list_any (is_local_to depth p) p.lasting)) (p ∷ filter (counts_for goal depth) history) (filter (counts_for goal depth) history) ≡ []
    go true true q later = absurd (cc)
    go true false q later = later
    go false b q later = later

pub depends_on_nothing : (history : List RecordedFiring) (goal : Sym) (depth : ℕ) → ((p : RecordedFiring) → IsIn p history → is_goal_of p.goal goal ≡ false) → dependency_set history goal depth ≡ []
unfolding dependency_set
depends_on_nothing history goal depth h = ap (flat_map (higher_grounds (firings_in history) depth)) (none_counts goal depth history h)

pub new_goals_depend_on_nothing : NewGoalsDependOnNothing
new_goals_depend_on_nothing history depth [] goal h = ap (λ tags. tags ∷ []) (depends_on_nothing history goal.id depth h)
new_goals_depend_on_nothing history depth (g ∷ goals) goal h = ap (λ l. dependency_set history g.id depth ∷ l) (new_goals_depend_on_nothing history (suc depth) goals goal h)
