-- What a graph tells.
use Rattle.std.proofs.Common.{◌≡◌, suc, ◌||◌, Bool, true, false, cond, List, [], ◌∷◌, Some, None, is_some, refl, sym, ap, ◌∙◌}
use Rattle.soar_sym.specs.declared.symbol.Sym.{Sym}
use Rattle.soar_sym.specs.declared.symbol.Triple.{Triple}
use Rattle.level_laws.specs.Labels.{leads, has_edge, Labels, GoalsHaveDepths, IsSound}
use Rattle.level_graph.specs.Spreading.{Spreads, IsClosedBut}
use Rattle.level_graph.proofs.EndLemmas.{ends}
use Rattle.level_change.specs.Counts.{edge_count}
use Rattle.level_change.specs.Links.{if_any}
use Rattle.level_change.specs.Graph.{times_in, level_in_graph}
use Rattle.level_change.specs.Told.{LevelsAreTold, StandsByCounts}

-- there are some exactly where there is one
pub any_edge : (triples : List Triple) (x y : Sym) → is_some (if_any (edge_count triples x y)) ≡ has_edge triples x y
any_edge [] x y = refl
any_edge (t ∷ triples) x y = by (leads x y t) (any_edge triples x y)
  where
    by : (b : Bool) → is_some (if_any (edge_count triples x y)) ≡ has_edge triples x y → is_some (if_any (cond b (suc (edge_count triples x y)) (edge_count triples x y))) ≡ (b || has_edge triples x y)
    by true h = refl
    by false h = h

pub levels_are_told : LevelsAreTold
levels_are_told graph triples goals stands = ends (λ x y. is_some (times_in graph.out x y)) goals triples (level_in_graph graph) (λ x y. ap is_some (stands.out x y) ∙ any_edge triples x y) stands.levels

pub stands_by_counts : StandsByCounts
stands_by_counts graph a b goals stands same =
    record {
      out = λ x y. stands.out x y ∙ ap if_any (sym (same x y));
      into = λ x y. stands.into x y ∙ ap if_any (sym (same x y));
      same_goals = stands.same_goals;
      levels = stands.levels;
    }

-- nothing is told and nothing linked
pub nothing_spreads : (links : Sym → Sym → Bool) (told : Labels) → ((s : Sym) → told s ≡ None) → Spreads links [] told []
nothing_spreads links told none = record { depths = depths; sound = sound; closed = closed }
  where
    depths : GoalsHaveDepths [] told
    depths g d place = cc

    sound : IsSound links [] told
    sound s m at ng = absurd (let e : None ≡ Some m = sym (none s) ∙ at in cc)

    closed : IsClosedBut links [] told []
    closed x y n link at ng = absurd (let e : None ≡ Some n = sym (none x) ∙ at in cc)
