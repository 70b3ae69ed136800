-- The work of the least depth, over what there is to do at any depth.
use Rattle.std.specs.Prelude.{ℕ, ◌==◌, min, List, [], ◌∷◌, ◌++◌, map, filter, Option, Some, None}
use Rattle.soar_wm.specs.declared.element.Element.{Element}
use Rattle.defs_match.specs.declared.instance.Instance.{Instance}
use Rattle.defs_soar.specs.declared.goal.Goal.{Goal}
use Rattle.defs_soar.specs.Pending.{elements_of_tags, least}
use Rattle.defs_soar.specs.Support.{match_depth}
use Rattle.outstanding.specs.Live.{Live}
use Rattle.pending_work.specs.declared.work.Work.{Work}

-- the depth of the instance's match goal
abbrev pub depth_at : List Goal → List Element → Instance → ℕ
depth_at goals elements i = match_depth goals (elements_of_tags elements i.tags)

abbrev pub level_of : List Goal → List Element → List Live → List Instance → ℕ
level_of goals elements gone ready = least (map (λ g. g.depth) gone ++ map (depth_at goals elements) ready)

abbrev pub at_level : List Goal → List Element → List Live → List Instance → ℕ → Work
at_level goals elements gone ready level = record {
  retracted = filter (λ g. g.depth == level) gone;
  fired = filter (λ i. depth_at goals elements i == level) ready;
}

abbrev pub active_of : List Goal → List Element → List Live → List Instance → Work
active_of goals elements gone ready = at_level goals elements gone ready (level_of goals elements gone ready)

-- ---- the least, found from the front

abbrev pub lesser : Option ℕ → ℕ → ℕ
lesser None n = n
lesser (Some m) n = min m n

-- the least of those found before and of these
abbrev pub least_from : Option ℕ → List ℕ → Option ℕ
least_from found [] = found
least_from found (n ∷ ns) = least_from (Some (lesser found n)) ns
