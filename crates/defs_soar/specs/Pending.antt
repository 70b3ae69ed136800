-- The work that is pending: firings to retract and instances to fire (Soar manual, chapter 2, elaboration cycle).
use Rattle.std.specs.Prelude.{ℕ, Bool, true, false, ◌&&◌, ◌==◌, not, min, List, [], ◌∷◌, ◌++◌, map, flat_map, filter}
use Rattle.std.specs.List.{list_any}
use Rattle.soar_rule.specs.declared.production.Kind.{Kind}
use Rattle.soar_rule.specs.declared.production.Kind.TheVariants as kind
use Rattle.defs_match.specs.Element.{Element}
use Rattle.defs_match.specs.Conflict.{bindings_of, instances_of, conflict}
use Rattle.defs_match.specs.Rules.{RuleOf}
use Rattle.defs_match.specs.Testing.{Bindings}
use Rattle.defs_match.specs.declared.instance.Instance.{Instance}
use Rattle.defs_soar.specs.declared.goal.Goal.{Goal}
use Rattle.defs_soar.specs.Agents.{LiveFiring, Agent}
use Rattle.defs_soar.specs.Support.{match_depth, operator_kind}

-- an instance to fire: its rule, the instance, what its conditions bound, and its elements
pub record Firable : Type 0 where
  pub rule : RuleOf
  pub instance : Instance
  pub bindings : Bindings
  pub elements : List Element

abbrev pub tags_eq : List ℕ → List ℕ → Bool
tags_eq [] [] = true
tags_eq (a ∷ firsts) (b ∷ seconds) = (a == b) && tags_eq firsts seconds
tags_eq [] (b ∷ seconds) = false
tags_eq (a ∷ firsts) [] = false

-- instances of one rule with the same tags are one
abbrev pub instance_eq : Instance → Instance → Bool
instance_eq i j = (i.rule == j.rule) && tags_eq i.tags j.tags

abbrev pub is_listed : List Instance → Instance → Bool
is_listed instances i = list_any (instance_eq i) instances

-- the elements of these tags, in order of tag
abbrev pub elements_of_tags : List Element → List ℕ → List Element
elements_of_tags elements tags = filter (λ e. list_any (λ tag. tag == e.tag) tags) elements

abbrev pub firable_of : List Element → RuleOf → Instance → Firable
firable_of elements rule i =
    record { rule = rule; instance = i; bindings = bindings_of rule.production i; elements = elements_of_tags elements i.tags }

abbrev pub firables_of : List Element → RuleOf → List Firable
firables_of elements rule = map (firable_of elements rule) (instances_of elements rule)

abbrev pub is_justification : Kind → Bool
is_justification kind.Justification = true
is_justification other = false

abbrev pub is_of_operator_kind : List Goal → Firable → Bool
is_of_operator_kind goals f = operator_kind goals f.elements f.bindings f.rule.production

-- justifications never fire again, and in the proposal phase no operator is applied
abbrev pub may_fire : Bool → List Goal → List LiveFiring → Firable → Bool
may_fire proposing goals live f =
    not (is_listed (map (λ l. l.instance) live) f.instance)
    && (not (is_justification f.rule.production.kind) && not (proposing && is_of_operator_kind goals f))

pub record Work : Type 0 where
  pub retracted : List LiveFiring
  pub fired : List Firable

-- live firings that match no more, and matches that no live firing has
abbrev pub all_work : Bool → List RuleOf → List Element → List Goal → List LiveFiring → Work
all_work proposing rules elements goals live =
    let now = conflict rules elements in
    record {
      retracted = filter (λ l. not (is_listed now l.instance)) live;
      fired = filter (may_fire proposing goals live) (flat_map (firables_of elements) rules);
    }

abbrev pub depth_of : List Goal → Firable → ℕ
depth_of goals f = match_depth goals f.elements

abbrev pub least : List ℕ → ℕ
least [] = 0
least (n ∷ []) = n
least (n ∷ m ∷ ns) = min n (least (m ∷ ns))

-- the least level with work
abbrev pub active_level : List Goal → Work → ℕ
active_level goals w = least (map (λ l. l.depth) w.retracted ++ map (depth_of goals) w.fired)

-- the work of a level
abbrev pub of_level : List Goal → ℕ → Work → Work
of_level goals level w = record { retracted = filter (λ l. l.depth == level) w.retracted; fired = filter (λ f. depth_of goals f == level) w.fired }

-- the work of the active level
unfoldable pub pending_in : Bool → List RuleOf → List Element → List Goal → List LiveFiring → Work
pending_in proposing rules elements goals live =
    let all = all_work proposing rules elements goals live in of_level goals (active_level goals all) all

abbrev pub pending : Bool → Agent → Work
pending proposing a = pending_in proposing a.program.rules a.holding.elements a.holding.goals a.holding.live

abbrev pub is_none : Work → Bool
is_none w = nothing w.retracted w.fired
  where
    nothing : List LiveFiring → List Firable → Bool
    nothing [] [] = true
    nothing gone fired = false
