-- The same conditions in another order, inside negations too.
use Rattle.soar_rule.specs.Conditions.{Condition, conjunctive, Conditions, no_more, condition_and}

-- a list without one of its conditions
pub data TakenOut : Condition → Conditions → Conditions → Type 0 where
  first : (c : Condition) (cs : Conditions) → TakenOut c (condition_and c cs) cs
  later : (c d : Condition) (cs rest : Conditions) → TakenOut c cs rest → TakenOut c (condition_and d cs) (condition_and d rest)

mutual
  -- a condition, with its inside in another order
  pub data ReorderedInside : Condition → Condition → Type 0 where
    the_same : (c : Condition) → ReorderedInside c c
    within : (cs ds : Conditions) → Reordered cs ds → ReorderedInside (conjunctive cs) (conjunctive ds)

  -- first that which was taken out, then the others
  pub data Reordered : Conditions → Conditions → Type 0 where
    nothing : Reordered no_more no_more
    taking : (c d : Condition) (cs rest ds : Conditions) → TakenOut c cs rest → ReorderedInside c d → Reordered rest ds → Reordered cs (condition_and d ds)
