-- The conditions on the way from the root to a node.
use Rattle.std.specs.Prelude.{◌≡◌, ℕ, Option, Some, None}
use Rattle.soar_rule.specs.declared.cond.Pattern.{Pattern}
use Rattle.soar_rule.specs.Conditions.{Condition, positive, Conditions, no_more, condition_and}
use Rattle.defs_match.specs.Laws.{IsNegation, followed_by, inside}
use Rattle.node_table.specs.declared.node.Step.TheVariants.{Join, Negation}
use Rattle.node_table.specs.declared.node.NodeKey.{NodeKey}

-- the root, a join behind a way, or a negation behind a way and the way to its inside
pub data Way : Type 0 where
  at_root : Way
  by_join : Pattern → Way → Way
  by_negation : Condition → Way → Way → Way

-- the conditions of a way, in order
abbrev pub conditions_of : Way → Conditions
conditions_of at_root = no_more
conditions_of (by_join p up) = followed_by (conditions_of up) (condition_and (positive p) no_more)
conditions_of (by_negation c up within) = followed_by (conditions_of up) (condition_and c no_more)

-- It is the way to a node. The inside of a negation stands behind the conditions before it.
abbrev pub IsWay : (ℕ → Option NodeKey) → Way → ℕ → Type 0
IsWay keys at_root n = keys n ≡ None
IsWay keys (by_join p up) n = (m : ℕ) × (keys n ≡ Some (record { parent = m; step = Join p })) × IsWay keys up m
IsWay keys (by_negation c up within) n =
    (m : ℕ) × (i : ℕ) × (keys n ≡ Some (record { parent = m; step = Negation i })) × IsWay keys up m × IsWay keys within i × IsNegation c
    × (conditions_of within ≡ followed_by (conditions_of up) (inside c))
