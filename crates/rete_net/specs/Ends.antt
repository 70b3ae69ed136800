-- At which nodes rules end.
use Rattle.std.specs.Prelude.{◌≡◌, ◌↔◌, ℕ, List, map, filter}
use Rattle.defs_match.specs.Laws.{IsIn}
use Rattle.node_agenda.specs.declared.turns.Turn.{Turn}
use Rattle.node_agenda.specs.declared.turns.TurnKey.{TurnKey}
use Rattle.node_agenda.specs.Turns.{under, is_under}
use Rattle.rete_net.specs.declared.chain.Chain.{Chain}

-- The end of a rule: under its last node its turn, which is by its number.
abbrev pub end_of : ℕ → ℕ → TurnKey
end_of last number = under last (record { made = number; node = last })

-- the turns of the rules that end at a node
abbrev pub ending_at : ℕ → List TurnKey → List Turn
ending_at n ends = map (λ k. k.turn) (filter (is_under n) ends)

-- the ends of these chains, and no others
abbrev pub AreEnds : List Chain → List TurnKey → Type 0
AreEnds chains ends = (x : TurnKey) → IsIn x ends ↔ ((c : Chain) × IsIn c chains × (end_of c.last c.rule.number ≡ x))
