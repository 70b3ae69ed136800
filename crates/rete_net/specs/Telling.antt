-- The keys of what a change tells.
use Rattle.std.specs.Prelude.{ℕ, List, map, flat_map}
use Rattle.match_changes.specs.declared.key.MatchKey.{MatchKey}
use Rattle.node_agenda.specs.declared.turns.Turn.{Turn}
use Rattle.node_agenda.specs.declared.turns.TurnKey.{TurnKey}
use Rattle.rete_beta.specs.Joins.{JoinsOf, told_at}
use Rattle.rete_beta.specs.Told.{tags_told}
use Rattle.rete_net.specs.Ends.{ending_at}

abbrev pub MatchKeyOf : Type 0
MatchKeyOf = MatchKey

abbrev pub match_key : ℕ → List ℕ → MatchKey
match_key rule tags = record { rule = rule; tags = tags }

abbrev pub keys_by : ℕ → List (List ℕ) → List MatchKey
keys_by rule all = map (match_key rule) all

-- what a node told, for each of these rules
abbrev pub keys_for : List (List ℕ) → List Turn → List MatchKey
keys_for told rules = flat_map (λ t. keys_by t.made told) rules

-- for each rule that ends at it
abbrev pub keys_at : JoinsOf → List TurnKey → ℕ → List MatchKey
keys_at j ends n = keys_for (tags_told (told_at j n)) (ending_at n ends)

abbrev pub keys_told : JoinsOf → List TurnKey → List ℕ → List MatchKey
keys_told j ends served = flat_map (keys_at j ends) served
