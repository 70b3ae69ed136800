-- Turns, in order, and under numbers.
use Rattle.std.specs.Prelude.{ℕ, Bool, ◌==◌, List, [], ◌∷◌, filter}
use Rattle.std.specs.BTreeSet.{insert_key}
use Rattle.std.specs.Ordering.{is_le}
use Rattle.std.specs.declared.cmp.Ordering.{Ordering}
use Rattle.node_agenda.specs.contracts.turns.TurnOrd.TheImpl as turns
use Rattle.node_agenda.specs.contracts.turns.TurnKeyOrd.TheImpl as keys
use Rattle.node_agenda.specs.declared.turns.Turn.{Turn}
use Rattle.node_agenda.specs.declared.turns.TurnKey.{TurnKey}

abbrev pub TurnOf : Type 0
TurnOf = Turn

abbrev pub TurnKeyOf : Type 0
TurnKeyOf = TurnKey

abbrev pub turn_cmp : Turn → Turn → Ordering
turn_cmp = (turns.ghosts).cmp

abbrev pub key_cmp : TurnKey → TurnKey → Ordering
key_cmp = (keys.ghosts).cmp

abbrev pub is_under : ℕ → TurnKey → Bool
is_under number key = key.number == number

abbrev pub first_turn : Turn
first_turn = record { made = 0; node = 0 }

abbrev pub least_under : ℕ → TurnKey
least_under number = record { number = number; turn = first_turn }

-- the entries that are not below a key
abbrev pub from_least : {X : Type 0} → TurnKey → List (TurnKey × X) → List (TurnKey × X)
from_least {X = X} least es = filter (λ (p : TurnKey × X). is_le (key_cmp least p.0)) es

-- the turn of a node under a number
abbrev pub under : ℕ → Turn → TurnKey
under number turn = record { number = number; turn = turn }

-- an agenda with one turn more
abbrev pub with_turn : Turn → List Turn → List Turn
with_turn t agenda = insert_key turn_cmp agenda t

-- an agenda with these turns
abbrev pub with_turns : List Turn → List Turn → List Turn
with_turns [] agenda = agenda
with_turns (t ∷ ts) agenda = with_turns ts (with_turn t agenda)
