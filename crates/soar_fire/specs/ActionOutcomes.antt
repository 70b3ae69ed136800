-- Actions as the code carries them out: up to the first limit.
use Rattle.std.specs.Prelude.{ℕ, suc, true, false, List, [], ◌∷◌, ◌++◌, Option, Some, None, Ok, Err, if◌then◌else◌}
use Rattle.soar_sym.specs.declared.symbol.Sym.{Sym}
use Rattle.soar_rule.specs.declared.cond.Atom.{Atom}
use Rattle.soar_rule.specs.Checking.{told}
use Rattle.soar_rule.specs.Productions.{ValueOf, values_of, PreferenceOf, ActionOf, makes, writes, halts}
use Rattle.defs_soar.specs.declared.firing.DropCause.{DropCause}
use Rattle.defs_soar.specs.declared.firing.DropCause.TheVariants as cause
use Rattle.defs_soar.specs.declared.firing.Made.{Made}
use Rattle.defs_soar.specs.declared.goal.Goal.{Goal}
use Rattle.defs_soar.specs.declared.preference.Wish.{Wish}
use Rattle.defs_soar.specs.Functions.{joined}
use Rattle.defs_soar.specs.Firing.{referent_of, kind_of, judged}
use Rattle.defs_soar.specs.Values.{is_identifier}
use Rattle.soar_fire.specs.Outcomes.{Standing, Outcome, reached, stopped, then_on, found, atom_outcome, value_outcome, values_outcome}

-- ---- wishes

abbrev pub referent_outcome : List Sym → Option ValueOf → Standing → Outcome (Option Sym)
referent_outcome vars None s = found None s
referent_outcome vars (Some v) s = then_on (value_outcome vars v s) (λ symbol after. found (Some symbol) after)

abbrev pub identifier_only : Sym → Standing → Outcome Sym
identifier_only symbol s = reached (if is_identifier symbol then Ok symbol else Err cause.NotAnIdentifier) s

abbrev pub wish_outcome : List Sym → List Goal → Atom → ValueOf → ValueOf → PreferenceOf → Standing → Outcome Wish
wish_outcome vars goals id attr value preference s =
    then_on (then_on (atom_outcome vars id s) identifier_only) (λ i s1. then_on (value_outcome vars attr s1) (λ a s2. then_on (value_outcome vars value s2) (λ v s3.
    then_on (referent_outcome vars (referent_of preference) s3) (λ r s4.
    reached (judged goals (record { id = i; attr = a; value = v; kind = kind_of preference r; referent = r })) s4))))

-- ---- actions

-- a place beyond 2^32 - 1 is told as that
abbrev pub with_dropped : ℕ → DropCause → Made → Made
with_dropped place why made = record made { dropped = made.dropped ++ record { action = told place; cause = why } ∷ [] }

-- what an action leaves, from what its evaluation came to
abbrev pub or_dropped : {A : Type 0} → ℕ → Made → (A → Standing → Made) → Outcome A → Outcome Made
or_dropped place made f (stopped limit) = stopped limit
or_dropped place made f (reached (Err why) s) = found (with_dropped place why made) s
or_dropped place made f (reached (Ok a) s) = found (f a s) s

abbrev pub with_wish : Made → Wish → Standing → Made
with_wish made w s = record made { wishes = made.wishes ++ w ∷ [] }

abbrev pub with_writing : Made → List Sym → Standing → Made
with_writing made symbols s = record made { texts = made.texts ++ joined s.words symbols }

abbrev pub action_outcome : List Sym → List Goal → ℕ → ActionOf → Made → Standing → Outcome Made
action_outcome vars goals place (makes id attr value preference) made s = or_dropped place made (with_wish made) (wish_outcome vars goals id attr value preference s)
action_outcome vars goals place (writes values) made s = or_dropped place made (with_writing made) (values_outcome vars (values_of values) s)
action_outcome vars goals place halts made s = found (record made { halted = true }) s

abbrev pub actions_outcome : List Sym → List Goal → ℕ → List ActionOf → Made → Standing → Outcome Made
actions_outcome vars goals place [] made s = found made s
actions_outcome vars goals place (action ∷ actions) made s =
    then_on (action_outcome vars goals place action made s) (λ after last. actions_outcome vars goals (suc place) actions after last)

abbrev pub nothing_made : Made
nothing_made = record { wishes = []; texts = []; halted = false; dropped = [] }
