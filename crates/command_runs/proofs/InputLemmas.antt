-- The commands of an input, all of them or those within a front of it.
use Rattle.std.proofs.Common.{◌≡◌, ℕ, ◌^◌, Bool, true, false, not, nat_lt, List, length, take, Option, Result, refl, sym, ap, subst, ◌∙◌}
use Rattle.std.specs.Prelude.{if◌then◌else◌}
use Rattle.std.proofs.lemmas.List.{append-nil}
use Rattle.soar_edge.specs.Outside.{Appends}
use Rattle.soar_edge.specs.declared.filed.Filed.{Filed}
use Rattle.soar_edge.specs.declared.status.Status.{Status}
use Rattle.soar_edge.specs.declared.status.Status.TheVariants as status
use Rattle.defs_run.specs.Whole.{whole_stage}
use Rattle.defs_run.specs.Runs.{Run, Ran, ended_as, ran, then_run}
use Rattle.defs_run.specs.Sessions.{Session}
use Rattle.defs_run.specs.Sources.{obeying}
use Rattle.defs_run.specs.Transcripts.{standard_input}
use Rattle.command_runs.specs.Following.{Breaks, Flows, IsOn, IsOver}
use Rattle.command_runs.specs.Whole.{commands_of, input_of}
use Rattle.command_runs.specs.declared.ends.Flow.{Flow}
use Rattle.command_runs.specs.declared.fault.Fault.{Fault}
use Rattle.command_runs.specs.declared.progress.Progress.{Progress}
use Rattle.command_runs.proofs.FlowLemmas.{breaks_then, over_then}
use Rattle.command_runs.proofs.RunLemmas.{then_on}

-- a front of a longer input ends the run
abbrev pub too_long_end : Run → Ran
too_long_end next = ran (ended_as status.TooLong next)

-- the run of an input that is longer than what is run, or not
abbrev pub input_by : Option ℕ → List Filed → List ℕ → Run → Bool → Ran
input_by fails stock input r long =
    if long then then_run (commands_of fails stock false (take (2 ^ 26) input) r) too_long_end else commands_of fails stock true input r

pub input_is : (fails : Option ℕ) (stock : List Filed) (input : List ℕ) (r : Run) → input_of fails stock input r ≡ input_by fails stock input r (nat_lt (2 ^ 26) (length input))
unfolding input_of commands_of
input_is fails stock input r = refl

abbrev pub front_by : List ℕ → Bool → List ℕ
front_by input long = if long then take (2 ^ 26) input else input

-- ---- an input, by its commands or by those within a front of it

abbrev pub is_longer : List ℕ → Bool
is_longer input = nat_lt (2 ^ 26) (length input)

over_by : (old now : Option (List ℕ)) (s : Status) (fails : Option ℕ) (stock : List Filed) (input : List ℕ) (r : Run) (long : Bool)
    → IsOver old now s (commands_of fails stock (not long) (front_by input long) r) → IsOver old now s (input_by fails stock input r long)
over_by old now s fails stock input r true over = over_then old now s _ too_long_end over
over_by old now s fails stock input r false over = over

breaks_by : (n : ℕ) (old now : Option (List ℕ)) (fails : Option ℕ) (stock : List Filed) (input : List ℕ) (r : Run) (e : Fault) (long : Bool)
    → Breaks n old now fails (commands_of fails stock (not long) (front_by input long) r) e → Breaks n old now fails (input_by fails stock input r long) e
breaks_by n old now fails stock input r e true broke = breaks_then n old now fails _ too_long_end e broke
breaks_by n old now fails stock input r e false broke = broke

-- they end the run
pub input_over : (old now : Option (List ℕ)) (s : Status) (fails : Option ℕ) (stock : List Filed) (input : List ℕ) (r : Run)
    → IsOver old now s (commands_of fails stock (not (is_longer input)) (front_by input (is_longer input)) r) → IsOver old now s (input_of fails stock input r)
input_over old now s fails stock input r over = subst (IsOver old now s) (sym (input_is fails stock input r)) (over_by old now s fails stock input r (is_longer input) over)

-- something fails in them
pub input_breaks : (n : ℕ) (old now : Option (List ℕ)) (fails : Option ℕ) (stock : List Filed) (input : List ℕ) (r : Run) (e : Fault)
    → Breaks n old now fails (commands_of fails stock (not (is_longer input)) (front_by input (is_longer input)) r) e → Breaks n old now fails (input_of fails stock input r) e
input_breaks n old now fails stock input r e broke = subst (λ x. Breaks n old now fails x e) (sym (input_is fails stock input r)) (breaks_by n old now fails stock input r e (is_longer input) broke)

-- an input that is not longer goes on behind its commands
pub input_on : {C : Type 0} (held : Session → Type 0) (q : Progress C) (old now : Option (List ℕ)) (fails : Option ℕ) (stock : List Filed) (input : List ℕ) (r : Run)
    → is_longer input ≡ false → IsOn held q old now (commands_of fails stock true input r) → IsOn held q old now (input_of fails stock input r)
input_on held q old now fails stock input r short on = subst (IsOn held q old now) (sym (input_is fails stock input r ∙ ap (input_by fails stock input r) short)) on

-- a longer one ends the run behind those of its front
pub input_closed : {C : Type 0} (held : Session → Type 0) (q : Progress C) (old now : Option (List ℕ)) (fails : Option ℕ) (stock : List Filed) (input : List ℕ) (r : Run)
    → is_longer input ≡ true → IsOn held q old now (commands_of fails stock false (take (2 ^ 26) input) r) → IsOver old now status.TooLong (input_of fails stock input r)
input_closed held q old now fails stock input r long on =
    let x : Ran = commands_of fails stock false (take (2 ^ 26) input) r in
    subst (IsOver old now status.TooLong) (sym (input_is fails stock input r ∙ ap (input_by fails stock input r) long))
    (subst (IsOver old now status.TooLong) (sym (then_on x too_long_end on.at_run.goes)) (record { text = subst (Appends old now) (sym (append-nil x.text)) on.text; ended = refl }))

-- the commands of standard input are those of a stream
pub commands_flows : {C : Type 0} (held : Session → Type 0) (q : Progress C) (old now : Option (List ℕ)) (fails : Option ℕ) (stock : List Filed) (bytes : List ℕ) (r : Run) (result : Result Flow Fault)
    → Flows held q old now fails (obeying whole_stage fails stock 16 standard_input true bytes r) result → Flows held q old now fails (commands_of fails stock true bytes r) result
unfolding commands_of
commands_flows held q old now fails stock bytes r result flows = flows
