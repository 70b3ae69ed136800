-- The files of the command line, one after another.
use Rattle.std.proofs.Common.{◌≡◌, ℕ, true, List, [], ◌∷◌, Option, Some, Result, Ok, refl, sym, ap, subst, ◌∙◌}
use Rattle.soar_edge.specs.declared.filed.Filed.{Filed}
use Rattle.defs_run.specs.Whole.{whole_stage}
use Rattle.defs_run.specs.Runs.{Run, Ran, behind_text, ran, then_run}
use Rattle.defs_run.specs.Sessions.{Session}
use Rattle.defs_run.specs.Sources.{Obeying, obeying, sourced}
use Rattle.defs_run.specs.Transcripts.{standard_input}
use Rattle.command_runs.specs.Following.{Breaks, Flows, IsAt, IsBehind, IsOn, IsOver, Steps, inner_of, status_of_end}
use Rattle.command_runs.specs.declared.ends.End.{End}
use Rattle.command_runs.specs.declared.ends.Flow.{Flow}
use Rattle.command_runs.specs.declared.ends.Flow.TheVariants as flow
use Rattle.command_runs.specs.declared.ends.Opened.{Opened}
use Rattle.command_runs.specs.declared.ends.Step.{Step}
use Rattle.command_runs.specs.declared.ends.Step.TheVariants as step
use Rattle.command_runs.specs.declared.fault.Fault.{Fault}
use Rattle.command_runs.specs.declared.progress.Progress.{Progress}
use Rattle.command_runs.proofs.FlowLemmas.{flows_behind, nothing_written, rest_behind, told_so}
use Rattle.command_runs.specs.Whole.{file_of, files_of}

pub files_next : (fails : Option ℕ) (stock : List Filed) (name : List ℕ) (names : List (List ℕ)) (r : Run)
    → files_of fails stock (name ∷ names) r ≡ then_run (file_of fails stock name r) (files_of fails stock names)
unfolding files_of file_of
files_next fails stock name names r = refl

pub files_end : (fails : Option ℕ) (stock : List Filed) (r : Run) → files_of fails stock [] r ≡ ran r
unfolding files_of
files_end fails stock r = refl

-- ---- one file

-- what a file leads to, where none of its commands are left
pub file_ends_so : {C : Type 0} (held : Session → Type 0) (q : Progress C) (old now : Option (List ℕ)) (fails : Option ℕ) (stock : List Filed) (name : List ℕ) (r : Run) (s : Step) (e : End) → s ≡ step.Ends e
    → Steps held q old now fails (inner_of fails stock 16) (sourced (inner_of fails stock 16) fails stock standard_input 0 name r) (Ok s) → IsOver old now (status_of_end e) (file_of fails stock name r)
unfolding file_of
file_ends_so held q old now fails stock name r s e is steps =
    subst (λ t. Steps held q old now fails (inner_of fails stock 16) (sourced (inner_of fails stock 16) fails stock standard_input 0 name r) (Ok t)) is steps

pub file_goes_so : {C : Type 0} (held : Session → Type 0) (q : Progress C) (old now : Option (List ℕ)) (fails : Option ℕ) (stock : List Filed) (name : List ℕ) (r : Run) (s : Step) → s ≡ step.Goes
    → Steps held q old now fails (inner_of fails stock 16) (sourced (inner_of fails stock 16) fails stock standard_input 0 name r) (Ok s) → IsOn held q old now (file_of fails stock name r)
unfolding file_of
file_goes_so held q old now fails stock name r s is steps =
    subst (λ t. Steps held q old now fails (inner_of fails stock 16) (sourced (inner_of fails stock 16) fails stock standard_input 0 name r) (Ok t)) is steps

pub file_breaks_so : (n : ℕ) (old now : Option (List ℕ)) (fails : Option ℕ) (stock : List Filed) (name : List ℕ) (r : Run) (e : Fault)
    → Breaks n old now fails (sourced (inner_of fails stock 16) fails stock standard_input 0 name r) e → Breaks n old now fails (file_of fails stock name r) e
unfolding file_of
file_breaks_so n old now fails stock name r e broke = broke

-- it is one that is read
inside_of : (fails : Option ℕ) (stock : List Filed) (o : Obeying) → inner_of fails stock 16 ≡ Some o → o ≡ obeying whole_stage fails stock 15
inside_of fails stock o is = let same : Some (obeying whole_stage fails stock 15) ≡ Some o = is in sym (cc same)

pub file_opens_so : {C : Type 0} (stands held : Session → Type 0) (p q : Progress C) (old mid now : Option (List ℕ)) (fails : Option ℕ) (stock : List Filed) (name : List ℕ) (r : Run) (s : Step) (file : Opened) (result : Result Flow Fault) → s ≡ step.Opens file
    → Steps stands p old mid fails (inner_of fails stock 16) (sourced (inner_of fails stock 16) fails stock standard_input 0 name r) (Ok s)
    → ((run : Run) → IsAt stands p run → Flows held q mid now fails (obeying whole_stage fails stock 15 file.name true file.bytes run) result)
    → Flows held q old now fails (file_of fails stock name r) result
unfolding file_of
file_opens_so stands held p q old mid now fails stock name r s file result is steps later =
    let o = subst (λ t. Steps stands p old mid fails (inner_of fails stock 16) (sourced (inner_of fails stock 16) fails stock standard_input 0 name r) (Ok t)) is steps in
    subst (λ x. Flows held q old now fails x result)
    (sym (o.comes ∙ ap (λ (f : Obeying). behind_text o.text (f file.name true file.bytes o.run)) (inside_of fails stock o.obeying o.inside)))
    (flows_behind held q old mid now fails o.text (obeying whole_stage fails stock 15 file.name true file.bytes o.run) result o.appended (later o.run o.at_run))

-- ---- one file after another

-- the first of the files that are left, and those behind it
pub next_file : {C : Type 0} (stands : Session → Type 0) (p : Progress C) (old now : Option (List ℕ)) (fails : Option ℕ) (stock : List Filed) (names : List (List ℕ)) (name : List ℕ) (rest : List (List ℕ)) (whole : Ran)
    → names ≡ name ∷ rest → IsBehind stands p old now (files_of fails stock names) whole → IsBehind stands p old now (λ r. then_run (file_of fails stock name r) (files_of fails stock rest)) whole
next_file stands p old now fails stock names name rest whole is b =
    told_so stands p old now (files_of fails stock (name ∷ rest)) (λ r. then_run (file_of fails stock name r) (files_of fails stock rest)) whole (λ r. files_next fails stock name rest r)
    (subst (λ l. IsBehind stands p old now (files_of fails stock l) whole) is b)

-- none is left
pub no_file_left : {C : Type 0} (stands : Session → Type 0) (p : Progress C) (old now : Option (List ℕ)) (fails : Option ℕ) (stock : List Filed) (names : List (List ℕ)) (whole : Ran)
    → names ≡ [] → IsBehind stands p old now (files_of fails stock names) whole → IsOn stands p old now whole
no_file_left stands p old now fails stock names whole is b =
    let c = subst (λ l. IsBehind stands p old now (files_of fails stock l) whole) is b in
    rest_behind stands stands p p old now now fails (files_of fails stock []) whole (Ok flow.Goes) c
    (subst (IsOn stands p now now) (sym (files_end fails stock c.run)) (record { text = nothing_written now; at_run = c.at_run }))
