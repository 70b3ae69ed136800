-- A command, and what follows it.
use Rattle.std.proofs.Common.{◌≡◌, ℕ, ◌++◌, List, [], ◌∷◌, Bool, true, Option, Some, None, Result, Ok, Err, sym, ap, subst, ◌∙◌}
use Rattle.soar_edge.specs.Cutting.{Cut, whole, unfinished}
use Rattle.soar_edge.specs.Outside.{Appends}
use Rattle.soar_edge.specs.declared.filed.Filed.{Filed}
use Rattle.soar_edge.specs.declared.status.Status.TheVariants as status
use Rattle.soar_edge.proofs.CallerLemmas.{appends_then}
use Rattle.defs_run.specs.Orders.{unfinished_command}
use Rattle.defs_run.specs.Whole.{whole_stage}
use Rattle.defs_run.specs.Runs.{Run, Ran, after_reply, behind_text, obeyed, then_run}
use Rattle.defs_run.specs.Sessions.{Session}
use Rattle.defs_run.specs.Sources.{Obeying, after_sequel, command_run, cut_run, cuts_run, refused_run}
use Rattle.command_runs.specs.Carrying.{sequel_of}
use Rattle.command_runs.specs.Following.{Breaks, CarriesOut, IsAt, IsBehind, IsOn, IsOver, OpensFile, Steps, status_of_end}
use Rattle.command_runs.specs.Turning.{left_behind}
use Rattle.command_runs.specs.declared.carrier.Next.{Next}
use Rattle.command_runs.specs.declared.ends.Opened.{Opened}
use Rattle.command_runs.specs.declared.ends.Step.{Step}
use Rattle.command_runs.specs.declared.ends.Step.TheVariants as step
use Rattle.command_runs.specs.declared.fault.Fault.{Fault}
use Rattle.command_runs.specs.declared.progress.Progress.{Progress}
use Rattle.command_runs.proofs.FlowLemmas.{breaks_behind, breaks_then, on_behind, over_behind, over_then}
use Rattle.command_runs.proofs.RunLemmas.{behind_behind, then_on}

opens_behind : {C : Type 0} (held : Session → Type 0) (q : Progress C) (old mid now : Option (List ℕ)) (inner : Option Obeying) (done : List ℕ) (x : Ran) (file : Opened)
    → Appends old mid done → OpensFile held q mid now inner x file → OpensFile held q old now inner (behind_text done x) file
opens_behind held q old mid now inner done x file first o = record {
  run = o.run;
  text = done ++ o.text;
  obeying = o.obeying;
  inside = o.inside;
  appended = appends_then old mid now done o.text first o.appended;
  at_run = o.at_run;
  comes = ap (behind_text done) o.comes ∙ behind_behind done o.text _;
}

steps_behind : {C : Type 0} (held : Session → Type 0) (q : Progress C) (old mid now : Option (List ℕ)) (fails : Option ℕ) (inner : Option Obeying) (done : List ℕ) (x : Ran) (result : Result Step Fault)
    → Appends old mid done → Steps held q mid now fails inner x result → Steps held q old now fails inner (behind_text done x) result
steps_behind held q old mid now fails inner done x (Ok step.Goes) first on = on_behind held q old mid now done x first on
steps_behind held q old mid now fails inner done x (Ok (step.Ends e)) first over = over_behind old mid now (status_of_end e) done x first over
steps_behind held q old mid now fails inner done x (Ok (step.Opens file)) first opens = opens_behind held q old mid now inner done x file first opens
steps_behind held q old mid now fails inner done x (Err e) first broke = breaks_behind q.fetched old mid now fails done x e first broke

steps_next : {C : Type 0} (stands held : Session → Type 0) (p q : Progress C) (old mid now : Option (List ℕ)) (fails : Option ℕ) (inner : Option Obeying) (x : Ran) (f : Run → Ran) (result : Result Step Fault)
    → IsOn stands p old mid x → Steps held q mid now fails inner (f x.run) result → Steps held q old now fails inner (then_run x f) result
steps_next stands held p q old mid now fails inner x f result on later =
    subst (λ y. Steps held q old now fails inner y result) (sym (then_on x f on.at_run.goes)) (steps_behind held q old mid now fails inner x.text (f x.run) result on.text later)

-- ---- a command

-- one that is followed so
pub command_steps : {C : Type 0} (stands held : Session → Type 0) (p q : Progress C) (old mid now : Option (List ℕ)) (fails : Option ℕ) (inner : Option Obeying) (stock : List Filed) (from : List ℕ) (number : ℕ) (text : List ℕ) (r : Run) (o : Option Next) (n : Next) (result : Result Step Fault)
    → o ≡ Some n → CarriesOut stands p old mid fails from number text r (Ok o)
    → ((after : Run) → IsAt stands p after → Steps held q mid now fails inner (after_sequel inner fails stock from number (sequel_of n) after) result)
    → Steps held q old now fails inner (command_run whole_stage inner fails stock from number text r) result
command_steps stands held p q old mid now fails inner stock from number text r o n result is carries later =
    let x : Ran = after_reply r (obeyed whole_stage from number text r.session) in
    let carried = subst (λ m. CarriesOut stands p old mid fails from number text r (Ok m)) is carries in
    steps_next stands held p q old mid now fails inner x (after_sequel inner fails stock from number (obeyed whole_stage from number text r.session).sequel) result carried.0
    (subst (λ s. Steps held q mid now fails inner (after_sequel inner fails stock from number s x.run) result) (sym carried.1) (later x.run carried.0.at_run))

-- one that passes a limit
pub command_over : {C : Type 0} (stands : Session → Type 0) (p : Progress C) (old now : Option (List ℕ)) (fails : Option ℕ) (inner : Option Obeying) (stock : List Filed) (from : List ℕ) (number : ℕ) (text : List ℕ) (r : Run) (o : Option Next)
    → o ≡ None → CarriesOut stands p old now fails from number text r (Ok o) → IsOver old now status.Limit (command_run whole_stage inner fails stock from number text r)
command_over stands p old now fails inner stock from number text r o is carries =
    over_then old now status.Limit _ (after_sequel inner fails stock from number (obeyed whole_stage from number text r.session).sequel)
    (subst (λ m. CarriesOut stands p old now fails from number text r (Ok m)) is carries)

-- what follows, told otherwise
pub follows_so : {C : Type 0} (held : Session → Type 0) (q : Progress C) (old now : Option (List ℕ)) (fails : Option ℕ) (inner : Option Obeying) (stock : List Filed) (from : List ℕ) (number : ℕ) (n m : Next) (r : Run) (result : Result Step Fault)
    → n ≡ m → Steps held q old now fails inner (after_sequel inner fails stock from number (sequel_of m) r) result → Steps held q old now fails inner (after_sequel inner fails stock from number (sequel_of n) r) result
follows_so held q old now fails inner stock from number n m r result is steps =
    subst (λ k. Steps held q old now fails inner (after_sequel inner fails stock from number (sequel_of k) r) result) (sym is) steps

pub command_breaks : (n : ℕ) (old now : Option (List ℕ)) (fails : Option ℕ) (inner : Option Obeying) (stock : List Filed) (from : List ℕ) (number : ℕ) (text : List ℕ) (r : Run) (e : Fault)
    → Breaks n old now fails (after_reply r (obeyed whole_stage from number text r.session)) e → Breaks n old now fails (command_run whole_stage inner fails stock from number text r) e
command_breaks n old now fails inner stock from number text r e broke = breaks_then n old now fails _ (after_sequel inner fails stock from number (obeyed whole_stage from number text r.session).sequel) e broke

-- ---- the next command of a stream

-- the command that was taken off is this one
same_first : (c d : Cut) (left other : List Cut) → c ∷ left ≡ d ∷ other → c ≡ d
same_first c d left other is = cc

pub took_whole : {C : Type 0} (held : Session → Type 0) (q : Progress C) (old now : Option (List ℕ)) (fails : Option ℕ) (inner : Option Obeying) (stock : List Filed) (from : List ℕ) (number : ℕ) (text : List ℕ) (cuts left : List Cut) (r : Run) (s : Step)
    → cuts ≡ whole number text ∷ left → Steps held q old now fails inner (command_run whole_stage inner fails stock from number text r) (Ok s)
    → (c : Cut) → cuts ≡ c ∷ left → Steps held q old now fails inner (cut_run whole_stage inner fails stock from c r) (Ok s)
took_whole held q old now fails inner stock from number text cuts left r s first steps c taken =
    subst (λ d. Steps held q old now fails inner (cut_run whole_stage inner fails stock from d r) (Ok s)) (same_first (whole number text) c left left (sym first ∙ taken)) steps

pub whole_breaks : (n : ℕ) (old now : Option (List ℕ)) (fails : Option ℕ) (inner : Option Obeying) (stock : List Filed) (from : List ℕ) (number : ℕ) (text : List ℕ) (cuts left : List Cut) (r : Run) (e : Fault)
    → cuts ≡ whole number text ∷ left → Breaks n old now fails (command_run whole_stage inner fails stock from number text r) e
    → Breaks n old now fails (cuts_run whole_stage inner fails stock from cuts r) e
whole_breaks n old now fails inner stock from number text cuts left r e first broke =
    subst (λ cs. Breaks n old now fails (cuts_run whole_stage inner fails stock from cs r) e) (sym first)
    (breaks_then n old now fails (command_run whole_stage inner fails stock from number text r) (cuts_run whole_stage inner fails stock from left) e broke)

-- one that has no end is the last
pub last_refused : {C : Type 0} (held : Session → Type 0) (q : Progress C) (old now : Option (List ℕ)) (fails : Option ℕ) (inner : Option Obeying) (stock : List Filed) (from : List ℕ) (line : ℕ) (closed : Bool) (cuts left : List Cut) (r : Run)
    → closed ≡ true → cuts ≡ unfinished line ∷ [] → IsOn held q old now (refused_run unfinished_command from line r)
    → IsBehind held q old now (cuts_run whole_stage inner fails stock from (left_behind closed left)) (cuts_run whole_stage inner fails stock from cuts r)
last_refused held q old now fails inner stock from line closed cuts left r ended is on =
    let x : Ran = refused_run unfinished_command from line r in
    subst (λ b. IsBehind held q old now (cuts_run whole_stage inner fails stock from (left_behind b left)) (cuts_run whole_stage inner fails stock from cuts r)) (sym ended)
    (record {
      run = x.run;
      done = x.text;
      appended = on.text;
      at_run = on.at_run;
      comes = ap (λ cs. cuts_run whole_stage inner fails stock from cs r) is ∙ then_on x (cuts_run whole_stage inner fails stock from []) on.at_run.goes;
    })

pub last_breaks : (n : ℕ) (old now : Option (List ℕ)) (fails : Option ℕ) (inner : Option Obeying) (stock : List Filed) (from : List ℕ) (line : ℕ) (cuts : List Cut) (r : Run) (e : Fault)
    → cuts ≡ unfinished line ∷ [] → Breaks n old now fails (refused_run unfinished_command from line r) e → Breaks n old now fails (cuts_run whole_stage inner fails stock from cuts r) e
last_breaks n old now fails inner stock from line cuts r e is broke =
    subst (λ cs. Breaks n old now fails (cuts_run whole_stage inner fails stock from cs r) e) (sym is)
    (breaks_then n old now fails (refused_run unfinished_command from line r) (cuts_run whole_stage inner fails stock from []) e broke)
