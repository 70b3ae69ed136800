-- How far the code has gone, after one part of a run and then the next.
use Rattle.std.proofs.Common.{◌≡◌, ℕ, ◌≤◌, List, [], ◌++◌, Option, Some, None, Result, Ok, Err, refl, sym, ap, subst, ◌∙◌, arith}
use Rattle.std.specs.Prelude.{IfSome}
use Rattle.std.proofs.lemmas.List.{append-nil}
use Rattle.soar_edge.specs.Outside.{Appends, AppendsSome}
use Rattle.soar_edge.specs.declared.status.Status.{Status}
use Rattle.soar_edge.specs.declared.status.Status.TheVariants as status
use Rattle.soar_edge.proofs.CallerLemmas.{appends_then, appends_some_then}
use Rattle.defs_run.specs.Runs.{Run, Ran, behind_text, ran, then_run}
use Rattle.defs_run.specs.Sessions.{Session}
use Rattle.command_runs.specs.Causes.{Fetched}
use Rattle.command_runs.specs.Following.{Breaks, Comes, Flows, FlowsTo, IsAt, IsBehind, IsOn, IsOver, status_of_end}
use Rattle.command_runs.specs.declared.ends.Flow.{Flow}
use Rattle.command_runs.specs.declared.ends.Flow.TheVariants as flow
use Rattle.command_runs.specs.declared.fault.Fault.{Fault}
use Rattle.command_runs.specs.declared.fault.Fault.TheVariants as fault
use Rattle.command_runs.specs.declared.progress.Progress.{Progress}
use Rattle.command_runs.proofs.RunLemmas.{behind_behind, front_of_then, then_on, then_over}

-- ---- writes

pub nothing_written : (o : Option (List ℕ)) → Appends o o []
nothing_written None = tt
nothing_written (Some before) = ap Some (sym (append-nil before))

pub none_of : (o : Option (List ℕ)) (text : List ℕ) → AppendsSome o o text
none_of None text = tt
none_of (Some before) text = (0, omega arith, ap Some (sym (append-nil before)))

-- what was written is some of what comes with more
pub front_written : (old now : Option (List ℕ)) (text more : List ℕ) → Appends old now text → AppendsSome old now (text ++ more)
front_written old now text more all = appends_some_then old now now text [] more all (none_of now [])

some_more : (old now : Option (List ℕ)) (text more : List ℕ) → AppendsSome old now text → AppendsSome old now (text ++ more)
some_more old now text more some = appends_some_then old old now [] text more (nothing_written old) some

pub all_is_some : (old now : Option (List ℕ)) (text : List ℕ) → Appends old now text → AppendsSome old now text
all_is_some old now text all = subst (AppendsSome old now) (append-nil text) (front_written old now text [] all)

-- ---- the next part

pub over_then : (old now : Option (List ℕ)) (s : Status) (x : Ran) (f : Run → Ran) → IsOver old now s x → IsOver old now s (then_run x f)
over_then old now s x f over = subst (IsOver old now s) (sym (then_over x f s over.ended)) over

some_then : (old now : Option (List ℕ)) (x : Ran) (f : Run → Ran) → AppendsSome old now x.text → AppendsSome old now (then_run x f).text
some_then old now x f some = let front = front_of_then x f in subst (AppendsSome old now) (sym front.1) (some_more old now x.text front.0 some)

pub breaks_then : (n : ℕ) (old now : Option (List ℕ)) (fails : Option ℕ) (x : Ran) (f : Run → Ran) (e : Fault) → Breaks n old now fails x e → Breaks n old now fails (then_run x f) e
breaks_then n old now fails x f fault.Shelf cut = record { front = some_then old now x f cut.front; whole = λ it. over_then old now status.FileFault x f (cut.whole it) }
breaks_then n old now fails x f fault.Sink some = some_then old now x f some
breaks_then n old now fails x f fault.NoMemory some = some_then old now x f some

-- ---- behind text

pub on_behind : {C : Type 0} (stands : Session → Type 0) (p : Progress C) (old mid now : Option (List ℕ)) (done : List ℕ) (x : Ran)
    → Appends old mid done → IsOn stands p mid now x → IsOn stands p old now (behind_text done x)
on_behind stands p old mid now done x first on = record { text = appends_then old mid now done x.text first on.text; at_run = on.at_run }

pub over_behind : (old mid now : Option (List ℕ)) (s : Status) (done : List ℕ) (x : Ran) → Appends old mid done → IsOver mid now s x → IsOver old now s (behind_text done x)
over_behind old mid now s done x first over = record { text = appends_then old mid now done x.text first over.text; ended = over.ended }

pub some_behind : (old mid now : Option (List ℕ)) (done : List ℕ) (x : Ran) → Appends old mid done → AppendsSome mid now x.text → AppendsSome old now (behind_text done x).text
some_behind old mid now done x first some =
    subst (λ t. AppendsSome old now (done ++ t)) (append-nil x.text) (appends_some_then old mid now done x.text [] first some)

pub breaks_behind : (n : ℕ) (old mid now : Option (List ℕ)) (fails : Option ℕ) (done : List ℕ) (x : Ran) (e : Fault)
    → Appends old mid done → Breaks n mid now fails x e → Breaks n old now fails (behind_text done x) e
breaks_behind n old mid now fails done x fault.Shelf first cut =
    record { front = some_behind old mid now done x first cut.front; whole = λ it. over_behind old mid now status.FileFault done x first (cut.whole it) }
breaks_behind n old mid now fails done x fault.Sink first some = some_behind old mid now done x first some
breaks_behind n old mid now fails done x fault.NoMemory first some = some_behind old mid now done x first some

pub flows_behind : {C : Type 0} (stands : Session → Type 0) (p : Progress C) (old mid now : Option (List ℕ)) (fails : Option ℕ) (done : List ℕ) (x : Ran) (result : Result Flow Fault)
    → Appends old mid done → Flows stands p mid now fails x result → Flows stands p old now fails (behind_text done x) result
flows_behind stands p old mid now fails done x (Ok flow.Goes) first on = on_behind stands p old mid now done x first on
flows_behind stands p old mid now fails done x (Ok (flow.Ends e)) first over = over_behind old mid now (status_of_end e) done x first over
flows_behind stands p old mid now fails done x (Err e) first broke = breaks_behind p.fetched old mid now fails done x e first broke

-- ---- one part and the next

-- behind a part that goes on
pub flows_next : {C : Type 0} (stands held : Session → Type 0) (p q : Progress C) (old mid now : Option (List ℕ)) (fails : Option ℕ) (x : Ran) (f : Run → Ran) (result : Result Flow Fault)
    → IsOn stands p old mid x → Flows held q mid now fails (f x.run) result → Flows held q old now fails (then_run x f) result
flows_next stands held p q old mid now fails x f result on later =
    subst (λ y. Flows held q old now fails y result) (sym (then_on x f on.at_run.goes)) (flows_behind held q old mid now fails x.text (f x.run) result on.text later)

-- ---- a loop over parts

pub starts : {C : Type 0} (stands : Session → Type 0) (p : Progress C) (old : Option (List ℕ)) (rest : Run → Ran) (r : Run) → IsAt stands p r → IsBehind stands p old old rest (rest r)
starts stands p old rest r at = record { run = r; done = []; appended = nothing_written old; at_run = at; comes = refl }

-- the same rest, told otherwise
pub told_so : {C : Type 0} (stands : Session → Type 0) (p : Progress C) (old now : Option (List ℕ)) (rest other : Run → Ran) (whole : Ran)
    → ((r : Run) → rest r ≡ other r) → IsBehind stands p old now rest whole → IsBehind stands p old now other whole
told_so stands p old now rest other whole same b =
    record { run = b.run; done = b.done; appended = b.appended; at_run = b.at_run; comes = b.comes ∙ ap (behind_text b.done) (same b.run) }

-- the first part of the rest goes on
pub goes_behind : {C : Type 0} (stands held : Session → Type 0) (p q : Progress C) (old mid now : Option (List ℕ)) (first later : Run → Ran) (whole : Ran)
    → (b : IsBehind stands p old mid (λ r. then_run (first r) later) whole) → IsOn held q mid now (first b.run) → IsBehind held q old now later whole
goes_behind stands held p q old mid now first later whole b on =
    let x : Ran = first b.run in
    record {
      run = x.run;
      done = b.done ++ x.text;
      appended = appends_then old mid now b.done x.text b.appended on.text;
      at_run = on.at_run;
      comes = b.comes ∙ ap (behind_text b.done) (then_on x later on.at_run.goes) ∙ behind_behind b.done x.text (later x.run);
    }

-- it ends the run
pub ends_behind : {C : Type 0} (stands : Session → Type 0) (p : Progress C) (old mid now : Option (List ℕ)) (s : Status) (first later : Run → Ran) (whole : Ran)
    → (b : IsBehind stands p old mid (λ r. then_run (first r) later) whole) → IsOver mid now s (first b.run) → IsOver old now s whole
ends_behind stands p old mid now s first later whole b over =
    subst (IsOver old now s) (sym b.comes) (over_behind old mid now s b.done _ b.appended (over_then mid now s (first b.run) later over))

-- it breaks off
pub breaks_off : {C : Type 0} (stands : Session → Type 0) (p : Progress C) (n : ℕ) (old mid now : Option (List ℕ)) (fails : Option ℕ) (first later : Run → Ran) (whole : Ran) (e : Fault)
    → (b : IsBehind stands p old mid (λ r. then_run (first r) later) whole) → Breaks n mid now fails (first b.run) e → Breaks n old now fails whole e
breaks_off stands p n old mid now fails first later whole e b broke =
    subst (λ y. Breaks n old now fails y e) (sym b.comes) (breaks_behind n old mid now fails b.done _ e b.appended (breaks_then n mid now fails (first b.run) later e broke))

-- all the rest
pub rest_behind : {C : Type 0} (stands held : Session → Type 0) (p q : Progress C) (old mid now : Option (List ℕ)) (fails : Option ℕ) (rest : Run → Ran) (whole : Ran) (result : Result Flow Fault)
    → (b : IsBehind stands p old mid rest whole) → Flows held q mid now fails (rest b.run) result → Flows held q old now fails whole result
rest_behind stands held p q old mid now fails rest whole result b later =
    subst (λ y. Flows held q old now fails y result) (sym b.comes) (flows_behind held q old mid now fails b.done (rest b.run) result b.appended later)

pub rest_breaks : {C : Type 0} (stands : Session → Type 0) (p : Progress C) (n : ℕ) (old mid now : Option (List ℕ)) (fails : Option ℕ) (rest : Run → Ran) (whole : Ran) (e : Fault)
    → (b : IsBehind stands p old mid rest whole) → Breaks n mid now fails (rest b.run) e → Breaks n old now fails whole e
rest_breaks stands p n old mid now fails rest whole e b broke =
    subst (λ y. Breaks n old now fails y e) (sym b.comes) (breaks_behind n old mid now fails b.done (rest b.run) e b.appended broke)

-- memory ran out before it
pub memory_breaks : {C : Type 0} (stands : Session → Type 0) (p : Progress C) (n : ℕ) (old now : Option (List ℕ)) (fails : Option ℕ) (rest : Run → Ran) (whole : Ran) → IsBehind stands p old now rest whole → Breaks n old now fails whole fault.NoMemory
memory_breaks stands p n old now fails rest whole b = rest_breaks stands p n old now now fails rest whole fault.NoMemory b (none_of now (rest b.run).text)

-- up to where a later rest begins
pub to_behind : {C : Type 0} (stands held : Session → Type 0) (p q : Progress C) (old mid now : Option (List ℕ)) (fails : Option ℕ) (rest later : Run → Ran) (whole : Ran) (result : Result Flow Fault)
    → (b : IsBehind stands p old mid rest whole) → FlowsTo held q mid now fails later (rest b.run) result → FlowsTo held q old now fails later whole result
to_behind stands held p q old mid now fails rest later whole (Ok flow.Goes) b to = record {
  run = to.run;
  done = b.done ++ to.done;
  appended = appends_then old mid now b.done to.done b.appended to.appended;
  at_run = to.at_run;
  comes = b.comes ∙ ap (behind_text b.done) to.comes ∙ behind_behind b.done to.done (later to.run);
}
to_behind stands held p q old mid now fails rest later whole (Ok (flow.Ends e)) b over =
    subst (IsOver old now (status_of_end e)) (sym b.comes) (over_behind old mid now (status_of_end e) b.done (rest b.run) b.appended over)
to_behind stands held p q old mid now fails rest later whole (Err e) b broke = rest_breaks stands p q.fetched old mid now fails rest whole e b broke

-- behind which nothing is left
pub on_so : {C : Type 0} (stands : Session → Type 0) (p : Progress C) (old now : Option (List ℕ)) (whole : Ran) → IsBehind stands p old now ran whole → IsOn stands p old now whole
on_so stands p old now whole b =
    subst (IsOn stands p old now) (sym b.comes) (record { text = subst (Appends old now) (sym (append-nil b.done)) b.appended; at_run = b.at_run })

pub flows_so : {C : Type 0} (stands : Session → Type 0) (p : Progress C) (old now : Option (List ℕ)) (fails : Option ℕ) (whole : Ran) (result : Result Flow Fault) → FlowsTo stands p old now fails ran whole result → Flows stands p old now fails whole result
flows_so stands p old now fails whole (Ok flow.Goes) b = on_so stands p old now whole b
flows_so stands p old now fails whole (Ok (flow.Ends e)) over = over
flows_so stands p old now fails whole (Err e) broke = broke

-- ---- fetches

pub comes_before : (fails : Option ℕ) (n m : ℕ) → n ≤ m → Comes fails m → Comes fails n
comes_before None n m less comes = tt
comes_before (Some k) n m less comes = omega (arith, less, comes)

pub fetched_then : (a b c : ℕ) (first mid last : Option ℕ) → Fetched a b first mid → Fetched b c mid last → Fetched a c first last
fetched_then a b c first mid last before after = record {
  later = omega (arith, before.later, after.later);
  most = λ few. after.most (before.most few);
  counted = λ n is. after.counted n (before.counted n is);
}

pub none_fetched : (a : ℕ) (shelf : Option ℕ) → Fetched a a shelf shelf
none_fetched a shelf = record { later = omega arith; most = λ few. few; counted = λ n is. is }

-- ---- what is told

pub of_some : {A : Type 0} (P : A → Type 0) (o : Option A) (x : A) → o ≡ Some x → IfSome o P → P x
of_some P o x is holds = subst (λ p. IfSome p P) is holds
