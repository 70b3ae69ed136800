-- The clauses of a whole run.
use Rattle.std.proofs.Common.{◌≡◌, ℕ, suc, ◌<◌, ◌≤◌, false, List, Option, Some, None, Result, Ok, Err, sym, ap, subst, ◌∙◌, ◌⊎◌, inl, inr, arith}
use Rattle.std.specs.Prelude.{IfSome}
use Rattle.soar_edge.specs.Outside.{AppendsSome}
use Rattle.soar_edge.specs.declared.filed.Filed.{Filed}
use Rattle.soar_edge.specs.declared.status.Status.{Status}
use Rattle.soar_edge.specs.declared.status.Status.TheVariants as status
use Rattle.defs_run.specs.CommandLine.{Options}
use Rattle.defs_run.specs.Runs.{Run}
use Rattle.defs_run.specs.Sessions.{Session}
use Rattle.defs_run.specs.Transcripts.{first_run}
use Rattle.command_runs.specs.Answers.{Answers, EndsAtFetch, EndsAtRead, IsComplete, IsLeft, IsTranscript, LeavesBy, StopsAtRead, told_status}
use Rattle.command_runs.specs.Causes.{Caused, Faults, Fetched, counted_on}
use Rattle.command_runs.specs.Following.{IsAt}
use Rattle.command_runs.specs.Lengths.{IsTooLong}
use Rattle.command_runs.specs.Whole.{IsAsked, asked_run, front_run, level_of, whole_transcript}
use Rattle.command_runs.specs.declared.ends.Flow.{Flow}
use Rattle.command_runs.specs.declared.fault.Broken.{Broken}
use Rattle.command_runs.specs.declared.fault.Broken.TheVariants as broken
use Rattle.command_runs.specs.declared.fault.Fault.TheVariants as fault
use Rattle.command_runs.specs.declared.progress.Progress.{Progress}
use Rattle.command_runs.proofs.WholeLemmas.{Below, LeftAlong, Told, answers_of, at_start, complete_of, for_both, for_each, headline_of, left_asked, long_of, over_fetch, prefix_of, read_along, read_asked, read_of, runs_asked, transcript_is}

below_next : (n : ℕ) → n < suc n
below_next n = omega arith

few : (n : ℕ) → n ≡ 0 → n ≤ 1000
few n is = omega (arith, is)

pub headline_told : {C : Type 0} (stands held : Session → Type 0) (p q : Progress C) (old now : Option (List ℕ)) (files : Option (List Filed)) (left : Option (List ℕ)) (generate : Option ℕ) (names : List (List ℕ)) (how : Result Flow Broken) (answer : Status) (before after : Faults) → p.refused ≡ false → p.fetched ≡ 0 → answer ≡ told_status how q.refused → Below before → Caused before after how → IfSome left (Told stands held p q old now files generate names how)
    → IfSome left (λ bytes. (stock : List Filed) → files ≡ Some stock → (o : Options) → IsAsked stands o generate names → after.source ≡ before.source → after.shelf ≡ before.shelf → after.sink ≡ before.sink
    → (answer ≡ status.NoMemory → ⊥) → IsTranscript old now answer (whole_transcript None stock bytes o))
headline_told stands held p q old now files left generate names how answer before after none no_fetch is below cause =
    for_each left (Told stands held p q old now files generate names how) _ (λ bytes tells stock told o asked source shelf sink some.
    subst (λ a. IsTranscript old now a (whole_transcript None stock bytes o)) (sym is)
    (headline_of held q old now before after (asked_run None stock bytes o) (whole_transcript None stock bytes o) how (transcript_is None stock bytes o) below cause (source, shelf, sink)
    (runs_asked stands held p q old now files generate names how bytes none no_fetch tells stock told o asked None tt) (λ e. some (is ∙ e))))

pub prefix_told : {C : Type 0} (stands held : Session → Type 0) (p q : Progress C) (old now : Option (List ℕ)) (files : Option (List Filed)) (left : Option (List ℕ)) (generate : Option ℕ) (names : List (List ℕ)) (how : Result Flow Broken) (answer : Status) → p.refused ≡ false → p.fetched ≡ 0 → answer ≡ told_status how q.refused → IfSome left (Told stands held p q old now files generate names how)
    → IfSome left (λ bytes. (stock : List Filed) → files ≡ Some stock → (o : Options) → IsAsked stands o generate names → AppendsSome old now (whole_transcript None stock bytes o).text)
prefix_told stands held p q old now files left generate names how answer none no_fetch is =
    for_each left (Told stands held p q old now files generate names how) _ (λ bytes tells stock told o asked.
    prefix_of held q old now (asked_run None stock bytes o) (whole_transcript None stock bytes o) how (transcript_is None stock bytes o) (runs_asked stands held p q old now files generate names how bytes none no_fetch tells stock told o asked None tt))

pub long_told : {C : Type 0} (stands held : Session → Type 0) (p q : Progress C) (old now : Option (List ℕ)) (files : Option (List Filed)) (left : Option (List ℕ)) (generate : Option ℕ) (names : List (List ℕ)) (how : Result Flow Broken) (answer : Status) → p.refused ≡ false → p.fetched ≡ 0 → answer ≡ told_status how q.refused → IfSome left (Told stands held p q old now files generate names how)
    → IfSome left (λ bytes. (stock : List Filed) → files ≡ Some stock → (o : Options) → IsAsked stands o generate names → answer ≡ status.TooLong → IsTooLong o.generate stock bytes)
long_told stands held p q old now files left generate names how answer none no_fetch is =
    for_each left (Told stands held p q old now files generate names how) _ (λ bytes tells stock told o asked long. long_of held q old now stock bytes o how (runs_asked stands held p q old now files generate names how bytes none no_fetch tells stock told o asked None tt) (sym is ∙ long))

pub complete_told : {C : Type 0} (stands held : Session → Type 0) (p q : Progress C) (old now : Option (List ℕ)) (files : Option (List Filed)) (left : Option (List ℕ)) (generate : Option ℕ) (names : List (List ℕ)) (how : Result Flow Broken) (answer : Status) (before after : Faults) → p.refused ≡ false → p.fetched ≡ 0 → answer ≡ told_status how q.refused → Below before → Caused before after how → IfSome left (Told stands held p q old now files generate names how)
    → IfSome left (λ bytes. (stock : List Filed) → files ≡ Some stock → (o : Options) → IsAsked stands o generate names
    → ((whole_transcript None stock bytes o).status ≡ status.Limit → ⊥) → ((whole_transcript None stock bytes o).status ≡ status.TooLong → ⊥)
    → after.source ≡ before.source → after.shelf ≡ before.shelf → after.sink ≡ before.sink → IsComplete answer)
complete_told stands held p q old now files left generate names how answer before after none no_fetch is below cause =
    for_each left (Told stands held p q old now files generate names how) _ (λ bytes tells stock told o asked free short source shelf sink.
    subst IsComplete (sym is)
    (complete_of held q old now before after (asked_run None stock bytes o) (whole_transcript None stock bytes o) how (transcript_is None stock bytes o) below cause (source, shelf, sink) (runs_asked stands held p q old now files generate names how bytes none no_fetch tells stock told o asked None tt) free short))

pub fetch_told : {C : Type 0} (stands held : Session → Type 0) (p q : Progress C) (old now : Option (List ℕ)) (files : Option (List Filed)) (left : Option (List ℕ)) (generate : Option ℕ) (names : List (List ℕ)) (how : Result Flow Broken) (answer : Status) (first_fetched last_fetched : Option ℕ) → p.refused ≡ false → p.fetched ≡ 0 → answer ≡ told_status how q.refused → Fetched p.fetched q.fetched first_fetched last_fetched → IfSome left (Told stands held p q old now files generate names how)
    → IfSome left (λ bytes. (stock : List Filed) → files ≡ Some stock → (o : Options) → IsAsked stands o generate names → (n : ℕ) → first_fetched ≡ Some n → answer ≡ status.FileFault
    → EndsAtFetch old now n last_fetched (λ number. whole_transcript (Some number) stock bytes o))
fetch_told stands held p q old now files left generate names how answer first_fetched last_fetched none no_fetch is fetched =
    for_each left (Told stands held p q old now files generate names how) _ (λ bytes tells stock told o asked n counts fault. record {
      count = q.fetched;
      few = fetched.most (few p.fetched no_fetch);
      counted = fetched.counted n (counts ∙ ap (counted_on n) (sym no_fetch));
      written = over_fetch held q old now (asked_run (Some (suc q.fetched)) stock bytes o) (whole_transcript (Some (suc q.fetched)) stock bytes o) how (transcript_is (Some (suc q.fetched)) stock bytes o)
          (runs_asked stands held p q old now files generate names how bytes none no_fetch tells stock told o asked (Some (suc q.fetched)) (below_next q.fetched)) (sym is ∙ fault);
    })

pub read_told : {C : Type 0} (stands : Session → Type 0) (p q : Progress C) (old now : Option (List ℕ)) (files : Option (List Filed)) (left : Option (List ℕ)) (generate : Option ℕ) (names : List (List ℕ)) (how : Result Flow Broken) (answer : Status) (rest : Option (List ℕ)) → p.refused ≡ false → p.fetched ≡ 0 → answer ≡ told_status how q.refused
    → IfSome left (λ bytes. (stock : List Filed) → files ≡ Some stock → (r : Run) → IsAt stands p r → StopsAtRead generate old now bytes rest (read_along stock names r) how)
    → IfSome left (λ bytes. (stock : List Filed) → files ≡ Some stock → (o : Options) → IsAsked stands o generate names → answer ≡ status.ReadFault
    → (o.generate ≡ None) × EndsAtRead old now bytes rest (λ taken. front_run stock taken o))
read_told stands p q old now files left generate names how answer rest none no_fetch is =
    for_each left _ _ (λ bytes stops stock told o asked fault.
    read_of o.generate old now bytes rest (λ taken. front_run stock taken o) how q.refused
    (read_asked stock o stands generate names old now bytes rest how asked (stops stock told (first_run (level_of o.watch)) (at_start stands p o generate names asked none no_fetch))) (sym is ∙ fault))

pub answers_told : {C : Type 0} (stands held : Session → Type 0) (p q : Progress C) (old now : Option (List ℕ)) (files : Option (List Filed)) (left : Option (List ℕ)) (generate : Option ℕ) (names : List (List ℕ)) (how : Result Flow Broken) (answer : Status) (rest : Option (List ℕ)) (before after : Faults) → p.refused ≡ false → p.fetched ≡ 0 → answer ≡ told_status how q.refused → Caused before after how → IfSome left (Told stands held p q old now files generate names how)
    → IfSome left (λ bytes. (stock : List Filed) → files ≡ Some stock → (r : Run) → IsAt stands p r → LeavesBy (LeftAlong stock generate names bytes rest r) how)
    → IfSome left (λ bytes. (stock : List Filed) → files ≡ Some stock → (o : Options) → IsAsked stands o generate names
    → Answers before after bytes rest (IsLeft stock o bytes rest) old now (whole_transcript None stock bytes o) answer)
answers_told stands held p q old now files left generate names how answer rest before after none no_fetch is cause =
    for_both left (Told stands held p q old now files generate names how) _ _ (λ bytes tells remains stock told o asked.
    subst (Answers before after bytes rest (IsLeft stock o bytes rest) old now (whole_transcript None stock bytes o)) (sym is)
    (answers_of held q old now rest bytes (IsLeft stock o bytes rest) before after (asked_run None stock bytes o) (whole_transcript None stock bytes o) how (transcript_is None stock bytes o) cause (runs_asked stands held p q old now files generate names how bytes none no_fetch tells stock told o asked None tt)
    (left_asked stock o stands generate names bytes rest how asked (remains stock told (first_run (level_of o.watch)) (at_start stands p o generate names asked none no_fetch)))))

-- at most one of the three failed
pub once_told : (how : Result Flow Broken) (before after : Faults) → Caused before after how
    → ((after.source ≡ before.source) × (after.shelf ≡ before.shelf)) ⊎ ((after.source ≡ before.source) × (after.sink ≡ before.sink)) ⊎ ((after.shelf ≡ before.shelf) × (after.sink ≡ before.sink))
once_told (Ok f) before after calm = inl (ap (λ (c : Faults). c.source) calm, ap (λ (c : Faults). c.shelf) calm)
once_told (Err broken.Source) before after cause = inr (inr (cause.1, cause.2))
once_told (Err (broken.Run fault.Shelf)) before after cause = inr (inl (cause.1, cause.2))
once_told (Err (broken.Run fault.Sink)) before after cause = inl (cause.1, cause.2)
once_told (Err (broken.Run fault.NoMemory)) before after calm = inl (ap (λ (c : Faults). c.source) calm, ap (λ (c : Faults). c.shelf) calm)
