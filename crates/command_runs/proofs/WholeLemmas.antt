-- What a whole run owes for the transcript.
use Rattle.std.proofs.Common.{◌≡◌, ℕ, suc, ◌-◌, ◌<◌, ◌^◌, Bool, true, false, List, [], ◌⊎◌, inl, inr, Option, Some, None, Result, Ok, Err, refl, sym, ap, subst, ◌∙◌, arith}
use Rattle.std.proofs.lemmas.Grind.{common_steps}
use Rattle.std.specs.Prelude.{if◌then◌else◌, IfSome}
use Rattle.soar_edge.specs.Outside.{Appends, AppendsSome, Rose}
use Rattle.soar_edge.specs.declared.filed.Filed.{Filed}
use Rattle.soar_edge.specs.declared.status.Status.{Status}
use Rattle.soar_edge.specs.declared.status.Status.TheVariants as status
use Rattle.defs_run.specs.CommandLine.{Options, script_of}
use Rattle.defs_run.specs.Whole.{whole_stage}
use Rattle.soar_edge.proofs.CallerLemmas.{appends_then}
use Rattle.defs_run.specs.Runs.{Run, Ran, behind_text, then_run}
use Rattle.defs_run.specs.Sessions.{Session}
use Rattle.defs_run.specs.Sources.{obeying}
use Rattle.defs_run.specs.Transcripts.{Transcript, files_run, first_run, input_run, standard_input, status_of, transcribed}
use Rattle.command_runs.specs.Answers.{Answers, EndsAtRead, IsComplete, IsLeft, IsLeftAs, IsTranscript, LeavesBy, StopsAtRead, told_status}
use Rattle.command_runs.specs.Causes.{Caused, Faults}
use Rattle.command_runs.specs.Following.{Breaks, Comes, Flows, IsAt, IsOn, IsOver, IsReadyFlow, RunsWhole, ended_by, status_of_end}
use Rattle.command_runs.specs.Lengths.{IsTooLong}
use Rattle.command_runs.specs.Whole.{IsAsked, asked_run, commands_of, comes_along, comes_to_input, files_of, front_run, input_of, is_open, level_of, whole_run, whole_transcript}
use Rattle.command_runs.specs.declared.ends.End.{End}
use Rattle.command_runs.specs.declared.ends.End.TheVariants as end
use Rattle.command_runs.specs.declared.ends.Flow.{Flow}
use Rattle.command_runs.specs.declared.ends.Flow.TheVariants as flow
use Rattle.command_runs.specs.declared.fault.Broken.{Broken}
use Rattle.command_runs.specs.declared.fault.Broken.TheVariants as broken
use Rattle.command_runs.specs.declared.fault.Fault.TheVariants as fault
use Rattle.command_runs.specs.declared.progress.Progress.{Progress}
use Rattle.command_runs.proofs.FlowLemmas.{all_is_some, breaks_behind, flows_next, some_behind}
use Rattle.command_runs.proofs.RunLemmas.{then_on}
use Rattle.command_runs.proofs.LengthLemmas.{whole_long}

-- ---- the transcript is that of the run

transcribed_by : (fails : Option ℕ) (stock : List Filed) (input : List ℕ) (names : List (List ℕ)) (w g : Option ℕ)
    → (let start = first_run (elim w as (λ _. ℕ) [ None ↦ 1 | Some n ↦ n ]) in
    elim g as (λ _. Transcript) [
      | Some n ↦ transcribed (obeying whole_stage fails stock 16 standard_input true (script_of n) start)
      | None ↦ transcribed (then_run (files_run whole_stage fails stock names start) (input_run whole_stage fails stock input))
    ]) ≡ transcribed (whole_run fails stock input g names (first_run (level_of w)))
unfolding commands_of files_of input_of
transcribed_by fails stock input names None None = refl
transcribed_by fails stock input names None (Some n) = refl
transcribed_by fails stock input names (Some w) None = refl
transcribed_by fails stock input names (Some w) (Some n) = refl

pub transcript_is : (fails : Option ℕ) (stock : List Filed) (input : List ℕ) (o : Options) → whole_transcript fails stock input o ≡ transcribed (asked_run fails stock input o)
unfolding whole_transcript
transcript_is fails stock input o = transcribed_by fails stock input o.files o.watch o.generate

-- ---- what the code tells

-- the code stands at the start
pub at_start : {C : Type 0} (stands : Session → Type 0) (p : Progress C) (o : Options) (generate : Option ℕ) (names : List (List ℕ)) → IsAsked stands o generate names → p.refused ≡ false → p.fetched ≡ 0
    → IsAt stands p (first_run (level_of o.watch))
at_start stands p o generate names asked none no_fetch = record { session = asked.session; refused = none; fetched = no_fetch; goes = refl }

as_asked : (fails : Option ℕ) (stock : List Filed) (input : List ℕ) (o : Options) (stands : Session → Type 0) (generate : Option ℕ) (names : List (List ℕ)) → IsAsked stands o generate names
    → whole_run fails stock input generate names (first_run (level_of o.watch)) ≡ asked_run fails stock input o
as_asked fails stock input o stands generate names asked =
    ap (λ g. whole_run fails stock input g names (first_run (level_of o.watch))) asked.script
    ∙ ap (λ ns. whole_run fails stock input o.generate ns (first_run (level_of o.watch))) asked.files

-- what the code tells of each run, for each fetch that may fail
abbrev pub Told : {C : Type 0} → (Session → Type 0) → (Session → Type 0) → Progress C → Progress C → Option (List ℕ) → Option (List ℕ) → Option (List Filed) → Option ℕ → List (List ℕ) → Result Flow Broken → List ℕ → Type 0
Told stands held p q old now files generate names how bytes =
    (stock : List Filed) → files ≡ Some stock → (fails : Option ℕ) → Comes fails q.fetched → (r : Run) → IsAt stands p r → RunsWhole held q old now fails (whole_run fails stock bytes generate names r) how

pub runs_asked : {C : Type 0} (stands held : Session → Type 0) (p q : Progress C) (old now : Option (List ℕ)) (files : Option (List Filed)) (generate : Option ℕ) (names : List (List ℕ)) (how : Result Flow Broken) (bytes : List ℕ)
    → p.refused ≡ false → p.fetched ≡ 0 → Told stands held p q old now files generate names how bytes
    → (stock : List Filed) → files ≡ Some stock → (o : Options) → IsAsked stands o generate names → (fails : Option ℕ) → Comes fails q.fetched → RunsWhole held q old now fails (asked_run fails stock bytes o) how
runs_asked stands held p q old now files generate names how bytes none no_fetch tells stock told o asked fails comes =
    subst (λ x. RunsWhole held q old now fails x how) (as_asked fails stock bytes o stands generate names asked)
    (tells stock told fails comes (first_run (level_of o.watch)) (at_start stands p o generate names asked none no_fetch))

-- ---- the answer

ends_so : (b : Bool) → status_of_end (ended_by b) ≡ (if b then status.Refusals else status.Done)
ends_so true = refl
ends_so false = refl

pub transcript_of : {C : Type 0} (held : Session → Type 0) (q : Progress C) (old now : Option (List ℕ)) (fails : Option ℕ) (x : Ran) (f : Flow) → Flows held q old now fails x (Ok f)
    → IsTranscript old now (told_status (Ok f) q.refused) (transcribed x)
transcript_of held q old now fails x flow.Goes on = record {
  text = on.text;
  status = ends_so q.refused ∙ ap (λ b. if b then status.Refusals else status.Done) on.at_run.refused ∙ sym (ap (status_of x.run) on.at_run.goes);
}
transcript_of held q old now fails x (flow.Ends e) over = record { text = over.text; status = sym (ap (status_of x.run) over.ended) }

-- a count that rose is not what it was
pub rose_not : (before now : ℕ) → before < 2 ^ 64 - 1 → Rose before now → now ≡ before → ⊥
rose_not before now below rose same = grind (arith, common_steps)

-- nothing failed
abbrev pub Calm : Faults → Faults → Type 0
Calm before now = (now.source ≡ before.source) × (now.shelf ≡ before.shelf) × (now.sink ≡ before.sink)

abbrev pub Below : Faults → Type 0
Below before = (before.source < 2 ^ 64 - 1) × (before.shelf < 2 ^ 64 - 1) × (before.sink < 2 ^ 64 - 1)

-- a run in which nothing failed did not break off, unless memory ran out
calm_ok : {A : Type 0} (before now : Faults) (how : Result Flow Broken) (refused : Bool) → Below before → Caused before now how → Calm before now → (told_status how refused ≡ status.NoMemory → A)
    → ((f : Flow) → how ≡ Ok f → A) → A
calm_ok before now (Ok f) refused below cause calm memory ok = ok f refl
calm_ok before now (Err broken.Source) refused below cause calm memory ok = absurd (rose_not before.source now.source below.0 cause.0 calm.0)
calm_ok before now (Err (broken.Run fault.Shelf)) refused below cause calm memory ok = absurd (rose_not before.shelf now.shelf below.1 cause.0 calm.1)
calm_ok before now (Err (broken.Run fault.Sink)) refused below cause calm memory ok = absurd (rose_not before.sink now.sink below.2 cause.0 calm.2)
calm_ok before now (Err (broken.Run fault.NoMemory)) refused below cause calm memory ok = memory refl

pub headline_of : {C : Type 0} (held : Session → Type 0) (q : Progress C) (old now : Option (List ℕ)) (before after : Faults) (x : Ran) (t : Transcript) (how : Result Flow Broken) → t ≡ transcribed x → Below before → Caused before after how → Calm before after
    → RunsWhole held q old now None x how → (told_status how q.refused ≡ status.NoMemory → ⊥) → IsTranscript old now (told_status how q.refused) t
headline_of held q old now before after x t how is below cause calm runs some =
    calm_ok before after how q.refused below cause calm (λ e. absurd (some e)) (λ f e.
    subst (λ h. IsTranscript old now (told_status h q.refused) t) (sym e)
    (subst (IsTranscript old now (told_status (Ok f) q.refused)) (sym is) (transcript_of held q old now None x f (subst (λ h. RunsWhole held q old now None x h) e runs))))

answers_ok : (before after : Faults) (bytes : List ℕ) (left : Option (List ℕ)) (kept : Type 0) (old now : Option (List ℕ)) (t : Transcript) (f : Flow) (refused : Bool)
    → after ≡ before → LeavesBy kept (Ok f) → IsTranscript old now (told_status (Ok f) refused) t → Answers before after bytes left kept old now t (told_status (Ok f) refused)
answers_ok before after bytes left kept old now t flow.Goes true calm rest it = ((calm, it), rest)
answers_ok before after bytes left kept old now t flow.Goes false calm rest it = ((calm, it), rest)
answers_ok before after bytes left kept old now t (flow.Ends end.Done) refused calm rest it = ((calm, it), rest)
answers_ok before after bytes left kept old now t (flow.Ends end.Refusals) refused calm rest it = ((calm, it), rest)
answers_ok before after bytes left kept old now t (flow.Ends end.TooLong) refused calm rest it = (calm, it)
answers_ok before after bytes left kept old now t (flow.Ends end.Limit) refused calm rest it = (calm, it)

pub answers_of : {C : Type 0} (held : Session → Type 0) (q : Progress C) (old now left : Option (List ℕ)) (bytes : List ℕ) (kept : Type 0) (before after : Faults) (x : Ran) (t : Transcript) (how : Result Flow Broken) → t ≡ transcribed x → Caused before after how
    → RunsWhole held q old now None x how → LeavesBy kept how → Answers before after bytes left kept old now t (told_status how q.refused)
answers_of held q old now left bytes kept before after x t (Ok f) is cause runs rest =
    answers_ok before after bytes left kept old now t f q.refused cause rest (subst (IsTranscript old now (told_status (Ok f) q.refused)) (sym is) (transcript_of held q old now None x f runs))
answers_of held q old now left bytes kept before after x t (Err broken.Source) is cause runs rest = cause
answers_of held q old now left bytes kept before after x t (Err (broken.Run fault.Shelf)) is cause runs rest = cause
answers_of held q old now left bytes kept before after x t (Err (broken.Run fault.Sink)) is cause runs rest = cause
answers_of held q old now left bytes kept before after x t (Err (broken.Run fault.NoMemory)) is cause runs rest = cause

front_of : {C : Type 0} (held : Session → Type 0) (q : Progress C) (old now : Option (List ℕ)) (fails : Option ℕ) (x : Ran) (how : Result Flow Broken) → RunsWhole held q old now fails x how → AppendsSome old now x.text
front_of held q old now fails x (Ok flow.Goes) runs = all_is_some old now x.text runs.text
front_of held q old now fails x (Ok (flow.Ends e)) runs = all_is_some old now x.text runs.text
front_of held q old now fails x (Err broken.Source) runs = runs
front_of held q old now fails x (Err (broken.Run fault.Shelf)) runs = runs.front
front_of held q old now fails x (Err (broken.Run fault.Sink)) runs = runs
front_of held q old now fails x (Err (broken.Run fault.NoMemory)) runs = runs

pub prefix_of : {C : Type 0} (held : Session → Type 0) (q : Progress C) (old now : Option (List ℕ)) (x : Ran) (t : Transcript) (how : Result Flow Broken) → t ≡ transcribed x → RunsWhole held q old now None x how → AppendsSome old now t.text
prefix_of held q old now x t how is runs = subst (λ (u : Transcript). AppendsSome old now u.text) (sym is) (front_of held q old now None x how runs)

-- ---- a fetch that failed

goes_no_fault : (b : Bool) → status_of_end (ended_by b) ≡ status.FileFault → ⊥
goes_no_fault true is = absurd (cc)
goes_no_fault false is = absurd (cc)

end_no_fault : (e : End) → status_of_end e ≡ status.FileFault → ⊥
end_no_fault end.Done is = absurd (cc)
end_no_fault end.Refusals is = absurd (cc)
end_no_fault end.TooLong is = absurd (cc)
end_no_fault end.Limit is = absurd (cc)

pub over_fetch : {C : Type 0} (held : Session → Type 0) (q : Progress C) (old now : Option (List ℕ)) (x : Ran) (t : Transcript) (how : Result Flow Broken) → t ≡ transcribed x → RunsWhole held q old now (Some (suc q.fetched)) x how
    → told_status how q.refused ≡ status.FileFault → IsTranscript old now status.FileFault t
over_fetch held q old now x t (Ok flow.Goes) is runs fault = absurd (goes_no_fault q.refused fault)
over_fetch held q old now x t (Ok (flow.Ends e)) is runs fault = absurd (end_no_fault e fault)
over_fetch held q old now x t (Err broken.Source) is runs fault = absurd (cc)
over_fetch held q old now x t (Err (broken.Run fault.Shelf)) is runs failed =
    let over = runs.whole refl in subst (IsTranscript old now status.FileFault) (sym is) (record { text = over.text; status = sym (ap (status_of x.run) over.ended) })
over_fetch held q old now x t (Err (broken.Run fault.Sink)) is runs fault = absurd (cc)
over_fetch held q old now x t (Err (broken.Run fault.NoMemory)) is runs fault = absurd (cc)

-- ---- ends

long_end : (e : End) → status_of_end e ≡ status.TooLong → e ≡ end.TooLong
long_end end.Done is = absurd (cc)
long_end end.Refusals is = absurd (cc)
long_end end.TooLong is = refl
long_end end.Limit is = absurd (cc)

goes_not_long : (b : Bool) → status_of_end (ended_by b) ≡ status.TooLong → ⊥
goes_not_long true is = absurd (cc)
goes_not_long false is = absurd (cc)

pub long_of : {C : Type 0} (held : Session → Type 0) (q : Progress C) (old now : Option (List ℕ)) (stock : List Filed) (bytes : List ℕ) (o : Options) (how : Result Flow Broken) → RunsWhole held q old now None (asked_run None stock bytes o) how
    → told_status how q.refused ≡ status.TooLong → IsTooLong o.generate stock bytes
long_of held q old now stock bytes o (Ok flow.Goes) runs is = absurd (goes_not_long q.refused is)
long_of held q old now stock bytes o (Ok (flow.Ends e)) runs is = whole_long stock bytes o.generate o.files (first_run (level_of o.watch)) refl (runs.ended ∙ ap Some is)
long_of held q old now stock bytes o (Err broken.Source) runs is = absurd (cc)
long_of held q old now stock bytes o (Err (broken.Run fault.Shelf)) runs is = absurd (cc)
long_of held q old now stock bytes o (Err (broken.Run fault.Sink)) runs is = absurd (cc)
long_of held q old now stock bytes o (Err (broken.Run fault.NoMemory)) runs is = absurd (cc)

complete_ok : (f : Flow) (refused : Bool) (s : Status) → told_status (Ok f) refused ≡ s → (s ≡ status.Limit → ⊥) → (s ≡ status.TooLong → ⊥) → IsComplete (told_status (Ok f) refused)
complete_ok flow.Goes true s is free short = tt
complete_ok flow.Goes false s is free short = tt
complete_ok (flow.Ends end.Done) refused s is free short = tt
complete_ok (flow.Ends end.Refusals) refused s is free short = tt
complete_ok (flow.Ends end.TooLong) refused s is free short = absurd (short (sym is))
complete_ok (flow.Ends end.Limit) refused s is free short = absurd (free (sym is))

pub complete_of : {C : Type 0} (held : Session → Type 0) (q : Progress C) (old now : Option (List ℕ)) (before after : Faults) (x : Ran) (t : Transcript) (how : Result Flow Broken) → t ≡ transcribed x → Below before → Caused before after how → Calm before after
    → RunsWhole held q old now None x how → (t.status ≡ status.Limit → ⊥) → (t.status ≡ status.TooLong → ⊥) → IsComplete (told_status how q.refused)
complete_of held q old now before after x t how is below cause calm runs free short =
    calm_ok before after how q.refused below cause calm (λ e. subst IsComplete (sym e) tt) (λ f e.
    subst (λ h. IsComplete (told_status h q.refused)) (sym e)
    (complete_ok f q.refused t.status ((transcript_of held q old now None x f (subst (λ h. RunsWhole held q old now None x h) e runs)).status ∙ ap (λ (u : Transcript). u.status) (sym is)) free short))

-- ---- the input

-- the files, and the whole commands within a front of the input
abbrev pub read_along : List Filed → List (List ℕ) → Run → List ℕ → Ran
read_along stock names r taken = then_run (files_of None stock names r) (commands_of None stock false taken)

-- what is left of it
abbrev pub LeftAlong : List Filed → Option ℕ → List (List ℕ) → List ℕ → Option (List ℕ) → Run → Type 0
LeftAlong stock generate names bytes left r =
    IsLeftAs (comes_along stock generate names r) (is_open (whole_run None stock bytes generate names r)) (read_along stock names r) bytes left

-- what is left, told of the words
pub left_asked : (stock : List Filed) (o : Options) (stands : Session → Type 0) (generate : Option ℕ) (names : List (List ℕ)) (bytes : List ℕ) (left : Option (List ℕ)) (how : Result Flow Broken) → IsAsked stands o generate names
    → LeavesBy (LeftAlong stock generate names bytes left (first_run (level_of o.watch))) how → LeavesBy (IsLeft stock o bytes left) how
unfolding IsLeft comes_to_input front_run
left_asked stock o stands generate names bytes left how asked rest =
    subst (λ ns. LeavesBy (LeftAlong stock o.generate ns bytes left (first_run (level_of o.watch))) how) asked.files
    (subst (λ g. LeavesBy (LeftAlong stock g names bytes left (first_run (level_of o.watch))) how) asked.script rest)

-- a read that failed, told of the words
pub read_asked : (stock : List Filed) (o : Options) (stands : Session → Type 0) (generate : Option ℕ) (names : List (List ℕ)) (old now : Option (List ℕ)) (bytes : List ℕ) (left : Option (List ℕ)) (how : Result Flow Broken) → IsAsked stands o generate names
    → StopsAtRead generate old now bytes left (read_along stock names (first_run (level_of o.watch))) how → StopsAtRead o.generate old now bytes left (λ taken. front_run stock taken o) how
unfolding front_run
read_asked stock o stands generate names old now bytes left how asked stops =
    subst (λ ns. StopsAtRead o.generate old now bytes left (read_along stock ns (first_run (level_of o.watch))) how) asked.files
    (subst (λ g. StopsAtRead g old now bytes left (read_along stock names (first_run (level_of o.watch))) how) asked.script stops)

goes_no_read : (b : Bool) → status_of_end (ended_by b) ≡ status.ReadFault → ⊥
goes_no_read true is = absurd (cc)
goes_no_read false is = absurd (cc)

end_no_read : (e : End) → status_of_end e ≡ status.ReadFault → ⊥
end_no_read end.Done is = absurd (cc)
end_no_read end.Refusals is = absurd (cc)
end_no_read end.TooLong is = absurd (cc)
end_no_read end.Limit is = absurd (cc)

-- the answer tells that it was a read
pub read_of : (generate : Option ℕ) (old now : Option (List ℕ)) (bytes : List ℕ) (left : Option (List ℕ)) (read : List ℕ → Ran) (how : Result Flow Broken) (refused : Bool) → StopsAtRead generate old now bytes left read how → told_status how refused ≡ status.ReadFault
    → (generate ≡ None) × EndsAtRead old now bytes left read
read_of generate old now bytes left read (Ok flow.Goes) refused stops is = absurd (goes_no_read refused is)
read_of generate old now bytes left read (Ok (flow.Ends e)) refused stops is = absurd (end_no_read e is)
read_of generate old now bytes left read (Err broken.Source) refused stops is = stops
read_of generate old now bytes left read (Err (broken.Run fault.Shelf)) refused stops is = absurd (cc)
read_of generate old now bytes left read (Err (broken.Run fault.Sink)) refused stops is = absurd (cc)
read_of generate old now bytes left read (Err (broken.Run fault.NoMemory)) refused stops is = absurd (cc)

-- ---- behind the files

pub leaves_all : (kept : Type 0) (how : Result Flow Broken) → kept → LeavesBy kept how
leaves_all kept (Ok flow.Goes) k = k
leaves_all kept (Ok (flow.Ends end.Done)) k = k
leaves_all kept (Ok (flow.Ends end.Refusals)) k = k
leaves_all kept (Ok (flow.Ends end.TooLong)) k = tt
leaves_all kept (Ok (flow.Ends end.Limit)) k = tt
leaves_all kept (Err e) k = tt

leaves_so : (kept other : Type 0) (how : Result Flow Broken) → (kept → other) → LeavesBy kept how → LeavesBy other how
leaves_so kept other (Ok flow.Goes) f k = f k
leaves_so kept other (Ok (flow.Ends end.Done)) f k = f k
leaves_so kept other (Ok (flow.Ends end.Refusals)) f k = f k
leaves_so kept other (Ok (flow.Ends end.TooLong)) f k = tt
leaves_so kept other (Ok (flow.Ends end.Limit)) f k = tt
leaves_so kept other (Err e) f k = tt

left_then : (x : Ran) (g : List ℕ → Run → Ran) (bytes : List ℕ) (left : Option (List ℕ)) → x.run.ended ≡ None → (whole : Bool) → IsLeftAs true whole (λ taken. g taken x.run) bytes left → IsLeftAs true whole (λ taken. then_run x (g taken)) bytes left
left_then x g bytes left goes true kept = kept
left_then x g bytes left goes false kept = record { taken = kept.taken; rest = kept.rest; all = kept.all; left_is = kept.left_is; needed = by kept.needed }
  where
    by : (kept.rest ≡ []) ⊎ (is_open (g kept.taken x.run) ≡ false) → (kept.rest ≡ []) ⊎ (is_open (then_run x (g kept.taken)) ≡ false)
    by (inl none) = inl none
    by (inr over) = inr (ap is_open (then_on x (g kept.taken) goes) ∙ over)

-- ---- for an input that tells its bytes

pub for_each : (left : Option (List ℕ)) (A B : List ℕ → Type 0) → ((bytes : List ℕ) → A bytes → B bytes) → IfSome left A → IfSome left B
for_each None A B f h = tt
for_each (Some bytes) A B f h = f bytes h

pub for_both : (left : Option (List ℕ)) (A B D : List ℕ → Type 0) → ((bytes : List ℕ) → A bytes → B bytes → D bytes) → IfSome left A → IfSome left B → IfSome left D
for_both None A B D f h k = tt
for_both (Some bytes) A B D f h k = f bytes h k

pub for_all : (left : Option (List ℕ)) (B : List ℕ → Type 0) → ((bytes : List ℕ) → B bytes) → IfSome left B
for_all None B f = tt
for_all (Some bytes) B f = f bytes

-- ---- a script, or files and then the input

pub by_script : (Q : Ran → Type 0) (fails : Option ℕ) (stock : List Filed) (bytes : List ℕ) (generate : Option ℕ) (n : ℕ) (names : List (List ℕ)) (r : Run) → generate ≡ Some n
    → Q (commands_of fails stock true (script_of n) r) → Q (whole_run fails stock bytes generate names r)
by_script Q fails stock bytes generate n names r is q = subst (λ o. Q (whole_run fails stock bytes o names r)) (sym is) q

pub by_files : (Q : Ran → Type 0) (fails : Option ℕ) (stock : List Filed) (bytes : List ℕ) (generate : Option ℕ) (names : List (List ℕ)) (r : Run) → generate ≡ None
    → Q (then_run (files_of fails stock names r) (input_of fails stock bytes)) → Q (whole_run fails stock bytes generate names r)
by_files Q fails stock bytes generate names r is q = subst (λ o. Q (whole_run fails stock bytes o names r)) (sym is) q

pub left_none_asked : (stock : List Filed) (bytes : List ℕ) (generate : Option ℕ) (names : List (List ℕ)) (r : Run) (left : Option (List ℕ)) (how : Result Flow Broken) → generate ≡ None → LeavesBy (LeftAlong stock None names bytes left r) how → LeavesBy (LeftAlong stock generate names bytes left r) how
left_none_asked stock bytes generate names r left how is rest = subst (λ g. LeavesBy (LeftAlong stock g names bytes left r) how) (sym is) rest

pub read_none_asked : (generate : Option ℕ) (old now : Option (List ℕ)) (bytes : List ℕ) (left : Option (List ℕ)) (read : List ℕ → Ran) (how : Result Flow Broken) → generate ≡ None → StopsAtRead None old now bytes left read how → StopsAtRead generate old now bytes left read how
read_none_asked generate old now bytes left read how is stops = subst (λ g. StopsAtRead g old now bytes left read how) (sym is) stops

-- ---- files and then the input

pub runs_next : {C : Type 0} (stands held : Session → Type 0) (p q : Progress C) (old mid now : Option (List ℕ)) (fails : Option ℕ) (x : Ran) (f : Run → Ran) (how : Result Flow Broken)
    → IsOn stands p old mid x → RunsWhole held q mid now fails (f x.run) how → RunsWhole held q old now fails (then_run x f) how
runs_next stands held p q old mid now fails x f (Ok g) on later = flows_next stands held p q old mid now fails x f (Ok g) on later
runs_next stands held p q old mid now fails x f (Err broken.Source) on later =
    subst (λ (y : Ran). AppendsSome old now y.text) (sym (then_on x f on.at_run.goes)) (some_behind old mid now x.text (f x.run) on.text later)
runs_next stands held p q old mid now fails x f (Err (broken.Run e)) on later =
    subst (λ y. Breaks q.fetched old now fails y e) (sym (then_on x f on.at_run.goes)) (breaks_behind q.fetched old mid now fails x.text (f x.run) e on.text later)

pub open_so : (x : Ran) → x.run.ended ≡ None → is_open x ≡ true
open_so x goes = ap (λ o. elim o as (λ _. Bool) [ None ↦ true | Some s ↦ false ]) goes

pub over_so : (x : Ran) (s : Status) → x.run.ended ≡ Some s → is_open x ≡ false
over_so x s over = ap (λ o. elim o as (λ _. Bool) [ None ↦ true | Some t ↦ false ]) over

pub goes_flow : {C : Type 0} (held : Session → Type 0) (q : Progress C) (old now : Option (List ℕ)) (fails : Option ℕ) (x : Ran) (f : Flow) → f ≡ flow.Goes → Flows held q old now fails x (Ok f) → IsOn held q old now x
goes_flow held q old now fails x f is flows = subst (λ g. Flows held q old now fails x (Ok g)) is flows

pub ends_flow : {C : Type 0} (held : Session → Type 0) (q : Progress C) (old now : Option (List ℕ)) (fails : Option ℕ) (x : Ran) (f : Flow) (e : End) → f ≡ flow.Ends e → Flows held q old now fails x (Ok f) → IsOver old now (status_of_end e) x
ends_flow held q old now fails x f e is flows = subst (λ g. Flows held q old now fails x (Ok g)) is flows

-- an input that was read, behind the files
pub left_read : (x : Ran) (f : Run → Ran) (g : List ℕ → Run → Ran) (bytes : List ℕ) (left : Option (List ℕ)) (how : Result Flow Broken) → x.run.ended ≡ None
    → LeavesBy (IsLeftAs true (is_open (f x.run)) (λ taken. g taken x.run) bytes left) how → LeavesBy (IsLeftAs (is_open x) (is_open (then_run x f)) (λ taken. then_run x (g taken)) bytes left) how
left_read x f g bytes left how goes rest =
    leaves_so _ _ how (λ kept. subst (λ b. IsLeftAs b (is_open (then_run x f)) (λ taken. then_run x (g taken)) bytes left) (sym (open_so x goes))
    (subst (λ b. IsLeftAs true b (λ taken. then_run x (g taken)) bytes left) (sym (ap is_open (then_on x f goes)))
    (left_then x g bytes left goes (is_open (f x.run)) kept))) rest

-- one that was not
pub left_alone : (x : Ran) (s : Status) (whole : Bool) (read : List ℕ → Ran) (bytes : List ℕ) (left : Option (List ℕ)) (how : Result Flow Broken) → x.run.ended ≡ Some s → left ≡ Some bytes → LeavesBy (IsLeftAs (is_open x) whole read bytes left) how
left_alone x s whole read bytes left how over same = leaves_all _ how (subst (λ b. IsLeftAs b whole read bytes left) (sym (over_so x s over)) same)

-- a read that failed, behind the files
pub read_next : {C : Type 0} (stands : Session → Type 0) (p : Progress C) (old mid now : Option (List ℕ)) (x : Ran) (g : List ℕ → Run → Ran) (bytes : List ℕ) (left : Option (List ℕ)) (how : Result Flow Broken) → IsOn stands p old mid x
    → StopsAtRead None mid now bytes left (λ taken. g taken x.run) how → StopsAtRead None old now bytes left (λ taken. then_run x (g taken)) how
read_next stands p old mid now x g bytes left (Ok f) on stops = tt
read_next stands p old mid now x g bytes left (Err (broken.Run e)) on stops = tt
read_next stands p old mid now x g bytes left (Err broken.Source) on stops =
    let e = stops.1 in
    let same : then_run x (g e.taken) ≡ behind_text x.text (g e.taken x.run) = then_on x (g e.taken) on.at_run.goes in (
      stops.0,
      record {
        taken = e.taken;
        rest = e.rest;
        all = e.all;
        left_is = e.left_is;
        few = e.few;
        text = subst (λ (y : Ran). Appends old now y.text) (sym same) (appends_then old mid now x.text (g e.taken x.run).text on.text e.text);
        goes = ap (λ (y : Ran). y.run.ended) same ∙ e.goes;
      },
    )

pub told_itself : (left : Option (List ℕ)) (B : List ℕ → Type 0) → ((bytes : List ℕ) → left ≡ Some bytes → B bytes) → IfSome left B
told_itself None B f = tt
told_itself (Some bytes) B f = f bytes refl

pub flow_goes_ready : (ready : Type 0) (f : Flow) → f ≡ flow.Goes → IsReadyFlow ready (Ok f) → ready
flow_goes_ready ready f is it = subst (λ g. IsReadyFlow ready (Ok g)) is it
