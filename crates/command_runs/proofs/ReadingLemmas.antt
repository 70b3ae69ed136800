-- The input, read piece by piece.
use Rattle.std.proofs.Common.{◌≡◌, ℕ, ◌+◌, ◌^◌, ◌<◌, ◌≤◌, Bool, true, false, not, nat_lt, List, [], ◌++◌, length, take, drop, Option, Some, None, Result, Ok, Err, inl, inr, refl, sym, ap, subst, ◌∙◌, arith, append_assoc, length-take}
use Rattle.std.specs.Prelude.{IfSome}
use Rattle.std.proofs.Math.Seq.{take-add}
use Rattle.std.proofs.lemmas.Grind.{common_steps}
use Rattle.std.proofs.lemmas.List.{append-nil, drop-drop, length-drop, take-append-drop, take-take, take_all}
use Rattle.soar_edge.specs.Cuts.{IsUncut, MayFollow, Uncut, cuts_with}
use Rattle.soar_edge.specs.Cutting.{Cut, cuts_from, cuts_of}
use Rattle.soar_edge.specs.Outside.{AppendsSome}
use Rattle.soar_edge.specs.declared.filed.Filed.{Filed}
use Rattle.soar_edge.specs.declared.status.Status.TheVariants as status
use Rattle.defs_run.specs.Whole.{whole_stage}
use Rattle.defs_run.specs.Runs.{Run, Ran}
use Rattle.defs_run.specs.Sessions.{Session}
use Rattle.defs_run.specs.Sources.{obeying}
use Rattle.defs_run.specs.Transcripts.{standard_input}
use Rattle.command_runs.specs.Answers.{EndsAtRead, IsLeftAs, LeavesBy, LeavesRest}
use Rattle.command_runs.specs.Following.{Breaks, FlowsTo, IsAt, IsBehind, IsOn, IsOver, status_of_end}
use Rattle.command_runs.specs.Reading.{IsClosed, IsFedWith, ReadsMore, is_end}
use Rattle.command_runs.specs.Turning.{Waits, left_behind}
use Rattle.command_runs.specs.Whole.{commands_of, input_of, is_open}
use Rattle.command_runs.specs.declared.ends.End.{End}
use Rattle.command_runs.specs.declared.ends.Flow.{Flow}
use Rattle.command_runs.specs.declared.ends.Flow.TheVariants as flow
use Rattle.command_runs.specs.declared.fault.Fault.{Fault}
use Rattle.command_runs.specs.declared.fault.Fault.TheVariants as fault
use Rattle.command_runs.specs.declared.progress.Progress.{Progress}
use Rattle.command_runs.specs.declared.reading.Came.{Came}
use Rattle.command_runs.specs.declared.reading.Came.TheVariants as came
use Rattle.command_runs.specs.declared.reading.InputFault.{InputFault}
use Rattle.command_runs.specs.declared.reading.InputFault.TheVariants as input
use Rattle.command_runs.proofs.CutterLemmas.{left_fed}
use Rattle.command_runs.proofs.FlowLemmas.{memory_breaks, of_some, on_so, starts, to_behind}
use Rattle.command_runs.proofs.InputLemmas.{front_by, input_breaks, input_closed, input_on, input_over, is_longer}
use Rattle.command_runs.proofs.RunLemmas.{stream_run}
use Rattle.command_runs.proofs.StreamLemmas.{FedTold, rest_of}
use Rattle.command_runs.proofs.WholeLemmas.{leaves_all, open_so, over_so}

-- ---- what a cutter holds once it was fed

fed_cuts : (old new : Uncut) (piece : List ℕ) (ends : Bool) (more : List ℕ) → IsFedWith old new piece → cuts_with new ends more ≡ cuts_with old ends (piece ++ more)
fed_cuts old new piece ends more is = ap (λ c. cuts_with c ends more) is ∙ ap (cuts_from ends 0 old.line) (append_assoc old.bytes piece more)

closed_cuts : (old new : Uncut) (ends : Bool) (more : List ℕ) → IsClosed old new → cuts_with new ends more ≡ cuts_with old ends more
closed_cuts old new ends more is = ap (λ c. cuts_with c ends more) is

-- ---- where the reading stands

-- so many bytes were taken of all, and fed
pub record IsPlace (all : List ℕ) (left : Option (List ℕ)) (n : ℕ) : Type 0 where
  pub rest : left ≡ Some (drop n all)
  pub within : n ≤ length all

-- the commands of standard input that stand in a cutter, and those of its bytes
abbrev pub held_run : Option ℕ → List Filed → Uncut → Bool → List ℕ → Run → Ran
held_run fails stock cutter ends more r = rest_of fails stock 16 standard_input (cuts_with cutter ends more) r

abbrev pub bytes_run : Option ℕ → List Filed → Bool → List ℕ → Run → Ran
bytes_run fails stock ends bytes r = rest_of fails stock 16 standard_input (cuts_of ends bytes) r

-- of one that was fed nothing
pub new_cuts : (c : Uncut) (ends : Bool) (more : List ℕ) → IsUncut c → cuts_with c ends more ≡ cuts_of ends more
new_cuts c ends more u = left_fed c ends more more (ap (λ b. b ++ more) u.bytes) u.line

pub new_waits : (c : Uncut) → IsUncut c → cuts_with c false [] ≡ []
unfolding cuts_of
new_waits c u = new_cuts c false [] u

-- whatever follows the first bytes of all, what was written is the front of their run up to the commands in the cutter
abbrev pub BehindFront : {C : Type 0} → (Session → Type 0) → Progress C → Option (List ℕ) → Option (List ℕ) → Option ℕ → List Filed → Uncut → ℕ → List ℕ → Run → Type 0
BehindFront stands p old now fails stock cutter n all r =
    (ends : Bool) (more : List ℕ) → IsBehind stands p old now (held_run fails stock cutter ends more) (bytes_run fails stock ends (take n all ++ more) r)

-- nothing was taken, and nothing was fed
pub at_first_byte : {C : Type 0} (stands : Session → Type 0) (p : Progress C) (old : Option (List ℕ)) (fails : Option ℕ) (stock : List Filed) (cutter : Uncut) (all : List ℕ) (r : Run)
    → IsUncut cutter → IsAt stands p r → BehindFront stands p old old fails stock cutter 0 all r
at_first_byte stands p old fails stock cutter all r new at = λ ends more.
    subst (λ cs. IsBehind stands p old old (held_run fails stock cutter ends more) (rest_of fails stock 16 standard_input cs r)) (new_cuts cutter ends more new)
    (starts stands p old (held_run fails stock cutter ends more) r at)

pub first_place : (left : Option (List ℕ)) (all : List ℕ) → left ≡ Some all → IsPlace all left 0
first_place left all is = record { rest = is; within = omega arith }

behind_fed : {C : Type 0} (stands : Session → Type 0) (p : Progress C) (old now : Option (List ℕ)) (fails : Option ℕ) (stock : List Filed) (cutter fed : Uncut) (n m size : ℕ) (all : List ℕ) (r : Run)
    → IsFedWith cutter fed (take size (drop n all)) → m ≡ n + size → BehindFront stands p old now fails stock cutter n all r → BehindFront stands p old now fails stock fed m all r
behind_fed stands p old now fails stock cutter fed n m size all r is grown b = λ ends more.
    let piece : List ℕ = take size (drop n all) in
    let same : take n all ++ (piece ++ more) ≡ take m all ++ more =
    sym (append_assoc (take n all) piece more) ∙ ap (λ t. t ++ more) (sym (take-add n size all) ∙ ap (λ k. take k all) (sym grown)) in
    subst (λ cs. IsBehind stands p old now (rest_of fails stock 16 standard_input cs) (bytes_run fails stock ends (take m all ++ more) r)) (sym (fed_cuts cutter fed piece ends more is))
    (subst (λ bs. IsBehind stands p old now (held_run fails stock cutter ends (piece ++ more)) (bytes_run fails stock ends bs r)) same (b ends (piece ++ more)))

behind_closed : {C : Type 0} (stands : Session → Type 0) (p : Progress C) (old now : Option (List ℕ)) (fails : Option ℕ) (stock : List Filed) (cutter closed : Uncut) (n m : ℕ) (all : List ℕ) (r : Run)
    → IsClosed cutter closed → m ≡ n → BehindFront stands p old now fails stock cutter n all r → BehindFront stands p old now fails stock closed m all r
behind_closed stands p old now fails stock cutter closed n m all r is same b = λ ends more.
    subst (λ cs. IsBehind stands p old now (rest_of fails stock 16 standard_input cs) (bytes_run fails stock ends (take m all ++ more) r)) (sym (closed_cuts cutter closed ends more is))
    (subst (λ k. IsBehind stands p old now (held_run fails stock cutter ends more) (bytes_run fails stock ends (take k all ++ more) r)) (sym same) (b ends more))

-- ---- behind a read

-- what a read tells of all the bytes, where it began behind so many
abbrev pub ReadsOf : List ℕ → Option (List ℕ) → Uncut → Uncut → ℕ → ℕ → Result Came InputFault → Type 0
ReadsOf all left old new n m result = ReadsMore (drop n all) left old new n m result

-- what it tells where so many bytes were left
pub reads_of : (all : List ℕ) (before left : Option (List ℕ)) (old new : Uncut) (n m : ℕ) (result : Result Came InputFault) → IsPlace all before n → IfSome before (λ bytes. ReadsMore bytes left old new n m result) → ReadsOf all left old new n m result
reads_of all before left old new n m result place tells = of_some (λ bytes. ReadsMore bytes left old new n m result) before (drop n all) place.rest tells

-- one that failed took nothing
pub read_failed : (all : List ℕ) (left : Option (List ℕ)) (old new : Uncut) (n m : ℕ) (f : InputFault) → f ≡ input.Failed → ReadsOf all left old new n m (Err f) → left ≡ Some (drop n all)
read_failed all left old new n m f is reads = subst (λ g. ReadsOf all left old new n m (Err g)) is reads

pub read_behind : {C : Type 0} (stands : Session → Type 0) (p : Progress C) (old now : Option (List ℕ)) (fails : Option ℕ) (stock : List Filed) (cutter fed : Uncut) (n m : ℕ) (all : List ℕ) (left : Option (List ℕ)) (r : Run) (c : Came)
    → ReadsOf all left cutter fed n m (Ok c) → BehindFront stands p old now fails stock cutter n all r → BehindFront stands p old now fails stock fed m all r
read_behind stands p old now fails stock cutter fed n m all left r came.Bytes reads b = behind_fed stands p old now fails stock cutter fed n m reads.0 all r reads.1.fed reads.1.grown b
read_behind stands p old now fails stock cutter fed n m all left r came.TooMany reads b = behind_fed stands p old now fails stock cutter fed n m reads.1 all r reads.2.fed reads.2.grown b
read_behind stands p old now fails stock cutter fed n m all left r came.Nothing reads b = behind_closed stands p old now fails stock cutter fed n m all r reads.2 reads.3 b

-- so many bytes are left behind others
drop_on : (n count : ℕ) (all : List ℕ) → drop count (drop n all) ≡ drop (n + count) all
drop_on n count all = drop-drop count n all

within_on : (n count : ℕ) (all : List ℕ) → n ≤ length all → count ≤ length (drop n all) → n + count ≤ length all
within_on n count all first next = omega (arith, first, next, length-drop n all)

pub next_place : (all : List ℕ) (left : Option (List ℕ)) (before : Option (List ℕ)) (cutter fed : Uncut) (n m : ℕ) (c : Came) → c ≡ came.Bytes → IsPlace all before n → ReadsOf all left cutter fed n m (Ok c) → IsPlace all left m
next_place all left before cutter fed n m c is place tells =
    let reads = subst (λ d. ReadsOf all left cutter fed n m (Ok d)) is tells in
    subst (IsPlace all left) (sym reads.1.grown) (record { rest = reads.1.rest_is ∙ ap Some (drop_on n reads.0 all); within = within_on n reads.0 all place.within reads.1.within })

-- ---- the commands of what was taken

-- up to where the rest begins, whatever follows
pub front_flows : {C : Type 0} (stands held : Session → Type 0) (p q : Progress C) (old mid now : Option (List ℕ)) (fails : Option ℕ) (stock : List Filed) (cutter left : Uncut) (m : ℕ) (all : List ℕ) (r : Run) (result : Result Flow Fault)
    → BehindFront stands p old mid fails stock cutter m all r → FedTold stands held p q mid now fails stock 16 standard_input cutter left result → (ends : Bool) (more : List ℕ) → MayFollow cutter.closed ends more
    → FlowsTo held q old now fails (rest_of fails stock 16 standard_input (left_behind cutter.closed (cuts_with left ends more))) (bytes_run fails stock ends (take m all ++ more) r) result
front_flows stands held p q old mid now fails stock cutter left m all r result b tells ends more follows =
    let at = b ends more in
    to_behind stands held p q old mid now fails (held_run fails stock cutter ends more) (rest_of fails stock 16 standard_input (left_behind cutter.closed (cuts_with left ends more))) (bytes_run fails stock ends (take m all ++ more) r) result at
    (tells at.run at.at_run ends more follows)

-- behind those that were whole
pub bytes_go : {C : Type 0} (stands held : Session → Type 0) (p q : Progress C) (old mid now : Option (List ℕ)) (fails : Option ℕ) (stock : List Filed) (fed left : Uncut) (m : ℕ) (all : List ℕ) (r : Run) (f : Flow) → fed.closed ≡ false → f ≡ flow.Goes
    → BehindFront stands p old mid fails stock fed m all r → FedTold stands held p q mid now fails stock 16 standard_input fed left (Ok f) → BehindFront held q old now fails stock left m all r
bytes_go stands held p q old mid now fails stock fed left m all r f goes_on goes b tells = λ ends more.
    subst (λ d. IsBehind held q old now (rest_of fails stock 16 standard_input (left_behind d (cuts_with left ends more))) (bytes_run fails stock ends (take m all ++ more) r)) goes_on
    (front_flows stands held p q old mid now fails stock fed left m all r (Ok flow.Goes) b (subst (λ g. FedTold stands held p q mid now fails stock 16 standard_input fed left (Ok g)) goes tells) ends more (subst (λ d. MayFollow d ends more) (sym goes_on) tt))

-- the commands of standard input
commands_are : (fails : Option ℕ) (stock : List Filed) (ends : Bool) (bytes other : List ℕ) (r : Run) → bytes ≡ other → bytes_run fails stock ends bytes r ≡ commands_of fails stock ends other r
unfolding commands_of
commands_are fails stock ends bytes other r is = sym (stream_run fails stock 16 standard_input ends bytes r) ∙ ap (λ bs. obeying whole_stage fails stock 16 standard_input ends bs r) is

-- of a read that took so many, all bytes that are run follow
whole_front : (n : ℕ) (all : List ℕ) → n ≤ 2 ^ 26 → take n all ++ drop n (front_by all (is_longer all)) ≡ front_by all (is_longer all)
whole_front n all few = by (is_longer all)
  where
    by : (long : Bool) → take n all ++ drop n (front_by all long) ≡ front_by all long
    by true = ap (λ t. t ++ drop n (take (2 ^ 26) all)) (sym (take-take n (2 ^ 26) all few)) ∙ take-append-drop n (take (2 ^ 26) all)
    by false = take-append-drop n all

-- an input that has ended
ended_fits : (n : ℕ) (all : List ℕ) → drop n all ≡ [] → length all ≤ n
ended_fits n all is = omega (arith, ap length is, length-drop n all)

test_false : (n m : ℕ) → m ≤ n → nat_lt n m ≡ false
test_false n m h = grind (arith, common_steps)

test_true : (n m : ℕ) → n < m → nat_lt n m ≡ true
test_true n m h = grind (arith, common_steps)

ended_short : (n : ℕ) (all : List ℕ) → n ≤ 2 ^ 26 → drop n all ≡ [] → is_longer all ≡ false
ended_short n all few is = let fits : length all ≤ n = ended_fits n all is in test_false (2 ^ 26) (length all) (omega (arith, fits, few))

-- what may follow a cutter that a read fed
pub follows_read : (all : List ℕ) (left : Option (List ℕ)) (cutter fed : Uncut) (n m : ℕ) (c : Came) → n ≤ 2 ^ 26 → ReadsOf all left cutter fed n m (Ok c) → fed.closed ≡ is_end c
    → MayFollow fed.closed (not (is_longer all)) (drop m (front_by all (is_longer all)))
follows_read all left cutter fed n m came.Bytes few reads closed = subst (λ b. MayFollow b (not (is_longer all)) (drop m (front_by all (is_longer all)))) (sym closed) tt
follows_read all left cutter fed n m came.TooMany few reads closed = subst (λ b. MayFollow b (not (is_longer all)) (drop m (front_by all (is_longer all)))) (sym closed) tt
follows_read all left cutter fed n m came.Nothing few reads closed =
    let short : is_longer all ≡ false = ended_short n all few reads.0 in
    subst (λ b. MayFollow b (not (is_longer all)) (drop m (front_by all (is_longer all)))) (sym closed)
    (ap not short, ap (λ b. drop m (front_by all b)) short ∙ ap (λ k. drop k all) reads.3 ∙ reads.0)

-- ---- the input

-- its commands that are run, from what was taken on
input_flows : {C : Type 0} (stands held : Session → Type 0) (p q : Progress C) (old mid now : Option (List ℕ)) (fails : Option ℕ) (stock : List Filed) (fed left : Uncut) (m : ℕ) (all : List ℕ) (r : Run) (result : Result Flow Fault)
    → m ≤ 2 ^ 26 → MayFollow fed.closed (not (is_longer all)) (drop m (front_by all (is_longer all))) → BehindFront stands p old mid fails stock fed m all r → FedTold stands held p q mid now fails stock 16 standard_input fed left result
    → FlowsTo held q old now fails (rest_of fails stock 16 standard_input (left_behind fed.closed (cuts_with left (not (is_longer all)) (drop m (front_by all (is_longer all))))))
    (commands_of fails stock (not (is_longer all)) (front_by all (is_longer all)) r) result
input_flows stands held p q old mid now fails stock fed left m all r result few follows b tells =
    subst (λ x. FlowsTo held q old now fails (rest_of fails stock 16 standard_input (left_behind fed.closed (cuts_with left (not (is_longer all)) (drop m (front_by all (is_longer all)))))) x result)
    (commands_are fails stock (not (is_longer all)) (take m all ++ drop m (front_by all (is_longer all))) (front_by all (is_longer all)) r (whole_front m all few))
    (front_flows stands held p q old mid now fails stock fed left m all r result b tells (not (is_longer all)) (drop m (front_by all (is_longer all))) follows)

pub input_ends : {C : Type 0} (stands held : Session → Type 0) (p q : Progress C) (old mid now : Option (List ℕ)) (fails : Option ℕ) (stock : List Filed) (fed left : Uncut) (m : ℕ) (all : List ℕ) (r : Run) (f : Flow) (e : End) → f ≡ flow.Ends e
    → m ≤ 2 ^ 26 → MayFollow fed.closed (not (is_longer all)) (drop m (front_by all (is_longer all))) → BehindFront stands p old mid fails stock fed m all r → FedTold stands held p q mid now fails stock 16 standard_input fed left (Ok f)
    → IsOver old now (status_of_end e) (input_of fails stock all r)
input_ends stands held p q old mid now fails stock fed left m all r f e is few follows b tells =
    input_over old now (status_of_end e) fails stock all r
    (input_flows stands held p q old mid now fails stock fed left m all r (Ok (flow.Ends e)) few follows b (subst (λ g. FedTold stands held p q mid now fails stock 16 standard_input fed left (Ok g)) is tells))

pub input_off : {C : Type 0} (stands held : Session → Type 0) (p q : Progress C) (old mid now : Option (List ℕ)) (fails : Option ℕ) (stock : List Filed) (fed left : Uncut) (m : ℕ) (all : List ℕ) (r : Run) (e : Fault)
    → m ≤ 2 ^ 26 → MayFollow fed.closed (not (is_longer all)) (drop m (front_by all (is_longer all))) → BehindFront stands p old mid fails stock fed m all r → FedTold stands held p q mid now fails stock 16 standard_input fed left (Err e)
    → Breaks q.fetched old now fails (input_of fails stock all r) e
input_off stands held p q old mid now fails stock fed left m all r e few follows b tells =
    input_breaks q.fetched old now fails stock all r e (input_flows stands held p q old mid now fails stock fed left m all r (Err e) few follows b tells)

-- a front of what it writes was written
pub input_some : {C : Type 0} (stands : Session → Type 0) (p : Progress C) (old now : Option (List ℕ)) (fails : Option ℕ) (stock : List Filed) (cutter : Uncut) (n : ℕ) (all : List ℕ) (r : Run) → n ≤ 2 ^ 26 → BehindFront stands p old now fails stock cutter n all r
    → AppendsSome old now (input_of fails stock all r).text
input_some stands p old now fails stock cutter n all r few b =
    input_breaks p.fetched old now fails stock all r fault.NoMemory
    (subst (λ x. Breaks p.fetched old now fails x fault.NoMemory) (commands_are fails stock (not (is_longer all)) (take n all ++ drop n (front_by all (is_longer all))) (front_by all (is_longer all)) r (whole_front n all few))
    (memory_breaks stands p p.fetched old now fails _ _ (b (not (is_longer all)) (drop n (front_by all (is_longer all))))))

-- the input has ended, and the run goes on
pub input_goes : {C : Type 0} (stands held : Session → Type 0) (p q : Progress C) (old mid now : Option (List ℕ)) (fails : Option ℕ) (stock : List Filed) (cutter fed left : Uncut) (n m : ℕ) (all : List ℕ) (rest : Option (List ℕ)) (r : Run) (c : Came) (f : Flow) → c ≡ came.Nothing → f ≡ flow.Goes
    → n ≤ 2 ^ 26 → ReadsOf all rest cutter fed n m (Ok c) → fed.closed ≡ is_end c → BehindFront stands p old mid fails stock fed m all r → FedTold stands held p q mid now fails stock 16 standard_input fed left (Ok f)
    → IsOn held q old now (input_of fails stock all r)
input_goes stands held p q old mid now fails stock cutter fed left n m all rest r c f end goes few tells closed b told =
    let reads = subst (λ d. ReadsOf all rest cutter fed n m (Ok d)) end tells in
    let is_closed : fed.closed ≡ true = closed ∙ ap is_end end in
    let to = front_flows stands held p q old mid now fails stock fed left m all r (Ok flow.Goes) b (subst (λ g. FedTold stands held p q mid now fails stock 16 standard_input fed left (Ok g)) goes told) true [] (subst (λ d. MayFollow d true []) (sym is_closed) (refl, refl)) in
    let on = on_so held q old now (bytes_run fails stock true (take m all ++ []) r)
    (subst (λ d. IsBehind held q old now (rest_of fails stock 16 standard_input (left_behind d (cuts_with left true []))) (bytes_run fails stock true (take m all ++ []) r)) is_closed to) in
    let all_of : take m all ++ [] ≡ all = append-nil (take m all) ∙ ap (λ k. take k all) reads.3 ∙ take_all n all (ended_fits n all reads.0) in
    input_on held q old now fails stock all r (ended_short n all few reads.0) (subst (IsOn held q old now) (commands_are fails stock true (take m all ++ []) all r all_of) on)

-- where a stream may go on, no command is whole in what is left
pub waits_so : (closed : Bool) (left : List Cut) (f : Flow) → closed ≡ false → f ≡ flow.Goes → Waits closed left (Ok f) → left ≡ []
waits_so closed left f goes_on goes waits = subst (λ d. Waits d left (Ok flow.Goes)) goes_on (subst (λ g. Waits closed left (Ok g)) goes waits)

-- the input is longer, and its front goes on
pub input_long : {C : Type 0} (stands held : Session → Type 0) (p q : Progress C) (old mid now : Option (List ℕ)) (fails : Option ℕ) (stock : List Filed) (cutter fed left : Uncut) (n m : ℕ) (all : List ℕ) (before rest : Option (List ℕ)) (r : Run) (c : Came) (f : Flow) → c ≡ came.TooMany → f ≡ flow.Goes
    → IsPlace all before n → ReadsOf all rest cutter fed n m (Ok c) → fed.closed ≡ is_end c → Waits fed.closed (cuts_with left false []) (Ok f) → BehindFront stands p old mid fails stock fed m all r → FedTold stands held p q mid now fails stock 16 standard_input fed left (Ok f)
    → IsOver old now status.TooLong (input_of fails stock all r)
input_long stands held p q old mid now fails stock cutter fed left n m all before rest r c f end goes place tells closed waits b told =
    let reads = subst (λ d. ReadsOf all rest cutter fed n m (Ok d)) end tells in
    let goes_on : fed.closed ≡ false = closed ∙ ap is_end end in
    let none : cuts_with left false [] ≡ [] = waits_so fed.closed (cuts_with left false []) f goes_on goes waits in
    let to = front_flows stands held p q old mid now fails stock fed left m all r (Ok flow.Goes) b (subst (λ g. FedTold stands held p q mid now fails stock 16 standard_input fed left (Ok g)) goes told) false [] (subst (λ d. MayFollow d false []) (sym goes_on) tt) in
    let on = on_so held q old now (bytes_run fails stock false (take m all ++ []) r)
    (subst (λ cs. IsBehind held q old now (rest_of fails stock 16 standard_input cs) (bytes_run fails stock false (take m all ++ []) r)) (ap (λ d. left_behind d (cuts_with left false [])) goes_on ∙ none) to) in
    let front : take m all ++ [] ≡ take (2 ^ 26) all = append-nil (take m all) ∙ ap (λ k. take k all) reads.4 in
    let more : n + reads.0 ≤ length all = within_on n reads.0 all place.within reads.2.within in
    let long : 2 ^ 26 < length all = omega (arith, more, reads.2.grown, reads.3, reads.4) in
    input_closed held q old now fails stock all r (test_true (2 ^ 26) (length all) long) (subst (IsOn held q old now) (commands_are fails stock false (take m all ++ []) (take (2 ^ 26) all) r front) on)

-- ---- what is left of the input

-- a command of what was taken ended the run
taken_over : {C : Type 0} (stands held : Session → Type 0) (p q : Progress C) (old mid now : Option (List ℕ)) (stock : List Filed) (fed left : Uncut) (m k : ℕ) (all : List ℕ) (rest : Option (List ℕ)) (r : Run) (e : End) → fed.closed ≡ false → m ≤ k → rest ≡ Some (drop k all)
    → BehindFront stands p old mid None stock fed m all r → FedTold stands held p q mid now None stock 16 standard_input fed left (Ok (flow.Ends e)) → LeavesRest (λ taken. commands_of None stock false taken r) all rest
taken_over stands held p q old mid now stock fed left m k all rest r e goes_on less is b tells =
    let taken : take m all ++ drop m (take k all) ≡ take k all = ap (λ t. t ++ drop m (take k all)) (sym (take-take m k all less)) ∙ take-append-drop m (take k all) in
    let over = front_flows stands held p q old mid now None stock fed left m all r (Ok (flow.Ends e)) b tells false (drop m (take k all)) (subst (λ d. MayFollow d false (drop m (take k all))) (sym goes_on) tt) in
    let ends = subst (IsOver old now (status_of_end e)) (commands_are None stock false (take m all ++ drop m (take k all)) (take k all) r taken) over in
    record { taken = take k all; rest = drop k all; all = sym (take-append-drop k all); left_is = is; needed = inr (over_so (commands_of None stock false (take k all) r) (status_of_end e) ends.ended) }

leaves_rest : {C : Type 0} (stands held : Session → Type 0) (p q : Progress C) (old mid now : Option (List ℕ)) (stock : List Filed) (cutter fed left : Uncut) (n m : ℕ) (all : List ℕ) (rest : Option (List ℕ)) (r : Run) (c : Came) (e : End)
    → ReadsOf all rest cutter fed n m (Ok c) → fed.closed ≡ is_end c → BehindFront stands p old mid None stock fed m all r → FedTold stands held p q mid now None stock 16 standard_input fed left (Ok (flow.Ends e))
    → LeavesRest (λ taken. commands_of None stock false taken r) all rest
leaves_rest stands held p q old mid now stock cutter fed left n m all rest r came.Bytes e reads closed b tells =
    taken_over stands held p q old mid now stock fed left m (n + reads.0) all rest r e closed (omega (arith, reads.1.grown)) (reads.1.rest_is ∙ ap Some (drop_on n reads.0 all)) b tells
leaves_rest stands held p q old mid now stock cutter fed left n m all rest r came.TooMany e reads closed b tells =
    taken_over stands held p q old mid now stock fed left m (n + reads.0) all rest r e closed (omega (arith, reads.2.grown, reads.3)) (reads.2.rest_is ∙ ap Some (drop_on n reads.0 all)) b tells
leaves_rest stands held p q old mid now stock cutter fed left n m all rest r came.Nothing e reads closed b tells =
    record { taken = all; rest = []; all = sym (append-nil all); left_is = reads.1; needed = inl refl }

pub left_ended : {C : Type 0} (stands held : Session → Type 0) (p q : Progress C) (old mid now : Option (List ℕ)) (stock : List Filed) (cutter fed left : Uncut) (n m : ℕ) (all : List ℕ) (rest : Option (List ℕ)) (r : Run) (c : Came) (f : Flow) (e : End) → f ≡ flow.Ends e
    → ReadsOf all rest cutter fed n m (Ok c) → fed.closed ≡ is_end c → BehindFront stands p old mid None stock fed m all r → FedTold stands held p q mid now None stock 16 standard_input fed left (Ok f)
    → IsOver old now (status_of_end e) (input_of None stock all r) → LeavesBy (IsLeftAs true (is_open (input_of None stock all r)) (λ taken. commands_of None stock false taken r) all rest) (Ok (flow.Ends e))
left_ended stands held p q old mid now stock cutter fed left n m all rest r c f e is reads closed b tells over =
    leaves_all _ (Ok (flow.Ends e))
    (subst (λ d. IsLeftAs true d (λ taken. commands_of None stock false taken r) all rest) (sym (over_so (input_of None stock all r) (status_of_end e) over.ended))
    (leaves_rest stands held p q old mid now stock cutter fed left n m all rest r c e reads closed b (subst (λ g. FedTold stands held p q mid now None stock 16 standard_input fed left (Ok g)) is tells)))

-- its end came
pub left_none : {C : Type 0} (held : Session → Type 0) (q : Progress C) (old now : Option (List ℕ)) (stock : List Filed) (cutter fed : Uncut) (n m : ℕ) (all : List ℕ) (rest : Option (List ℕ)) (r : Run) (c : Came) → c ≡ came.Nothing
    → ReadsOf all rest cutter fed n m (Ok c) → IsOn held q old now (input_of None stock all r)
    → LeavesBy (IsLeftAs true (is_open (input_of None stock all r)) (λ taken. commands_of None stock false taken r) all rest) (Ok flow.Goes)
left_none held q old now stock cutter fed n m all rest r c is tells on =
    let reads = subst (λ d. ReadsOf all rest cutter fed n m (Ok d)) is tells in
    subst (λ d. IsLeftAs true d (λ taken. commands_of None stock false taken r) all rest) (sym (open_so (input_of None stock all r) on.at_run.goes)) reads.1

-- a read failed
pub read_stops : {C : Type 0} (stands : Session → Type 0) (p : Progress C) (old now : Option (List ℕ)) (stock : List Filed) (cutter : Uncut) (n : ℕ) (all : List ℕ) (rest : Option (List ℕ)) (r : Run)
    → n ≤ 2 ^ 26 → cuts_with cutter false [] ≡ [] → BehindFront stands p old now None stock cutter n all r → rest ≡ Some (drop n all) → EndsAtRead old now all rest (λ taken. commands_of None stock false taken r)
read_stops stands p old now stock cutter n all rest r few waits b is =
    let behind = subst (λ cs. IsBehind stands p old now (rest_of None stock 16 standard_input cs) (bytes_run None stock false (take n all ++ []) r)) waits (b false []) in
    let on = subst (IsOn stands p old now) (commands_are None stock false (take n all ++ []) (take n all) r (append-nil (take n all))) (on_so stands p old now (bytes_run None stock false (take n all ++ []) r) behind) in
    record {
      taken = take n all;
      rest = drop n all;
      all = sym (take-append-drop n all);
      left_is = is;
      few = omega (arith, few, length-take n all);
      text = on.text;
      goes = on.at_run.goes;
    }
