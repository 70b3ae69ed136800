-- The commands of a stream, one after another, and those of the files inside.
use Rattle.std.proofs.Common.{◌≡◌, ℕ, zero, suc, ◌-◌, ◌<◌, ◌++◌, Bool, true, List, [], ◌∷◌, length, Option, Some, Result, Ok, Err, refl, sym, ap, subst, ◌∙◌, arith}
use Rattle.soar_edge.specs.Cuts.{MayFollow, Uncut, cuts_with}
use Rattle.soar_edge.specs.Cutting.{Cut, cuts_of}
use Rattle.soar_edge.specs.declared.filed.Filed.{Filed}
use Rattle.defs_run.specs.Whole.{whole_stage}
use Rattle.defs_run.specs.Runs.{Run, Ran, then_run}
use Rattle.defs_run.specs.Sessions.{Session}
use Rattle.defs_run.specs.Sources.{Obeying, cut_run, cuts_run, obeying}
use Rattle.command_runs.specs.Following.{Breaks, Flows, FlowsTo, IsAt, IsBehind, IsOver, IsReadyFlow, OpensFile, inner_of, status_of_end}
use Rattle.command_runs.specs.declared.ends.End.{End}
use Rattle.command_runs.specs.declared.ends.Flow.{Flow}
use Rattle.command_runs.specs.declared.ends.Flow.TheVariants as flow
use Rattle.command_runs.specs.declared.ends.Opened.{Opened}
use Rattle.command_runs.specs.Turning.{IsReadyTurn, TakesCommand, Turns, left_behind}
use Rattle.command_runs.specs.declared.ends.Step.{Step}
use Rattle.command_runs.specs.declared.ends.Step.TheVariants as step
use Rattle.command_runs.specs.declared.fault.Fault.{Fault}
use Rattle.command_runs.specs.declared.progress.Progress.{Progress}
use Rattle.command_runs.specs.declared.turn.Turn.{Turn}
use Rattle.command_runs.specs.declared.turn.Turn.TheVariants as turn
use Rattle.command_runs.proofs.FlowLemmas.{breaks_off, ends_behind, flows_so, goes_behind, rest_breaks, to_behind}
use Rattle.command_runs.proofs.RunLemmas.{behind_behind, stream_run, then_behind}
use Rattle.soar_edge.proofs.CallerLemmas.{appends_then}
use Rattle.defs_run.specs.Runs.{behind_text}

-- the commands behind the first
abbrev pub rest_of : Option ℕ → List Filed → ℕ → List ℕ → List Cut → Run → Ran
rest_of fails stock depth from cuts r = cuts_run whole_stage (inner_of fails stock depth) fails stock from cuts r

abbrev pub first_of : Option ℕ → List Filed → ℕ → List ℕ → Cut → Run → Ran
first_of fails stock depth from c r = cut_run whole_stage (inner_of fails stock depth) fails stock from c r

-- the first of the commands that are left, and those behind it
pub at_first : {C : Type 0} (stands : Session → Type 0) (p : Progress C) (old now : Option (List ℕ)) (fails : Option ℕ) (stock : List Filed) (depth : ℕ) (from : List ℕ) (c : Cut) (cuts left : List Cut) (whole : Ran)
    → cuts ≡ c ∷ left → IsBehind stands p old now (rest_of fails stock depth from cuts) whole
    → IsBehind stands p old now (λ r. then_run (first_of fails stock depth from c r) (rest_of fails stock depth from left)) whole
at_first stands p old now fails stock depth from c cuts left whole is b = subst (λ cs. IsBehind stands p old now (rest_of fails stock depth from cs) whole) is b

-- the file that is read runs one deeper
inside_is : (fails : Option ℕ) (stock : List Filed) (depth : ℕ) (o : Obeying) → inner_of fails stock depth ≡ Some o → o ≡ obeying whole_stage fails stock (depth - 1)
inside_is fails stock zero o is = absurd (cc)
inside_is fails stock (suc depth) o is =
    let same : obeying whole_stage fails stock depth ≡ o = cc in
    let less : suc depth - 1 ≡ depth = omega arith in
    sym same ∙ ap (λ d. obeying whole_stage fails stock d) (sym less)

-- a command that asks for a file: its commands come before the rest
pub opens_stream : {C : Type 0} (stands held : Session → Type 0) (p q : Progress C) (old mid now : Option (List ℕ)) (fails : Option ℕ) (stock : List Filed) (depth : ℕ) (from : List ℕ) (c : Cut) (left : List Cut) (whole : Ran) (file : Opened)
    → (b : IsBehind stands p old mid (λ r. then_run (first_of fails stock depth from c r) (rest_of fails stock depth from left)) whole)
    → OpensFile held q mid now (inner_of fails stock depth) (first_of fails stock depth from c b.run) file
    → IsBehind held q old now (λ r. then_run (obeying whole_stage fails stock (depth - 1) file.name true file.bytes r) (rest_of fails stock depth from left)) whole
opens_stream stands held p q old mid now fails stock depth from c left whole file b o =
    let later : Run → Ran = rest_of fails stock depth from left in
    record {
      run = o.run;
      done = b.done ++ o.text;
      appended = appends_then old mid now b.done o.text b.appended o.appended;
      at_run = o.at_run;
      comes = b.comes
          ∙ ap (λ x. behind_text b.done (then_run x later)) (o.comes ∙ ap (λ (f : Obeying). behind_text o.text (f file.name true file.bytes o.run)) (inside_is fails stock depth o.obeying o.inside))
          ∙ ap (behind_text b.done) (then_behind o.text (obeying whole_stage fails stock (depth - 1) file.name true file.bytes o.run) later)
          ∙ behind_behind b.done o.text _;
    }

-- fewer commands are left
pub fewer : (c : Cut) (cuts left : List Cut) → cuts ≡ c ∷ left → length left < length cuts
fewer c cuts left is = let more : length cuts ≡ suc (length left) = ap length is in omega (arith, more)

-- ---- the answers of a turn

-- what a turn tells where the code stands at a run
abbrev pub TurnTold : {C : Type 0} → (Session → Type 0) → (Session → Type 0) → Progress C → Progress C → Option (List ℕ) → Option (List ℕ) → Option ℕ → List Filed → ℕ → List ℕ → Bool → List Cut → List Cut → Result Turn Fault → Type 0
TurnTold stands held p q mid now fails stock depth from closed cuts left result =
    (r : Run) → IsAt stands p r → Turns held q mid now fails (inner_of fails stock depth) stock from closed cuts left r result

-- what was taken, told step by step
pub took_so : (t : Turn) (u s : Step) → t ≡ turn.Took u → u ≡ s → t ≡ turn.Took s
took_so t u s is same = is ∙ ap turn.Took same

-- one command was taken off
abbrev pub TakesOff : List Cut → List Cut → Type 0
TakesOff cuts left = (c : Cut) × (cuts ≡ c ∷ left)

pub taken_off : (old new : Uncut) (t : Turn) (s : Step) (ends : Bool) (more : List ℕ) → t ≡ turn.Took s → TakesCommand old new (Ok t) → MayFollow old.closed ends more → TakesOff (cuts_with old ends more) (cuts_with new ends more)
taken_off old new t s ends more is takes follows = let took = subst (λ u. TakesCommand old new (Ok u)) is takes in (took.0, took.1 ends more follows)

-- the same may follow
pub follows_too : (a b ends : Bool) (more : List ℕ) → a ≡ b → MayFollow b ends more → MayFollow a ends more
follows_too a b ends more is follows = subst (λ c. MayFollow c ends more) (sym is) follows

pub turn_last : {C : Type 0} (stands held : Session → Type 0) (p q : Progress C) (old mid now : Option (List ℕ)) (fails : Option ℕ) (stock : List Filed) (depth : ℕ) (from : List ℕ) (closed ended : Bool) (cuts left : List Cut) (whole : Ran) (t : Turn) (f : Flow)
    → closed ≡ ended → t ≡ turn.Last f → IsBehind stands p old mid (rest_of fails stock depth from cuts) whole → TurnTold stands held p q mid now fails stock depth from closed cuts left (Ok t)
    → FlowsTo held q old now fails (rest_of fails stock depth from (left_behind ended left)) whole (Ok f)
turn_last stands held p q old mid now fails stock depth from closed ended cuts left whole t f same is b tells =
    subst (λ c. FlowsTo held q old now fails (rest_of fails stock depth from (left_behind c left)) whole (Ok f)) same
    (to_behind stands held p q old mid now fails (rest_of fails stock depth from cuts) (rest_of fails stock depth from (left_behind closed left)) whole (Ok f) b
    (subst (λ u. Turns held q mid now fails (inner_of fails stock depth) stock from closed cuts left b.run (Ok u)) is (tells b.run b.at_run)))

pub turn_goes : {C : Type 0} (stands held : Session → Type 0) (p q : Progress C) (old mid now : Option (List ℕ)) (fails : Option ℕ) (stock : List Filed) (depth : ℕ) (from : List ℕ) (closed : Bool) (cuts left : List Cut) (whole : Ran) (t : Turn)
    → t ≡ turn.Took step.Goes → TakesOff cuts left → IsBehind stands p old mid (rest_of fails stock depth from cuts) whole → TurnTold stands held p q mid now fails stock depth from closed cuts left (Ok t)
    → IsBehind held q old now (rest_of fails stock depth from left) whole
turn_goes stands held p q old mid now fails stock depth from closed cuts left whole t is took b tells =
    let a = at_first stands p old mid fails stock depth from took.0 cuts left whole took.1 b in
    goes_behind stands held p q old mid now (first_of fails stock depth from took.0) (rest_of fails stock depth from left) whole a
    ((subst (λ u. Turns held q mid now fails (inner_of fails stock depth) stock from closed cuts left a.run (Ok u)) is (tells a.run a.at_run)) took.0 took.1)

pub turn_ends : {C : Type 0} (stands held : Session → Type 0) (p q : Progress C) (old mid now : Option (List ℕ)) (fails : Option ℕ) (stock : List Filed) (depth : ℕ) (from : List ℕ) (closed : Bool) (cuts left : List Cut) (whole : Ran) (t : Turn) (e : End)
    → t ≡ turn.Took (step.Ends e) → TakesOff cuts left → IsBehind stands p old mid (rest_of fails stock depth from cuts) whole → TurnTold stands held p q mid now fails stock depth from closed cuts left (Ok t)
    → IsOver old now (status_of_end e) whole
turn_ends stands held p q old mid now fails stock depth from closed cuts left whole t e is took b tells =
    let a = at_first stands p old mid fails stock depth from took.0 cuts left whole took.1 b in
    ends_behind stands p old mid now (status_of_end e) (first_of fails stock depth from took.0) (rest_of fails stock depth from left) whole a
    ((subst (λ u. Turns held q mid now fails (inner_of fails stock depth) stock from closed cuts left a.run (Ok u)) is (tells a.run a.at_run)) took.0 took.1)

pub turn_opens : {C : Type 0} (stands held : Session → Type 0) (p q : Progress C) (old mid now : Option (List ℕ)) (fails : Option ℕ) (stock : List Filed) (depth : ℕ) (from : List ℕ) (closed : Bool) (cuts left : List Cut) (whole : Ran) (t : Turn) (file : Opened)
    → t ≡ turn.Took (step.Opens file) → TakesOff cuts left → IsBehind stands p old mid (rest_of fails stock depth from cuts) whole → TurnTold stands held p q mid now fails stock depth from closed cuts left (Ok t)
    → IsBehind held q old now (λ r. then_run (obeying whole_stage fails stock (depth - 1) file.name true file.bytes r) (rest_of fails stock depth from left)) whole
turn_opens stands held p q old mid now fails stock depth from closed cuts left whole t file is took b tells =
    let a = at_first stands p old mid fails stock depth from took.0 cuts left whole took.1 b in
    opens_stream stands held p q old mid now fails stock depth from took.0 left whole file a
    ((subst (λ u. Turns held q mid now fails (inner_of fails stock depth) stock from closed cuts left a.run (Ok u)) is (tells a.run a.at_run)) took.0 took.1)

pub turn_breaks : {C : Type 0} (stands held : Session → Type 0) (p q : Progress C) (old mid now : Option (List ℕ)) (fails : Option ℕ) (stock : List Filed) (depth : ℕ) (from : List ℕ) (closed : Bool) (cuts left : List Cut) (whole : Ran) (e : Fault)
    → IsBehind stands p old mid (rest_of fails stock depth from cuts) whole → TurnTold stands held p q mid now fails stock depth from closed cuts left (Err e) → Breaks q.fetched old now fails whole e
turn_breaks stands held p q old mid now fails stock depth from closed cuts left whole e b tells =
    rest_breaks stands p q.fetched old mid now fails (rest_of fails stock depth from cuts) whole e b (tells b.run b.at_run)

-- ---- the answers of a file inside

-- what the run of a file tells
abbrev pub FileTold : {C : Type 0} → (Session → Type 0) → (Session → Type 0) → Progress C → Progress C → Option (List ℕ) → Option (List ℕ) → Option ℕ → List Filed → ℕ → List ℕ → List ℕ → Result Flow Fault → Type 0
FileTold stands held p q mid now fails stock depth name bytes result = (r : Run) → IsAt stands p r → Flows held q mid now fails (obeying whole_stage fails stock depth name true bytes r) result

-- of the file's name and bytes, told otherwise
pub file_told : {C : Type 0} (stands held : Session → Type 0) (p q : Progress C) (mid now : Option (List ℕ)) (fails : Option ℕ) (stock : List Filed) (depth : ℕ) (name name_of bytes bytes_of : List ℕ) (result : Result Flow Fault)
    → name ≡ name_of → bytes ≡ bytes_of → FileTold stands held p q mid now fails stock depth name bytes result → FileTold stands held p q mid now fails stock depth name_of bytes_of result
file_told stands held p q mid now fails stock depth name name_of bytes bytes_of result same all tells =
    subst (λ n. FileTold stands held p q mid now fails stock depth n bytes_of result) same (subst (λ bs. FileTold stands held p q mid now fails stock depth name bs result) all tells)

pub file_goes : {C : Type 0} (stands held : Session → Type 0) (p q : Progress C) (old mid now : Option (List ℕ)) (fails : Option ℕ) (stock : List Filed) (depth : ℕ) (name bytes : List ℕ) (later : Run → Ran) (whole : Ran) (f : Flow)
    → f ≡ flow.Goes → IsBehind stands p old mid (λ r. then_run (obeying whole_stage fails stock depth name true bytes r) later) whole → FileTold stands held p q mid now fails stock depth name bytes (Ok f)
    → IsBehind held q old now later whole
file_goes stands held p q old mid now fails stock depth name bytes later whole f is b tells =
    goes_behind stands held p q old mid now (obeying whole_stage fails stock depth name true bytes) later whole b
    (subst (λ g. Flows held q mid now fails (obeying whole_stage fails stock depth name true bytes b.run) (Ok g)) is (tells b.run b.at_run))

pub file_ends : {C : Type 0} (stands held : Session → Type 0) (p q : Progress C) (old mid now : Option (List ℕ)) (fails : Option ℕ) (stock : List Filed) (depth : ℕ) (name bytes : List ℕ) (later : Run → Ran) (whole : Ran) (f : Flow) (e : End)
    → f ≡ flow.Ends e → IsBehind stands p old mid (λ r. then_run (obeying whole_stage fails stock depth name true bytes r) later) whole → FileTold stands held p q mid now fails stock depth name bytes (Ok f)
    → IsOver old now (status_of_end e) whole
file_ends stands held p q old mid now fails stock depth name bytes later whole f e is b tells =
    ends_behind stands p old mid now (status_of_end e) (obeying whole_stage fails stock depth name true bytes) later whole b
    (subst (λ g. Flows held q mid now fails (obeying whole_stage fails stock depth name true bytes b.run) (Ok g)) is (tells b.run b.at_run))

pub file_breaks : {C : Type 0} (stands held : Session → Type 0) (p q : Progress C) (old mid now : Option (List ℕ)) (fails : Option ℕ) (stock : List Filed) (depth : ℕ) (name bytes : List ℕ) (later : Run → Ran) (whole : Ran) (e : Fault)
    → IsBehind stands p old mid (λ r. then_run (obeying whole_stage fails stock depth name true bytes r) later) whole → FileTold stands held p q mid now fails stock depth name bytes (Err e)
    → Breaks q.fetched old now fails whole e
file_breaks stands held p q old mid now fails stock depth name bytes later whole e b tells =
    breaks_off stands p q.fetched old mid now fails (obeying whole_stage fails stock depth name true bytes) later whole e b (tells b.run b.at_run)

-- ---- the stream

-- what the commands tell that a cutter holds
abbrev pub FedTold : {C : Type 0} → (Session → Type 0) → (Session → Type 0) → Progress C → Progress C → Option (List ℕ) → Option (List ℕ) → Option ℕ → List Filed → ℕ → List ℕ → Uncut → Uncut → Result Flow Fault → Type 0
FedTold stands held p q mid now fails stock depth from old new result = (r : Run) → IsAt stands p r → (ends : Bool) (more : List ℕ) → MayFollow old.closed ends more
    → FlowsTo held q mid now fails (rest_of fails stock depth from (left_behind old.closed (cuts_with new ends more))) (rest_of fails stock depth from (cuts_with old ends more) r) result

-- those of all bytes of a stream are its commands
pub fed_told : {C : Type 0} (stands held : Session → Type 0) (p q : Progress C) (mid now : Option (List ℕ)) (fails : Option ℕ) (stock : List Filed) (depth : ℕ) (from : List ℕ) (old new : Uncut) (bytes : List ℕ) (result : Result Flow Fault)
    → old.closed ≡ true → cuts_with old true [] ≡ cuts_of true bytes → FedTold stands held p q mid now fails stock depth from old new result → FileTold stands held p q mid now fails stock depth from bytes result
fed_told stands held p q mid now fails stock depth from old new bytes result ended is tells = λ r at.
    let all = tells r at true [] (subst (λ c. MayFollow c true []) (sym ended) (refl, refl)) in
    let none = subst (λ c. FlowsTo held q mid now fails (rest_of fails stock depth from (left_behind c (cuts_with new true []))) (rest_of fails stock depth from (cuts_with old true []) r) result) ended all in
    subst (λ x. Flows held q mid now fails x result) (ap (λ cs. rest_of fails stock depth from cs r) is ∙ sym (stream_run fails stock depth from true bytes r))
    (flows_so held q mid now fails (rest_of fails stock depth from (cuts_with old true []) r) result none)

-- ---- readiness

pub turn_ready : (ready : Type 0) (t : Turn) → t ≡ turn.Took step.Goes → IsReadyTurn ready (Ok t) → ready
turn_ready ready t is it = subst (λ u. IsReadyTurn ready (Ok u)) is it

pub flow_ready : (ready : Type 0) (f : Flow) → f ≡ flow.Goes → IsReadyFlow ready (Ok f) → ready
flow_ready ready f is it = subst (λ g. IsReadyFlow ready (Ok g)) is it
