-- The clauses of a run whose words are of the form: those of what the words ask for.
use Rattle.std.proofs.Common.{◌≡◌, ℕ, suc, List, Option, Some, None, sym, ap, subst, ◌∙◌}
use Rattle.std.specs.Prelude.{IfSome, option_map}
use Rattle.soar_edge.specs.Outside.{AppendsSome}
use Rattle.soar_edge.specs.declared.filed.Filed.{Filed}
use Rattle.soar_edge.specs.declared.status.Status.{Status}
use Rattle.soar_edge.specs.declared.status.Status.TheVariants as status
use Rattle.defs_run.specs.CommandLine.{Options}
use Rattle.defs_run.specs.Whole.{whole_stage}
use Rattle.defs_run.specs.Sessions.{Session, first_session}
use Rattle.defs_run.specs.Transcripts.{Transcript, by_options}
use Rattle.command_runs.specs.Answers.{Answers, EndsAtFetch, EndsAtRead, IsComplete, IsLeft, IsTranscript}
use Rattle.command_runs.specs.Causes.{Faults}
use Rattle.command_runs.specs.Lengths.{IsTooLong}
use Rattle.command_runs.specs.Whole.{IsAsked, front_run, level_of, whole_transcript}
use Rattle.command_words.specs.Seen.{options_seen}
use Rattle.soar_run.specs.Asked.{EndsAtReadFor, IsLeftFor, IsLongBy}
use Rattle.soar_run.specs.Spoken.{StandsFor}
use Rattle.soar_run.specs.declared.top.Start.{Start}

-- the transcript is that of what they ask for
transcript_by : (fails : Option ℕ) (stock : List Filed) (bytes : List ℕ) (o : Options) (words : Option Options) → Some o ≡ words → whole_transcript fails stock bytes o ≡ by_options whole_stage fails stock bytes words
unfolding whole_transcript
transcript_by fails stock bytes o words is = ap (by_options whole_stage fails stock bytes) is

-- what a run says of each input and stock, where it stands for what is asked for
abbrev Tells : Option (List ℕ) → Option (List Filed) → (Options → Type 0) → (List ℕ → List Filed → Options → Type 0) → Type 0
Tells left files asked P = IfSome left (λ bytes. (stock : List Filed) → files ≡ Some stock → (o : Options) → asked o → P bytes stock o)

pub headline_by : (left : Option (List ℕ)) (files : Option (List Filed)) (asked : Options → Type 0) (o : Options) (words : Option Options) (old now : Option (List ℕ)) (answer : Status) (before after : Faults) → Some o ≡ words → asked o
    → Tells left files asked (λ bytes stock p. after.source ≡ before.source → after.shelf ≡ before.shelf → after.sink ≡ before.sink → (answer ≡ status.NoMemory → ⊥) → IsTranscript old now answer (whole_transcript None stock bytes p))
    → IfSome left (λ bytes. (stock : List Filed) → files ≡ Some stock → after.source ≡ before.source → after.shelf ≡ before.shelf → after.sink ≡ before.sink → (answer ≡ status.NoMemory → ⊥)
    → IsTranscript old now answer (by_options whole_stage None stock bytes words))
headline_by None files asked o words old now answer before after is asks tells = tt
headline_by (Some bytes) files asked o words old now answer before after is asks tells = λ stock told source shelf sink some.
    subst (IsTranscript old now answer) (transcript_by None stock bytes o words is) (tells stock told o asks source shelf sink some)

pub answers_by : (left rest : Option (List ℕ)) (files : Option (List Filed)) (asked : Options → Type 0) (o : Options) (words : Option Options) (old now : Option (List ℕ)) (answer : Status) (before after : Faults) → Some o ≡ words → asked o
    → Tells left files asked (λ bytes stock p. Answers before after bytes rest (IsLeft stock p bytes rest) old now (whole_transcript None stock bytes p) answer)
    → IfSome left (λ bytes. (stock : List Filed) → files ≡ Some stock → Answers before after bytes rest (IsLeftFor stock bytes rest words) old now (by_options whole_stage None stock bytes words) answer)
answers_by None rest files asked o words old now answer before after is asks tells = tt
answers_by (Some bytes) rest files asked o words old now answer before after is asks tells = λ stock told.
    subst (λ t. Answers before after bytes rest (IsLeftFor stock bytes rest words) old now t answer) (transcript_by None stock bytes o words is)
    (subst (λ w. Answers before after bytes rest (IsLeftFor stock bytes rest w) old now (whole_transcript None stock bytes o) answer) is (tells stock told o asks))

pub prefix_by : (left : Option (List ℕ)) (files : Option (List Filed)) (asked : Options → Type 0) (o : Options) (words : Option Options) (old now : Option (List ℕ)) → Some o ≡ words → asked o
    → Tells left files asked (λ bytes stock p. AppendsSome old now (whole_transcript None stock bytes p).text)
    → IfSome left (λ bytes. (stock : List Filed) → files ≡ Some stock → AppendsSome old now (by_options whole_stage None stock bytes words).text)
prefix_by None files asked o words old now is asks tells = tt
prefix_by (Some bytes) files asked o words old now is asks tells = λ stock told.
    subst (λ (t : Transcript). AppendsSome old now t.text) (transcript_by None stock bytes o words is) (tells stock told o asks)

fetch_at : (old now : Option (List ℕ)) (n : ℕ) (fetched : Option ℕ) (first second : ℕ → Transcript) → ((number : ℕ) → first number ≡ second number) → EndsAtFetch old now n fetched first → EndsAtFetch old now n fetched second
fetch_at old now n fetched first second same e = record { count = e.count; few = e.few; counted = e.counted; written = subst (IsTranscript old now status.FileFault) (same (suc e.count)) e.written }

pub fetch_by : (left : Option (List ℕ)) (files : Option (List Filed)) (asked : Options → Type 0) (o : Options) (words : Option Options) (old now : Option (List ℕ)) (answer : Status) (first last : Option ℕ) → Some o ≡ words → asked o
    → Tells left files asked (λ bytes stock p. (n : ℕ) → first ≡ Some n → answer ≡ status.FileFault → EndsAtFetch old now n last (λ number. whole_transcript (Some number) stock bytes p))
    → IfSome left (λ bytes. (stock : List Filed) → files ≡ Some stock → (n : ℕ) → first ≡ Some n → answer ≡ status.FileFault
    → EndsAtFetch old now n last (λ number. by_options whole_stage (Some number) stock bytes words))
fetch_by None files asked o words old now answer first last is asks tells = tt
fetch_by (Some bytes) files asked o words old now answer first last is asks tells = λ stock told n counts fault.
    fetch_at old now n last (λ number. whole_transcript (Some number) stock bytes o) (λ number. by_options whole_stage (Some number) stock bytes words) (λ number. transcript_by (Some number) stock bytes o words is)
    (tells stock told o asks n counts fault)

pub read_by : (left rest : Option (List ℕ)) (files : Option (List Filed)) (asked : Options → Type 0) (o : Options) (words : Option Options) (old now : Option (List ℕ)) (answer : Status) → Some o ≡ words → asked o
    → Tells left files asked (λ bytes stock p. answer ≡ status.ReadFault → (p.generate ≡ None) × EndsAtRead old now bytes rest (λ taken. front_run stock taken p))
    → IfSome left (λ bytes. (stock : List Filed) → files ≡ Some stock → answer ≡ status.ReadFault → EndsAtReadFor stock old now bytes rest words)
read_by None rest files asked o words old now answer is asks tells = tt
read_by (Some bytes) rest files asked o words old now answer is asks tells = λ stock told fault. subst (EndsAtReadFor stock old now bytes rest) is (tells stock told o asks fault)

pub complete_by : (left : Option (List ℕ)) (files : Option (List Filed)) (asked : Options → Type 0) (o : Options) (words : Option Options) (answer : Status) (before after : Faults) → Some o ≡ words → asked o
    → Tells left files asked (λ bytes stock p. ((whole_transcript None stock bytes p).status ≡ status.Limit → ⊥) → ((whole_transcript None stock bytes p).status ≡ status.TooLong → ⊥)
    → after.source ≡ before.source → after.shelf ≡ before.shelf → after.sink ≡ before.sink → IsComplete answer)
    → IfSome left (λ bytes. (stock : List Filed) → files ≡ Some stock → (words ≡ None → ⊥) → ((by_options whole_stage None stock bytes words).status ≡ status.Limit → ⊥) → ((by_options whole_stage None stock bytes words).status ≡ status.TooLong → ⊥)
    → after.source ≡ before.source → after.shelf ≡ before.shelf → after.sink ≡ before.sink → IsComplete answer)
complete_by None files asked o words answer before after is asks tells = tt
complete_by (Some bytes) files asked o words answer before after is asks tells = λ stock told form free short.
    let same = transcript_by None stock bytes o words is in
    tells stock told o asks (λ e. free (ap (λ (t : Transcript). t.status) (sym same) ∙ e)) (λ e. short (ap (λ (t : Transcript). t.status) (sym same) ∙ e))

pub long_by : (left : Option (List ℕ)) (files : Option (List Filed)) (asked : Options → Type 0) (o : Options) (words : Option Options) (answer : Status) → Some o ≡ words → asked o
    → Tells left files asked (λ bytes stock p. answer ≡ status.TooLong → IsTooLong p.generate stock bytes)
    → IfSome left (λ bytes. (stock : List Filed) → files ≡ Some stock → answer ≡ status.TooLong → IsLongBy stock bytes words)
long_by None files asked o words answer is asks tells = tt
long_by (Some bytes) files asked o words answer is asks tells = λ stock told long. subst (IsLongBy stock bytes) is (tells stock told o asks long)

-- what the words ask for, as it is handed on
pub asked_so : (stands : Session → Type 0) (o : Options) (generate : Option ℕ) (names : List (List ℕ)) → generate ≡ o.generate → names ≡ o.files → stands (first_session (level_of o.watch)) → IsAsked stands o generate names
asked_so stands o generate names script files session = record { script = script; files = files; session = session }

-- the options that were read, and the session that was made
pub options_told : (read : Option Start) (start : Start) (words : Option Options) → read ≡ Some start → option_map (λ (s : Start). options_seen s.options) read ≡ words → Some (options_seen start.options) ≡ words
options_told read start words is told = ap (option_map (λ (s : Start). options_seen s.options)) (sym is) ∙ told

pub session_told : (read : Option Start) (start : Start) → read ≡ Some start → IfSome read (λ (s : Start). StandsFor s.speaker.session (first_session (level_of s.options.watch)))
    → StandsFor start.speaker.session (first_session (level_of start.options.watch))
session_told read start is told = subst (λ r. IfSome r (λ (s : Start). StandsFor s.speaker.session (first_session (level_of s.options.watch)))) is told
