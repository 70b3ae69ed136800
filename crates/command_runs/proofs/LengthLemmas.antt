-- A run ends as too long only where the input, a file or a command is.
use Rattle.std.proofs.Common.{◌≡◌, ℕ, zero, suc, ◌-◌, ◌^◌, ◌==◌, not, nat_lt, nat_le, Bool, true, false, List, [], ◌∷◌, take, length, Option, Some, None, refl, sym, subst, ◌∙◌, ◌⊎◌, inl, inr, arith}
use Rattle.std.proofs.lemmas.Bool.Decides.{nat_tests}
use Rattle.std.specs.Prelude.{if◌then◌else◌}
use Rattle.std.specs.List.{prefix_len}
use Rattle.soar_edge.specs.Cutting.{Cut, Extent, whole, unfinished, too_long, cut_of, cuts_from, cuts_of, extent_from, is_space, line_after, open_text}
use Rattle.soar_edge.specs.declared.filed.Filed.{Filed}
use Rattle.soar_edge.specs.declared.status.Status.{Status}
use Rattle.soar_edge.specs.declared.status.Status.TheVariants as status
use Rattle.defs_soar.specs.declared.limit.Which.{Which}
use Rattle.defs_run.specs.CommandLine.{script_of}
use Rattle.defs_run.specs.Orders.{Refusal, no_file, sources_too_deep, too_many_files, unfinished_command}
use Rattle.defs_run.specs.Whole.{whole_stage}
use Rattle.defs_run.specs.Runs.{Run, Ran, after_reply, ended_as, limited, obeyed, ran, told_written, then_run, behind_text}
use Rattle.defs_run.specs.Sessions.{Reply, Sequel, goes_on, quits, sources, refused_by}
use Rattle.defs_run.specs.Sources.{Obeying, after_sequel, cut_run, cuts_run, fetched, file_named, file_run, obeying, refused_run, sourced}
use Rattle.defs_run.specs.Transcripts.{standard_input}
use Rattle.command_runs.specs.Following.{inner_of}
use Rattle.command_runs.specs.Lengths.{HasLong, HasLongCommand, HasLongFile, IsLongStream, IsTooLong, LongFrom}
use Rattle.command_runs.specs.Whole.{commands_of, file_of, files_of, input_of, whole_run}
use Rattle.command_runs.proofs.FileLemmas.{files_end, files_next}
use Rattle.command_runs.proofs.InputLemmas.{input_by, input_is}
use Rattle.command_runs.proofs.RunLemmas.{stream_run}

-- ---- commands that are cut

next_long : (closed : Bool) (b : ℕ) (bytes : List ℕ) → LongFrom closed bytes → LongFrom closed (b ∷ bytes)
next_long closed b bytes long = (suc long.0, long.1)

front_long : (closed : Bool) (number b : ℕ) (bytes : List ℕ) (rest : List Cut) → (HasLong rest → LongFrom closed bytes)
    → HasLong (cut_of closed number (b ∷ bytes) (extent_from closed open_text 0 (b ∷ bytes)) rest) → LongFrom closed (b ∷ bytes)
front_long closed number b bytes rest later = by (nat_lt (2 ^ 20) e.size) refl e.ends closed
  where
    e : Extent
    e = extent_from closed open_text 0 (b ∷ bytes)

    by : (big : Bool) → nat_lt (2 ^ 20) e.size ≡ big → (ends over : Bool)
        → HasLong (if big then too_long ∷ [] else if ends then whole number (take e.size (b ∷ bytes)) ∷ rest else if over then unfinished number ∷ [] else []) → LongFrom closed (b ∷ bytes)
    by true is ends over long = (0, grind (arith, nat_tests))
    by false is true over long = next_long closed b bytes (later long)
    by false is false true long = absurd long
    by false is false false long = absurd long

long_from : (closed : Bool) (skip number : ℕ) (bytes : List ℕ) → HasLong (cuts_from closed skip number bytes) → LongFrom closed bytes
long_from closed skip number [] long = absurd long
long_from closed (suc skip) number (b ∷ bytes) long = next_long closed b bytes (long_from closed skip (line_after number b) bytes long)
long_from closed zero number (b ∷ bytes) long = by (is_space b) (b == 35) (λ skip line. long_from closed skip line bytes) long
  where
    by : (space comment : Bool) → ((skip line : ℕ) → HasLong (cuts_from closed skip line bytes) → LongFrom closed bytes)
        → HasLong (elim space as (λ _. List Cut) [
          | true ↦ cuts_from closed 0 (line_after number b) bytes
          | false ↦ elim comment as (λ _. List Cut) [
            | true ↦ cuts_from closed (prefix_len (λ c. not (c == 10)) bytes) number bytes
            | false ↦ cut_of closed number (b ∷ bytes) (extent_from closed open_text 0 (b ∷ bytes))
                (cuts_from closed ((extent_from closed open_text 0 (b ∷ bytes)).size - 1) (line_after number b) bytes)
          ]
        ]) → LongFrom closed (b ∷ bytes)
    by true comment later long = next_long closed b bytes (later 0 (line_after number b) long)
    by false true later long = next_long closed b bytes (later (prefix_len (λ c. not (c == 10)) bytes) number long)
    by false false later long = front_long closed number b bytes _ (later ((extent_from closed open_text 0 (b ∷ bytes)).size - 1) (line_after number b)) long

cuts_long : (bytes : List ℕ) → HasLong (cuts_of true bytes) → LongFrom true bytes
unfolding cuts_of
cuts_long bytes long = long_from true 0 1 bytes long

-- ---- how a run ends

-- it ended as too long
abbrev IsLong : Ran → Type 0
IsLong x = x.run.ended ≡ Some status.TooLong

abbrev Goes : Run → Type 0
Goes r = r.ended ≡ None

goes_not : (r : Run) → Goes r → r.ended ≡ Some status.TooLong → ⊥
goes_not r goes long = let e : None ≡ Some status.TooLong = sym goes ∙ long in absurd (cc)

-- either the first part or the next
then_long : (x : Ran) (f : Run → Ran) → IsLong (then_run x f) → IsLong x ⊎ (Goes x.run × IsLong (f x.run))
then_long x f = by x.run.ended refl
  where
    by : (o : Option Status) → x.run.ended ≡ o → IsLong (elim o as (λ _. Ran) [ None ↦ behind_text x.text (f x.run) | Some s ↦ x ]) → IsLong x ⊎ (Goes x.run × IsLong (f x.run))
    by None is long = inr (is, long)
    by (Some s) is long = inl long

-- a reply never is
limited_not : (q : Run) (o : Option Which) → Goes q → (limited q o).ended ≡ Some status.TooLong → ⊥
limited_not q None goes long = goes_not q goes long
limited_not q (Some limit) goes long = let e : Some status.Limit ≡ Some status.TooLong = long in absurd (cc)

reply_not : (r : Run) (reply : Reply) → Goes r → IsLong (after_reply r reply) → ⊥
reply_not r reply goes long = limited_not _ (told_written r.session.agent.settings.watch r.session.mid_line reply.told).limit goes long

refused_not : (refusal : Refusal) (from : List ℕ) (number : ℕ) (r : Run) → Goes r → IsLong (refused_run refusal from number r) → ⊥
refused_not refusal from number r goes long = reply_not r (refused_by refusal from number r.session) goes long

-- ---- files

-- the files that run inside end so only where one is too long
abbrev Safe : List Filed → Option Obeying → Type 0
Safe stock None = Unit {0}
Safe stock (Some f) = (from bytes : List ℕ) (r : Run) → Goes r → IsLong (f from true bytes r) → HasLongFile stock ⊎ IsLongStream bytes

file_long : (stock : List Filed) (f : Obeying) (from : List ℕ) (number : ℕ) (name : List ℕ) (r : Run) → Safe stock (Some f) → Goes r → (o : Option (List ℕ)) → file_named stock name ≡ o
    → IsLong (file_run f from number name r o) → HasLongFile stock
file_long stock f from number name r safe goes None is long = absurd (refused_not (no_file name) from number r goes long)
file_long stock f from number name r safe goes (Some bytes) is long = by (nat_lt (2 ^ 26) (length bytes)) refl long
  where
    found : IsLongStream bytes → HasLongFile stock
    found so = record { name = name; bytes = bytes; found = is; long = so }

    either : HasLongFile stock ⊎ IsLongStream bytes → HasLongFile stock
    either (inl there) = there
    either (inr so) = found so

    by : (b : Bool) → nat_lt (2 ^ 26) (length bytes) ≡ b → IsLong (if b then ran (ended_as status.TooLong r) else f name true bytes r) → HasLongFile stock
    by true more over = found (inl (grind (arith, nat_tests)))
    by false fits over = either (safe name bytes r goes over)

fetched_long : (stock : List Filed) (f : Obeying) (from : List ℕ) (number : ℕ) (name : List ℕ) (r : Run) → Safe stock (Some f) → Goes r → IsLong (fetched f None stock from number name r) → HasLongFile stock
fetched_long stock f from number name r safe goes = by (nat_le 1000 r.fetched)
  where
    more : Run
    more = record r { fetched = suc r.fetched }

    by : (b : Bool) → IsLong (if b then refused_run too_many_files from number r else file_run f from number name more (file_named stock name)) → HasLongFile stock
    by true long = absurd (refused_not too_many_files from number r goes long)
    by false long = file_long stock f from number name more safe goes (file_named stock name) refl long

sourced_long : (stock : List Filed) (inner : Option Obeying) (from : List ℕ) (number : ℕ) (name : List ℕ) (r : Run) → Safe stock inner → Goes r → IsLong (sourced inner None stock from number name r) → HasLongFile stock
sourced_long stock (Some f) from number name r safe goes long = fetched_long stock f from number name r safe goes long
sourced_long stock None from number name r safe goes long = absurd (by (nat_le 1000 r.fetched) long)
  where
    by : (b : Bool) → IsLong (if b then refused_run too_many_files from number r else refused_run sources_too_deep from number r) → ⊥
    by true over = refused_not too_many_files from number r goes over
    by false over = refused_not sources_too_deep from number r goes over

-- ---- commands

quits_not : (b : Bool) → Some (if b then status.Refusals else status.Done) ≡ Some status.TooLong → ⊥
quits_not true is = absurd (cc)
quits_not false is = absurd (cc)

sequel_long : (stock : List Filed) (inner : Option Obeying) (from : List ℕ) (number : ℕ) (s : Sequel) (r : Run) → Safe stock inner → Goes r → IsLong (after_sequel inner None stock from number s r) → HasLongFile stock
sequel_long stock inner from number goes_on r safe goes long = absurd (goes_not r goes long)
sequel_long stock inner from number (sources name) r safe goes long = sourced_long stock inner from number name r safe goes long
sequel_long stock inner from number quits r safe goes long = absurd (quits_not r.refused long)

command_long : (stock : List Filed) (inner : Option Obeying) (from : List ℕ) (r : Run) (reply : Reply) (number : ℕ) → Safe stock inner → Goes r
    → IsLong (then_run (after_reply r reply) (after_sequel inner None stock from number reply.sequel)) → HasLongFile stock
command_long stock inner from r reply number safe goes long = by (then_long (after_reply r reply) (after_sequel inner None stock from number reply.sequel) long)
  where
    by : IsLong (after_reply r reply) ⊎ (Goes (after_reply r reply).run × IsLong (after_sequel inner None stock from number reply.sequel (after_reply r reply).run)) → HasLongFile stock
    by (inl over) = absurd (reply_not r reply goes over)
    by (inr later) = sequel_long stock inner from number reply.sequel (after_reply r reply).run safe later.0 later.1

cut_long : (stock : List Filed) (inner : Option Obeying) (from : List ℕ) (c : Cut) (r : Run) → Safe stock inner → Goes r → IsLong (cut_run whole_stage inner None stock from c r) → HasLongFile stock ⊎ HasLong (c ∷ [])
cut_long stock inner from too_long r safe goes long = inr tt
cut_long stock inner from (unfinished number) r safe goes long = absurd (refused_not unfinished_command from number r goes long)
cut_long stock inner from (whole number text) r safe goes long = inl (command_long stock inner from r (obeyed whole_stage from number text r.session) number safe goes long)

first_long : (c : Cut) (cuts : List Cut) → HasLong (c ∷ []) → HasLong (c ∷ cuts)
first_long too_long cuts long = tt
first_long (whole number text) cuts long = absurd long
first_long (unfinished number) cuts long = absurd long

later_long : (c : Cut) (cuts : List Cut) → HasLong cuts → HasLong (c ∷ cuts)
later_long too_long cuts long = tt
later_long (whole number text) cuts long = long
later_long (unfinished number) cuts long = long

commands_long : (stock : List Filed) (inner : Option Obeying) (from : List ℕ) (cuts : List Cut) (r : Run) → Safe stock inner → Goes r → IsLong (cuts_run whole_stage inner None stock from cuts r) → HasLongFile stock ⊎ HasLong cuts
commands_long stock inner from [] r safe goes long = absurd (goes_not r goes long)
commands_long stock inner from (c ∷ cuts) r safe goes long =
    by (then_long (cut_run whole_stage inner None stock from c r) (cuts_run whole_stage inner None stock from cuts) long) (λ next again over. commands_long stock inner from cuts next safe again over)
  where
    by : IsLong (cut_run whole_stage inner None stock from c r) ⊎ (Goes (cut_run whole_stage inner None stock from c r).run × IsLong (cuts_run whole_stage inner None stock from cuts (cut_run whole_stage inner None stock from c r).run))
        → ((next : Run) → Goes next → IsLong (cuts_run whole_stage inner None stock from cuts next) → HasLongFile stock ⊎ HasLong cuts) → HasLongFile stock ⊎ HasLong (c ∷ cuts)
    by (inl over) later = at (cut_long stock inner from c r safe goes over)
      where
        at : HasLongFile stock ⊎ HasLong (c ∷ []) → HasLongFile stock ⊎ HasLong (c ∷ cuts)
        at (inl there) = inl there
        at (inr so) = inr (first_long c cuts so)
    by (inr next) later = at (later (cut_run whole_stage inner None stock from c r).run next.0 next.1)
      where
        at : HasLongFile stock ⊎ HasLong cuts → HasLongFile stock ⊎ HasLong (c ∷ cuts)
        at (inl there) = inl there
        at (inr so) = inr (later_long c cuts so)

-- ---- streams

stream_by : (stock : List Filed) (depth : ℕ) (from : List ℕ) (closed : Bool) (bytes : List ℕ) (r : Run) → Safe stock (inner_of None stock depth) → Goes r
    → IsLong (obeying whole_stage None stock depth from closed bytes r) → HasLongFile stock ⊎ HasLong (cuts_of closed bytes)
stream_by stock depth from closed bytes r safe goes long =
    commands_long stock (inner_of None stock depth) from (cuts_of closed bytes) r safe goes (subst IsLong (stream_run None stock depth from closed bytes r) long)

streams_safe : (stock : List Filed) (depth : ℕ) → Safe stock (inner_of None stock depth)
streams_safe stock zero = tt
streams_safe stock (suc depth) = λ from bytes r goes long. at bytes (stream_by stock depth from true bytes r (streams_safe stock depth) goes long)
  where
    at : (bytes : List ℕ) → HasLongFile stock ⊎ HasLong (cuts_of true bytes) → HasLongFile stock ⊎ IsLongStream bytes
    at bytes (inl there) = inl there
    at bytes (inr so) = inr (inr (so, cuts_long bytes so))

-- ---- the whole

commands_of_long : (stock : List Filed) (closed : Bool) (bytes : List ℕ) (r : Run) → Goes r → IsLong (commands_of None stock closed bytes r) → HasLongFile stock ⊎ HasLong (cuts_of closed bytes)
unfolding commands_of
commands_of_long stock closed bytes r goes long = stream_by stock 16 standard_input closed bytes r (streams_safe stock 16) goes long

has_command : (stock : List Filed) (bytes : List ℕ) → HasLongFile stock ⊎ HasLong (cuts_of true bytes) → HasLongCommand bytes ⊎ HasLongFile stock
has_command stock bytes (inl there) = inr there
has_command stock bytes (inr so) = inl (so, cuts_long bytes so)

one_file_long : (stock : List Filed) (name : List ℕ) (r : Run) → Goes r → IsLong (file_of None stock name r) → HasLongFile stock
unfolding file_of
one_file_long stock name r goes long = sourced_long stock (inner_of None stock 16) standard_input 0 name r (streams_safe stock 16) goes long

files_long : (stock : List Filed) (names : List (List ℕ)) (r : Run) → Goes r → IsLong (files_of None stock names r) → HasLongFile stock
files_long stock [] r goes long = absurd (goes_not r goes (subst IsLong (files_end None stock r) long))
files_long stock (name ∷ names) r goes long =
    by (then_long (file_of None stock name r) (files_of None stock names) (subst IsLong (files_next None stock name names r) long)) (λ next again over. files_long stock names next again over)
  where
    by : IsLong (file_of None stock name r) ⊎ (Goes (file_of None stock name r).run × IsLong (files_of None stock names (file_of None stock name r).run))
        → ((next : Run) → Goes next → IsLong (files_of None stock names next) → HasLongFile stock) → HasLongFile stock
    by (inl over) later = one_file_long stock name r goes over
    by (inr next) later = later (file_of None stock name r).run next.0 next.1

input_long : (stock : List Filed) (bytes : List ℕ) (r : Run) → Goes r → IsLong (input_of None stock bytes r) → IsLongStream bytes ⊎ HasLongFile stock
input_long stock bytes r goes long = by (nat_lt (2 ^ 26) (length bytes)) refl (subst IsLong (input_is None stock bytes r) long)
  where
    at : HasLongCommand bytes ⊎ HasLongFile stock → IsLongStream bytes ⊎ HasLongFile stock
    at (inl so) = inl (inr so)
    at (inr there) = inr there

    by : (b : Bool) → nat_lt (2 ^ 26) (length bytes) ≡ b → IsLong (input_by None stock bytes r b) → IsLongStream bytes ⊎ HasLongFile stock
    by true more over = inl (inl (grind (arith, nat_tests)))
    by false fits over = at (has_command stock bytes (commands_of_long stock true bytes r goes over))

pub whole_long : (stock : List Filed) (bytes : List ℕ) (generate : Option ℕ) (names : List (List ℕ)) (r : Run) → Goes r → IsLong (whole_run None stock bytes generate names r) → IsTooLong generate stock bytes
whole_long stock bytes (Some n) names r goes long = has_command stock (script_of n) (commands_of_long stock true (script_of n) r goes long)
whole_long stock bytes None names r goes long = by (then_long (files_of None stock names r) (input_of None stock bytes) long)
  where
    by : IsLong (files_of None stock names r) ⊎ (Goes (files_of None stock names r).run × IsLong (input_of None stock bytes (files_of None stock names r).run)) → IsLongStream bytes ⊎ HasLongFile stock
    by (inl over) = inr (files_long stock names r goes over)
    by (inr next) = input_long stock bytes (files_of None stock names r).run next.0 next.1
