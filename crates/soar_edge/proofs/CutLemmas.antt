-- What is cut off in front, and what is told in its place.
use Rattle.std.proofs.Common.{◌≡◌, ℕ, zero, suc, ◌+◌, ◌-◌, ◌<◌, ◌≤◌, ◌^◌, ◌==◌, Bool, true, false, not, cond, nat_lt, List, [], ◌∷◌, ◌++◌, length, take, drop, Ok, refl, sym, ap, subst, ◌∙◌, arith}
use Rattle.std.specs.List.{prefix_len}
use Rattle.std.proofs.lemmas.List.{append-nil, take-append-le, drop_all}
use Rattle.std.proofs.lemmas.Bool.Decides.{nat_tests}
use Rattle.soar_edge.specs.Cutting.{Cut, whole, unfinished, too_long, is_space, line_after, after_byte, depth_after, open_text, Extent, one_byte_more, extent_from, cut_of, cuts_from}
use Rattle.soar_edge.specs.Cuts.{Uncut, cuts_with, StandsFirst, Stays, Cuts}
use Rattle.soar_edge.specs.Scanning.{newlines}
use Rattle.soar_edge.specs.Holding.{past}
use Rattle.soar_edge.specs.Leading.{Skips, BeginsCommand, IsOpenComment, LeadsTo}
use Rattle.soar_edge.specs.Reaching.{Reaches, GoesOn, IsLong}
use Rattle.soar_edge.specs.declared.scan.Scan.{Scan}
use Rattle.soar_edge.specs.declared.cutter.Cut.{Cut as CutRead}
use Rattle.soar_edge.specs.declared.cutter.Cut.TheVariants as cut
use Rattle.soar_edge.proofs.SkipLemmas.{cuts_skip, comment_stays}

-- what begins a command is no newline
no_newline : (b : ℕ) → is_space b ≡ false → (b == 10) ≡ false
no_newline b space = grind (arith, nat_tests)

-- what is cut where a command begins
cut_here : (closed : Bool) (number b : ℕ) (bytes : List ℕ) → BeginsCommand (b ∷ bytes)
    → cuts_from closed 0 number (b ∷ bytes) ≡ (let e = extent_from closed open_text 0 (b ∷ bytes) in cut_of closed number (b ∷ bytes) e (cuts_from closed (e.size - 1) (line_after number b) bytes))
cut_here closed number b bytes begins =
    let e = extent_from closed open_text 0 (b ∷ bytes) in
    let command : List Cut = cut_of closed number (b ∷ bytes) e (cuts_from closed (e.size - 1) (line_after number b) bytes) in
    let comment : List Cut = cuts_from closed (prefix_len (λ c. not (c == 10)) bytes) number bytes in
    ap (λ t. elim t as (λ _. List Cut) [ true ↦ cuts_from closed 0 (line_after number b) bytes | false ↦ elim (b == 35) as (λ _. List Cut) [ true ↦ comment | false ↦ command ] ]) begins.0
    ∙ ap (λ t. elim t as (λ _. List Cut) [ true ↦ comment | false ↦ command ]) begins.1

-- a command has some byte
some_size : (closed : Bool) (b : ℕ) (bytes : List ℕ) (size : ℕ) (ends : Bool) → BeginsCommand (b ∷ bytes) → extent_from closed open_text 0 (b ∷ bytes) ≡ record { size = size; ends = ends } → 0 < size
some_size closed b bytes size ends begins extent =
    let rest = extent_from closed (after_byte open_text b) (depth_after open_text 0 b) bytes in
    let more : extent_from closed open_text 0 (b ∷ bytes) ≡ one_byte_more rest = ap (λ t. elim t as (λ _. Extent) [ true ↦ record { size = 0; ends = true } | false ↦ one_byte_more rest ]) (no_newline b begins.0) in
    let sizes : suc rest.size ≡ size = ap (λ (e : Extent). e.size) (sym more ∙ extent) in
    omega arith

not_long : (size : ℕ) → size ≤ 2 ^ 20 → nat_lt (2 ^ 20) size ≡ false
not_long size few = grind (arith, nat_tests)

-- a whole command, and then what stands behind it
whole_first : (closed : Bool) (number : ℕ) (front more : List ℕ) (size : ℕ) → BeginsCommand front → size ≤ length front → size ≤ 2 ^ 20
    → extent_from closed open_text 0 (front ++ more) ≡ record { size = size; ends = true }
    → cuts_from closed 0 number (front ++ more) ≡ whole number (take size front) ∷ cuts_from closed 0 (number + newlines (take size front)) (drop size front ++ more)
whole_first closed number [] more size begins within few extent = absurd begins
whole_first closed number (b ∷ rest) more zero begins within few extent = absurd (omega (arith, some_size closed b (rest ++ more) 0 true begins extent))
whole_first closed number (b ∷ rest) more (suc size) begins within few extent =
    let bytes = b ∷ (rest ++ more) in
    cut_here closed number b (rest ++ more) begins
    ∙ ap (λ (e : Extent). cut_of closed number bytes e (cuts_from closed (e.size - 1) (line_after number b) (rest ++ more))) extent
    ∙ ap (λ t. cond t (too_long ∷ []) (whole number (take (suc size) bytes) ∷ cuts_from closed (suc size - 1) (line_after number b) (rest ++ more))) (not_long (suc size) few)
    ∙ ap (λ text. whole number text ∷ cuts_from closed (suc size - 1) (line_after number b) (rest ++ more)) (take-append-le (suc size) (b ∷ rest) more within)
    ∙ ap (λ n. whole number (take (suc size) (b ∷ rest)) ∷ cuts_from closed n (line_after number b) (rest ++ more)) (omega arith)
    ∙ ap (λ cuts. whole number (take (suc size) (b ∷ rest)) ∷ cuts) (cuts_skip closed (suc size) number (b ∷ rest) more within)

-- a command that goes on
unfinished_first : (closed : Bool) (number : ℕ) (front : List ℕ) → BeginsCommand front → length front ≤ 2 ^ 20 → extent_from closed open_text 0 front ≡ record { size = length front; ends = false }
    → cuts_from closed 0 number front ≡ cond closed (unfinished number ∷ []) []
unfinished_first closed number [] begins few extent = absurd begins
unfinished_first closed number (b ∷ rest) begins few extent =
    cut_here closed number b rest begins
    ∙ ap (λ (e : Extent). cut_of closed number (b ∷ rest) e (cuts_from closed (e.size - 1) (line_after number b) rest)) extent
    ∙ ap (λ t. cond t (too_long ∷ []) (cond closed (unfinished number ∷ []) [])) (not_long (length (b ∷ rest)) few)

-- one of more than 1 MiB
too_long_first : (closed : Bool) (number : ℕ) (front more : List ℕ) → BeginsCommand front → 2 ^ 20 < (extent_from closed open_text 0 (front ++ more)).size
    → cuts_from closed 0 number (front ++ more) ≡ too_long ∷ []
too_long_first closed number [] more begins long = absurd begins
too_long_first closed number (b ∷ rest) more begins long =
    let bytes = b ∷ (rest ++ more) in
    let e = extent_from closed open_text 0 bytes in
    cut_here closed number b (rest ++ more) begins
    ∙ ap (λ t. cond t (too_long ∷ []) (cond e.ends (whole number (take e.size bytes) ∷ cuts_from closed (e.size - 1) (line_after number b) (rest ++ more)) (cond closed (unfinished number ∷ []) []))) (is_long e.size long)
  where
    is_long : (size : ℕ) → 2 ^ 20 < size → nat_lt (2 ^ 20) size ≡ true
    is_long size long = grind (arith, nat_tests)

-- ---- of a cutter

pub whole_stands : (old : Uncut) (size count : ℕ) → LeadsTo BeginsCommand old.bytes size → Reaches (drop size old.bytes) old.closed count
    → StandsFirst old (past (past old size) count) (λ cuts. whole (past old size).line (take count (drop size old.bytes)) ∷ cuts)
whole_stands old size count lead reach = λ ends more follows.
    lead.skips ends old.line more
    ∙ whole_first ends (past old size).line (drop size old.bytes) more count lead.next reach.within reach.few (reach.extent ends more follows)

pub past_stays : (old : Uncut) (size : ℕ) → Skips old.bytes size → Stays old (past old size)
past_stays old size skips = λ ends more follows. skips ends old.line more

pub long_stands : (old : Uncut) (size : ℕ) (scan : Scan) → LeadsTo BeginsCommand old.bytes size → IsLong (drop size old.bytes) scan → StandsFirst old (past old size) (λ cuts. too_long ∷ [])
long_stands old size scan lead long = λ ends more follows.
    lead.skips ends old.line more
    ∙ too_long_first ends (past old size).line (drop size old.bytes) more lead.next (long.size ends more)

without : (old : Uncut) (size : ℕ) → Skips old.bytes size → cuts_with old old.closed [] ≡ cuts_from old.closed 0 (past old size).line (drop size old.bytes)
without old size skips = skips old.closed old.line [] ∙ ap (cuts_from old.closed 0 (past old size).line) (append-nil (drop size old.bytes))

-- what is told where nothing is left
told : (E : Type 0) (old next new : Uncut) (answer : CutRead) → cuts_with old old.closed [] ≡ [] → Stays old next → next.closed ≡ old.closed → new ≡ next → answer ≡ cond new.closed cut.End cut.More → Cuts {E = E} old new (Ok answer)
told E old next new answer none stays same moved is =
    subst (λ new. Cuts {E = E} old new (Ok answer)) (sym moved)
    (subst (λ a. Cuts {E = E} old next (Ok a)) (sym (is ∙ ap (λ (c : Uncut). cond c.closed cut.End cut.More) moved ∙ ap (λ t. cond t cut.End cut.More) same)) (by old.closed refl))
  where
    by : (closed : Bool) → old.closed ≡ closed → Cuts {E = E} old next (Ok (cond closed cut.End cut.More))
    by true e = (e, ap (λ t. cuts_with old t []) (sym e) ∙ none, stays)
    by false e = (e, ap (λ t. cuts_with old t []) (sym e) ∙ none, stays)

pub told_unfinished : (E : Type 0) (old new : Uncut) (size : ℕ) (scan : Scan) (answer : CutRead) → LeadsTo BeginsCommand old.bytes size → GoesOn (drop size old.bytes) old.closed scan
    → new ≡ past old size → answer ≡ cond new.closed (cut.Unfinished new.line) cut.More → Cuts {E = E} old new (Ok answer)
told_unfinished E old new size scan answer lead goes moved is =
    subst (λ new. Cuts {E = E} old new (Ok answer)) (sym moved)
    (subst (λ a. Cuts {E = E} old (past old size) (Ok a)) (sym (is ∙ ap (λ (c : Uncut). cond c.closed (cut.Unfinished c.line) cut.More) moved)) (by old.closed refl))
  where
    cuts : cuts_with old old.closed [] ≡ cond old.closed (unfinished (past old size).line ∷ []) []
    cuts = without old size lead.skips ∙ unfinished_first old.closed (past old size).line (drop size old.bytes) lead.next goes.few goes.extent

    by : (closed : Bool) → old.closed ≡ closed → Cuts {E = E} old (past old size) (Ok (cond closed (cut.Unfinished (past old size).line) cut.More))
    by true e = (e, ap (λ t. cuts_with old t []) (sym e) ∙ cuts ∙ ap (λ t. cond t (unfinished (past old size).line ∷ []) []) e, past_stays old size lead.skips)
    by false e = (e, ap (λ t. cuts_with old t []) (sym e) ∙ cuts ∙ ap (λ t. cond t (unfinished (past old size).line ∷ []) []) e, past_stays old size lead.skips)

-- only blanks and comments
pub told_nothing : (E : Type 0) (old new : Uncut) (answer : CutRead) → Skips old.bytes (length old.bytes) → new ≡ past old (length old.bytes) → answer ≡ cond new.closed cut.End cut.More → Cuts {E = E} old new (Ok answer)
told_nothing E old new answer skips moved is =
    let all = length old.bytes in
    told E old (past old all) new answer
    (without old all skips ∙ ap (cuts_from old.closed 0 (past old all).line) (drop_all all old.bytes (omega arith)))
    (past_stays old all skips) refl moved is

-- the first byte alone of a comment whose newline has not come
abbrev pub shortened : Uncut → Uncut
shortened c = record c { bytes = take 1 c.bytes }

comment_shortened : (bytes more : List ℕ) (closed : Bool) (number : ℕ) → IsOpenComment bytes → cuts_from closed 0 number (bytes ++ more) ≡ cuts_from closed 0 number (take 1 bytes ++ more)
comment_shortened [] more closed number unclosed = absurd unclosed
comment_shortened (b ∷ bytes) more closed number unclosed =
    ap (λ b. cuts_from closed 0 number (b ∷ (bytes ++ more))) unclosed.0
    ∙ comment_stays bytes more closed number unclosed.1
    ∙ ap (λ b. cuts_from closed 0 number (b ∷ more)) (sym unclosed.0)

comment_cuts : (bytes : List ℕ) (closed : Bool) (number : ℕ) → IsOpenComment bytes → cuts_from closed 0 number bytes ≡ []
comment_cuts [] closed number unclosed = refl
comment_cuts (b ∷ bytes) closed number unclosed =
    ap (cuts_from closed 0 number) (sym (append-nil (b ∷ bytes)))
    ∙ comment_shortened (b ∷ bytes) [] closed number unclosed
    ∙ ap (λ b. cuts_from closed 0 number (b ∷ [])) unclosed.0

pub told_comment : (E : Type 0) (old new : Uncut) (size : ℕ) (answer : CutRead) → LeadsTo IsOpenComment old.bytes size → new ≡ shortened (past old size) → answer ≡ cond new.closed cut.End cut.More → Cuts {E = E} old new (Ok answer)
told_comment E old new size answer lead moved is =
    told E old (shortened (past old size)) new answer
    (without old size lead.skips ∙ comment_cuts (drop size old.bytes) old.closed (past old size).line lead.next)
    (λ ends more follows. lead.skips ends old.line more ∙ comment_shortened (drop size old.bytes) more ends (past old size).line lead.next)
    refl moved is
