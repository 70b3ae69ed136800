-- What a cutter's answers say of the commands that are left.
use Rattle.std.proofs.Common.{◌≡◌, ℕ, zero, suc, ◌^◌, ◌≤◌, ◌-◌, not, nat_lt, Bool, true, false, List, [], ◌∷◌, ◌++◌, Ok, length, take, length-take, arith, refl, ap, subst, ◌∙◌}
use Rattle.std.proofs.lemmas.Grind.{common_steps}
use Rattle.std.specs.Prelude.{◌==◌, if◌then◌else◌}
use Rattle.std.specs.List.{prefix_len}
use Rattle.soar_edge.specs.Cuts.{Uncut, Cuts, MayFollow, StandsFirst, cuts_with}
use Rattle.soar_edge.specs.Cutting.{Cut, whole, unfinished, too_long, Extent, open_text, extent_from, is_space, line_after, cut_of, cuts_from, cuts_of}
use Rattle.soar_edge.specs.declared.cutter.Command.{Command}
use Rattle.soar_edge.specs.declared.cutter.Cut.{Cut as CutRead}
use Rattle.soar_edge.specs.declared.cutter.Cut.TheVariants as cut
use Rattle.soar_sym.specs.declared.error.NoMemory.{NoMemory}

-- ---- a command has at most 1 MiB

test_within : (n m : ℕ) → nat_lt n m ≡ false → m ≤ n
test_within n m h = grind (arith, common_steps)

cut_short : (closed : Bool) (number : ℕ) (bytes : List ℕ) (e : Extent) (later : List Cut) (line : ℕ) (text : List ℕ) (rest : List Cut)
    → cut_of closed number bytes e later ≡ whole line text ∷ rest → length text ≤ 2 ^ 20
cut_short closed number bytes e later line text rest is = by (nat_lt (2 ^ 20) e.size) refl e.ends closed is
  where
    by : (long : Bool) → nat_lt (2 ^ 20) e.size ≡ long → (ends closed : Bool)
        → (if long then too_long ∷ [] else if ends then whole number (take e.size bytes) ∷ later else if closed then unfinished number ∷ [] else []) ≡ whole line text ∷ rest
        → length text ≤ 2 ^ 20
    by true test ends closed is = absurd (cc)
    by false test true closed is =
        let same : take e.size bytes ≡ text = cc in
        let small : e.size ≤ 2 ^ 20 = test_within (2 ^ 20) e.size test in
        subst (λ (t : List ℕ). length t ≤ 2 ^ 20) same (omega (arith, length-take e.size bytes))
    by false test false true is = absurd (cc)
    by false test false false is = absurd (cc)

pub command_short : (closed : Bool) (skip number : ℕ) (bytes : List ℕ) (line : ℕ) (text : List ℕ) (rest : List Cut)
    → cuts_from closed skip number bytes ≡ whole line text ∷ rest → length text ≤ 2 ^ 20
command_short closed skip number [] line text rest is = absurd (cc)
command_short closed (suc skip) number (b ∷ bytes) line text rest is = command_short closed skip (line_after number b) bytes line text rest is
command_short closed zero number (b ∷ bytes) line text rest is = by (is_space b) (b == 35) is (λ skip next. command_short closed skip next bytes line text rest)
  where
    e : Extent
    e = extent_from closed open_text 0 (b ∷ bytes)

    by : (space comment : Bool)
        → (elim space as (λ _. List Cut) [
          | true ↦ cuts_from closed 0 (line_after number b) bytes
          | false ↦ elim comment as (λ _. List Cut) [
            | true ↦ cuts_from closed (prefix_len (λ c. not (c == 10)) bytes) number bytes
            | false ↦ cut_of closed number (b ∷ bytes) e (cuts_from closed (e.size - 1) (line_after number b) bytes)
          ]
        ]) ≡ whole line text ∷ rest
        → ((skip next : ℕ) → cuts_from closed skip next bytes ≡ whole line text ∷ rest → length text ≤ 2 ^ 20) → length text ≤ 2 ^ 20
    by true comment is later = later 0 (line_after number b) is
    by false true is later = later (prefix_len (λ c. not (c == 10)) bytes) number is
    by false false is later = cut_short closed number (b ∷ bytes) e (cuts_from closed (e.size - 1) (line_after number b) bytes) line text rest is

-- ---- what is left

-- of bytes that were fed to a new cutter
pub left_fed : (c : Uncut) (ends : Bool) (more bytes : List ℕ) → c.bytes ++ more ≡ bytes → c.line ≡ 1 → cuts_with c ends more ≡ cuts_of ends bytes
unfolding cuts_of
left_fed c ends more bytes fed first = ap (λ line. cuts_from ends 0 line (c.bytes ++ more)) first ∙ ap (cuts_from ends 0 1) fed

-- no byte needs to follow
follows_nothing : (closed : Bool) → MayFollow closed closed []
follows_nothing true = (refl, refl)
follows_nothing false = tt

-- the cutter's answer
abbrev Reads : Uncut → Uncut → CutRead → Type 0
Reads old new read = Cuts {E = NoMemory} old new (Ok read)

read_as : (old new : Uncut) (read other : CutRead) → read ≡ other → Reads old new read → Reads old new other
read_as old new read other is reads = subst (Reads old new) is reads

-- a command, and those behind it
pub whole_left : (old new : Uncut) (read : CutRead) (command : Command) → read ≡ cut.Whole command → Reads old new read → StandsFirst old new (λ cuts. whole command.line command.text ∷ cuts)
whole_left old new read command is reads = read_as old new read (cut.Whole command) is reads

-- one that has no end is the last
pub unfinished_left : (old new : Uncut) (read : CutRead) (line : ℕ) → read ≡ cut.Unfinished line → Reads old new read → (old.closed ≡ true) × (cuts_with old true [] ≡ unfinished line ∷ [])
unfinished_left old new read line is reads = let it = read_as old new read (cut.Unfinished line) is reads in (it.0, it.1)

-- a command is as short as a session asks
pub whole_short : (old new : Uncut) (read : CutRead) (command : Command) → read ≡ cut.Whole command → Reads old new read → length command.text ≤ 2 ^ 26
whole_short old new read command is reads =
    let short : length command.text ≤ 2 ^ 20 = command_short old.closed 0 old.line (old.bytes ++ []) command.line command.text (cuts_with new old.closed []) (whole_left old new read command is reads old.closed [] (follows_nothing old.closed)) in
    omega arith

-- nothing follows a stream that has ended
pub ended_left : (c : Uncut) (cuts : List Cut) (ends : Bool) (more : List ℕ) → c.closed ≡ true → cuts_with c true [] ≡ cuts → MayFollow c.closed ends more → cuts_with c ends more ≡ cuts
ended_left c cuts ends more ended is follows =
    let none : MayFollow true ends more = subst (λ b. MayFollow b ends more) ended follows in
    ap (λ e. cuts_with c e more) none.0 ∙ ap (cuts_with c true) none.1 ∙ is
