-- What the answers of a command's reading say.
use Rattle.std.specs.Prelude.{◌≡◌, ℕ, ◌-◌, ◌^◌, ◌<◌, ◌≤◌, ◌==◌, List, [], ◌++◌, length, Result, Ok, Err, if◌then◌else◌, codes}
use Rattle.std.specs.Fmt.{decimal}
use Rattle.soar_sym.specs.Words.{Texts, IsKnown}
use Rattle.defs_text.specs.Lexing.{Spelled}
use Rattle.defs_read.specs.PrintingConditions.{bare_text}
use Rattle.soar_read.specs.declared.fault.ReadFault.{ReadFault}
use Rattle.soar_read.specs.declared.fault.ReadFault.TheVariants as read
use Rattle.soar_read.specs.declared.fault.SyntaxKind.TheVariants as kind
use Rattle.defs_run.specs.Orders.{Order, Refusal, refusal}
use Rattle.defs_run.specs.Stages.{Reading}
use Rattle.defs_run.specs.declared.form.Order.{Order as OrderRead}
use Rattle.command_orders.specs.Asked.{order_seen}
use Rattle.soar_cmd.specs.declared.fault.CmdFault.{CmdFault}
use Rattle.soar_cmd.specs.declared.fault.CmdFault.TheVariants as fault
use Rattle.soar_cmd.specs.declared.fault.Shown.{Shown}
use Rattle.soar_cmd.specs.declared.fault.Shown.TheVariants as shown

-- ---- refusals

-- the reason that each number stands for
abbrev pub reason_of : ℕ → List ℕ
reason_of number =
    if number == 10 then codes "unknown command"
    else if number == 12 then codes "bad byte"
    else if number == 13 then codes "floating-point number"
    else if number == 14 then codes "number too wide"
    else if number == 15 then codes "open string"
    else if number == 16 then codes "unexpected token"
    else if number == 17 then codes "nesting too deep"
    else if number == 20 then codes "no state condition"
    else if number == 21 then codes "unbound variable"
    else if number == 22 then codes "unconnected condition"
    else if number == 23 then codes "too many"
    else if number == 24 then codes "too deep"
    else if number == 25 then codes "preference for an ordinary attribute"
    else codes "wrong words"

-- what stands behind it
abbrev pub shown_text : Texts → Shown → List ℕ
shown_text words shown.Nothing = []
shown_text words (shown.Place place) = codes " at byte " ++ decimal place
shown_text words (shown.Number n) = codes " " ++ decimal n
shown_text words (shown.Variable name) = codes " <" ++ (bare_text words name ++ codes ">")

abbrev pub refusal_of : Texts → ℕ → Shown → Refusal
refusal_of words number what = refusal number (reason_of number ++ shown_text words what)

abbrev pub IsShownKnown : Texts → Shown → Type 0
IsShownKnown words (shown.Variable name) = IsKnown words name
IsShownKnown words other = Unit {0}

-- ---- answers

-- the order or the refusal is this one; only want of memory is free
abbrev pub IsJudged : Texts → Result Order Refusal → Result OrderRead CmdFault → Type 0
IsJudged words order (Ok given) = order ≡ Ok (order_seen given)
IsJudged words order (Err (fault.Refused number what)) = (order ≡ Err (refusal_of words number what)) × IsShownKnown words what
IsJudged words order (Err fault.WordsSpent) = ⊥
IsJudged words order (Err fault.NoMemory) = Unit {0}

-- so it is, and the table has the words of the reading; or these are more than a table holds
abbrev pub IsCommandRead : Texts → Reading → Result OrderRead CmdFault → Type 0
IsCommandRead words reading (Ok order) = (reading.words ≡ words) × (reading.order ≡ Ok (order_seen order))
IsCommandRead words reading (Err (fault.Refused number what)) = (reading.words ≡ words) × (reading.order ≡ Err (refusal_of words number what)) × IsShownKnown words what
IsCommandRead words reading (Err fault.WordsSpent) = 2 ^ 32 - 1 < length reading.words
IsCommandRead words reading (Err fault.NoMemory) = Unit {0}

-- whatever is read of tokens leaves the table with the words that it had
abbrev pub GrowsOnly : (Texts → List Spelled → Reading) → Type 0
GrowsOnly f = (words : Texts) (tokens : List Spelled) → length words ≤ length (f words tokens).words

-- how the reading of a production's tokens fails
abbrev pub fault_of : ReadFault → CmdFault
fault_of (read.SyntaxFault place kind.Unexpected) = fault.Refused 16 (shown.Place place)
fault_of (read.SyntaxFault place kind.Deep) = fault.Refused 17 (shown.Place place)
fault_of read.WordsSpent = fault.WordsSpent
fault_of read.NoMemory = fault.NoMemory
